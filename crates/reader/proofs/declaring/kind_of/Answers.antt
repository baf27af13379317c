-- Letter by letter, as in the definition.
use native.Mathlib.Omega.{arith}
use borrow.Author.Tests.{ne_eqb}
use Rattle.format.specs.Reading.{kind_of_letter}
use Rattle.reader.proofs.declaring.kind_of.Goals as goal

pub returns-in-83 : goal.returns-in-83
unfolding kind_of_letter
returns-in-83 c = rw c.in-83.is

pub returns-in-75 : goal.returns-in-75
unfolding kind_of_letter
returns-in-75 c = rw c.in-75.is

pub returns-in-66 : goal.returns-in-66
unfolding kind_of_letter
returns-in-66 c = rw c.in-66.is

pub returns-in-79 : goal.returns-in-79
unfolding kind_of_letter
returns-in-79 c = rw c.in-79.is

pub returns-in-85 : goal.returns-in-85
unfolding kind_of_letter
returns-in-85 c = rw c.in-85.is

pub returns-in_default : goal.returns-in_default
unfolding kind_of_letter
returns-in_default c =
    rw (ne_eqb c.args.letter 83 (λ z. omega arith), ne_eqb c.args.letter 75 (λ z. omega arith), ne_eqb c.args.letter 66 (λ z. omega arith), ne_eqb c.args.letter 79 (λ z. omega arith), ne_eqb c.args.letter 85 (λ z. omega arith))

-- The code's words are the definition's, computed for each of the four groups, and no rule is in a group past them.
use mathlib.Core.Path.{refl, sym}
use native.Mathlib.Omega.{arith}
use Rattle.term.specs.Heads.{word}
use Rattle.rulebook.specs.Code.Rows.{words_of, grouped, lines_in, words_in}
use Rattle.rulebook.proofs.Rows.{words-past}
use Rattle.rulebook.proofs.words_in.Goals as goal

pub returns-in-0 : goal.returns-in-0
unfolding words_in words_of lines_in grouped word
returns-in-0 c = rw c.in-0.is refl

pub returns-in-1 : goal.returns-in-1
unfolding words_in words_of lines_in grouped word
returns-in-1 c = rw c.in-1.is refl

pub returns-in-2 : goal.returns-in-2
unfolding words_in words_of lines_in grouped word
returns-in-2 c = rw c.in-2.is refl

pub returns-in-3 : goal.returns-in-3
unfolding words_in words_of lines_in grouped word
returns-in-3 c = rw c.in-3.is refl

pub returns-in_default : goal.returns-in_default
returns-in_default c = sym (words-past c.args.group (let h = c.in_default in omega arith))

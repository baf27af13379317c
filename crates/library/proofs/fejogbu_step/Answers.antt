-- An answer of another size is refused; else the numbers are those of the answer, and the slice is as it left it.
use mathlib.Core.Path.{ap, ◌∙◌}
use borrow.Author.Tests.{eq-eqb, ne_eqb}
use Rattle.library.specs.Numbers.{step_numbers}
use Rattle.library.proofs.fejogbu_step.Goals as goal

pub returns-then-answer-ne5 : goal.returns-then-answer-ne5
returns-then-answer-ne5 c = let z = ne_eqb _ _ c.if-answer-ne5.true in record { returned = rw z; answered = rw z; terms = rw z }

pub returns : goal.returns
returns c =
    let r = c.take_step-a.ensures in
    let z = eq-eqb _ _ c.if-answer-ne5.false in
    record { returned = rw z; answered = rw z (c.copy_numbers.ensures ∙ ap step_numbers r.0); terms = rw z r.1 }

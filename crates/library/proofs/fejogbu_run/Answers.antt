-- An answer of another size is refused; else the numbers are those of the answer, and the slices are as it left them.
use mathlib.Core.Path.{ap, ◌∙◌}
use borrow.Author.Tests.{eq-eqb, ne_eqb}
use Rattle.library.specs.Numbers.{answer_numbers}
use Rattle.library.proofs.fejogbu_run.Goals as goal

pub returns-then-answer-ne6 : goal.returns-then-answer-ne6
returns-then-answer-ne6 c = let z = ne_eqb _ _ c.if-answer-ne6.true in record { returned = rw z; answered = rw z; lefts = rw z; rights = rw z }

pub returns : goal.returns
returns c =
    let r = c.run_steps.ensures in
    let z = eq-eqb _ _ c.if-answer-ne6.false in
    record { returned = rw z; answered = rw z (c.put_answer.ensures ∙ ap answer_numbers r.0); lefts = rw z r.1; rights = rw z r.2 }

-- By the test of the budget.
use borrow.Author.Tests.{eq-eqb, ne_eqb}
use Rattle.shapes.proofs.word_within.Goals as goal

pub returns-then-budget-eq0 : goal.returns-then-budget-eq0
returns-then-budget-eq0 c = rw (eq-eqb _ 0 c.if-budget-eq0.true)

pub returns : goal.returns
returns c = rw (ne_eqb _ 0 c.if-budget-eq0.false) c.word_at.ensures

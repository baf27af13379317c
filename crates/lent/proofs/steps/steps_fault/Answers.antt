-- The tests in their order.
use mathlib.Core.Path.{sym, ◌∙◌}
use native.Mathlib.Omega.{arith}
use Rattle.lent.proofs.Lending.{too_short, sides-told}
use Rattle.lent.proofs.steps.steps_fault.Goals as goal

pub returns-then-steps-n : goal.returns-then-steps-n
returns-then-steps-n c = sym (too_short _ _ (omega arith) c.if-steps-n.true)

pub are_sided-requires : goal.are_sided-requires
are_sided-requires c = (omega arith, omega arith)

pub returns-then-not-are_sided : goal.returns-then-not-are_sided
returns-then-not-are_sided c = sym (sides-told _ _ (omega arith) (omega arith) (sym c.are_sided.ensures ∙ c.if-not-are_sided.true))

pub returns : goal.returns
returns c = sym (sides-told _ _ (omega arith) (omega arith) (sym c.are_sided.ensures ∙ c.if-not-are_sided.false))

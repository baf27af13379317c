-- A lookup, or the end alone.
use mathlib.Core.Path.{sym, ◌∙◌, ap}
use native.Mathlib.Omega.{arith}
use lib.ListN.{length}
use Rattle.families.proofs.extent_of.Goals as goal

pub returns-then-may_deepen : goal.returns-then-may_deepen
returns-then-may_deepen c = (ap length c.part_at-part.ensures.same, rw (sym c.may_deepen.ensures ∙ c.if-may_deepen.true, c.part_at-part.ensures.depth))

pub returns : goal.returns
returns c = (omega arith, rw (sym c.may_deepen.ensures ∙ c.if-may_deepen.false))

-- A step is laid down where there is room for it.
use native.Mathlib.Omega.{arith}
use Rattle.lent.proofs.Lending.{past_all, put_down}
use Rattle.lent.proofs.steps.put_step.Goals as goal

pub returns-then-k-ge-MOST_STEPS : goal.returns-then-k-ge-MOST_STEPS
returns-then-k-ge-MOST_STEPS c = past_all _ _ _ c.if-k-ge-MOST_STEPS.true

pub returns : goal.returns
returns c = put_down _ _ _ _ _ _ (omega arith) c.number.ensures c.append-end.ensures.0 c.append-end.ensures.1

-- What is found is before the place, and each way is the definition at what the walks come to.
use mathlib.Core.Path.{◌∙◌}
use native.Mathlib.Omega.{arith}
use Rattle.words.proofs.Runs.{added, added_as}
use Rattle.shapes.proofs.Walks.{binder_few, bound_near, bound-outside, far_found, far_none}
use Rattle.shapes.proofs.append_bound.Goals as goal

pub overflow_add-sum : goal.overflow_add-sum
overflow_add-sum c = omega (arith, binder_few _ _ _ c.in-Ok.ensures)

pub overflow_add-sum-in-Ok-binder_of : goal.overflow_add-sum-in-Ok-binder_of
overflow_add-sum-in-Ok-binder_of c = omega (arith, binder_few _ _ _ c.in-Ok-binder_of.ensures)

pub returns-in-Ok : goal.returns-in-Ok
returns-in-Ok c = added_as (bound_near _ _ _ _ c.in-Ok.ensures) c.append_part.ensures

pub returns-in-Ok-binder_of : goal.returns-in-Ok-binder_of
returns-in-Ok-binder_of c = added_as (far_found _ _ _ c.in-Ok-binder_of.ensures ∙ bound-outside _ _ _ _ c.in-Err.ensures) c.append_part-in-Ok-binder_of.ensures

pub returns-in-Err-binder_of : goal.returns-in-Err-binder_of
returns-in-Err-binder_of c = added_as (far_none _ _ _ c.in-Err-binder_of.ensures ∙ bound-outside _ _ _ _ c.in-Err.ensures) (added _ _ _ _ _ c.append.ensures.0 c.append.ensures.1)

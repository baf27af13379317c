-- The step is taken on its side; the other side stays.
use Rattle.step.proofs.Moving.{asks, left-good, left-bad, right-good, right-bad}
use Rattle.step.proofs.running.move_side.Goals as goal

pub step_on-requires : goal.step_on-requires
step_on-requires c = asks c.requires.2.left

pub returns-in_err-step_on-in-Left : goal.returns-in_err-step_on-in-Left
returns-in_err-step_on-in-Left c =
    λ p S x. rw c.in-Left.is (left-bad x _ _ c.in_err-step_on-in-Left.ensures _ c.from_residual.ensures.1)

pub step_on-requires-in-Right : goal.step_on-requires-in-Right
step_on-requires-in-Right c = asks c.requires.2.right

pub returns-in_err-step_on-in-Right : goal.returns-in_err-step_on-in-Right
returns-in_err-step_on-in-Right c =
    λ p S x. rw c.in-Right.is (right-bad x _ _ c.in_err-step_on-in-Right.ensures _ c.from_residual-in_err-step_on-in-Right.ensures.1)

pub returns-in_ok-step_on-in-Left : goal.returns-in_ok-step_on-in-Left
returns-in_ok-step_on-in-Left c = λ p S x. rw c.in-Left.is (left-good x _ c.in_ok-step_on-in-Left.ensures)

pub returns-in_ok-step_on-in-Right : goal.returns-in_ok-step_on-in-Right
returns-in_ok-step_on-in-Right c = λ p S x. rw c.in-Right.is (right-good x _ c.in_ok-step_on-in-Right.ensures)

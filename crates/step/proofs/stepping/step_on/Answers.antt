-- The step is made apart; then it is refused, or its words are put from the place on.
use mathlib.Core.Path.{sym}
use native.Mathlib.Omega.{arith}
use lib.Seq.{length-take-le}
use Rattle.step.proofs.Taking.{termed, slice-size, inside-slice, room, room_out, refuses, does, made_for}
use Rattle.step.proofs.stepping.step_on.Goals as goal

pub slice_bounds-make-end : goal.slice_bounds-make-end
slice_bounds-make-end c = inside-slice _ _ _ c.requires.0

pub slice_bounds-make-end-2 : goal.slice_bounds-make-end-2
slice_bounds-make-end-2 c = sym (length-take-le _ _ (inside-slice _ _ _ c.requires.0))

pub make-requires : goal.make-requires
make-requires c = termed _ _ _ c.requires.0

pub returns-in_err-end : goal.returns-in_err-end
returns-in_err-end c =
    let pre = c.requires in
    refuses _ _ _ pre.0 _ _ _ (made_for _ _ _ pre.0 _ _ _ c.in_err-end.ensures) pre.1 _ c.from_residual.ensures.1

pub shared_ref_as_front-put : goal.shared_ref_as_front-put
shared_ref_as_front-put c =
    let a = c.requires.0 in
    let made = made_for _ _ _ a _ _ _ c.in_ok-end.ensures in
    omega (arith, made.fits)

pub slice_bounds-put-end : goal.slice_bounds-put-end
slice_bounds-put-end c =
    let a = c.requires.0 in
    sym (length-take-le _ _ (room_out _ _ _ a _ _ _ (made_for _ _ _ a _ _ _ c.in_ok-end.ensures)))

pub put-requires : goal.put-requires
put-requires c =
    let pre = c.requires in
    let made = made_for _ _ _ pre.0 _ _ _ c.in_ok-end.ensures in
    (rw (length-take-le _ _ (room_out _ _ _ pre.0 _ _ _ made)) (room _ _ _ pre.0 _ _ _ made), inside-slice _ _ _ pre.0, pre.1)

pub overflow_add-result : goal.overflow_add-result
overflow_add-result c =
    let a = c.requires.0 in
    omega (arith, room _ _ _ a _ _ _ (made_for _ _ _ a _ _ _ c.in_ok-end.ensures), slice-size _ _ _ a)

pub returns : goal.returns
returns c =
    let a = c.requires.0 in
    does _ _ _ a _ _ _ _ (made_for _ _ _ a _ _ _ c.in_ok-end.ensures) c.put.ensures

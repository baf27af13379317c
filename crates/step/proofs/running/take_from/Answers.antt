use mathlib.Core.Path.{refl}
use native.Mathlib.Omega.{arith}
use borrow.Author.Rules.{rules}
use Rattle.step.proofs.Moving.{move-is, all-taken, goes_on, stops}
use Rattle.step.proofs.running.take_from.Goals as goal

pub loop-k-init : goal.loop-k-init
loop-k-init c = record { left_size = refl; right_size = refl; rest = λ p S x. (p, x, refl) }

pub move_side-requires : goal.move_side-requires
move_side-requires c =
    let start = c.requires.0 in
    let now = c.loop-k.invariant.rest start.0 start.1 start.2 in
    (now.0, start.1, now.1)

pub returns-in-Err : goal.returns-in-Err
returns-in-Err c =
    λ p S x.
    let now = c.loop-k.invariant.rest p S x in
    let moved = c.move_side.ensures now.0 S now.1 in
    let named = move-is _ _ _ _ c.side_named-side.ensures c.step_there-s.ensures in
    stops now.0 _ _ _ now.2 c.loop-k-test.true _ named moved.1 _ (rw c.in-Err.is at moved.0) now.1 c.code.ensures c.side_number.ensures

pub loop-k-preserved : goal.loop-k-preserved
loop-k-preserved c =
    let told = c.move_side.ensures in
    let named = move-is _ _ _ _ c.side_named-side.ensures c.step_there-s.ensures in record {
      left_size = search rules;
      right_size = search rules;
      rest = λ p S x.
          let now = c.loop-k.invariant.rest p S x in
          let moved = told now.0 S now.1 in
          let on = goes_on now.0 _ _ _ now.2 c.loop-k-test.true _ named moved.1 (rw c.in-Ok.is at moved.0) in
          (_, on.0, on.1);
    }

pub returns : goal.returns
returns c =
    λ p S x.
    let now = c.loop-k.invariant.rest p S x in
    all-taken now.0 _ _ _ now.2 now.1 (omega arith)

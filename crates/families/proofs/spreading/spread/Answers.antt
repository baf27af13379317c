use native.Mathlib.Omega.{arith}
use Rattle.words.proofs.Runs.{added_both, appended, added_as}
use Rattle.families.proofs.Split.{Split, child-bounds}
use Rattle.families.proofs.Tested.{found}
use Rattle.families.proofs.Written.{refuses_none, writes}
use Rattle.families.proofs.Spread.{spreads-none, spreads-child, spread-words, spread_nodes_few}
use Rattle.families.proofs.Summands.{passed_none, passed-bounds, passed-more, passed-all}
use Rattle.families.proofs.Whole.{whole}
use Rattle.families.proofs.spreading.spread.Goals as goal
use Rattle.families.proofs.spreading.spread.Goals.{In_ok-c}

-- the child, once it is found
child : (c : In_ok-c) → Split c.args.part.words.now c.args.k c.in_ok-c.c.start c.in_ok-c.c.end
child c = found (whole c.args.part.whole) (rw c.in_ok-c.ensures.ok_part at c.child_under.ensures)

pub returns-in_err-c : goal.returns-in_err-c
returns-in_err-c c = λ l s r w i P S R u e Γ.
    let none = c.in_err-c.ensures in
    refuses_none _ c.child_under.result c.from_residual.result (spreads-none P S (whole c.args.part.whole) Γ r w i u e (rw none.ok_part at c.child_under.ensures)) none.value c.from_residual.ensures.1

pub offset_bounds-part-start : goal.offset_bounds-part-start
offset_bounds-part-start c = omega (arith, child-bounds (child (goal.at.offset_bounds-part-start c).In_ok-c))

pub bounds-part-start : goal.bounds-part-start
bounds-part-start c = omega (arith, child-bounds (child (goal.at.bounds-part-start c).In_ok-c))

pub overflow_add-next : goal.overflow_add-next
overflow_add-next c = omega (arith, child-bounds (child (goal.at.overflow_add-next c).In_ok-c))

pub loop-next-init : goal.loop-next-init
loop-next-init c =
    passed_none (child (goal.at.loop-next-init c).In_ok-c) (omega (arith, c.append_word-done.ensures.0, c.append_word-done.auto.out))

pub append_around-done-requires : goal.append_around-done-requires
append_around-done-requires c =
    let b = passed-bounds c.loop-next.invariant c.loop-next-test.true c.part_end-behind.ensures in (b.0, omega arith, b.2, b.3)

pub loop-next-smaller : goal.loop-next-smaller
loop-next-smaller c =
    omega (arith, passed-bounds c.loop-next.invariant c.loop-next-test.true c.part_end-behind.ensures)

pub loop-next-preserved : goal.loop-next-preserved
loop-next-preserved c =
    passed-more c.loop-next.invariant c.loop-next-test.true c.part_end-behind.ensures c.append_around-done.ensures

pub shape_of-out : goal.shape_of-out
shape_of-out c = omega (arith, c.loop-next.invariant.written.size, c.append_word-done.auto.out)

pub returns : goal.returns
returns c = λ l s r w i P S R u e Γ.
    let v = whole c.args.part.whole in
    let z = rw c.in_ok-c.ensures.ok_part at c.child_under.ensures in
    let all = added_both (appended c.append_word-done.ensures) (passed-all c.loop-next.invariant c.loop-next-test.false) in
    let p = c.loop-next.invariant.split in
    writes _ _ (spreads-child P S v z p Γ r w i u e) (spread_nodes_few P S v z p r) (added_as (spread-words P S v z p R) all)

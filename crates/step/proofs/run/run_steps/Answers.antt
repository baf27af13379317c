-- The fault that is found first decides; where there is none the steps are taken, and the ends compared.
use mathlib.Core.Path.{◌≡◌, refl, sym, ◌∙◌}
use native.Mathlib.Omega.{arith}
use Prim.Native.Nat.{◌≤◌}
use lib.ListN.{length}
use lib.Seq.{length-take-le}
use Rattle.types.specs.Sorts.{Sort}
use Rattle.lent.specs.Lent.{lent}
use Rattle.lent.proofs.Tests.{told_none, told_some}
use Rattle.step.specs.Code.Running.{Ready, lengths_of, taken_to}
use Rattle.step.proofs.Begun.{begun, ready, run, untouched, all-zeros, inside, stopped, ended}
use Rattle.step.proofs.run.run_steps.Goals as goal
use Rattle.step.proofs.run.run_steps.Goals.{After-take_from, In-Ok}

-- what the steps came to, from the two terms on that the slices hold once no fault was found
went : (c : After-take_from)
    → let d = lent c.args.ds.now c.args.left.now c.args.n c.args.right.now c.args.m c.args.steps.now c.args.count in
    (c.take_from.result ≡ taken_to (run d)) × ((S : Sort) × Ready d.ds c.take_from.new.left c.take_from.new.right (lengths_of (run d).sides) (run d).sides S)
went c =
    let begins = begun _ (told_none _ (sym c.in_default.ensures)) in
    let told = c.take_from.ensures _ _ (ready _ begins.1 _ _ c.clear_from-2.ensures c.clear_from-3.ensures) in
    (told.0, (begins.0, told.1))

-- the lengths that are left lie in the slices
fit : (c : In-Ok) → (c.in-Ok.long.left ≤ length c.take_from.new.left) × (c.in-Ok.long.right ≤ length c.take_from.new.right)
fit c =
    let w = went (goal.at.In-Ok c).After-take_from in
    inside _ _ refl (told_none _ (sym c.in_default.ensures)) w.1.1 _ (sym c.in-Ok.is ∙ w.0)

pub returns-then-fault-eq1 : goal.returns-then-fault-eq1
returns-then-fault-eq1 c = untouched _ _ (told_some _ _ (sym c.in-Err.ensures)).0 _ c.refused_with.ensures c.if-fault-eq1.true

pub returns-in-Err : goal.returns-in-Err
returns-in-Err c =
    let found = told_some _ _ (sym c.in-Err.ensures) in
    all-zeros _ _ found.0 _ c.refused_with-in-Err.ensures _ _ c.if-fault-eq1.false found.1 c.clear_from.ensures c.clear_from-in-Err.ensures

pub take_from-requires : goal.take_from-requires
take_from-requires c =
    let begins = begun _ (told_none _ (sym c.in_default.ensures)) in
    ((_, begins.0, ready _ begins.1 _ _ c.clear_from-2.ensures c.clear_from-3.ensures), omega arith, begins.1.order.few, begins.1.order.inside)

pub returns-in-Err-take_from : goal.returns-in-Err-take_from
returns-in-Err-take_from c =
    let w = went (goal.at.returns-in-Err-take_from c).After-take_from in
    stopped _ _ refl (told_none _ (sym c.in_default.ensures)) w.1.1 _ (sym c.in-Err-take_from.is ∙ w.0)

pub slice_bounds-compare-end : goal.slice_bounds-compare-end
slice_bounds-compare-end c = (fit (goal.at.slice_bounds-compare-end c).In-Ok).0

pub slice_bounds-compare-end-in-Ok : goal.slice_bounds-compare-end-in-Ok
slice_bounds-compare-end-in-Ok c = sym (length-take-le _ _ (fit (goal.at.slice_bounds-compare-end-in-Ok c).In-Ok).0)

pub slice_bounds-compare-end-in-Ok-2 : goal.slice_bounds-compare-end-in-Ok-2
slice_bounds-compare-end-in-Ok-2 c = (fit (goal.at.slice_bounds-compare-end-in-Ok-2 c).In-Ok).1

pub slice_bounds-compare-end-in-Ok-3 : goal.slice_bounds-compare-end-in-Ok-3
slice_bounds-compare-end-in-Ok-3 c = sym (length-take-le _ _ (fit (goal.at.slice_bounds-compare-end-in-Ok-3 c).In-Ok).1)

pub returns-in-Ok : goal.returns-in-Ok
returns-in-Ok c =
    let w = went (goal.at.returns-in-Ok c).After-take_from in
    ended _ _ refl (told_none _ (sym c.in_default.ensures)) w.1.1 _ (sym c.in-Ok.is ∙ w.0) _ c.compare.ensures

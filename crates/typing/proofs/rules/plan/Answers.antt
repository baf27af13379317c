-- Each field is what the definition has there.
use Prim.Native.Nat.{◌/◌, ◌%◌}
use native.Mathlib.Omega.{arith}
use Rattle.typing.proofs.Concluding.{place-few, plan_none, plan_some}
use Rattle.typing.proofs.rules.plan.Goals as goal

pub side_size-rows-requires : goal.side_size-rows-requires
side_size-rows-requires c =
    (rw c.piece-left.ensures (place-few c.args.g c.requires.1.2 c.requires.1.3 (c.args.rule / 16 % 16)), omega arith)

pub side_size-columns-requires : goal.side_size-columns-requires
side_size-columns-requires c =
    (rw c.piece-right.ensures (place-few c.args.g c.requires.1.2 c.requires.1.3 (c.args.rule % 16)), omega arith)

pub returns-then-not-all_well : goal.returns-then-not-all_well
returns-then-not-all_well c =
    plan_none _ _ _ _ c.requires.0 c.piece-left.ensures c.piece-right.ensures
    c.side_size-rows.ensures c.side_size-columns.ensures
    c.are_fit.ensures c.all_well.ensures c.if-not-all_well.true

pub returns : goal.returns
returns c =
    plan_some _ _ _ _ c.requires.0 c.piece-left.ensures c.piece-right.ensures
    c.side_size-rows.ensures c.side_size-columns.ensures
    c.are_fit.ensures c.all_well.ensures c.if-not-all_well.false c.class_by.ensures

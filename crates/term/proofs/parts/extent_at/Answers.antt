-- What a walk tells, or the end and then the levels.
use mathlib.Core.Path.{◌≡◌, sym, ◌∙◌}
use Prim.Native.Nat.{◌-◌}
use native.Mathlib.Omega.{arith}
use lib.ListN.{length}
use Rattle.term.specs.Parts.{part}
use Rattle.term.proofs.Scan.{part-front, part_length}
use Rattle.term.proofs.Extents.{depth_missing}
use Rattle.term.proofs.Levels.{part_levels}
use Rattle.term.proofs.parts.extent_at.Goals as goal

pub offset_bounds-ws-at : goal.offset_bounds-ws-at
offset_bounds-ws-at c = let args = c.args in omega (arith, part_length args.ws.now args.at)

pub slice_bounds-deepest_of-end : goal.slice_bounds-deepest_of-end
slice_bounds-deepest_of-end c = let args = c.args in omega (arith, part_length args.ws.now args.at)

pub returns-then-at-end : goal.returns-then-at-end
returns-then-at-end c =
    let args = c.args in
    let n : c.part_end-end.result - args.at ≡ length (part args.ws.now args.at) = omega arith in
    (c.part_end-end.ensures, (rw (n, ← part-front args.ws.now args.at) at c.deepest_of-depth.ensures) ∙ part_levels _ _)

pub returns-else-at-end : goal.returns-else-at-end
returns-else-at-end c =
    let args = c.args in
    let z : length (part args.ws.now args.at) ≡ 0 = omega arith in
    (c.part_end-end.ensures, sym (depth_missing _ _ z))

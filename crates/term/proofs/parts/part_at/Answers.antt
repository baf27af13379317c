-- The part lies between the offset and its end, inside the slice.
use mathlib.Core.Path.{◌≡◌, refl, sym}
use Prim.Native.Nat.{◌-◌}
use native.Mathlib.Omega.{arith}
use borrow.Author.Rules.{rules}
use lib.ListN.{length}
use Rattle.term.specs.Parts.{part}
use Rattle.term.proofs.Scan.{part-front, part_length, part-start, part_none}
use Rattle.term.proofs.parts.part_at.Goals as goal

pub offset_bounds-ws-at : goal.offset_bounds-ws-at
offset_bounds-ws-at c = omega (arith, part_length c.args.ws.now c.args.at)

pub slice_bounds-result-end : goal.slice_bounds-result-end
slice_bounds-result-end c = omega (arith, part_length c.args.ws.now c.args.at)

pub returns-then-at-end : goal.returns-then-at-end
returns-then-at-end c =
    let args = c.args in
    let found = c.extent_at-found in
    let n : found.result.end - args.at ≡ length (part args.ws.now args.at) = omega arith in
    record { same = rw n (sym (part-front args.ws.now args.at)); depth = found.ensures.1; block = refl; offset = rw (part-start args.ws.now args.at (omega arith)) (search rules) }

pub returns : goal.returns
returns c =
    let args = c.args in
    let e = part_none args.ws.now args.at (omega arith) in
    record { same = sym e.1; depth = c.extent_at-found.ensures.1; block = refl; offset = rw e.0 (search rules) }

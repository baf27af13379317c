-- The second run stands behind the first, and both are the front of the slice.
use mathlib.Core.Path.{◌≡◌, sym, ◌∙◌}
use borrow.Author.Rules.{rules}
use lib.ListN.{length}
use lib.Seq.{length-take-le}
use Rattle.step.proofs.Previewed.{both-there}
use Rattle.step.proofs.preview.depth_in.Goals as goal

pub slice_bounds-part_at-end : goal.slice_bounds-part_at-end
slice_bounds-part_at-end c =
    let size : length c.args.all.now ≡ 4096 = search rules in
    sym (length-take-le _ _ (both-there _ _ _ c.append-middle.ensures c.append-end.ensures (rw size c.requires)).0)

pub returns : goal.returns
returns c =
    let size : length c.args.all.now ≡ 4096 = search rules in
    let both = both-there _ _ _ c.append-middle.ensures c.append-end.ensures (rw size c.requires) in
    (c.part_at.ensures.depth ∙ rw both.1, both.2)

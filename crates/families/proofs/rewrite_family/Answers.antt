-- The part is looked up once, and what is asked of it goes by the rule's family.
use mathlib.Core.Path.{sym}
use lib.Seq.{length-take-le}
use Rattle.families.proofs.Depths.{row-deepens}
use Rattle.families.proofs.Theorems.{own, own_size, own_whole, own_family, own_none}
use Rattle.families.proofs.Written.{refuses}
use Rattle.families.proofs.rewrite_family.Goals as goal

pub returns-then-size-eq0 : goal.returns-then-size-eq0
returns-then-size-eq0 c =
    let part = c.extent_of-size.ensures in
    let may = row-deepens _ _ c.row_of-row.ensures in
    (λ Γ. refuses _ (own_none Γ _ _ _ _ _ part.0 c.if-size-eq0.true), record { size = part.0; depth = rw may at part.1 })

pub slice_bounds-part-end : goal.slice_bounds-part-end
slice_bounds-part-end c = sym (length-take-le _ _ (own_size _ _ c.extent_of-size.ensures.0))

pub invariant_of-part : goal.invariant_of-part
invariant_of-part c = record { whole = own_whole _ _ c.extent_of-size.ensures.0 c.if-size-eq0.false }

pub returns : goal.returns
returns c =
    let part = c.extent_of-size.ensures in
    let may = row-deepens _ _ c.row_of-row.ensures in
    let ws = c.args.ws.now in
    (λ Γ. rw (own ws _ part.0, own_family Γ _ _ _ ws) at (c.family_at-written.ensures Γ), record { size = part.0; depth = rw may at part.1 })

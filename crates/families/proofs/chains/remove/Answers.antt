-- The child is found or the part is refused, and the result is a node with one child less.
use native.Mathlib.Omega.{arith}
use Rattle.words.proofs.Runs.{added_as}
use Rattle.families.proofs.Split.{some_word, child-bounds}
use Rattle.families.proofs.Tested.{found}
use Rattle.families.proofs.Written.{refuses_none, writes}
use Rattle.families.proofs.Removed.{removes-none, removes-child, removed_words, removed_few}
use Rattle.families.proofs.Whole.{whole}
use Rattle.families.proofs.chains.remove.Goals as goal

pub bounds-part-0 : goal.bounds-part-0
bounds-part-0 c = some_word (whole c.args.part.whole)

pub returns-in_err-c : goal.returns-in_err-c
returns-in_err-c c = λ l d P N Γ.
    let none = c.in_err-c.ensures in
    refuses_none _ c.child_under.result c.from_residual.result (removes-none Γ P N (whole c.args.part.whole) (rw none.ok_part at c.child_under.ensures)) none.value c.from_residual.ensures.1

pub append_without-requires : goal.append_without-requires
append_without-requires c =
    omega (arith, child-bounds (found (whole c.args.part.whole) (rw c.in_ok-c.ensures.ok_part at c.child_under.ensures)))

pub returns : goal.returns
returns c = λ l d P N Γ.
    let w = whole c.args.part.whole in
    let e = rw c.in_ok-c.ensures.ok_part at c.child_under.ensures in
    writes _ _ (removes-child Γ P N w e (omega arith)) (removed_few Γ P N w e) (added_as (removed_words Γ P N w e) c.append_without.ensures)

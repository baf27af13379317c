-- The part is a chain and the child is found, or the part is refused; the result is a node with the child's children in the child's place, unless they are too many.
use mathlib.Core.Path.{◌≡◌, sym, ◌∙◌}
use mathlib.Core.Bool.{true}
use native.Mathlib.Omega.{arith}
use lib.ListN.{get_or}
use Rattle.words.proofs.Runs.{added_as}
use Rattle.families.specs.Code.Families.{chain_word}
use Rattle.families.proofs.Split.{some_word}
use Rattle.families.proofs.Written.{refuses, refuses_none, writes}
use Rattle.families.proofs.Merged.{merges_other, merges-none, merges-child, child-inside, merged_few, merged_words}
use Rattle.families.proofs.Whole.{whole}
use Rattle.families.proofs.chains.merge.Goals as goal

pub bounds-part-0 : goal.bounds-part-0
bounds-part-0 c = some_word (whole c.args.part.whole)

pub returns-then-not-is_chain : goal.returns-then-not-is_chain
returns-then-not-is_chain c = λ Γ. refuses _ (merges_other Γ _ (whole c.args.part.whole) (sym c.is_chain.ensures ∙ c.if-not-is_chain.true))

pub returns-in_err-c : goal.returns-in_err-c
returns-in_err-c c = λ Γ.
    let none = c.in_err-c.ensures in
    refuses_none _ c.child_under.result c.from_residual.result (merges-none (whole c.args.part.whole) (sym c.is_chain.ensures ∙ c.if-not-is_chain.false) Γ (rw none.ok_part at c.child_under.ensures)) none.value
    c.from_residual.ensures.1

pub append_without-requires : goal.append_without-requires
append_without-requires c =
    omega (arith, child-inside (whole c.args.part.whole) (sym c.is_chain.ensures ∙ c.if-not-is_chain.false) (rw c.in_ok-c.ensures.ok_part at c.child_under.ensures))

pub returns : goal.returns
returns c = λ Γ.
    let w = whole c.args.part.whole in
    let k : chain_word (get_or c.args.part.words.now 0 0) ≡ true = sym c.is_chain.ensures ∙ c.if-not-is_chain.false in
    let e = rw c.in_ok-c.ensures.ok_part at c.child_under.ensures in
    writes _ _ (merges-child w k e Γ) (merged_few w k e (omega arith)) (added_as (merged_words w k e) c.append_without.ensures)

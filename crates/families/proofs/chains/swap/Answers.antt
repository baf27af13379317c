-- Each refusal is one law, and the result is four runs of the part's words.
use mathlib.Core.Path.{sym, ◌∙◌}
use Rattle.words.proofs.Runs.{appended}
use Rattle.families.proofs.Split.{some_word, no_child, split}
use Rattle.families.proofs.Next.{next_child}
use Rattle.families.proofs.Written.{refuses, refuses_none, writes}
use Rattle.families.proofs.Swapped.{swaps_other, swaps-outside, swaps_last, swaps_children, swapped_few, swapped_written}
use Rattle.families.proofs.Whole.{whole}
use Rattle.families.proofs.chains.swap.Goals as goal

pub bounds-part-0 : goal.bounds-part-0
bounds-part-0 c = some_word (whole c.args.part.whole)

pub returns-then-not-is_loose : goal.returns-then-not-is_loose
returns-then-not-is_loose c = λ Γ. refuses _ (swaps_other Γ _ (whole c.args.part.whole) (sym c.is_loose.ensures ∙ c.if-not-is_loose.true))

pub returns-in_err-c : goal.returns-in_err-c
returns-in_err-c c = λ Γ.
    let none = c.in_err-c.ensures in
    refuses_none _ c.child.result c.from_residual.result (swaps-outside Γ _ (whole c.args.part.whole) (no_child _ _ (sym none.ok_part ∙ c.child.ensures))) none.value c.from_residual.ensures.1

pub returns-then-c-part : goal.returns-then-c-part
returns-then-c-part c = λ Γ.
    refuses _ (swaps_last (split (whole c.args.part.whole) (sym c.in_ok-c.ensures.ok_part ∙ c.child.ensures)) Γ c.if-c-part.true)

pub returns : goal.returns
returns c = λ Γ.
    let s = split (whole c.args.part.whole) (sym c.in_ok-c.ensures.ok_part ∙ c.child.ensures) in
    let n = next_child s c.if-c-part.false c.part_end-end.ensures in
    writes _ _ (swaps_children s n Γ (sym c.is_loose.ensures ∙ c.if-not-is_loose.false)) (swapped_few s n)
    (swapped_written s n (appended (c.append_run-a.ensures.value, c.append_run-a.ensures.out_after)) (appended (c.append_run-b.ensures.value, c.append_run-b.ensures.out_after)) (appended (c.append_run-d.ensures.value, c.append_run-d.ensures.out_after)) (appended (c.append_run.ensures.value, c.append_run.ensures.out_after)))

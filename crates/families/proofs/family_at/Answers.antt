-- A family is found by the row of the rule, and is handed the part.
use mathlib.Core.Path.{refl}
use mathlib.Core.Logic.{⊎_elim}
use Rattle.families.proofs.Dispatched.{removes, absorbs, merges, swaps, distributes, collects}
use Rattle.families.proofs.Lines.{numbered, Ruled, ruled}
use Rattle.families.proofs.Theorems.{no_rule, no_equation, does_row, second_none}
use Rattle.families.proofs.Written.{refuses}
use Rattle.families.proofs.Whole.{whole}
use Rattle.families.proofs.family_at.Goals as goal

pub returns-in-Collect : goal.returns-in-Collect
returns-in-Collect c =
    does_row _ _ c.requires _ (whole c.args.part.whole) (λ z. cc) (λ z. cc) _ _ _ _ _ _ refl (λ rule x. collects _ _ _ _ _ _ (numbered c.in-Collect.is x) c.collect.ensures)

pub returns-then-j-ne0 : goal.returns-then-j-ne0
returns-then-j-ne0 c = λ Γ.
    refuses _ (second_none _ _ c.requires _ (whole c.args.part.whole) Γ _ _ c.if-j-ne0.true c.in_default.not-Collect)

pub returns-in-NoRule : goal.returns-in-NoRule
returns-in-NoRule c = λ Γ.
    refuses _ (⊎_elim (λ h. no_rule Γ _ _ _ _ _ c.requires h) (λ t. ⊎_elim (λ h. no_equation Γ _ _ _ _ _ c.requires h) (λ h. absurd (c.in_default.not-Collect h)) t) c.in-NoRule.is)

pub spread_by-requires : goal.spread_by-requires
spread_by-requires c =
    let rule : Ruled c.args.row c.args.rule = ruled _ _ c.requires (λ z. cc) in
    (rule.rule, numbered c.in-Spread.is rule.lines)

pub returns-in-Spread : goal.returns-in-Spread
returns-in-Spread c =
    does_row _ _ c.requires _ (whole c.args.part.whole) (λ z. cc) (λ z. cc) _ _ _ _ _ _ c.if-j-ne0.false (λ rule x. c.spread_by.ensures rule (numbered c.in-Spread.is x))

pub returns-in-Remove : goal.returns-in-Remove
returns-in-Remove c =
    does_row _ _ c.requires _ (whole c.args.part.whole) (λ z. cc) (λ z. cc) _ _ _ _ _ _ c.if-j-ne0.false (λ rule x. removes _ _ _ _ _ (numbered c.in-Remove.is x) c.remove.ensures)

pub returns-in-Absorb : goal.returns-in-Absorb
returns-in-Absorb c =
    does_row _ _ c.requires _ (whole c.args.part.whole) (λ z. cc) (λ z. cc) _ _ _ _ _ _ c.if-j-ne0.false (λ rule x. absorbs _ _ _ _ _ (numbered c.in-Absorb.is x) c.absorb.ensures)

pub returns-in-Merge : goal.returns-in-Merge
returns-in-Merge c =
    does_row _ _ c.requires _ (whole c.args.part.whole) (λ z. cc) (λ z. cc) _ _ _ _ _ _ c.if-j-ne0.false (λ rule x. merges _ _ _ _ _ (numbered c.in-Merge.is x) c.merge.ensures)

pub returns-in-Swap : goal.returns-in-Swap
returns-in-Swap c =
    does_row _ _ c.requires _ (whole c.args.part.whole) (λ z. cc) (λ z. cc) _ _ _ _ _ _ c.if-j-ne0.false (λ rule x. swaps _ _ _ _ _ (numbered c.in-Swap.is x) c.swap.ensures)

pub returns-in-Distribute : goal.returns-in-Distribute
returns-in-Distribute c =
    does_row _ _ c.requires _ (whole c.args.part.whole) (λ z. cc) (λ z. cc) _ _ _ _ _ _ c.if-j-ne0.false (λ rule x. distributes _ _ _ _ _ (numbered c.in-Distribute.is x) c.distribute.ensures)

-- The left side's match, tree by tree, and the right side's words.
use mathlib.Core.Path.{◌≡◌, refl, sym, ◌∙◌, ap}
use mathlib.Core.Logic.{⊎_elim}
use native.Mathlib.Omega.{arith}
use Prim.Native.Nat.{◌+◌, ◌-◌}
use lib.ListN.{take, drop}
use Rattle.words.proofs.Runs.{added_as}
use Rattle.rulebook.specs.Code.Rows.{pattern_words}
use Rattle.step.specs.Code.Building.{pieces}
use Rattle.step.specs.Code.Site.{Site, Equation}
use Rattle.step.proofs.Equated.{left_side, right_side, left-size, right_made, sides-room, condition-is, well, Caughts, held, found_in, found_none, right-asks, condition-asks}
use Rattle.step.proofs.Equated.{condition-known, right-known, few-fill, no_index, no_second_index, no_left, unmet, equated}
use Rattle.step.proofs.Right.{right-words}
use Rattle.families.proofs.Written.{refuses, writes}
use Rattle.step.proofs.equations.equate.Goals as goal

pub returns-then-s-ne0 : goal.returns-then-s-ne0
returns-then-s-ne0 c = λ s e.
    refuses _ (⊎_elim (λ h. no_index _ _ _ _ _ _ _ h) (λ h. no_second_index _ _ _ _ _ _ _ h.0 h.1) c.then-s-ne0.either)

pub slice_bounds-sides-end : goal.slice_bounds-sides-end
slice_bounds-sides-end c = omega (arith, sides-room c.requires.1)

pub slice_bounds-match_words-end : goal.slice_bounds-match_words-end
slice_bounds-match_words-end c = left-size c.requires.1 c.copy_from.ensures

pub returns-in_default : goal.returns-in_default
returns-in_default c = λ s e.
    refuses _ (no_left _ _ _ _ _ _ _ c.if-s-ne0.false c.if-s-ne0-2.false (found_none _ e.rule s (rw (left_side e c.copy_from.ensures) at c.in_default.ensures)))

pub is_met-requires : goal.is_met-requires
is_met-requires c =
    let found : (s : Site c.args.ds.now c.args.term.now c.args.s.place c.args.ws.now) (e : Equation c.args.s.rule c.args.row) → Caughts _ e.rule s c.in-Ok.found = λ s e. found_in _ e.rule s (rw (left_side e c.copy_from.ensures) at c.in-Ok.ensures) in
    let pre = c.requires in
    let f = found pre.0 pre.1 in
    (held _ pre.1.rule pre.0 f, pre.1.condition, condition-is pre.1, condition-known _ pre.1.rule pre.0 f, condition-asks _ pre.1.rule pre.0 f)

pub returns-then-not-is_met : goal.returns-then-not-is_met
returns-then-not-is_met c =
    let found : (s : Site c.args.ds.now c.args.term.now c.args.s.place c.args.ws.now) (e : Equation c.args.s.rule c.args.row) → Caughts _ e.rule s c.in-Ok.found = λ s e. found_in _ e.rule s (rw (left_side e c.copy_from.ensures) at c.in-Ok.ensures) in
    λ s e.
    let f = found s e in
    let w = sym (c.is_met.ensures (held _ e.rule s f) e.condition (condition-is e) (condition-known _ e.rule s f)) ∙ c.if-not-is_met.true in
    refuses _ (unmet _ _ _ _ _ _ _ c.if-s-ne0.false c.if-s-ne0-2.false f.trees f.matches w)

pub slice_bounds-build_side-end : goal.slice_bounds-build_side-end
slice_bounds-build_side-end c = omega (arith, sides-room c.requires.1)

pub build_side-requires : goal.build_side-requires
build_side-requires c =
    let found : (s : Site c.args.ds.now c.args.term.now c.args.s.place c.args.ws.now) (e : Equation c.args.s.rule c.args.row) → Caughts _ e.rule s c.in-Ok.found = λ s e. found_in _ e.rule s (rw (left_side e c.copy_from.ensures) at c.in-Ok.ensures) in
    let right : let row = c.args.row in (e : Equation c.args.s.rule c.args.row) → take (row.b + row.c - row.b) (drop row.b c.copy_from.new.out) ≡ pattern_words e.right = λ e. right_side e c.copy_from.ensures in
    let pre = c.requires in
    let f = found pre.0 pre.1 in
    let side = right pre.1 in
    ((held _ pre.1.rule pre.0 f, refl, rw side (right-known _ pre.1.rule pre.0 f)), rw side (right-asks _ pre.1.rule pre.0 f))

pub returns : goal.returns
returns c =
    let found : (s : Site c.args.ds.now c.args.term.now c.args.s.place c.args.ws.now) (e : Equation c.args.s.rule c.args.row) → Caughts _ e.rule s c.in-Ok.found = λ s e. found_in _ e.rule s (rw (left_side e c.copy_from.ensures) at c.in-Ok.ensures) in
    let right : let row = c.args.row in (e : Equation c.args.s.rule c.args.row) → take (row.b + row.c - row.b) (drop row.b c.copy_from.new.out) ≡ pattern_words e.right = λ e. right_side e c.copy_from.ensures in
    λ s e.
    let f = found s e in
    let w = sym (c.is_met.ensures (held _ e.rule s f) e.condition (condition-is e) (condition-known _ e.rule s f)) ∙ c.if-not-is_met.false in
    let q = equated _ e.condition e.left e.right _ _ _ c.if-s-ne0.false c.if-s-ne0-2.false f.trees f.matches w in
    let side = right e in
    writes _ _ q (few-fill _ (well _ e.rule s) f.trees f.formed e.right)
    (added_as (ap (pieces _ f.trees) side ∙ right-words _ f.trees e.right (right_made e)) (c.build_side.ensures (held _ e.rule s f) refl
    (rw side (right-known _ e.rule s f))))

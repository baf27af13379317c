-- Each refusal is one law, and the result is a node with one child less, whose last is new.
use mathlib.Core.Logic.{⊎_elim}
use mathlib.Core.Path.{sym, ◌∙◌}
use native.Mathlib.Omega.{arith}
use Rattle.families.proofs.Split.{some_word, no_child}
use Rattle.families.proofs.Written.{refuses, refuses_none, writes}
use Rattle.families.proofs.Pairs.{Pair, pair, pair-bounds}
use Rattle.families.proofs.Multiples.{locate}
use Rattle.families.proofs.Collected.{collects_other, collects-order, collects-outside, collects-none, Placed, placed, both-same, collects-no_first, collects-no_second, collects-unlike, collects-both}
use Rattle.families.proofs.Gathered.{both-few, both_added}
use Rattle.families.proofs.Whole.{whole}
use Rattle.families.proofs.collecting.collect.Goals as goal
use Rattle.families.proofs.collecting.collect.Goals.{In_ok-first, In_ok-y}

-- the two children, once both are found
both : (c : In_ok-first)
    → Pair c.args.part.words.now c.args.i c.args.j c.in_ok-first.first.start c.in_ok-first.first.end c.in_ok-second.second.start c.in_ok-second.second.end
both c = pair (whole c.args.part.whole) c.if-j-i.false (sym c.in_ok-first.ensures.ok_part ∙ c.child-2.ensures) (sym c.in_ok-second.ensures.ok_part ∙ c.child.ensures)

-- and where they stand, once their X are
stand : (c : In_ok-y) → Placed c.args.part.words.now c.in_ok-first.first c.in_ok-second.second c.in_ok-x.x c.in_ok-y.y
stand c = placed c.args.i_scaled c.args.j_scaled (whole c.args.part.whole) c.if-j-i.false (sym c.in_ok-first.ensures.ok_part ∙ c.child-2.ensures) (sym c.in_ok-second.ensures.ok_part ∙ c.child.ensures)
    (sym c.in_ok-x.ensures.ok_part ∙ c.x_of.ensures) (sym c.in_ok-y.ensures.ok_part ∙ c.x_of-2.ensures)

pub bounds-part-0 : goal.bounds-part-0
bounds-part-0 c = some_word (whole c.args.part.whole)

pub returns-then-part-ne-SUM : goal.returns-then-part-ne-SUM
returns-then-part-ne-SUM c = λ Γ.
    let w = whole c.args.part.whole in
    refuses _ (⊎_elim (λ t. collects_other Γ _ _ _ _ w t) (λ t. collects-order Γ _ _ _ _ w t.1) c.then-part-ne-SUM.either)

pub returns-in_err-second : goal.returns-in_err-second
returns-in_err-second c = λ Γ.
    let none = c.in_err-second.ensures in
    refuses_none _ c.child.result c.from_residual.result
    (collects-outside Γ _ _ _ _ (whole c.args.part.whole) (no_child _ _ (sym none.ok_part ∙ c.child.ensures))) none.value c.from_residual.ensures.1

pub returns-in_err-first : goal.returns-in_err-first
returns-in_err-first c = λ Γ.
    let none = c.in_err-first.ensures in
    refuses_none _ c.child-2.result c.from_residual-in_err-first.result
    (collects-none Γ _ _ _ _ (whole c.args.part.whole) (omega (arith, c.if-j-i.false)) (no_child _ _ (sym none.ok_part ∙ c.child-2.ensures))) none.value c.from_residual-in_err-first.ensures.1

pub returns-in_err-x : goal.returns-in_err-x
returns-in_err-x c = λ Γ.
    let p = both (goal.at.returns-in_err-x c).In_ok-first in
    let none = c.in_err-x.ensures in
    refuses_none _ c.x_of.result c.from_residual-in_err-x.result (collects-no_first p Γ _ _ c.if-part-ne-SUM.false (locate p.first _ (sym none.ok_part ∙ c.x_of.ensures))) none.value
    c.from_residual-in_err-x.ensures.1

pub returns-in_err-y : goal.returns-in_err-y
returns-in_err-y c = λ Γ.
    let p = both (goal.at.returns-in_err-y c).In_ok-first in
    let none = c.in_err-y.ensures in
    refuses_none _ c.x_of-2.result c.from_residual-in_err-y.result (collects-no_second p Γ _ _ c.if-part-ne-SUM.false (locate p.second _ (sym none.ok_part ∙ c.x_of-2.ensures))) none.value
    c.from_residual-in_err-y.ensures.1

pub x_of-requires : goal.x_of-requires
x_of-requires c = omega (arith, pair-bounds (both (goal.at.x_of-requires c).In_ok-first))

pub x_of-requires-2 : goal.x_of-requires-2
x_of-requires-2 c = omega (arith, pair-bounds (both (goal.at.x_of-requires-2 c).In_ok-first))

pub offset_bounds-part-x : goal.offset_bounds-part-x
offset_bounds-part-x c =
    let p = stand (goal.at.offset_bounds-part-x c).In_ok-y in
    omega (arith, c.well_formed.0, p.front, p.back)

pub slice_bounds-same-count : goal.slice_bounds-same-count
slice_bounds-same-count c = (stand (goal.at.slice_bounds-same-count c).In_ok-y).front.2

pub slice_bounds-same-start : goal.slice_bounds-same-start
slice_bounds-same-start c = (stand (goal.at.slice_bounds-same-start c).In_ok-y).front.2

pub slice_bounds-same-end : goal.slice_bounds-same-end
slice_bounds-same-end c = (stand (goal.at.slice_bounds-same-end c).In_ok-y).front.3

pub offset_bounds-part-y : goal.offset_bounds-part-y
offset_bounds-part-y c =
    let p = stand (goal.at.offset_bounds-part-y c).In_ok-y in
    omega (arith, c.well_formed.0, p.front, p.back)

pub slice_bounds-same-count-2 : goal.slice_bounds-same-count-2
slice_bounds-same-count-2 c = (stand (goal.at.slice_bounds-same-count-2 c).In_ok-y).back.3

pub slice_bounds-same-start-2 : goal.slice_bounds-same-start-2
slice_bounds-same-start-2 c = (stand (goal.at.slice_bounds-same-start-2 c).In_ok-y).back.3

pub slice_bounds-same-end-2 : goal.slice_bounds-same-end-2
slice_bounds-same-end-2 c = (stand (goal.at.slice_bounds-same-end-2 c).In_ok-y).back.4

pub returns-then-not-same : goal.returns-then-not-same
returns-then-not-same c = λ Γ.
    let p = both (goal.at.returns-then-not-same c).In_ok-first in
    let x = locate p.first _ (sym c.in_ok-x.ensures.ok_part ∙ c.x_of.ensures) in
    let y = locate p.second _ (sym c.in_ok-y.ensures.ok_part ∙ c.x_of-2.ensures) in
    refuses _ (collects-unlike p Γ _ _ c.if-part-ne-SUM.false x y c.same.ensures c.if-not-same.true)

pub factor-c-requires : goal.factor-c-requires
factor-c-requires c =
    let p = stand (goal.at.factor-c-requires c).In_ok-y in
    (p.front.1, omega (arith, p.front))

pub factor-d-requires : goal.factor-d-requires
factor-d-requires c =
    let p = stand (goal.at.factor-d-requires c).In_ok-y in
    (p.back.2, omega (arith, p.back))

pub append_others-kept-requires : goal.append_others-kept-requires
append_others-kept-requires c =
    let p = stand (goal.at.append_others-kept-requires c).In_ok-y in
    omega (arith, p.front, p.back)

pub offset_bounds-part-x-2 : goal.offset_bounds-part-x-2
offset_bounds-part-x-2 c =
    let p = stand (goal.at.offset_bounds-part-x-2 c).In_ok-y in
    omega (arith, c.well_formed.0, p.front, p.back)

pub slice_bounds-append_multiple-count : goal.slice_bounds-append_multiple-count
slice_bounds-append_multiple-count c = (stand (goal.at.slice_bounds-append_multiple-count c).In_ok-y).front.2

pub slice_bounds-append_multiple-start : goal.slice_bounds-append_multiple-start
slice_bounds-append_multiple-start c = (stand (goal.at.slice_bounds-append_multiple-start c).In_ok-y).front.2

pub slice_bounds-append_multiple-end : goal.slice_bounds-append_multiple-end
slice_bounds-append_multiple-end c = (stand (goal.at.slice_bounds-append_multiple-end c).In_ok-y).front.3

pub returns : goal.returns
returns c = λ Γ.
    let p = both (goal.at.returns c).In_ok-first in
    let x = locate p.first c.args.i_scaled (sym c.in_ok-x.ensures.ok_part ∙ c.x_of.ensures) in
    let y = locate p.second c.args.j_scaled (sym c.in_ok-y.ensures.ok_part ∙ c.x_of-2.ensures) in
    let head = c.if-part-ne-SUM.false in
    let same = both-same p c.args.i_scaled c.args.j_scaled x y c.same.ensures c.if-not-same.false in
    writes _ _ (collects-both p Γ _ _ head same) (both-few p same)
    (both_added p same head c.factor-c.ensures c.factor-d.ensures c.append_others-kept.ensures c.append_multiple.ensures)

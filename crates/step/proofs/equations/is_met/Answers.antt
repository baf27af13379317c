-- A kind or a mark is read off the part in hole 0; the words of the part in hole 1 are looked through.
use mathlib.Core.Path.{sym, ◌∙◌}
use Prim.Native.Nat.{◌≤◌, ◌<◌}
use native.Mathlib.Omega.{arith}
use lib.ListN.{length}
use Rattle.matcher.specs.Matching.{start_of, end_of}
use borrow.Author.Rules.{rules}
use Rattle.step.proofs.Conditions.{condition-few, any_met, first-asks, own_asks, own_met, mark_met, kind-met}
use Rattle.step.proofs.Pieces.{caught_bounds}
use Rattle.step.proofs.equations.is_met.Goals as goal

pub returns-in-0 : goal.returns-in-0
returns-in-0 c = λ x k e t. any_met _ k _ (sym e ∙ c.in-0.is)

pub returns-in-4 : goal.returns-in-4
returns-in-4 c =
    let body : 1 < c.args.found.held = let pre = c.requires in own_asks pre.1 _ (sym pre.2 ∙ c.in-4.is) pre.4 in
    λ x k e t. rw c.part.ensures at c.is_without.ensures ∙ own_met x k _ e body c.in-4.is

pub returns-in-5 : goal.returns-in-5
returns-in-5 c =
    let first : 0 < c.args.found.held = let pre = c.requires in first-asks pre.1 (λ z. omega (arith, pre.2, z)) _ pre.4 in
    λ x k e t. c.is_marked.ensures ∙ mark_met x k _ e first c.in-5.is c.word_at.ensures

pub offset_bounds-ws-found : goal.offset_bounds-ws-found
offset_bounds-ws-found c =
    let first : 0 < c.args.found.held = let pre = c.requires in first-asks pre.1 (λ z. omega (arith, pre.2, z)) _ pre.4 in
    let bounds : let m = c.args.found in (0 < 5) × (start_of m 0 ≤ end_of m 0) × (end_of m 0 ≤ length c.args.ws.now) = caught_bounds c.requires.0 0 first in
    let b = bounds in search rules

pub slice_bounds-class_of-count : goal.slice_bounds-class_of-count
slice_bounds-class_of-count c =
    let first : 0 < c.args.found.held = let pre = c.requires in first-asks pre.1 (λ z. omega (arith, pre.2, z)) _ pre.4 in
    let bounds : let m = c.args.found in (0 < 5) × (start_of m 0 ≤ end_of m 0) × (end_of m 0 ≤ length c.args.ws.now) = caught_bounds c.requires.0 0 first in
    let b = bounds in search rules

pub slice_bounds-class_of-start : goal.slice_bounds-class_of-start
slice_bounds-class_of-start c =
    let first : 0 < c.args.found.held = let pre = c.requires in first-asks pre.1 (λ z. omega (arith, pre.2, z)) _ pre.4 in
    let bounds : let m = c.args.found in (0 < 5) × (start_of m 0 ≤ end_of m 0) × (end_of m 0 ≤ length c.args.ws.now) = caught_bounds c.requires.0 0 first in
    let b = bounds in search rules

pub overflow_add-result : goal.overflow_add-result
overflow_add-result c = let pre = c.requires in let few = condition-few pre.1 pre.2 in search rules

pub returns-in_default : goal.returns-in_default
returns-in_default c =
    let first : 0 < c.args.found.held = let pre = c.requires in first-asks pre.1 (λ z. omega (arith, pre.2, z)) _ pre.4 in
    λ x k e t.
    kind-met x k _ e (λ z. omega (arith, z)) (λ z. omega (arith, z)) (λ z. omega (arith, z)) t first (c.number.ensures ∙ c.class_of.ensures)

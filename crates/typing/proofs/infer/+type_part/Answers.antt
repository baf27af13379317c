use mathlib.Core.Path.{◌≡◌, sym, ◌∙◌, ap}
use Prim.Native.Nat.{ℕ, ◌/◌, ◌≤◌, ◌<◌, max}
use native.Mathlib.Omega.{arith}
use borrow.Author.Rules.{rules}
use lib.ListN.{length}
use Rattle.typing.specs.Code.Chains.{budget_of}
use Rattle.typing.proofs.Passing.{found_none, no_head, no_budget}
use Rattle.typing.proofs.Walked.{leaf_found, walked_none, next_inside, enterable, ready, child_typable, child_at, child_end, gatherable, walked_on, walked_fails, walked-ninth, walked_all}
use Rattle.typing.proofs.infer.+type_part.Goals as goal

pub returns-then-budget_of-eq0 : goal.returns-then-budget_of-eq0
returns-then-budget_of-eq0 t c x = found_none (λ h s. no_budget _ (sym c.budget_of.ensures ∙ c.if-budget_of-eq0.true) h s)

pub returns-in_default : goal.returns-in_default
returns-in_default t c x = found_none (λ h s. no_head _ (rw c.word_at-word.ensures at (sym c.arity_of.ensures ∙ c.in_default.is)) h)

pub conclude_leaf-requires : goal.conclude_leaf-requires
conclude_leaf-requires t c =
    let pre = c.requires in let r = pre.room in (pre.under, omega arith)

pub returns-then-n-eq0 : goal.returns-then-n-eq0
returns-then-n-eq0 t c x =
    let some_budget : 0 < budget_of c.args.within = let z = c.if-budget_of-eq0.false in let b = c.budget_of.ensures in omega arith in
    leaf_found _ x.trees (rw c.word_at-word.ensures at (sym c.arity_of.ensures ∙ c.in-Some.is)) c.if-n-eq0.true some_budget
    (rw c.word_at-word.ensures at (c.conclude_leaf.ensures x)) c.settled.ensures

pub loop-k-init : goal.loop-k-init
loop-k-init t c =
    let some_budget : 0 < budget_of c.args.within = let z = c.if-budget_of-eq0.false in let b = c.budget_of.ensures in omega arith in
    λ x. walked_none (rw c.word_at-word.ensures at (sym c.arity_of.ensures ∙ c.in-Some.is)) some_budget c.none_yet-g.ensures

pub enter-inside-requires : goal.enter-inside-requires
enter-inside-requires t c = enterable c.requires c.loop-k.invariant

pub offset_bounds-ws-next : goal.offset_bounds-ws-next
offset_bounds-ws-next t c = let i : c.loop-k.next ≤ length c.args.ws.now = next_inside c.requires c.loop-k.invariant in search rules

pub slice_bounds-type_part-count : goal.slice_bounds-type_part-count
slice_bounds-type_part-count t c = next_inside c.requires c.loop-k.invariant

pub slice_bounds-type_part-start : goal.slice_bounds-type_part-start
slice_bounds-type_part-start t c = let i : c.loop-k.next ≤ length c.args.ws.now = next_inside c.requires c.loop-k.invariant in search rules

pub type_part-requires : goal.type_part-requires
type_part-requires t c =
    let z : 0 < budget_of c.args.within = let z = c.if-budget_of-eq0.false in let b = c.budget_of.ensures in omega arith in
    let n = c.enter-inside.ensures in let b = n.budget_is in
    (omega arith, child_typable c.requires c.loop-k.invariant n)

pub overflow_add-result : goal.overflow_add-result
overflow_add-result t c = omega (arith, child_at c.requires c.loop-k.invariant c.enter-inside.ensures c.in-Err.ensures)

pub returns-in-Err : goal.returns-in-Err
returns-in-Err t c =
    walked_fails c.requires c.loop-k.invariant c.enter-inside.ensures c.in-Err.ensures (c.from-head.ensures ∙ ap (λ (w : ℕ). w / 256) c.word_at-word.ensures)
    (rw c.word_at-word.ensures at (sym c.arity_of.ensures ∙ c.in-Some.is)) c.loop-k-test.true

pub gather-g-requires : goal.gather-g-requires
gather-g-requires t c = gatherable c.requires c.loop-k.invariant c.enter-inside.ensures c.in-Ok.ensures

pub overflow_add-next : goal.overflow_add-next
overflow_add-next t c = omega (arith, child_end c.requires c.loop-k.invariant c.enter-inside.ensures c.in-Ok.ensures)

pub loop-k-preserved : goal.loop-k-preserved
loop-k-preserved t c =
    let deeper : c.max-deepest.result ≡ max c.loop-k.deepest c.in-Ok.child.depth = search rules in
    walked_on c.requires c.loop-k.invariant c.enter-inside.ensures c.in-Ok.ensures c.gather-g.ensures deeper

pub returns-then-is_ninth : goal.returns-then-is_ninth
returns-then-is_ninth t c x =
    walked-ninth (c.loop-k.invariant x) (rw c.word_at-word.ensures at (sym c.arity_of.ensures ∙ c.in-Some.is)) (omega arith) (c.from-head.ensures ∙ ap (λ (w : ℕ). w / 256) c.word_at-word.ensures)
    (x.long ∙ sym c.bodies_of.ensures) c.is_ninth.ensures c.if-is_ninth.true

pub overflow_add-deepest : goal.overflow_add-deepest
overflow_add-deepest t c = let s = (c.loop-k.invariant c.requires.under.held).shallow in let u = c.requires.few in omega arith

pub conclude-requires : goal.conclude-requires
conclude-requires t c =
    let n = c.if-n-eq0.false in let e = c.loop-k-test.false in
    ready c.requires c.loop-k.invariant (λ y. n (omega arith))

pub returns : goal.returns
returns t c x =
    walked_all (c.loop-k.invariant x) (rw c.word_at-word.ensures at (sym c.arity_of.ensures ∙ c.in-Some.is)) (omega arith) (c.from-head.ensures ∙ ap (λ (w : ℕ). w / 256) c.word_at-word.ensures)
    (x.long ∙ sym c.bodies_of.ensures) c.is_ninth.ensures c.if-is_ninth.false c.if-n-eq0.false c.conclude.ensures c.settled-2.ensures

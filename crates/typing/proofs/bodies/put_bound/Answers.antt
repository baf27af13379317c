-- The record is found by its links; the words before it go to the top.
use mathlib.Core.Path.{sym, ◌∙◌}
use native.Mathlib.Omega.{arith}
use borrow.Author.Rules.{rules}
use Prim.Native.Nat.{◌+◌, ◌≤◌}
use Rattle.typing.proofs.Binding.{chain-low, bound-past, bound-room, bound-none, bound_some, within-laid}
use Rattle.typing.proofs.bodies.put_bound.Goals as goal

pub returns-then-not-is_in_reach : goal.returns-then-not-is_in_reach
returns-then-not-is_in_reach c types x = bound-past x _ (rw c.bodies_of.ensures at (sym c.is_in_reach.ensures ∙ c.if-not-is_in_reach.true))

pub record_at-at-requires : goal.record_at-at-requires
record_at-at-requires c = let h = c.requires in let l = chain-low h.2.1.chain in let e = c.inner_of.ensures in omega arith

pub overflow_sub-at : goal.overflow_sub-at
overflow_sub-at c =
    (bound-room c.requires.2.1 _ c.bodies_of.ensures c.is_in_reach.ensures c.if-not-is_in_reach.false c.inner_of.ensures c.record_at-at.ensures (c.from-n.ensures ∙ c.word_at.ensures)).1

pub returns-then-n-eq0 : goal.returns-then-n-eq0
returns-then-n-eq0 c types x =
    bound-none x _ c.bodies_of.ensures c.is_in_reach.ensures c.if-not-is_in_reach.false c.inner_of.ensures c.record_at-at.ensures (c.from-n.ensures ∙ c.word_at.ensures) c.if-n-eq0.true c.requires.0

pub copy_within-requires : goal.copy_within-requires
copy_within-requires c =
    let r : (c.record_at-at.result + 2 ≤ c.args.top) × (c.from-n.result ≤ c.record_at-at.result) × (c.from-n.result ≤ 63) =
    bound-room c.requires.2.1 _ c.bodies_of.ensures c.is_in_reach.ensures c.if-not-is_in_reach.false c.inner_of.ensures c.record_at-at.ensures (c.from-n.ensures ∙ c.word_at.ensures) in
    let h = c.requires in
    record { start_le_end = omega arith; in_bounds = omega arith; dest_in_bounds = omega arith; not_exhausted = search rules }

pub returns : goal.returns
returns c types x =
    let r : (c.record_at-at.result + 2 ≤ c.args.top) × (c.from-n.result ≤ c.record_at-at.result) × (c.from-n.result ≤ 63) =
    bound-room c.requires.2.1 _ c.bodies_of.ensures c.is_in_reach.ensures c.if-not-is_in_reach.false c.inner_of.ensures c.record_at-at.ensures (c.from-n.ensures ∙ c.word_at.ensures) in
    let h = c.requires in
    bound_some x _ c.bodies_of.ensures c.is_in_reach.ensures c.if-not-is_in_reach.false c.inner_of.ensures c.record_at-at.ensures (c.from-n.ensures ∙ c.word_at.ensures) c.if-n-eq0.false c.requires.0
    (c.copy_within.ensures.after ∙ within-laid c.args.stack.now c.record_at-at.result c.from-n.result c.args.top (omega arith) (omega arith) (omega arith))

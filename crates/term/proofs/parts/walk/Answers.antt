use mathlib.Core.Path.{◌≡◌, refl, sym, ◌∙◌}
use mathlib.Core.List.{◌++◌}
use Prim.Native.Nat.{◌+◌, ◌-◌, max}
use native.Mathlib.Omega.{arith}
use lib.ListN.{length-set, length-append}
use Rattle.std.proofs.Common.{rules}
use Rattle.term.proofs.Scan.{arity_inside}
use Rattle.term.proofs.Extents.{walked-begin, walked_end, walked-close, walked_missing, walked_open}
use Rattle.term.proofs.Rows.{walked_over}
use Rattle.term.proofs.parts.walk.Goals as goal

pub loop-left-init : goal.loop-left-init
loop-left-init c = (refl, walked-begin)

pub returns-then-level-eq0 : goal.returns-then-level-eq0
returns-then-level-eq0 c =
    let loop = c.loop-left in
    let z : loop.level ≡ 0 = c.if-level-eq0.true in
    walked_end (rw (c.if-left-eq0.true, z) at loop.invariant.1)

pub loop-left-preserved-then-left-eq0 : goal.loop-left-preserved-then-left-eq0
loop-left-preserved-then-left-eq0 c =
    let loop = c.loop-left in
    (loop.invariant.0, walked-close (rw c.if-left-eq0.true at loop.invariant.1) (omega arith) _ c.from-left.ensures (omega arith))

pub returns-in_default : goal.returns-in_default
returns-in_default c = walked_missing c.loop-left.invariant.1 c.if-left-eq0.false (sym c.arity_at.ensures ∙ c.in_default.is)

pub overflow_add-i : goal.overflow_add-i
overflow_add-i c =
    let args = c.args in
    omega (arith, arity_inside (args.front.now ++ args.back.now) c.loop-left.i c.in-Some.n (sym c.arity_at.ensures ∙ c.in-Some.is), length-append args.front.now args.back.now)

pub are_leaves-requires : goal.are_leaves-requires
are_leaves-requires c =
    let args = c.args in
    omega (arith, arity_inside (args.front.now ++ args.back.now) c.loop-left.i c.in-Some.n (sym c.arity_at.ensures ∙ c.in-Some.is), length-append args.front.now args.back.now)

pub loop-left-preserved-then-are_leaves : goal.loop-left-preserved-then-are_leaves
loop-left-preserved-then-are_leaves c =
    let loop = c.loop-left in
    let args = c.args in
    let wanted = sym c.arity_at.ensures ∙ c.in-Some.is in
    let leaves = c.are_leaves.ensures c.if-are_leaves.true in
    let w = walked_over loop.invariant.1 c.if-left-eq0.false _ (arity_inside _ _ _ wanted) (omega (arith, leaves.0, length-append args.front.now args.back.now)) wanted leaves.1 in
    let deeper : c.max-deepest.result ≡ max loop.deepest (loop.level + c.depth_over.result) = search rules in
    (loop.invariant.0, rw (deeper, c.depth_over.ensures.0) w)

pub loop-left-smaller : goal.loop-left-smaller
loop-left-smaller c =
    let args = c.args in
    omega (arith, arity_inside (args.front.now ++ args.back.now) c.loop-left.i c.in-Some.n (sym c.arity_at.ensures ∙ c.in-Some.is), length-append args.front.now args.back.now)

pub loop-left-preserved : goal.loop-left-preserved
loop-left-preserved c =
    let loop = c.loop-left in
    let wanted = sym c.arity_at.ensures ∙ c.in-Some.is in
    let deeper : c.max-deepest-else-are_leaves.result ≡ max loop.deepest (loop.level + 1) = search rules in (
      length-set loop.outer loop.level (loop.left - 1) ∙ loop.invariant.0,
      rw deeper (walked_open loop.invariant.1 c.if-left-eq0.false (arity_inside _ _ _ wanted) _ wanted (omega arith)),
    )

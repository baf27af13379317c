use mathlib.Core.Path.{◌≡◌, sym, ◌∙◌}
use Prim.Native.Nat.{◌+◌, ◌-◌}
use native.Mathlib.Omega.{arith}
use lib.ListN.{length}
use Rattle.term.specs.Parts.{part}
use Rattle.term.proofs.Scan.{end-begin, end_more, end-done, end-unknown, end_short, part-past, children_few}
use Rattle.term.proofs.Rows.{end_leaves}
use Rattle.term.proofs.parts.part_end.Goals as goal

pub returns-then-ws-at : goal.returns-then-ws-at
returns-then-ws-at c =
    let e : length (part c.args.ws.now c.args.at) ≡ 0 = part-past _ _ c.if-ws-at.true in
    omega arith

pub loop-need-init : goal.loop-need-init
loop-need-init c = (omega arith, end-begin _ _)

pub returns-then-ws-i : goal.returns-then-ws-i
returns-then-ws-i c =
    let loop = c.loop-need in
    sym (loop.invariant.1 ∙ end_short _ _ loop.i loop.need c.if-ws-i.true)

pub returns-in_default : goal.returns-in_default
returns-in_default c =
    let loop = c.loop-need in
    sym (loop.invariant.1 ∙ end-unknown _ _ loop.i loop.need (omega arith) (omega arith) (sym c.arity_of.ensures ∙ c.in_default.is))

pub loop-need-preserved-then-is_row : goal.loop-need-preserved-then-is_row
loop-need-preserved-then-is_row c =
    let loop = c.loop-need in
    let args = c.args in
    let n = c.in-Some.n in
    let row = c.is_row.ensures c.if-is_row.true in
    let one = end_more args.ws.now args.at loop.i loop.need n (omega arith) (omega arith) (sym c.arity_of.ensures ∙ c.in-Some.is) in
    let more = end_leaves args.ws.now args.at (loop.i + 1) (loop.need - 1 + n) n row.0 (omega arith) row.1 in
    let still : loop.need - 1 + n - n ≡ loop.need - 1 = omega arith in
    (row.0, loop.invariant.1 ∙ one ∙ (rw still at more))

pub overflow_add-need : goal.overflow_add-need
overflow_add-need c = omega (arith, children_few _ _ (sym c.arity_of.ensures ∙ c.in-Some.is))

pub loop-need-preserved : goal.loop-need-preserved
loop-need-preserved c =
    let loop = c.loop-need in
    (omega arith, loop.invariant.1 ∙ end_more _ _ loop.i loop.need _ (omega arith) (omega arith) (sym c.arity_of.ensures ∙ c.in-Some.is))

pub returns : goal.returns
returns c =
    let loop = c.loop-need in
    let z : loop.need ≡ 0 = omega arith in
    sym (loop.invariant.1 ∙ (rw z (end-done _ _ _)))

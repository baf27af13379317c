use native.Mathlib.Omega.{arith}
use Rattle.shapes.proofs.Walks.{walk_begin, walk_end, walk_unknown, walk_whole, walk_first, walk_other, walk_found, walk_body}
use Rattle.shapes.proofs.binder_of.Goals as goal
use Rattle.shapes.proofs.binder_of.Goals.{else-is_body-via-then-is_body+else-word-eq27, else-is_body-via-else-is_body}

pub loop-i-init : goal.loop-i-init
loop-i-init c = walk_begin _ _ _

pub overflow_add-parts : goal.overflow_add-parts
overflow_add-parts c = omega (arith, c.loop-i.invariant.few)

pub loop-i-preserved-then-n-parts : goal.loop-i-preserved-then-n-parts
loop-i-preserved-then-n-parts c = walk_whole c.loop-i.invariant c.loop-i-test.true c.word_at-word.ensures c.arity_of.ensures c.in-Some.is c.if-n-parts.true

pub returns-then-left-eq0 : goal.returns-then-left-eq0
returns-then-left-eq0 c =
    walk_found c.loop-i.invariant c.loop-i-test.true c.word_at-word.ensures c.arity_of.ensures c.in-Some.is (omega arith) c.if-is_body.true c.if-word-eq27.true c.if-left-eq0.true

pub loop-i-preserved-then-word-eq27 : goal.loop-i-preserved-then-word-eq27
loop-i-preserved-then-word-eq27 c =
    walk_body c.loop-i.invariant c.loop-i-test.true c.word_at-word.ensures c.arity_of.ensures c.in-Some.is (omega arith) c.if-is_body.true c.if-word-eq27.true c.if-left-eq0.false

pub loop-i-preserved-else-is_body : goal.loop-i-preserved-else-is_body
loop-i-preserved-else-is_body c = elim c.else-is_body.branch [
  | else-is_body-via-then-is_body+else-word-eq27 w ↦ walk_other c.loop-i.invariant c.loop-i-test.true c.word_at-word.ensures c.arity_of.ensures c.in-Some.is (omega arith) w.if-is_body.true w.if-word-eq27.false
  | else-is_body-via-else-is_body w ↦ walk_first c.loop-i.invariant c.loop-i-test.true c.word_at-word.ensures c.arity_of.ensures c.in-Some.is (omega arith) w.if-is_body.false
]

pub loop-i-preserved : goal.loop-i-preserved
loop-i-preserved c = walk_unknown c.loop-i.invariant c.loop-i-test.true c.word_at-word.ensures c.arity_of.ensures c.in_default.is

pub returns : goal.returns
returns c = walk_end _ _ _ _ _ _ c.loop-i.invariant (omega arith)

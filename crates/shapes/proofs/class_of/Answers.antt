use mathlib.Core.Path.{ap}
use Rattle.typebook.specs.Code.Shapes.{number_of}
use native.Mathlib.Omega.{arith}
use Rattle.shapes.proofs.Steps.{there, class-begun, class-none, class_variable, class_head, class-child}
use Rattle.shapes.proofs.class_of.Goals as goal

pub loop-init : goal.loop-init
loop-init c = class-begun _ _ _ _

pub returns-then-head-eq26 : goal.returns-then-head-eq26
returns-then-head-eq26 c = class_variable c.loop.invariant (omega arith) c.word_at-word.ensures (rw c.from-head.ensures at c.if-head-eq26.true) (rw c.from.ensures at c.variable_class.ensures) c.turn_if.ensures

pub returns-then-whose-eq0 : goal.returns-then-whose-eq0
returns-then-whose-eq0 c =
    class_head c.loop.invariant (omega arith) c.word_at-word.ensures (rw c.from-head.ensures at c.if-head-eq26.false) (rw c.from-head.ensures at c.rule_of.ensures)
    c.if-whose-eq0.true (ap number_of (rw c.from-head.ensures at c.result_class.ensures)) c.turn_if-then-whose-eq0.ensures

pub child_at-at-requires : goal.child_at-at-requires
child_at-at-requires c = there c.args.ws.now c.loop.at c.word_at-word.ensures (rw c.from-head.ensures at c.rule_of.ensures) (λ z. c.if-whose-eq0.false (rw z))

pub loop-preserved : goal.loop-preserved
loop-preserved c = class-child c.loop.invariant (omega arith) c.word_at-word.ensures (rw c.from-head.ensures at c.if-head-eq26.false) (rw c.from-head.ensures at c.rule_of.ensures) c.if-whose-eq0.false c.child_at-at.ensures

pub returns : goal.returns
returns c = class-none c.loop.invariant (omega arith)

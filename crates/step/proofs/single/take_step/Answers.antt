-- Typing decides what is refused before a step; the step is taken on the slice with zeros behind its term.
use mathlib.Core.Path.{sym, ◌∙◌, ap}
use borrow.Author.Tests.{ne_eqb}
use Rattle.std.specs.Prelude.{Ok, Err}
use Rattle.typing.specs.declared.terms.Typing.{Typing}
use Rattle.words.proofs.Runs.{cleared_twice}
use Rattle.step.proofs.Taking.{inside-slice, untouched, all-zeros, cleared-accepted, entry_done, some_code}
use Rattle.step.proofs.single.take_step.Goals as goal

pub returns-then-typing-eq1 : goal.returns-then-typing-eq1
returns-then-typing-eq1 c = untouched _ _ _ _ _ _ c.type_term-typing.ensures c.refused_with.ensures c.if-typing-eq1.true

pub returns-then-typing-ne0 : goal.returns-then-typing-ne0
returns-then-typing-ne0 c =
    all-zeros _ _ _ _ _ _ c.type_term-typing.ensures c.refused_with-then-typing-ne0.ensures _ c.clear_from.ensures c.if-typing-ne0.true c.if-typing-eq1.false

pub step_on-requires : goal.step_on-requires
step_on-requires c =
    let e = ap (λ (t : Typing). t.code) c.type_term-typing.ensures in
    let a = sym e ∙ c.if-typing-ne0.false in
    let z = c.clear_from-2.ensures in
    (rw z (cleared-accepted _ _ _ a), rw z (cleared_twice _ _ (inside-slice _ _ _ a)))

pub returns-in-Ok : goal.returns-in-Ok
returns-in-Ok c =
    let e = ap (λ (t : Typing). t.code) c.type_term-typing.ensures in
    entry_done _ _ _ (sym e ∙ c.if-typing-ne0.false) _ (Ok _) _ _ c.clear_from-2.ensures c.in-Ok.ensures

pub returns-in-Err : goal.returns-in-Err
returns-in-Err c =
    let e = ap (λ (t : Typing). t.code) c.type_term-typing.ensures in
    let z = ne_eqb _ 0 (some_code c.in-Err.refusal) in
    rw c.code.ensures (rw z at (entry_done _ _ _ (sym e ∙ c.if-typing-ne0.false) _ (Err c.in-Err.refusal) _ _ c.clear_from-2.ensures c.in-Err.ensures))

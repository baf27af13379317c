use mathlib.Core.Path.{sym, ◌∙◌}
use Prim.Native.Nat.{◌<◌}
use native.Mathlib.Omega.{arith}
use lib.ListN.{length}
use Rattle.std.proofs.lemmas.Result.{err_from_is_err_and}
use Rattle.typing.proofs.Straying.{headed, bodies-few, past-none, part-there, looked_shallow, looked_unknown, looked_itself, looked_child, looked_on, looked_all}
use Rattle.typing.proofs.strays.+stray_in.Goals as goal

pub returns-then-budget-eq0 : goal.returns-then-budget-eq0
returns-then-budget-eq0 t c = looked_shallow c.if-budget-eq0.true c.requires.0

pub returns-in_default : goal.returns-in_default
returns-in_default t c = looked_unknown (rw c.word_at-word.ensures at (sym c.arity_of.ensures ∙ c.in_default.is)) c.requires.0

pub returns-then-is_stray : goal.returns-then-is_stray
returns-then-is_stray t c = looked_itself (headed c.word_at-word.ensures c.arity_of.ensures c.in-Some.is c.is_stray.ensures) c.if-is_stray.true c.requires.0

pub loop-k-init : goal.loop-k-init
loop-k-init t c =
    let h : c.args.at < length c.args.ws.now = part-there (headed c.word_at-word.ensures c.arity_of.ensures c.in-Some.is c.is_stray.ensures) in
    (omega arith, λ R d. past-none _ _ _ R)

pub stray_in-requires : goal.stray_in-requires
stray_in-requires t c =
    let h = c.requires in let z = c.if-budget-eq0.false in let e = c.bodies_in.ensures in
    (omega arith, (c.loop-k.invariant.0, h.1, omega (arith, bodies-few c.word_at-word.result c.loop-k.k c.args.bodies)))

pub returns-in_err-next : goal.returns-in_err-next
returns-in_err-next t c =
    let p = err_from_is_err_and c.from_residual.result c.from_residual.ensures.1 in
    rw (p.1, p.2) (looked_child (headed c.word_at-word.ensures c.arity_of.ensures c.in-Some.is c.is_stray.ensures) c.if-is_stray.false c.loop-k.invariant.1 c.loop-k-test.true
    c.bodies_in.ensures c.in_err-next.ensures)

pub loop-k-preserved : goal.loop-k-preserved
loop-k-preserved t c =
    let turn = c.in_ok-next.ensures in
    (turn.inside, looked_on (headed c.word_at-word.ensures c.arity_of.ensures c.in-Some.is c.is_stray.ensures) c.if-is_stray.false c.loop-k.invariant.1 c.loop-k-test.true c.bodies_in.ensures turn)

pub returns : goal.returns
returns t c =
    looked_all (headed c.word_at-word.ensures c.arity_of.ensures c.in-Some.is c.is_stray.ensures) c.if-is_stray.false c.loop-k.invariant.1 c.loop-k-test.false c.loop-k.invariant.0

use mathlib.Core.Path.{◌≡◌, sym, ◌∙◌}
use mathlib.Core.List.{map, reverse}
use Prim.Native.Nat.{min}
use native.Mathlib.Omega.{arith}
use lib.ListN.{length, take}
use Rattle.std.proofs.Common.{rules}
use Rattle.std.proofs.lemmas.List.{map-append, take_min}
use Rattle.std.proofs.lemmas.Iterator.Adapters.{YieldsList-from_rev_slice}
use Rattle.std.proofs.lemmas.Iterator.Consumers.{YieldsList-end}
use Rattle.std.specs.Prelude.{Some, None}
use Rattle.term.specs.Heads.{arity_of}
use Rattle.term.proofs.Levels.{back-begin, back_end, back_below, back_whole, back-unknown}
use Rattle.term.proofs.parts.level_at.Goals as goal

pub loop-word-init : goal.loop-word-init
loop-word-init c = (tt, tt, back-begin)

pub loop-word-preserved-then-parts-n : goal.loop-word-preserved-then-parts-n
loop-word-preserved-then-parts-n c =
    let wanted : arity_of c.in-Some.field-0.now ≡ Some c.in-Some-arity_of.n = sym c.arity_of.ensures ∙ c.in-Some-arity_of.is in
    (tt, tt, rw map-append (back_below c.loop-word.invariant.2 _ _ wanted c.if-parts-n.true))

pub loop-word-preserved-else-parts-n : goal.loop-word-preserved-else-parts-n
loop-word-preserved-else-parts-n c =
    let wanted : arity_of c.in-Some.field-0.now ≡ Some c.in-Some-arity_of.n = sym c.arity_of.ensures ∙ c.in-Some-arity_of.is in
    (tt, tt, rw map-append (back_whole c.loop-word.invariant.2 _ _ wanted (omega arith)))

pub loop-word-preserved : goal.loop-word-preserved
loop-word-preserved c =
    let wanted : arity_of c.in-Some.field-0.now ≡ None = sym c.arity_of.ensures ∙ c.in_default.is in
    (tt, tt, rw map-append (back-unknown c.loop-word.invariant.2 _ wanted))

pub returns : goal.returns
returns c =
    let args = c.args in
    let loop = c.loop-word in
    let least : c.min.result ≡ min args.at (length args.ws.now) = search rules in
    let seen : map (λ w. w.now) loop.yielded ≡ reverse (take c.min.result args.ws.now) = (YieldsList-end (YieldsList-from_rev_slice (take c.min.result args.ws.now) (cc)) loop.yielded loop.word-iterator loop.yielded_by c.next.result c.next.new.self c.in-None.is c.next.ensures.steps).0 in
    back_end args.ws.now args.at (rw (seen, least, take_min args.at args.ws.now) at loop.invariant.2)

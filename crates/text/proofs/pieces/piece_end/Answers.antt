-- The byte is found, or is not there, or is looked for from the next on.
use mathlib.Core.Path.{◌≡◌, refl, sym, ◌∙◌}
use native.Mathlib.Omega.{arith}
use Rattle.text.proofs.Scanned.{end-past, end-found, end_more}
use Rattle.text.proofs.pieces.piece_end.Goals as goal

pub loop-i-init : goal.loop-i-init
loop-i-init c = (omega arith, refl)

pub returns-then-text-i : goal.returns-then-text-i
returns-then-text-i c = end-found _ _ _ c.loop-i-test.true c.if-text-i.true ∙ sym c.loop-i.invariant.1

pub loop-i-preserved : goal.loop-i-preserved
loop-i-preserved c = (omega arith, c.loop-i.invariant.1 ∙ end_more _ _ _ c.loop-i-test.true c.if-text-i.false)

pub returns : goal.returns
returns c =
    let inv = c.loop-i.invariant in
    let end : c.max.result ≡ c.loop-i.i = let m = c.max.ensures in let l = c.loop-i.auto.i in let e = c.loop-i-test.false in let i = inv.0 in omega arith in
    end ∙ end-past _ _ _ c.loop-i-test.false ∙ sym inv.1

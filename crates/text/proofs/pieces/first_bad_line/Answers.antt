use mathlib.Core.Path.{refl, sym, ◌∙◌}
use native.Mathlib.Omega.{arith}
use Rattle.text.proofs.Scanned.{bad_feed, bad-fine, bad-found, bad-end}
use Rattle.text.proofs.pieces.first_bad_line.Goals as goal
use Rattle.text.proofs.pieces.first_bad_line.Goals.{then-byte-eq10, else-byte-eq10+then-is_printable}

pub loop-byte-init : goal.loop-byte-init
loop-byte-init c = (omega arith, omega arith, refl)

pub returns-else-is_printable : goal.returns-else-is_printable
returns-else-is_printable c =
    let loop = c.loop-byte in
    sym (loop.invariant.2 ∙ bad-found _ _ _ loop.byte-index (omega arith) c.if-byte-eq10.false (sym c.is_printable.ensures ∙ c.if-is_printable.false))

pub loop-byte-preserved : goal.loop-byte-preserved
loop-byte-preserved c =
    let inv = c.loop-byte.invariant in
    let i = c.loop-byte.byte-index in
    elim c.if-byte-eq10.branch [
      | then-byte-eq10 w ↦ (omega arith, omega arith, inv.2 ∙ bad_feed _ _ _ i (omega arith) w.if-byte-eq10.true ∙ rw (w.line-is, w.ended-is))
      | else-byte-eq10+then-is_printable w ↦
          (omega arith, omega arith, inv.2 ∙ bad-fine _ _ _ i (omega arith) w.if-byte-eq10.false (sym w.is_printable.ensures ∙ w.if-is_printable.true) ∙ rw (w.line-is, w.ended-is))
    ]

pub returns-then-ended : goal.returns-then-ended
returns-then-ended c = sym (c.loop-byte.invariant.2 ∙ bad-end _ _ _ c.loop-byte.byte-index c.loop-byte-test.false ∙ rw c.if-ended.true)

pub returns-else-ended : goal.returns-else-ended
returns-else-ended c = sym (c.loop-byte.invariant.2 ∙ bad-end _ _ _ c.loop-byte.byte-index c.loop-byte-test.false ∙ rw c.if-ended.false)

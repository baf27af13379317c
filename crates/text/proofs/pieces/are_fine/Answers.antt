use mathlib.Core.Path.{refl, sym, ◌∙◌}
use native.Mathlib.Omega.{arith}
use Rattle.text.proofs.Scanned.{fine_more, fine_end}
use Rattle.text.proofs.pieces.are_fine.Goals as goal

pub loop-byte-init : goal.loop-byte-init
loop-byte-init c = refl

pub loop-byte-preserved : goal.loop-byte-preserved
loop-byte-preserved c =
    let loop = c.loop-byte in
    loop.invariant ∙ fine_more loop.fine _ loop.byte-index (omega arith) ∙ rw c.is_fine-fine.ensures

pub returns : goal.returns
returns c =
    let loop = c.loop-byte in
    sym (loop.invariant ∙ fine_end loop.fine _ loop.byte-index (omega arith))

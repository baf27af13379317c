use mathlib.Core.Path.{◌≡◌, sym, ◌∙◌}
use Prim.Native.Nat.{min}
use native.Mathlib.Omega.{arith}
use lib.ListN.{length}
use Rattle.words.proofs.Runs.{overlaid-is, copied_more}
use Rattle.words.proofs.copy_words.Goals as goal

pub loop-i-preserved : goal.loop-i-preserved
loop-i-preserved c = let loop = c.loop-i in let a = c.args in cc (copied_more a.dst.now a.src.now loop.i (omega arith) (omega arith))

pub returns : goal.returns
returns c =
    let loop = c.loop-i in
    let args = c.args in
    let z : loop.i ≡ min (length args.dst.now) (length args.src.now) = omega arith in
    (c.min-n.ensures, loop.invariant ∙ sym (overlaid-is _ _ _ z))

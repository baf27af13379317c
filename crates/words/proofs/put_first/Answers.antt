use mathlib.Core.Path.{◌≡◌, ◌∙◌}
use mathlib.Core.List.{◌∷◌, append-nil}
use lib.ListN.{length}
use Rattle.std.proofs.Math.Seq.{drop-length}
use native.Mathlib.Omega.{arith}
use Rattle.words.proofs.Runs.{carried_on, copied_more}
use Rattle.words.proofs.put_first.Goals as goal

pub loop-i-preserved : goal.loop-i-preserved
loop-i-preserved c =
    let loop = c.loop-i in
    let a = c.args in
    (rw (loop.invariant.0, loop.invariant.1) (copied_more a.row.now (a.word ∷ a.row.now) loop.i (omega arith) (omega arith)), rw loop.invariant.0 (carried_on a.row.now a.word loop.i (omega arith)))

pub returns : goal.returns
returns c =
    let row = c.args.row.now in
    let z : c.loop-i.i ≡ length row = omega arith in
    c.loop-i.invariant.0 ∙ rw (z, drop-length row, append-nil)

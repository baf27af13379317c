-- The invariant: what is left of the reading is the reading of the lines from the reader's place on (`Standing`).
use Prim.Native.Nat.{◌-◌}
use lib.ListN.{length}
use Rattle.reader.proofs.Walked.{Standing}
use Rattle.reader.proofs.files.read_lines.Given as goal

abbrev pub invariant-loop-reader : goal.invariant-loop-reader
invariant-loop-reader l = Standing l.bytes l.reader l.line l.s l.ds l.left l.right l.steps

abbrev pub decreases-loop-reader : goal.decreases-loop-reader
decreases-loop-reader l = length l.bytes - l.reader.at

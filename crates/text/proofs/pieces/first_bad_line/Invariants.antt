-- The invariant: the fault that is asked for is the first from `i` on, where line `line` goes on, or begins straight behind a LF.
use mathlib.Core.Path.{◌≡◌}
use Prim.Native.Nat.{◌+◌, ◌≤◌}
use mathlib.Core.Bool.{false}
use lib.ListN.{length, drop}
use Rattle.text.specs.Bytes.{bad_line}
use Rattle.text.proofs.pieces.first_bad_line.Given as goal

abbrev pub invariant-loop-byte : goal.invariant-loop-byte
invariant-loop-byte l = (l.line ≤ l.byte-index + 1) × (l.byte-index ≤ length l.bytes) × (bad_line 1 false l.bytes ≡ bad_line l.line l.ended (drop l.byte-index l.bytes))

-- The invariant: all bytes are fine where those before `i` are, and those from `i` on.
use mathlib.Core.Path.{◌≡◌}
use mathlib.Core.Bool.{◌&&◌}
use lib.ListN.{drop}
use Rattle.text.specs.Bytes.{all_fine}
use Rattle.text.proofs.pieces.are_fine.Given as goal

abbrev pub invariant-loop-byte : goal.invariant-loop-byte
invariant-loop-byte l = (all_fine l.bytes ≡ (l.fine && all_fine (drop l.byte-index l.bytes)))

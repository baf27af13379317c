-- The invariant: from `i` on the piece has the same end.
use mathlib.Core.Path.{◌≡◌}
use Prim.Native.Nat.{◌≤◌, max}
use lib.ListN.{length}
use Rattle.text.specs.Pieces.{piece_end}
use Rattle.text.proofs.pieces.piece_end.Given as goal

abbrev pub invariant-loop-i : goal.invariant-loop-i
invariant-loop-i l = (l.i ≤ max l.at (length l.text)) × (piece_end l.text l.at l.b ≡ piece_end l.text l.i l.b)

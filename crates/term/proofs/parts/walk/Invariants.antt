-- The invariant: what is asked for is where the walk from here on ends. The measure counts a word twice, since what it opens is closed again.
use mathlib.Core.Path.{◌≡◌}
use mathlib.Core.List.{◌++◌}
use Prim.Native.Nat.{◌+◌, ◌-◌, ◌*◌}
use lib.ListN.{length}
use Rattle.term.proofs.Extents.{Walked}
use Rattle.term.proofs.parts.walk.Given as goal

abbrev pub invariant-loop-left : goal.invariant-loop-left
invariant-loop-left l = (length l.outer ≡ length l.initial.outer) × Walked (l.front ++ l.back) l.at l.outer l.left l.level l.deepest l.i

abbrev pub decreases-loop-left : goal.decreases-loop-left
decreases-loop-left l = (length l.front + length l.back - l.i) * 2 + l.level

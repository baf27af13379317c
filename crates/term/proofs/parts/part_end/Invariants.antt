-- The invariant: so many parts are still to come at `i`, and the end asked for is behind them. The measure is what is left of the words.
use mathlib.Core.Path.{◌≡◌}
use Prim.Native.Nat.{◌+◌, ◌-◌, ◌≤◌}
use lib.ListN.{length, drop}
use Rattle.term.specs.Parts.{part, chop, parse}
use Rattle.term.proofs.Scan.{end_by}
use Rattle.term.proofs.parts.part_end.Given as goal

abbrev pub invariant-loop-need : goal.invariant-loop-need
invariant-loop-need l = (l.i ≤ length l.ws) × (l.at + length (part l.ws l.at) ≡ end_by l.at l.i (chop l.need (parse (drop l.i l.ws))))

abbrev pub decreases-loop-need : goal.decreases-loop-need
decreases-loop-need l = length l.ws - l.i

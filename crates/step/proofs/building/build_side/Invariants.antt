-- The invariant: the pieces of the words that were passed are written.
use mathlib.Core.Path.{◌≡◌}
use mathlib.Core.Logic.{◌⊎◌}
use mathlib.Core.Bool.{true}
use lib.ListN.{length, take}
use Rattle.words.specs.Words.{Added}
use Rattle.declarations.specs.Declarations.{context_at}
use Rattle.shapes.specs.Bodies.{outer_at}
use Rattle.step.specs.Code.Building.{pieces, indexless, Caught, AllSorted}
use Rattle.step.proofs.building.build_side.Given as goal

abbrev pub invariant-loop-word : goal.invariant-loop-word
invariant-loop-word l = record {
  size : length l.out ≡ length l.initial.out;
  written : (x : Caught l.ds l.view.ws.now l.found) → x.outer ≡ outer_at l.view.term.now l.view.place → (indexless l.side ≡ true) ⊎ AllSorted x
      → Added l.initial.out 0 (pieces (context_at l.ds x.bodies) x.trees (take l.word-index l.side)) l.out l.done;
}

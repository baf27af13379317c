-- The invariant: what is left of the whole run is the run of the steps from `k` on, on the sides that the slices hold.
use mathlib.Core.Path.{◌≡◌}
use lib.ListN.{length}
use Rattle.types.specs.Sorts.{Sort}
use Rattle.declarations.specs.Declarations.{context_in}
use Rattle.rules.specs.Steps.{Sides}
use Rattle.step.specs.Code.Running.{Ready}
use Rattle.step.specs.Runs.{run_from}
use Rattle.step.proofs.running.take_from.Given as goal

abbrev pub invariant-loop-k : goal.invariant-loop-k
invariant-loop-k l = record {
  left_size : length l.left ≡ length l.initial.left;
  right_size : length l.right ≡ length l.initial.right;
  rest : (p : Sides) (S : Sort) → Ready l.ds l.initial.left l.initial.right l.fn.begun p S
      → (q : Sides) × Ready l.ds l.left l.right l.long q S × (run_from (context_in l.ds) p l.steps l.from l.to ≡ run_from (context_in l.ds) q l.steps l.k l.to);
}

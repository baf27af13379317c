-- What the run of a file's words can decide: nothing that the reading has already refused.
use mathlib.Core.Path.{◌≡◌}
use mathlib.Core.List.{List}
use Prim.Native.Nat.{ℕ, ◌≤◌}
use native.Mathlib.Omega.{arith}
use Rattle.types.specs.Sorts.{Sort}
use Rattle.rules.specs.Steps.{Sides}
use Rattle.lent.specs.Refusals.{Refused, Begun}
use Rattle.lent.proofs.Judging.{refused-codes}
use Rattle.format.specs.Files.{File, InOrder}
use Rattle.format.proofs.Stepped.{steps_in_order}
use Rattle.step.specs.declared.run.Answer as A
use Rattle.step.specs.Derivations as D
use Rattle.file.specs.Replays.{derivation_of}
use Rattle.file.specs.Files.{LateCode, of_types, of_step, of_ends, of_none, RunDecides, PastTypes}
use Rattle.file.proofs.Late.{not_between, stopped_code}
use Rattle.file.proofs.Sides.{side-held}

module _ (f : File) (o : InOrder f) where
  abbrev Refuses : ℕ → ℕ → ℕ → Type 0
  Refuses = Refused (derivation_of f)

  abbrev Begins : Sides → Sort → Type 0
  Begins = Begun (derivation_of f)

  refused-code : {c s k : ℕ} → Refuses c s k → (10 ≤ c) × (c ≤ 13)
  refused-code x = (refused-codes x).1 _ _ (side-held f o f.left o.left).1 (side-held f o f.right o.right).1 (steps_in_order f o.few_steps)

  -- the codes of a file of the form
  pub run-code : {a : A.Answer} {l r : List ℕ} → RunDecides f a l r → LateCode a.code
  run-code (D.untouched x) = absurd (omega (arith, refused-code x))
  run-code (D.refused h x) = let k = refused-code x in of_types k.0 k.1
  run-code (D.stopped b s) = let k = stopped_code s in of_step k.0 k.1
  run-code (D.differ b t d) = of_ends
  run-code (D.accepted a) = of_none

  -- accepted, or refused only at a step or because the ends differ: it began
  pub run_begun : {a : A.Answer} {l r : List ℕ} → RunDecides f a l r → PastTypes a.code → (p : Sides) × (S : Sort) × Begins p S
  run_begun (D.untouched x) e = absurd (not_between e (omega (arith, refused-code x)))
  run_begun (D.refused h x) e = absurd (not_between e (omega (arith, refused-code x)))
  run_begun (D.stopped b s) e = (_, _, b)
  run_begun (D.differ b t d) e = (_, _, b)
  run_begun (D.accepted a) e = (a.start, a.sort, record { left_term = a.left_term; right_term = a.right_term; order = a.order })

  pub run-accepted : {a : A.Answer} {l r : List ℕ} → RunDecides f a l r → a.code ≡ 0 → D.Accepted (derivation_of f)
  run-accepted (D.untouched x) e = absurd (omega arith)
  run-accepted (D.refused h x) e = absurd (omega (arith, refused-code x))
  run-accepted (D.stopped b s) e = absurd (omega (arith, stopped_code s))
  run-accepted (D.differ b t d) e = absurd (omega arith)
  run-accepted (D.accepted a) e = a

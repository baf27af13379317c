-- Steps, lists of steps and runs keep type and meaning.
use mathlib.Core.Bool.{Bool, true, false, cond}
use mathlib.Core.List.{List, [], ◌∷◌}
use Prim.Native.Nat.{ℕ, ◌+◌}
use lib.Dec.{eqb}
use Rattle.algebra.specs.Semirings.{Arithmetic, StarSemiring}
use Rattle.term.specs.declared.parts.Side.{Side}
use Rattle.term.specs.declared.parts.Side.TheVariants.{Left, Right}
use Rattle.term.specs.Trees.{Tree}
use Rattle.types.specs.Sorts.{Sort, Context}
use Rattle.types.specs.Inside.{inside}
use Rattle.types.specs.Rules.{◌⊢◌∶◌, WellFormed, Typed}
use Rattle.types.proofs.Replace.{part-typed, inside_well, replace-typed}
use Rattle.meaning.specs.Choices.{Choice}
use Rattle.meaning.specs.Meaning.{stands}
use Rattle.meaning.specs.Sorted.{Fits, Same}
use Rattle.meaning.proofs.Sameness.{same_refl, same_sym, same_trans}
use Rattle.meaning.proofs.Theorems.{same_alike, congruent}
use Rattle.rules.specs.Steps.{Step, step_of, steps_of, Move, Sides, chosen, put, Run, run_of}
use Rattle.rules.specs.Outcomes.{Taken, Outcome, good, no_rule, no_place, no_instance, too_big}
use Rattle.rules.specs.Statements.{StepDecided, StepKeepsType, StepsKeepType, StepsKeepMeaning, RunKeepsMeaning, RunProves}
use Rattle.rules.proofs.AllTypes.{rule-keeps}
use Rattle.rules.proofs.AllMeanings.{rule_means}
use Rattle.rules.proofs.Rules.{decides}
use Rattle.rules.proofs.Formed.{within_term_own}
use Rattle.rules.proofs.Lines.{value}
use Rattle.rules.proofs.Outcomes.{outcome}
use Rattle.rules.proofs.Parts.{rewritten_type}

-- ---- one step
taken-type : {Γ : Context} (W : WellFormed Γ) {S : Sort} {t u : Tree} {s : Step} → Γ ⊢ t ∶ S → Taken Γ t s u → Typed Γ S u
taken-type W {S} {t} {u} {s} d k =
    let p = part-typed W t s.place k.part S d k.there in
    let q = rule-keeps (inside_well W t s.place) s.rule k.r k.rule s.i s.j k.part k.new p.0 k.is p.1 in
    let e = rw (← k.result) at (replace-typed k.part k.new p.0 W t s.place S d k.there p.1 q) in
    record { rules = e; form = within_term_own W e k.limits }

outcome_type : {Γ : Context} (W : WellFormed Γ) {S : Sort} {t u : Tree} {s : Step} {c : ℕ} → Typed Γ S t → Outcome Γ t s c u → Typed Γ S u
outcome_type W d (good u k) = taken-type W d.rules k
outcome_type W d (no_rule e) = d
outcome_type W d (no_place e h) = d
outcome_type W d (no_instance e f h) = d
outcome_type W d (too_big e f x h) = d

module _ {R : Type 0} {𝓐 : Arithmetic R} (𝓡 : StarSemiring 𝓐) {Γ : Context} {χ : Choice R} (W : WellFormed Γ) (F : Fits 𝓐 Γ χ) where
  taken_means : {S : Sort} {t u : Tree} {s : Step} → Γ ⊢ t ∶ S → Taken Γ t s u → Same S (stands 𝓐 Γ χ t) (stands 𝓐 Γ χ u)
  unfolding value
  taken_means {S} {t} {u} {s} d k =
      let p = part-typed W t s.place k.part S d k.there in
      let X = inside_well W t s.place in
      let q = rule-keeps X s.rule k.r k.rule s.i s.j k.part k.new p.0 k.is p.1 in
      let type = rewritten_type X s.rule k.rule k.is p.1 in
      let same : (φ : Choice R) → Fits 𝓐 (inside Γ t s.place) φ → Same p.0 (stands 𝓐 (inside Γ t s.place) φ k.part) (stands 𝓐 (inside Γ t s.place) φ k.new) =
      λ φ G. (same_alike p.0 _ _ type).1 (rule_means 𝓡 X G s.rule k.r k.rule s.i s.j k.part k.new p.0 k.is p.1) in
      rw k.result (congruent 𝓐 Γ χ W F t S s.place k.part k.new p.0 d k.there p.1 q same).1

  outcome_means : {S : Sort} {t u : Tree} {s : Step} {c : ℕ} → Γ ⊢ t ∶ S → Outcome Γ t s c u → Same S (stands 𝓐 Γ χ t) (stands 𝓐 Γ χ u)
  outcome_means d (good u k) = taken_means d k
  outcome_means {S} d (no_rule e) = same_refl S _
  outcome_means {S} d (no_place e h) = same_refl S _
  outcome_means {S} d (no_instance e f h) = same_refl S _
  outcome_means {S} d (too_big e f x h) = same_refl S _

-- ---- lists
pub step_decided : StepDecided
step_decided Γ W S t d s = outcome decides Γ W S t s d.form.formed d.rules

pub step-keeps-type : StepKeepsType
step-keeps-type Γ W S t d s = outcome_type W d (step_decided Γ W S t d s)

pub steps_keep_type : StepsKeepType
unfolding steps_of
steps_keep_type Γ W S t d [] = d
steps_keep_type Γ W S t d (s ∷ ss) = steps_keep_type Γ W S (step_of Γ t s).tree (step-keeps-type Γ W S t d s) ss

module _ {R : Type 0} {𝓐 : Arithmetic R} (𝓡 : StarSemiring 𝓐) where
  step-keeps-meaning : {Γ : Context} {χ : Choice R} (W : WellFormed Γ) (F : Fits 𝓐 Γ χ) (S : Sort) (t : Tree) → Typed Γ S t → (s : Step)
      → Same S (stands 𝓐 Γ χ t) (stands 𝓐 Γ χ (step_of Γ t s).tree)
  step-keeps-meaning {Γ} W F S t d s = outcome_means 𝓡 W F d.rules (step_decided Γ W S t d s)

  pub steps_keep_meaning : StepsKeepMeaning 𝓡
  unfolding steps_of
  steps_keep_meaning Γ χ W F S t d [] = same_refl S _
  steps_keep_meaning Γ χ W F S t d (s ∷ ss) =
      same_trans S _ _ _ (step-keeps-meaning W F S t d s) (steps_keep_meaning Γ χ W F S (step_of Γ t s).tree (step-keeps-type Γ W S t d s) ss)

  -- ---- runs
  record SidesKept (Γ : Context) (χ : Choice R) (S : Sort) (p q : Sides) : Type 0 where
    left_typed : Typed Γ S q.left
    right-typed : Typed Γ S q.right
    left-same : Same S (stands 𝓐 Γ χ p.left) (stands 𝓐 Γ χ q.left)
    right-same : Same S (stands 𝓐 Γ χ p.right) (stands 𝓐 Γ χ q.right)

  kept_refl : {Γ : Context} {χ : Choice R} {S : Sort} {p : Sides} → Typed Γ S p.left → Typed Γ S p.right → SidesKept Γ χ S p p
  kept_refl {S} l r = record { left_typed = l; right-typed = r; left-same = same_refl S _; right-same = same_refl S _ }

  kept_trans : {Γ : Context} {χ : Choice R} {S : Sort} {p q o : Sides} → SidesKept Γ χ S p q → SidesKept Γ χ S q o → SidesKept Γ χ S p o
  kept_trans {S} a b =
      record {
        left_typed = b.left_typed;
        right-typed = b.right-typed;
        left-same = same_trans S _ _ _ a.left-same b.left-same;
        right-same = same_trans S _ _ _ a.right-same b.right-same;
      }

  -- a step on a side
  move-kept : {Γ : Context} {χ : Choice R} (W : WellFormed Γ) (F : Fits 𝓐 Γ χ) {S : Sort} (p : Sides) (side : Side) (s : Step)
      → Typed Γ S p.left → Typed Γ S p.right → SidesKept Γ χ S p (put side (step_of Γ (chosen side p) s).tree p)
  move-kept {Γ} W F {S} p Left s l r =
      record { left_typed = step-keeps-type Γ W S _ l s; right-typed = r; left-same = step-keeps-meaning W F S _ l s; right-same = same_refl S _ }
  move-kept {Γ} W F {S} p Right s l r =
      record { left_typed = l; right-typed = step-keeps-type Γ W S _ r s; left-same = same_refl S _; right-same = step-keeps-meaning W F S _ r s }

  run-kept : {Γ : Context} {χ : Choice R} (W : WellFormed Γ) (F : Fits 𝓐 Γ χ) {S : Sort} (p : Sides) → Typed Γ S p.left → Typed Γ S p.right → (n : ℕ) (ms : List Move)
      → SidesKept Γ χ S p (run_of Γ n p ms).sides
  unfolding run_of
  run-kept W F p l r n [] = kept_refl l r
  run-kept {Γ} {χ} W F {S} p l r n (m ∷ ms) =
      let k = move-kept W F p m.side m.step l r in
      by_code (eqb (step_of Γ (chosen m.side p) m.step).code 0) _ _ (kept_trans k (run-kept W F (put m.side (step_of Γ (chosen m.side p) m.step).tree p) k.left_typed k.right-typed (n + 1) ms)) (kept_refl l r)
    where
      by_code : (b : Bool) (x y : Run) → SidesKept Γ χ S p x.sides → SidesKept Γ χ S p y.sides → SidesKept Γ χ S p (cond b x y).sides
      by_code true x y a c = a
      by_code false x y a c = c

  pub run-keeps-meaning : RunKeepsMeaning 𝓡
  run-keeps-meaning Γ χ W F S p l r n ms =
      let k = run-kept W F p l r n ms in
      (k.left_typed, k.right-typed, k.left-same, k.right-same)

  pub run-proves : RunProves 𝓡
  run-proves Γ χ W F S p l r n ms e =
      let k = run-kept W F p l r n ms in
      same_trans S _ _ _ k.left-same (rw e (same_sym S _ _ k.right-same))

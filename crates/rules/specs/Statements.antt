-- What is proved of the rules, of a step, of lists of steps and of runs.
use Rattle.std.specs.Prelude.{◌≡◌, ◌↔◌, List, ℕ}
use Rattle.std.proofs.Math.Option.{some}
use Rattle.algebra.specs.Semirings.{Arithmetic, StarSemiring}
use Rattle.algebra.specs.Matrices.{◌≈◌}
use Rattle.term.specs.Trees.{Tree, Formed, found, subtree}
use Rattle.types.specs.Sorts.{Sort, Context, ◌⊠◌, Short}
use Rattle.types.specs.Rules.{◌⊢◌∶◌, WellFormed, Typed}
use Rattle.meaning.specs.Choices.{Choice}
use Rattle.meaning.specs.Meaning.{stands, mean}
use Rattle.meaning.specs.Sorted.{Fits, Same}
use Rattle.rules.specs.Table.{Rule, rule_of}
use Rattle.rules.specs.Instances.{Instance}
use Rattle.rules.specs.Rewrite.{rewrite}
use Rattle.rules.specs.Steps.{Step, step_of, steps_of, Move, Sides, run_of}
use Rattle.rules.specs.Outcomes.{Outcome}

-- ---- the rules
-- the function answers exactly the instances of a typed part; so a part has at most one result by a rule with given indices
abbrev pub DecidesStep : Type 0
DecidesStep =
    (Γ : Context) → WellFormed Γ → (n : ℕ) (r : Rule) → rule_of n ≡ some r → (i j : ℕ) (p q : Tree) → Formed p → (S : Sort) → Γ ⊢ p ∶ S
    → (rewrite Γ r i j p ≡ some q) ↔ Instance Γ r i j p q

abbrev pub AtMostOne : Type 0
AtMostOne = (Γ : Context) → WellFormed Γ → (n : ℕ) (r : Rule) → rule_of n ≡ some r → (i j : ℕ) (p q q' : Tree) → Instance Γ r i j p q → Instance Γ r i j p q' → q ≡ q'

-- 01: "That a step keeps the type, and never makes an index longer than 63 words, is for the team to prove"
abbrev pub KeepsType : Type 0
KeepsType =
    (Γ : Context) → WellFormed Γ → (n : ℕ) (r : Rule) → rule_of n ≡ some r → (i j : ℕ) (p q : Tree) → Instance Γ r i j p q
    → (S : Sort) → Γ ⊢ p ∶ S → (Γ ⊢ q ∶ S) × ((at : ℕ) (σ τ : Tree) → subtree q at ≡ found (σ ⊠ τ) → Short (σ ⊠ τ))

module _ {R : Type 0} {𝓐 : Arithmetic R} (𝓡 : StarSemiring 𝓐) where
  abbrev pub KeepsMeaning : Type 0
  KeepsMeaning =
      (Γ : Context) (χ : Choice R) → WellFormed Γ → Fits 𝓐 Γ χ → (n : ℕ) (r : Rule) → rule_of n ≡ some r → (i j : ℕ) (p q : Tree) → Instance Γ r i j p q
      → (S : Sort) → Γ ⊢ p ∶ S → mean 𝓐 Γ χ p ≈ mean 𝓐 Γ χ q

-- ---- a step, a list of steps and a run, on typed terms
-- which code a step on a typed term has, and what it leaves
abbrev pub StepDecided : Type 0
StepDecided = (Γ : Context) → WellFormed Γ → (S : Sort) (t : Tree) → Typed Γ S t → (s : Step) → Outcome Γ t s (step_of Γ t s).code (step_of Γ t s).tree

-- each step, taken or refused, leaves a typed term of the same type
abbrev pub StepKeepsType : Type 0
StepKeepsType = (Γ : Context) → WellFormed Γ → (S : Sort) (t : Tree) → Typed Γ S t → (s : Step) → Typed Γ S (step_of Γ t s).tree

-- Demand 3, of lists: "one claim about the whole list". Whatever the rules, places and indices, and refused steps included, the term that is left has the
-- type of the first and stands for the same
abbrev pub StepsKeepType : Type 0
StepsKeepType = (Γ : Context) → WellFormed Γ → (S : Sort) (t : Tree) → Typed Γ S t → (ss : List Step) → Typed Γ S (steps_of Γ t ss)

module _ {R : Type 0} {𝓐 : Arithmetic R} (𝓡 : StarSemiring 𝓐) where
  abbrev pub StepsKeepMeaning : Type 0
  StepsKeepMeaning =
      (Γ : Context) (χ : Choice R) → WellFormed Γ → Fits 𝓐 Γ χ → (S : Sort) (t : Tree) → Typed Γ S t → (ss : List Step)
      → Same S (stands 𝓐 Γ χ t) (stands 𝓐 Γ χ (steps_of Γ t ss))

  -- each side through every run
  abbrev pub RunKeepsMeaning : Type 0
  RunKeepsMeaning =
      (Γ : Context) (χ : Choice R) → WellFormed Γ → Fits 𝓐 Γ χ → (S : Sort) (p : Sides) → Typed Γ S p.left → Typed Γ S p.right → (n : ℕ) (ms : List Move)
      → let q = (run_of Γ n p ms).sides in
      Typed Γ S q.left × Typed Γ S q.right
      × Same S (stands 𝓐 Γ χ p.left) (stands 𝓐 Γ χ q.left) × Same S (stands 𝓐 Γ χ p.right) (stands 𝓐 Γ χ q.right)

  -- where a run brings both sides to the same end, they stood for the same from the start
  abbrev pub RunProves : Type 0
  RunProves =
      (Γ : Context) (χ : Choice R) → WellFormed Γ → Fits 𝓐 Γ χ → (S : Sort) (p : Sides) → Typed Γ S p.left → Typed Γ S p.right → (n : ℕ) (ms : List Move)
      → (let q = (run_of Γ n p ms).sides in q.left ≡ q.right) → Same S (stands 𝓐 Γ χ p.left) (stands 𝓐 Γ χ p.right)

-- What is refused before any step, and what it takes for a run to begin: the relation that `fault_in` of `Faults` answers.
use Rattle.std.specs.Prelude.{◌≡◌, ◌≢◌, true, false, List, ℕ, ◌≤◌, length}
use Rattle.words.specs.Listed.{all_up_to}
use Rattle.term.specs.Trees.{Tree}
use Rattle.term.specs.Terms.{max_words}
use Rattle.types.specs.Sorts.{Sort, Context, IsType}
use Rattle.types.specs.Rules.{◌⊢◌∶◌}
use Rattle.types.specs.First.{HasSort, FirstUntyped}
use Rattle.types.specs.Strays.{FirstStray, NoStray}
use Rattle.declarations.specs.Declarations.{context_in, good_declarations}
use Rattle.typing.specs.Answers.{HeldTerm, TypedTerm}
use Rattle.rules.specs.Steps.{Sides}
use Rattle.lent.specs.declared.faults.Fault.{Fault}
use Rattle.lent.specs.Lent.{Derivation, max_steps, step_at, sided, steps_fault}
use Rattle.lent.specs.Faults.{fault}

-- so many lent steps are in order: no more than 1,000, inside their slice, each on the left or the right
pub record InOrder (ws : List ℕ) (n : ℕ) : Type 0 where
  pub few : n ≤ max_steps
  pub inside : step_at n ≤ length ws
  pub sides : all_up_to n (sided ws) ≡ true

module _ (d : Derivation) where
  abbrev pub LeftTyped : Tree → Sort → Type 0
  LeftTyped = TypedTerm d.ds d.left d.n

  abbrev pub RightTyped : Tree → Sort → Type 0
  RightTyped = TypedTerm d.ds d.right d.m

  abbrev pub Ordered : Type 0
  Ordered = InOrder d.steps d.count

  abbrev Γ : Context
  Γ = context_in d.ds

  -- both slices of 4,096 words; both terms in them
  abbrev Sized : Type 0
  Sized = (length d.left ≡ max_words) × (length d.right ≡ max_words)

  abbrev Terms : Tree → Tree → Type 0
  Terms t u = HeldTerm d.ds d.left d.n t × HeldTerm d.ds d.right d.m u

  -- What is refused before any step, each told apart from those before it. 01: "left 10, 11, right 10, 11, then 12"; 02, CR 1: "a side's 13 tested before its 10"; the steps' own codes come
  -- as in a file, behind 8
  pub data Refused : ℕ → ℕ → ℕ → Type 0 where
    wrong_size : (Sized → ⊥) → Refused 1 0 0
    bad_declarations : Sized → good_declarations d.ds ≡ false → Refused 7 0 0
    no_term : Sized → good_declarations d.ds ≡ true → ((t u : Tree) → Terms t u → ⊥) → Refused 8 0 0
    bad_steps : {t u : Tree} → Terms t u → (Ordered → ⊥) → Refused (steps_fault d.steps d.count) 0 0
    left_stray : {t u : Tree} {k : ℕ} → Terms t u → Ordered → FirstStray Γ t k → Refused 13 1 k
    left_untyped : {t u : Tree} {k : ℕ} → Terms t u → Ordered → NoStray Γ t → (HasSort Γ t → ⊥) → FirstUntyped Γ t k → Refused 10 1 k
    left_no_type : {t u : Tree} {S : Sort} → Terms t u → Ordered → Γ ⊢ t ∶ S → (IsType S → ⊥) → Refused 11 1 0
    right_stray : {t u : Tree} {S : Sort} {k : ℕ} → Terms t u → Ordered → LeftTyped t S → FirstStray Γ u k → Refused 13 2 k
    right_untyped : {t u : Tree} {S : Sort} {k : ℕ} → Terms t u → Ordered → LeftTyped t S → NoStray Γ u → (HasSort Γ u → ⊥) → FirstUntyped Γ u k → Refused 10 2 k
    right_no_type : {t u : Tree} {S R : Sort} → Terms t u → Ordered → LeftTyped t S → Γ ⊢ u ∶ R → (IsType R → ⊥) → Refused 11 2 0
    types_differ : {t u : Tree} {S R : Sort} → Ordered → LeftTyped t S → RightTyped u R → (S ≡ R → ⊥) → Refused 12 0 0

  -- two typed terms of one type, and steps in order
  pub record Begun (p : Sides) (S : Sort) : Type 0 where
    pub left_term : LeftTyped p.left S
    pub right_term : RightTyped p.right S
    pub order : Ordered

  -- a fault that is found, or none
  pub data Judged : Fault → Type 0 where
    found : {c s k : ℕ} → Refused c s k → c ≢ 0 → Judged (fault c s k)
    none : {p : Sides} {S : Sort} → Begun p S → Judged (fault 0 0 0)

-- What is to be shown of each pattern rule, by its number.
use mathlib.Core.Path.{◌≡◌, refl}
use mathlib.Core.Bool.{true, false}
use mathlib.Core.Option.{Option, some, none}
use Prim.Native.Nat.{ℕ}
use native.Mathlib.Omega.{arith}
use Rattle.algebra.specs.Semirings.{Arithmetic, StarSemiring}
use Rattle.algebra.specs.Matrices.{Matrix, ◌≈◌}
use Rattle.term.specs.Heads.{variable}
use Rattle.term.specs.Trees.{Tree, node, none as no-children}
use Rattle.types.specs.Sorts.{Sort, Context, Marked}
use Rattle.types.specs.Rules.{◌⊢◌∶◌, WellFormed}
use Rattle.types.proofs.Complete.{complete}
use Rattle.meaning.specs.Choices.{Choice, a_term, an_index, a_basis}
use Rattle.meaning.specs.Meaning.{first, second, plus, total, times, product, meaning_of, meaning, stands, mean}
use Rattle.rules.specs.Patterns.{Pattern}
use Rattle.rules.specs.Instances.{Filled, hole, first_of, second_of, over_none, over_one, over_two, is_unused, Holds}
use Rattle.rules.specs.Rewrite.{sort_of, wanted, fill, satisfied}
use Rattle.rules.specs.Table.{Condition, any, a_ket, a_bra, an_operator, unused, marked, Rule, ◌⇒◌▷◌, spreading, removing, absorbing, merging, collecting, swapping, distributing, table, find}
use Rattle.rules.proofs.Marks.{is-marked}

-- where the parts in the holes must meet a condition
abbrev pub Given : Context → Condition → (ℕ → Tree) → Type 0 → Type 0
Given Γ any θ A = A
Given Γ a_ket θ A = wanted a_ket (sort_of Γ (θ 0)) ≡ true → A
Given Γ a_bra θ A = wanted a_bra (sort_of Γ (θ 0)) ≡ true → A
Given Γ an_operator θ A = wanted an_operator (sort_of Γ (θ 0)) ≡ true → A
Given Γ unused θ A = is_unused (θ 1) ≡ true → A
Given Γ marked θ A = (a : ℕ) → θ 0 ≡ node (variable a) no-children → Marked Γ a → A

-- a kind that the part does not have
pub not_so : false ≡ true → ⊥
not_so e = let z : ◌≡◌ {A = ℕ} 0 1 = cc in omega arith

module _ {Γ : Context} (W : WellFormed Γ) where
  -- the function and the rules agree on a part's sort
  pub sort-is : {t : Tree} {S : Sort} → Γ ⊢ t ∶ S → sort_of Γ t ≡ S
  sort-is d = rw (complete W d 0)

  -- and so on what stands in the holes of a side, and on its kind
  pub fill_is : {θ : ℕ → Tree} {p : Pattern} {t : Tree} → Filled Γ θ p t → t ≡ fill Γ θ p
  fill_is hole = refl
  fill_is (first_of d) = rw (sort-is d)
  fill_is (second_of d) = rw (sort-is d)
  fill_is over_none = refl
  fill_is (over_one a) = rw (fill_is a)
  fill_is (over_two a b) = rw (fill_is a, fill_is b)

  pub condition-is : (k : Condition) (θ : ℕ → Tree) → Holds Γ k θ → satisfied Γ k θ ≡ true
  unfolding satisfied
  condition-is any θ w = refl
  condition-is a_ket θ w = rw (sort-is w.1)
  condition-is a_bra θ w = rw (sort-is w.1)
  condition-is an_operator θ w = rw (sort-is w.2)
  condition-is unused θ w = w
  condition-is marked θ w = rw w.1 (is-marked Γ w.0 w.2)

module _ (Γ : Context) where
  -- what is to hold of the two sides of a pattern rule, whatever its holes hold
  abbrev pub Law : (Tree → Tree → Sort → Type 0) → Option Rule → Type 0
  Law P none = Unit {0}
  Law P (some (k ⇒ l ▷ r)) = (θ : ℕ → Tree) (S : Sort) → Given Γ k θ (P (fill Γ θ l) (fill Γ θ r) S)
  Law P (some (spreading l w s r)) = Unit {0}
  Law P (some (removing l c)) = Unit {0}
  Law P (some absorbing) = Unit {0}
  Law P (some merging) = Unit {0}
  Law P (some (collecting a b)) = Unit {0}
  Law P (some swapping) = Unit {0}
  Law P (some distributing) = Unit {0}

  -- the law of a rule at an instance
  pub given : WellFormed Γ → (P : Tree → Tree → Sort → Type 0) (k : Condition) (l r : Pattern) → Law P (some (k ⇒ l ▷ r)) → (θ : ℕ → Tree) (p q : Tree) (S : Sort)
      → Filled Γ θ l p → Filled Γ θ r q → Holds Γ k θ → P p q S
  unfolding satisfied
  given W P k l r law θ p q S a b w = rw (fill_is W a, fill_is W b) (by_condition k law w)
    where
      by_condition : (k : Condition) → Law P (some (k ⇒ l ▷ r)) → Holds Γ k θ → P (fill Γ θ l) (fill Γ θ r) S
      by_condition any law w = law θ S
      by_condition a_ket law w = law θ S (condition-is W a_ket θ w)
      by_condition a_bra law w = law θ S (condition-is W a_bra θ w)
      by_condition an_operator law w = law θ S (condition-is W an_operator θ w)
      by_condition unused law w = law θ S w
      by_condition marked law w = law θ S w.0 w.1 w.2

  -- the right side has the sort of the left
  abbrev pub Keeps : ℕ → Type 0
  Keeps n = Law (λ p q S. Γ ⊢ p ∶ S → Γ ⊢ q ∶ S) (find n table)

module _ (Γ : Context) {R : Type 0} {𝓐 : Arithmetic R} (𝓡 : StarSemiring 𝓐) (χ : Choice R) where
  -- the matrix of a term, under a name that opens with all that it is made of
  unfoldable pub value : Tree → Matrix R
  unfolding mean stands meaning meaning_of first second plus total times product a_term an_index a_basis
  value t = mean 𝓐 Γ χ t

  -- the two sides stand for the same matrix
  abbrev pub Means : ℕ → Type 0
  Means n = Law Γ (λ p q S. Γ ⊢ p ∶ S → value p ≈ value q) (find n table)

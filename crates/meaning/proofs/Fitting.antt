-- No choice is left out: all dimensions from 1 up, all positions inside their ranges and all entries are those of one that fits, where marked matrices are unitary; and such there are.
use mathlib.Core.Path.{◌≡◌, refl}
use mathlib.Core.Bool.{Bool, true, false, cond}
use mathlib.Core.List.{[]}
use mathlib.Core.Option.{Option, some, none}
use Prim.Native.Nat.{ℕ, ◌≤◌, ◌<◌}
use native.Mathlib.Nat.{one-le-mul}
use native.Mathlib.Omega.{arith}
use lib.ListN.{get_or, get_elem?}
use Rattle.algebra.specs.Semirings.{Arithmetic}
use Rattle.algebra.specs.Matrices.{kronecker_delta, zeros, identity, Unitary}
use Rattle.algebra.proofs.Products.{identity-unitary}
use Rattle.term.specs.Trees.{Tree}
use Rattle.types.specs.Sorts.{Sort, index, basis, scalar, ket, bra, operator, Context, Marked}
use Rattle.types.specs.Rules.{◌⊢◌∶◌, type_var, term_var, base_prod, sum_over, WellFormed}
use Rattle.meaning.specs.Choices.{Choice, an_index, a_basis}
use Rattle.meaning.specs.Meaning.{first, second, meaning_of, meaning, dimension}
use Rattle.meaning.specs.Sorted.{Shaped, Fits, InRange}
use Rattle.meaning.specs.Statements.{Chooses, UnitaryExist}

module _ {R : Type 0} (𝓐 : Arithmetic R) {Γ : Context} (W : WellFormed Γ) where
  -- an index has a dimension from 1 up
  pub positive : (χ : Choice R) → ((a : ℕ) → a < Γ.types → 1 ≤ χ.dimension a) → {s σ : Tree} → Γ ⊢ s ∶ index σ → 1 ≤ dimension 𝓐 χ σ
  unfolding dimension meaning meaning_of first second an_index a_basis
  positive χ d (type_var h) = d _ h
  positive χ d (term_var e) = absurd (W.variable_type _ _ e).0
  positive χ d (base_prod a b h) = one-le-mul (positive χ d a) (positive χ d b)
  positive χ d (sum_over a b h n) = absurd h

module _ {R : Type 0} (𝓐 : Arithmetic R) (Γ : Context) (δ π : ℕ → ℕ) (e : ℕ → ℕ → ℕ → R) where
  -- how many rows and columns what is declared has. A dimension looks at the dimensions of a choice alone
  size : Option Sort → ℕ × ℕ
  size S =
      let d : Tree → ℕ = dimension 𝓐 (record { dimension = δ; position = π; matrix = λ a. zeros 𝓐 0 0; bound = λ a. 0 }) in
      elim S [
        | none ↦ (0, 0)
        | some (index σ) ↦ (0, 0)
        | some (basis σ) ↦ (0, 0)
        | some scalar ↦ (1, 1)
        | some (ket σ) ↦ (d σ, 1)
        | some (bra σ) ↦ (1, d σ)
        | some (operator σ τ) ↦ (d σ, d τ)
      ]

  choice : Choice R
  choice = record { dimension = δ; position = π; matrix = λ a. let s = size (get_elem? Γ.variables a) in record { rows = s.0; columns = s.1; entry = e a }; bound = λ a. 0 }

  as_declared : (a : ℕ) (S : Sort) → get_elem? Γ.variables a ≡ some S → Shaped 𝓐 choice S (choice.matrix a)
  unfolding choice size dimension
  as_declared a (index σ) h = tt
  as_declared a (basis σ) h = tt
  as_declared a scalar h = record { rows = rw h; columns = rw h }
  as_declared a (ket σ) h = record { rows = rw h; columns = rw h }
  as_declared a (bra σ) h = record { rows = rw h; columns = rw h }
  as_declared a (operator σ τ) h = record { rows = rw h; columns = rw h }

module _ {R : Type 0} (𝓐 : Arithmetic R) {Γ : Context} (W : WellFormed Γ) (unbound : Γ.bound ≡ []) (δ π : ℕ → ℕ) (from_one : (a : ℕ) → a < Γ.types → 1 ≤ δ a) where
  fitting : (e : ℕ → ℕ → ℕ → R) → let χ = choice 𝓐 Γ δ π e in InRange 𝓐 Γ χ → ((a : ℕ) → Marked Γ a → Unitary 𝓐 (χ.matrix a)) → Fits 𝓐 Γ χ
  unfolding choice
  fitting e inside unitary =
      record {
        dimensions = from_one;
        positions = inside;
        matrices = as_declared 𝓐 Γ δ π e;
        unitary = unitary;
        bounds = λ a σ h. absurd (let z : none ≡ some σ = rw unbound at h in let q : ◌≡◌ {A = ℕ} 0 1 = cc in omega arith);
      }

pub chooses : {R : Type 0} (𝓐 : Arithmetic R) → Chooses 𝓐
unfolding choice
chooses 𝓐 Γ W unbound δ π e from_one = (
  choice 𝓐 Γ δ π e,
  record { dimensions = λ a. refl; positions = λ a. refl; entries = λ a i j. refl },
  λ σ h. positive 𝓐 W (choice 𝓐 Γ δ π e) from_one h,
  fitting 𝓐 W unbound δ π from_one e,
)

-- where a variable is marked, the entries of the identity
unmarked : {A : Type 0} (b : Bool) (x y : A) → (b ≡ true → ⊥) → cond b x y ≡ y
unmarked true x y h = absurd (h refl)
unmarked false x y h = refl

pub unitary-exist : {R : Type 0} (𝓐 : Arithmetic R) → UnitaryExist 𝓐
unfolding choice size identity
unitary-exist {R} 𝓐 𝓡 Γ W unbound δ π e from_one = (
  u,
  λ a h. unmarked (get_or Γ.marks a false) (kronecker_delta 𝓐) (e a) h,
  choice 𝓐 Γ δ π u,
  record { dimensions = λ a. refl; positions = λ a. refl; entries = λ a i j. refl },
  λ inside. fitting 𝓐 W unbound δ π from_one u inside λ a m. marked a m (W.marked_square a m).1,
)
  where
    u : ℕ → ℕ → ℕ → R
    u a = cond (get_or Γ.marks a false) (kronecker_delta 𝓐) (e a)

    marked : (a : ℕ) → Marked Γ a → {σ : Tree} → get_elem? Γ.variables a ≡ some (operator σ σ) → Unitary 𝓐 ((choice 𝓐 Γ δ π u).matrix a)
    marked a m s = rw (s, m) (identity-unitary 𝓡 _)

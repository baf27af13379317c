-- What a part of a sort stands for: the shape of a type, when a choice fits a context, which choices there are, and when two parts of one sort stand for the same.
use Rattle.std.specs.Prelude.{◌≡◌, ℕ, ◌≤◌, ◌<◌}
use Rattle.std.proofs.Math.Option.{some}
use Rattle.std.proofs.Math.ListN.{get_elem?}
use Rattle.algebra.specs.Semirings.{Arithmetic}
use Rattle.algebra.specs.Matrices.{Matrix, ◌≈◌, HasShape, Unitary}
use Rattle.algebra.specs.Gaussian.{Gaussian}
use Rattle.term.specs.Trees.{Tree}
use Rattle.types.specs.Sorts.{Sort, index, basis, scalar, ket, bra, operator, Context, Marked}
use Rattle.types.specs.Rules.{Index}
use Rattle.meaning.specs.Choices.{Choice, Given, Meaning}
use Rattle.meaning.specs.Meaning.{dimension}

module _ {R : Type 0} (𝓐 : Arithmetic R) where
  -- 01: "A ket is d rows by 1, a bra 1 by d, an operator of (S, T) is S rows by T columns, a scalar 1 by 1". An index and a basis are no matrices
  abbrev pub Shaped : Choice R → Sort → Matrix R → Type 0
  Shaped χ (index σ) A = Unit {0}
  Shaped χ (basis σ) A = Unit {0}
  Shaped χ scalar A = HasShape A 1 1
  Shaped χ (ket σ) A = HasShape A (dimension 𝓐 χ σ) 1
  Shaped χ (bra σ) A = HasShape A 1 (dimension 𝓐 χ σ)
  Shaped χ (operator σ τ) A = HasShape A (dimension 𝓐 χ σ) (dimension 𝓐 χ τ)

  -- 01: "A type name has a dimension from 1 up", "A basis name is an index from 0 below its dimension", "for each variable, the matrix, shaped as declared"; a sum is at an index of its
  -- dimension. And 02, CR 7: "choices where a marked matrix times its adjoint is the identity, from both sides"
  pub record Fits (Γ : Context) (χ : Choice R) : Type 0 where
    pub dimensions : (a : ℕ) → a < Γ.types → 1 ≤ χ.dimension a
    pub positions : (a : ℕ) (σ : Tree) → get_elem? Γ.bases a ≡ some σ → χ.position a < dimension 𝓐 χ σ
    pub matrices : (a : ℕ) (S : Sort) → get_elem? Γ.variables a ≡ some S → Shaped χ S (χ.matrix a)
    pub unitary : (a : ℕ) → Marked Γ a → Unitary 𝓐 (χ.matrix a)
    pub bounds : (a : ℕ) (σ : Tree) → get_elem? Γ.bound a ≡ some σ → χ.bound a < dimension 𝓐 χ σ

  -- Demand 3: "every index inside its range given to each basis name"
  abbrev pub InRange : Context → Choice R → Type 0
  InRange Γ χ = (a : ℕ) (σ : Tree) → get_elem? Γ.bases a ≡ some σ → χ.position a < dimension 𝓐 χ σ

  -- Demand 3: "for every dimension from 1 up given to each type name, every index inside its range given to each basis name, and every Gaussian integer put into
  -- the entries of the variables, with the shapes as declared". None is left out but where a marked matrix is not unitary: a choice of exactly these fits, and every range has an index
  -- inside
  abbrev pub EveryChoice : Context → Type 0
  EveryChoice Γ =
      (δ π : ℕ → ℕ) (e : ℕ → ℕ → ℕ → R) → ((a : ℕ) → a < Γ.types → 1 ≤ δ a)
      → (χ : Choice R) × Given δ π e χ
      × ((σ : Tree) → Index Γ σ → 1 ≤ dimension 𝓐 χ σ)
      × (InRange Γ χ → ((a : ℕ) → Marked Γ a → Unitary 𝓐 (χ.matrix a)) → Fits Γ χ)

  -- And a mark leaves none of the rest out: whatever the dimensions, the positions and the entries of the unmarked variables, there are entries of the marked ones so that the choice fits
  abbrev pub SomeUnitary : Context → Type 0
  SomeUnitary Γ =
      (δ π : ℕ → ℕ) (e : ℕ → ℕ → ℕ → R) → ((a : ℕ) → a < Γ.types → 1 ≤ δ a)
      → (u : ℕ → ℕ → ℕ → R) × ((a : ℕ) → (Marked Γ a → ⊥) → u a ≡ e a)
      × (χ : Choice R) × Given δ π u χ × (InRange Γ χ → Fits Γ χ)

  -- what a part of a sort must stand for
  abbrev pub ProperMeaning : Choice R → Sort → Meaning R → Type 0
  ProperMeaning χ (index σ) x = x.dimension ≡ dimension 𝓐 χ σ
  ProperMeaning χ (basis σ) x = (x.dimension ≡ dimension 𝓐 χ σ) × (x.position < dimension 𝓐 χ σ)
  ProperMeaning χ scalar x = Shaped χ scalar x.matrix
  ProperMeaning χ (ket σ) x = Shaped χ (ket σ) x.matrix
  ProperMeaning χ (bra σ) x = Shaped χ (bra σ) x.matrix
  ProperMeaning χ (operator σ τ) x = Shaped χ (operator σ τ) x.matrix

-- two parts of one sort stand for the same: dimensions, positions, matrices
abbrev pub Same : {R : Type 0} → Sort → Meaning R → Meaning R → Type 0
Same (index σ) x y = x.dimension ≡ y.dimension
Same (basis σ) x y = x.position ≡ y.position
Same scalar x y = x.matrix ≈ y.matrix
Same (ket σ) x y = x.matrix ≈ y.matrix
Same (bra σ) x y = x.matrix ≈ y.matrix
Same (operator σ τ) x y = x.matrix ≈ y.matrix

-- equal in shape, and in the number at each row and column: both its whole numbers
pub record EqualNumbers (A B : Matrix Gaussian) : Type 0 where
  pub rows : A.rows ≡ B.rows
  pub columns : A.columns ≡ B.columns
  pub re : (i j : ℕ) → i < A.rows → j < A.columns → (A.entry i j).re ≡ (B.entry i j).re
  pub im : (i j : ℕ) → i < A.rows → j < A.columns → (A.entry i j).im ≡ (B.entry i j).im

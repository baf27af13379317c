-- Choices, and what a part of a term stands for.
use Rattle.std.specs.Prelude.{◌≡◌, ℕ, zero, suc}
use Rattle.algebra.specs.Semirings.{Arithmetic}
use Rattle.algebra.specs.Matrices.{Matrix, zeros}

-- 01: "A choice is a dimension for each type name, an index for each basis name and, for each variable, the matrix, shaped as declared, that it stands for". And for
-- a part in the bodies of sums, the index at which each of them is, the innermost first
pub record Choice (R : Type 0) : Type 0 where
  pub dimension : ℕ → ℕ
  pub position : ℕ → ℕ
  pub matrix : ℕ → Matrix R
  pub bound : ℕ → ℕ

-- one more in front
unfoldable pub push : {A : Type 0} → A → (ℕ → A) → ℕ → A
push x f zero = x
push x f (suc a) = f a

-- the same choice in a body, where its sum is at p
abbrev pub run : {R : Type 0} → ℕ → Choice R → Choice R
run p χ = record { dimension = χ.dimension; position = χ.position; matrix = χ.matrix; bound = push p χ.bound }

-- A choice of exactly these: a dimension for each type name, a position for each basis name, and for each variable the entries, by row and column
pub record Given {R : Type 0} (dimension position : ℕ → ℕ) (entry : ℕ → ℕ → ℕ → R) (χ : Choice R) : Type 0 where
  pub dimensions : (a : ℕ) → χ.dimension a ≡ dimension a
  pub positions : (a : ℕ) → χ.position a ≡ position a
  pub entries : (a i j : ℕ) → (χ.matrix a).entry i j ≡ entry a i j

-- What a part stands for: an index for its dimension, a basis for a position below the dimension of its index, a term for a matrix
pub record Meaning (R : Type 0) : Type 0 where
  pub dimension : ℕ
  pub position : ℕ
  pub matrix : Matrix R

-- what each name stands for
pub record NameMeanings (R : Type 0) : Type 0 where
  pub types : ℕ → Meaning R
  pub bases : ℕ → Meaning R
  pub variables : ℕ → Meaning R
  pub bounds : ℕ → Meaning R

module _ {R : Type 0} (𝓐 : Arithmetic R) where
  unfoldable pub a_basis : ℕ → ℕ → Meaning R
  a_basis d p = record { dimension = d; position = p; matrix = zeros 𝓐 0 0 }

  unfoldable pub an_index : ℕ → Meaning R
  unfolding a_basis
  an_index d = a_basis d 0

  unfoldable pub nothing : Meaning R
  unfolding an_index
  nothing = an_index 0

unfoldable pub a_term : {R : Type 0} → Matrix R → Meaning R
a_term A = record { dimension = 0; position = 0; matrix = A }

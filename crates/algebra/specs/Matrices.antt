-- Matrices, when two are alike, and their operations.
use Rattle.std.specs.Prelude.{◌≡◌, cond, ℕ, ◌*◌, ◌/◌, ◌%◌, ◌<◌, eqb}
use Rattle.algebra.specs.Semirings.{Arithmetic}
use Rattle.algebra.specs.Sums.{sum}

-- So many rows and columns, and an entry for each row and column. What stands outside the shape is of no account: `◌≈◌` does not look at it
pub record Matrix (R : Type 0) : Type 0 where
  pub rows : ℕ
  pub columns : ℕ
  pub entry : ℕ → ℕ → R

-- equal in shape and in every entry
infix 5 ◌≈◌
pub record ◌≈◌ {R : Type 0} (A B : Matrix R) : Type 0 where
  pub rows : A.rows ≡ B.rows
  pub columns : A.columns ≡ B.columns
  pub entries : (i j : ℕ) → i < A.rows → j < A.columns → A.entry i j ≡ B.entry i j

-- of such a shape
pub record HasShape {R : Type 0} (A : Matrix R) (m n : ℕ) : Type 0 where
  pub rows : A.rows ≡ m
  pub columns : A.columns ≡ n

-- the number that a 1 by 1 matrix holds
unfoldable pub number : {R : Type 0} → Matrix R → R
number A = A.entry 0 0

module _ {R : Type 0} (𝓐 : Arithmetic R) where
  -- 1 where two indices are equal, else 0
  unfoldable pub kronecker_delta : ℕ → ℕ → R
  kronecker_delta i j = cond (eqb i j) 𝓐.one 𝓐.zero

  unfoldable pub zeros : ℕ → ℕ → Matrix R
  zeros m n = record { rows = m; columns = n; entry = λ i j. 𝓐.zero }

  unfoldable pub identity : ℕ → Matrix R
  identity n = record { rows = n; columns = n; entry = kronecker_delta }

  -- a column that is 1 at row k, and a row that is 1 at column k
  unfoldable pub unit_column : ℕ → ℕ → Matrix R
  unit_column n k = record { rows = n; columns = 1; entry = λ i j. kronecker_delta i k }

  unfoldable pub unit_row : ℕ → ℕ → Matrix R
  unit_row n k = record { rows = 1; columns = n; entry = λ i j. kronecker_delta j k }

  -- a number as a 1 by 1 matrix
  unfoldable pub scalar : R → Matrix R
  scalar x = record { rows = 1; columns = 1; entry = λ i j. x }

  unfoldable pub add : Matrix R → Matrix R → Matrix R
  add A B = record { rows = A.rows; columns = A.columns; entry = λ i j. 𝓐.add (A.entry i j) (B.entry i j) }

  unfoldable pub scale : R → Matrix R → Matrix R
  scale x A = record { rows = A.rows; columns = A.columns; entry = λ i j. 𝓐.mul x (A.entry i j) }

  unfoldable pub mul : Matrix R → Matrix R → Matrix R
  mul A B = record { rows = A.rows; columns = B.columns; entry = λ i j. sum 𝓐 A.columns λ k. 𝓐.mul (A.entry i k) (B.entry k j) }

  -- the conjugate transpose
  unfoldable pub adjoint : Matrix R → Matrix R
  adjoint A = record { rows = A.columns; columns = A.rows; entry = λ i j. 𝓐.conj (A.entry j i) }

  -- the Kronecker product, the left factor's index being the more significant
  unfoldable pub kronecker : Matrix R → Matrix R → Matrix R
  kronecker A B =
      record {
        rows = A.rows * B.rows;
        columns = A.columns * B.columns;
        entry = λ i j. 𝓐.mul (A.entry (i / B.rows) (j / B.columns)) (B.entry (i % B.rows) (j % B.columns));
      }

  -- 02, CR 1: "the sum of its body over all indices of its dimension": of n matrices of one shape
  unfoldable pub sum_matrices : ℕ → (ℕ → Matrix R) → Matrix R
  sum_matrices n f = record { rows = (f 0).rows; columns = (f 0).columns; entry = λ i j. sum 𝓐 n λ k. (f k).entry i j }

  -- 02, CR 7: "a marked matrix times its adjoint is the identity, from both sides"
  pub record Unitary (A : Matrix R) : Type 0 where
    pub left : mul (adjoint A) A ≈ identity A.columns
    pub right : mul A (adjoint A) ≈ identity A.rows

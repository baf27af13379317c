-- The shapes of what the operations make.
use mathlib.Core.Path.{◌≡◌, refl, sym, ◌∙◌}
use Prim.Native.Nat.{ℕ, ◌*◌, ◌≤◌, ◌<◌}
use Rattle.algebra.specs.Semirings.{Arithmetic}
use Rattle.algebra.specs.Matrices.{Matrix, HasShape, zeros, identity, unit_column, unit_row, scalar, add, scale, mul, adjoint, kronecker, sum_matrices}

module _ {R : Type 0} {A B : Matrix R} {m n k : ℕ} where
  pub same_rows : HasShape A m n → HasShape B m k → A.rows ≡ B.rows
  same_rows a b = a.rows ∙ sym b.rows

  pub same-columns : HasShape A m n → HasShape B k n → A.columns ≡ B.columns
  same-columns a b = a.columns ∙ sym b.columns

  -- the first can be multiplied by the second
  pub conformable : HasShape A m n → HasShape B n k → A.columns ≡ B.rows
  conformable a b = a.columns ∙ sym b.rows

module _ {R : Type 0} (𝓐 : Arithmetic R) where
  pub shape-scalar : (x : R) → HasShape (scalar 𝓐 x) 1 1
  unfolding scalar
  shape-scalar x = record { rows = refl; columns = refl }

  pub shape-zeros : {m n m' n' : ℕ} → m ≡ m' → n ≡ n' → HasShape (zeros 𝓐 m n) m' n'
  unfolding zeros
  shape-zeros m n = record { rows = m; columns = n }

  pub shape-identity : {n n' : ℕ} → n ≡ n' → HasShape (identity 𝓐 n) n' n'
  unfolding identity
  shape-identity n = record { rows = n; columns = n }

  pub shape-unit_column : {n n' : ℕ} (k : ℕ) → n ≡ n' → HasShape (unit_column 𝓐 n k) n' 1
  unfolding unit_column
  shape-unit_column k n = record { rows = n; columns = refl }

  pub shape-unit_row : {n n' : ℕ} (k : ℕ) → n ≡ n' → HasShape (unit_row 𝓐 n k) 1 n'
  unfolding unit_row
  shape-unit_row k n = record { rows = refl; columns = n }

  pub shape-add : {A : Matrix R} {m n : ℕ} (B : Matrix R) → HasShape A m n → HasShape (add 𝓐 A B) m n
  unfolding add
  shape-add B a = record { rows = a.rows; columns = a.columns }

  pub shape-scale : {A : Matrix R} {m n : ℕ} (x : R) → HasShape A m n → HasShape (scale 𝓐 x A) m n
  unfolding scale
  shape-scale x a = record { rows = a.rows; columns = a.columns }

  pub shape-mul : {A B : Matrix R} {m n k l : ℕ} → HasShape A m n → HasShape B k l → HasShape (mul 𝓐 A B) m l
  unfolding mul
  shape-mul a b = record { rows = a.rows; columns = b.columns }

  pub shape-adjoint : {A : Matrix R} {m n : ℕ} → HasShape A m n → HasShape (adjoint 𝓐 A) n m
  unfolding adjoint
  shape-adjoint a = record { rows = a.columns; columns = a.rows }

  pub shape-kronecker : {A B : Matrix R} {m n k l : ℕ} → HasShape A m n → HasShape B k l → HasShape (kronecker 𝓐 A B) (m * k) (n * l)
  unfolding kronecker
  shape-kronecker a b = record { rows = cc (a.rows, b.rows); columns = cc (a.columns, b.columns) }

  -- the first matrix gives the shape, so there must be one
  pub shape-sum-matrices : {n r c : ℕ} {f : ℕ → Matrix R} → 1 ≤ n → ((k : ℕ) → k < n → HasShape (f k) r c) → HasShape (sum_matrices 𝓐 n f) r c
  unfolding sum_matrices
  shape-sum-matrices h s = record { rows = (s 0 h).rows; columns = (s 0 h).columns }

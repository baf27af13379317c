-- Laws of a sum of matrices over a range.
use mathlib.Core.Path.{refl, sym, ◌∙◌, ap}
use Prim.Native.Nat.{ℕ, ◌≤◌, ◌<◌}
use Rattle.algebra.specs.Semirings.{Arithmetic, StarSemiring}
use Rattle.algebra.specs.Sums.{sum}
use Rattle.algebra.specs.Matrices.{Matrix, ◌≈◌, HasShape, kronecker_delta, identity, unit_column, unit_row, scalar, add, mul, sum_matrices}
use Rattle.algebra.proofs.Semirings as S
use Rattle.algebra.proofs.Sums.{sum_ext, sum-zero, sum-add, sum_single}
use Rattle.algebra.proofs.Deltas.{delta_same, delta_differ, delta_sym}
use Rattle.algebra.proofs.Alike.{everywhere}
use Rattle.algebra.proofs.Shapes.{same_rows, same-columns}
use Rattle.algebra.proofs.Products.{pick}

module _ {R : Type 0} (𝓐 : Arithmetic R) where
  -- in range of the first is in range of each, since they are of one shape
  pub sum-matrices-≈ : {n r c : ℕ} {f g : ℕ → Matrix R} → 1 ≤ n → ((k : ℕ) → k < n → HasShape (f k) r c) → ((k : ℕ) → k < n → f k ≈ g k)
      → sum_matrices 𝓐 n f ≈ sum_matrices 𝓐 n g
  unfolding sum_matrices
  sum-matrices-≈ {n} h s p =
      record {
        rows = (p 0 h).rows;
        columns = (p 0 h).columns;
        entries = λ i j a b. sum_ext 𝓐 n _ _ λ k l. (p k l).entries i j (rw (same_rows (s 0 h) (s k l)) at a) (rw (same-columns (s 0 h) (s k l)) at b);
      }

module _ {R : Type 0} {𝓐 : Arithmetic R} (𝓡 : StarSemiring 𝓐) where
  open 𝓐 use {mul as ◌⊙◌}

  infixl 70 ◌⊙◌
  abbrev δ : ℕ → ℕ → R
  δ = kronecker_delta 𝓐

  pub sum_zeros : (n : ℕ) → sum_matrices 𝓐 n (λ k. scalar 𝓐 𝓐.zero) ≈ scalar 𝓐 𝓐.zero
  unfolding sum_matrices scalar
  sum_zeros n = everywhere refl refl λ i j. sum-zero 𝓡 n

  pub sum-sums : (n : ℕ) (f g : ℕ → Matrix R) → sum_matrices 𝓐 n (λ k. add 𝓐 (f k) (g k)) ≈ add 𝓐 (sum_matrices 𝓐 n f) (sum_matrices 𝓐 n g)
  unfolding sum_matrices add
  sum-sums n f g = everywhere refl refl λ i j. sum-add 𝓡 n (λ k. (f k).entry i j) (λ k. (g k).entry i j)

  -- the projectors onto all indices make up the identity. Each is a product over one index, hence the 0 + ..
  pub sum_projectors : (n : ℕ) → sum_matrices 𝓐 n (λ k. mul 𝓐 (unit_column 𝓐 n k) (unit_row 𝓐 n k)) ≈ identity 𝓐 n
  unfolding sum_matrices mul unit_column unit_row identity sum
  sum_projectors n =
      record {
        rows = refl;
        columns = refl;
        entries = λ i j h l.
            sum_ext 𝓐 n _ _ (λ k b. S.zero-add 𝓡 (δ i k ⊙ δ j k) ∙ ap (λ x. x ⊙ δ j k) (delta_sym 𝓡 i k))
            ∙ pick 𝓡 n i (δ j) h
            ∙ delta_sym 𝓡 j i;
      }

  pub sum_deltas : (n s : ℕ) → s < n → sum_matrices 𝓐 n (λ k. scalar 𝓐 (kronecker_delta 𝓐 s k)) ≈ scalar 𝓐 𝓐.one
  unfolding sum_matrices scalar
  sum_deltas n s h = everywhere refl refl λ i j.
      sum_single 𝓡 n s (δ s) h (λ k l d. delta_differ 𝓡 s k (λ e. d (sym e))) ∙ delta_same 𝓡 s

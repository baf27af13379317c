-- Laws of the Kronecker product.
use mathlib.Core.Path.{◌≡◌, refl, ◌∙◌, ap}
use Prim.Native.Nat.{ℕ, ◌+◌, ◌*◌, ◌/◌, ◌%◌, ◌<◌}
use native.Mathlib.Nat.{div-add-mod'}
use Rattle.algebra.specs.Semirings.{Arithmetic, StarSemiring}
use Rattle.algebra.specs.Matrices.{Matrix, ◌≈◌, kronecker_delta, zeros, identity, unit_column, unit_row, add, scale, mul, adjoint, kronecker}
use Rattle.algebra.proofs.Semirings as S
use Rattle.algebra.proofs.Digits.{low}
use Rattle.algebra.proofs.Sums.{sum_ext, sum-product}
use Rattle.algebra.proofs.Deltas.{delta_digits}
use Rattle.algebra.proofs.Alike.{everywhere}

module _ {R : Type 0} {𝓐 : Arithmetic R} (𝓡 : StarSemiring 𝓐) where
  open 𝓐 use {add as ◌⊕◌, mul as ◌⊙◌}

  infixl 65 ◌⊕◌
  infixl 70 ◌⊙◌
  pub kronecker-add : (A B C : Matrix R) → B.rows ≡ C.rows → B.columns ≡ C.columns → kronecker 𝓐 A (add 𝓐 B C) ≈ add 𝓐 (kronecker 𝓐 A B) (kronecker 𝓐 A C)
  unfolding kronecker add
  kronecker-add A B C m n = everywhere refl refl λ i j.
      rw (← m, ← n) (𝓡.mul_add (A.entry (i / B.rows) (j / B.columns)) (B.entry (i % B.rows) (j % B.columns)) (C.entry (i % B.rows) (j % B.columns)))

  pub add-kronecker : (A B C : Matrix R) → kronecker 𝓐 (add 𝓐 A B) C ≈ add 𝓐 (kronecker 𝓐 A C) (kronecker 𝓐 B C)
  unfolding kronecker add
  add-kronecker A B C = everywhere refl refl λ i j.
      S.add-mul 𝓡 (A.entry (i / C.rows) (j / C.columns)) (B.entry (i / C.rows) (j / C.columns)) (C.entry (i % C.rows) (j % C.columns))

  pub kronecker-scale : (x : R) (A B : Matrix R) → kronecker 𝓐 A (scale 𝓐 x B) ≈ scale 𝓐 x (kronecker 𝓐 A B)
  unfolding kronecker scale
  kronecker-scale x A B = everywhere refl refl λ i j. S.mul_left_comm 𝓡 _ x _

  pub scale-kronecker : (x : R) (A B : Matrix R) → kronecker 𝓐 (scale 𝓐 x A) B ≈ scale 𝓐 x (kronecker 𝓐 A B)
  unfolding kronecker scale
  scale-kronecker x A B = everywhere refl refl λ i j. 𝓡.mul_assoc x _ _

  pub kronecker-zeros : (A : Matrix R) (m n : ℕ) → kronecker 𝓐 A (zeros 𝓐 m n) ≈ zeros 𝓐 (A.rows * m) (A.columns * n)
  unfolding kronecker zeros
  kronecker-zeros A m n = everywhere refl refl λ i j. 𝓡.mul_zero _

  pub zeros-kronecker : (m n : ℕ) (A : Matrix R) → kronecker 𝓐 (zeros 𝓐 m n) A ≈ zeros 𝓐 (m * A.rows) (n * A.columns)
  unfolding kronecker zeros
  zeros-kronecker m n A = everywhere refl refl λ i j. S.zero-mul 𝓡 _

  pub adjoint-kronecker : (A B : Matrix R) → adjoint 𝓐 (kronecker 𝓐 A B) ≈ kronecker 𝓐 (adjoint 𝓐 A) (adjoint 𝓐 B)
  unfolding kronecker adjoint
  adjoint-kronecker A B = everywhere refl refl λ i j. 𝓡.conj_mul _ _

  -- (A ⊗ B) (C ⊗ D) = A C ⊗ B D
  pub mixed_product : (A B C D : Matrix R) → B.columns ≡ D.rows → mul 𝓐 (kronecker 𝓐 A B) (kronecker 𝓐 C D) ≈ kronecker 𝓐 (mul 𝓐 A C) (mul 𝓐 B D)
  unfolding kronecker mul
  mixed_product A B C D e = everywhere refl refl λ i j.
      let a : ℕ → R = λ k. A.entry (i / B.rows) k ⊙ C.entry k (j / D.columns) in
      let b : ℕ → R = λ l. B.entry (i % B.rows) l ⊙ D.entry l (j % D.columns) in
      sum_ext 𝓐 (A.columns * B.columns) _ _ (λ k h. rw (← e) (S.mul_exchange 𝓡 _ _ _ _))
      ∙ sum-product 𝓡 A.columns B.columns a b

  pub kronecker-identity : (m n : ℕ) → kronecker 𝓐 (identity 𝓐 m) (identity 𝓐 n) ≈ identity 𝓐 (m * n)
  unfolding kronecker identity
  kronecker-identity m n =
      record {
        rows = refl;
        columns = refl;
        entries = λ i j h k. delta_digits 𝓡 n i (j / n) (j % n) (low m n k) ∙ ap (kronecker_delta 𝓐 i) (div-add-mod' j n);
      }

  pub kronecker-unit_column : (m n s t : ℕ) → t < n → kronecker 𝓐 (unit_column 𝓐 m s) (unit_column 𝓐 n t) ≈ unit_column 𝓐 (m * n) (s * n + t)
  unfolding kronecker unit_column
  kronecker-unit_column m n s t h = everywhere refl refl λ i j. delta_digits 𝓡 n i s t h

  pub kronecker-unit_row : (m n s t : ℕ) → t < n → kronecker 𝓐 (unit_row 𝓐 m s) (unit_row 𝓐 n t) ≈ unit_row 𝓐 (m * n) (s * n + t)
  unfolding kronecker unit_row
  kronecker-unit_row m n s t h = everywhere refl refl λ i j. delta_digits 𝓡 n j s t h

-- Laws of the matrix product.
use mathlib.Core.Path.{◌≡◌, refl, sym, ◌∙◌, ap}
use Prim.Native.Nat.{ℕ, ◌<◌}
use Rattle.algebra.specs.Semirings.{Arithmetic, StarSemiring}
use Rattle.algebra.specs.Sums.{sum}
use Rattle.algebra.specs.Matrices.{Matrix, ◌≈◌, kronecker_delta, zeros, identity, unit_column, unit_row, scalar, add, scale, mul, adjoint, Unitary}
use Rattle.algebra.proofs.Semirings as S
use Rattle.algebra.proofs.Sums.{sum_ext, sum-none, sum-add, sum-scale, sum_swap, sum-conj, sum_single}
use Rattle.algebra.proofs.Deltas.{delta_same, delta_differ, delta_sym}
use Rattle.algebra.proofs.Alike.{≈-refl, ≈-trans, everywhere, mul-≈}
use Rattle.algebra.proofs.Linear.{adjoint-identity}

module _ {R : Type 0} {𝓐 : Arithmetic R} (𝓡 : StarSemiring 𝓐) where
  open 𝓐 use {add as ◌⊕◌, mul as ◌⊙◌}

  infixl 65 ◌⊕◌
  infixl 70 ◌⊙◌
  pub mul_assoc : (A B C : Matrix R) → mul 𝓐 (mul 𝓐 A B) C ≈ mul 𝓐 A (mul 𝓐 B C)
  unfolding mul
  mul_assoc A B C = everywhere refl refl λ i j.
      sum_ext 𝓐 B.columns _ _ (λ l h. pull i l j)
      ∙ sum_swap 𝓡 B.columns A.columns (λ l k. A.entry i k ⊙ (B.entry k l ⊙ C.entry l j))
      ∙ sum_ext 𝓐 A.columns _ _ λ k h. sym (sum-scale 𝓡 (A.entry i k) B.columns (λ l. B.entry k l ⊙ C.entry l j))
    where
      -- one column of the first product, times an entry of C
      pull : (i l j : ℕ) → (mul 𝓐 A B).entry i l ⊙ C.entry l j ≡ sum 𝓐 A.columns (λ k. A.entry i k ⊙ (B.entry k l ⊙ C.entry l j))
      pull i l j =
          𝓡.mul_comm ((mul 𝓐 A B).entry i l) (C.entry l j)
          ∙ sum-scale 𝓡 (C.entry l j) A.columns (λ k. A.entry i k ⊙ B.entry k l)
          ∙ sum_ext 𝓐 A.columns _ _ λ k h. 𝓡.mul_comm (C.entry l j) (A.entry i k ⊙ B.entry k l) ∙ 𝓡.mul_assoc (A.entry i k) (B.entry k l) (C.entry l j)

  pub mul_add : (A B C : Matrix R) → mul 𝓐 A (add 𝓐 B C) ≈ add 𝓐 (mul 𝓐 A B) (mul 𝓐 A C)
  unfolding mul add
  mul_add A B C = everywhere refl refl λ i j.
      sum_ext 𝓐 A.columns _ _ (λ k h. 𝓡.mul_add (A.entry i k) (B.entry k j) (C.entry k j))
      ∙ sum-add 𝓡 A.columns (λ k. A.entry i k ⊙ B.entry k j) (λ k. A.entry i k ⊙ C.entry k j)

  pub add-mul : (A B C : Matrix R) → A.columns ≡ B.columns → mul 𝓐 (add 𝓐 A B) C ≈ add 𝓐 (mul 𝓐 A C) (mul 𝓐 B C)
  unfolding mul add
  add-mul A B C e = everywhere refl refl λ i j.
      sum_ext 𝓐 A.columns _ _ (λ k h. S.add-mul 𝓡 (A.entry i k) (B.entry i k) (C.entry k j))
      ∙ sum-add 𝓡 A.columns (λ k. A.entry i k ⊙ C.entry k j) (λ k. B.entry i k ⊙ C.entry k j)
      ∙ ap (λ n. (mul 𝓐 A C).entry i j ⊕ sum 𝓐 n (λ k. B.entry i k ⊙ C.entry k j)) e

  pub mul-scale : (x : R) (A B : Matrix R) → mul 𝓐 A (scale 𝓐 x B) ≈ scale 𝓐 x (mul 𝓐 A B)
  unfolding mul scale
  mul-scale x A B = everywhere refl refl λ i j.
      sum_ext 𝓐 A.columns _ _ (λ k h. S.mul_left_comm 𝓡 (A.entry i k) x (B.entry k j))
      ∙ sym (sum-scale 𝓡 x A.columns (λ k. A.entry i k ⊙ B.entry k j))

  pub scale-mul : (x : R) (A B : Matrix R) → mul 𝓐 (scale 𝓐 x A) B ≈ scale 𝓐 x (mul 𝓐 A B)
  unfolding mul scale
  scale-mul x A B = everywhere refl refl λ i j.
      sum_ext 𝓐 A.columns _ _ (λ k h. 𝓡.mul_assoc x (A.entry i k) (B.entry k j))
      ∙ sym (sum-scale 𝓡 x A.columns (λ k. A.entry i k ⊙ B.entry k j))

  pub mul-zeros : (A : Matrix R) (m n : ℕ) → mul 𝓐 A (zeros 𝓐 m n) ≈ zeros 𝓐 A.rows n
  unfolding mul zeros
  mul-zeros A m n = everywhere refl refl λ i j. sum-none 𝓡 A.columns _ λ k h. 𝓡.mul_zero (A.entry i k)

  pub zeros-mul : (m n : ℕ) (A : Matrix R) → mul 𝓐 (zeros 𝓐 m n) A ≈ zeros 𝓐 m A.columns
  unfolding mul zeros
  zeros-mul m n A = everywhere refl refl λ i j. sum-none 𝓡 n _ λ k h. S.zero-mul 𝓡 (A.entry k j)

  pub adjoint-mul : (A B : Matrix R) → A.columns ≡ B.rows → adjoint 𝓐 (mul 𝓐 A B) ≈ mul 𝓐 (adjoint 𝓐 B) (adjoint 𝓐 A)
  unfolding mul adjoint
  adjoint-mul A B e = everywhere refl refl λ i j.
      sum-conj 𝓡 A.columns (λ k. A.entry j k ⊙ B.entry k i)
      ∙ sum_ext 𝓐 A.columns _ _ (λ k h. 𝓡.conj_mul (A.entry j k) (B.entry k i) ∙ 𝓡.mul_comm (𝓐.conj (A.entry j k)) (𝓐.conj (B.entry k i)))
      ∙ ap (λ n. sum 𝓐 n (λ k. 𝓐.conj (B.entry k i) ⊙ 𝓐.conj (A.entry j k))) e

  -- ---- a delta as a factor picks one summand
  pub pick : (n s : ℕ) (f : ℕ → R) → s < n → sum 𝓐 n (λ k. kronecker_delta 𝓐 k s ⊙ f k) ≡ f s
  pick n s f h =
      sum_single 𝓡 n s (λ k. kronecker_delta 𝓐 k s ⊙ f k) h (λ k l d. rw (delta_differ 𝓡 k s d) (S.zero-mul 𝓡 (f k)))
      ∙ rw (delta_same 𝓡 s) (S.one-mul 𝓡 (f s))

  pub identity-mul : (n : ℕ) (A : Matrix R) → n ≡ A.rows → mul 𝓐 (identity 𝓐 n) A ≈ A
  unfolding mul identity
  identity-mul n A e =
      record {
        rows = e;
        columns = refl;
        entries = λ i j h k. sum_ext 𝓐 n _ _ (λ l b. ap (λ x. x ⊙ A.entry l j) (delta_sym 𝓡 i l)) ∙ pick n i (λ l. A.entry l j) h;
      }

  pub mul-identity : (n : ℕ) (A : Matrix R) → A.columns ≡ n → mul 𝓐 A (identity 𝓐 n) ≈ A
  unfolding mul identity
  mul-identity n A e =
      record {
        rows = refl;
        columns = sym e;
        entries = λ i j h k.
            sum_ext 𝓐 A.columns _ _ (λ l b. 𝓡.mul_comm (A.entry i l) (kronecker_delta 𝓐 l j))
            ∙ pick A.columns j (λ l. A.entry i l) (rw e k);
      }

  pub identity-unitary : (n : ℕ) → Unitary 𝓐 (identity 𝓐 n)
  unfolding identity adjoint
  identity-unitary n =
      let a = adjoint-identity 𝓡 n in
      let once = identity-mul n (identity 𝓐 n) refl in
      record { left = ≈-trans (mul-≈ 𝓐 refl a (≈-refl _)) once; right = ≈-trans (mul-≈ 𝓐 refl (≈-refl _) a) once }

  -- the inner product of a unit row and a unit column
  pub unit_row_column : (n s t : ℕ) → s < n → mul 𝓐 (unit_row 𝓐 n s) (unit_column 𝓐 n t) ≈ scalar 𝓐 (kronecker_delta 𝓐 s t)
  unfolding mul unit_row unit_column scalar
  unit_row_column n s t h = everywhere refl refl λ i j. pick n s (λ k. kronecker_delta 𝓐 k t) h

-- Numbers as 1 by 1 matrices: a factor of one row or column scales.
use mathlib.Core.Path.{◌≡◌, refl, sym, ◌∙◌}
use Prim.Native.Nat.{ℕ, ◌<◌}
use native.Mathlib.Nat.{one-mul, mod-eq_of_lt}
use native.Mathlib.Omega.{arith}
use Rattle.algebra.specs.Semirings.{Arithmetic, StarSemiring}
use Rattle.algebra.specs.Sums.{sum}
use Rattle.algebra.specs.Matrices.{Matrix, ◌≈◌, number, zeros, identity, scalar, scale, mul, adjoint, kronecker}
use Rattle.algebra.proofs.Semirings as S
use Rattle.algebra.proofs.Deltas.{delta_same}
use Rattle.algebra.proofs.Alike.{≈-refl, ≈-sym, ≈-trans, everywhere, mul-≈}
use Rattle.algebra.proofs.Products.{mul_assoc}

module _ {R : Type 0} {𝓐 : Arithmetic R} (𝓡 : StarSemiring 𝓐) where
  open 𝓐 use {zero as 𝟘, one as 𝟙, add as ◌⊕◌, mul as ◌⊙◌}

  infixl 65 ◌⊕◌
  infixl 70 ◌⊙◌
  -- a 1 by 1 matrix is the number that it holds
  pub scalar-number : (A : Matrix R) → A.rows ≡ 1 → A.columns ≡ 1 → A ≈ scalar 𝓐 (number A)
  unfolding scalar number
  scalar-number A m n =
      record { rows = m; columns = n; entries = λ i j h k. let a : i ≡ 0 = omega arith in let b : j ≡ 0 = omega arith in cc (a, b) }

  pub scalar_zero : zeros 𝓐 1 1 ≈ scalar 𝓐 𝟘
  unfolding zeros scalar
  scalar_zero = everywhere refl refl λ i j. refl

  pub scalar_one : identity 𝓐 1 ≈ scalar 𝓐 𝟙
  unfolding identity scalar
  scalar_one =
      record {
        rows = refl;
        columns = refl;
        entries = λ i j h k. let a : i ≡ 0 = omega arith in let b : j ≡ 0 = omega arith in rw (a, b) (delta_same 𝓡 0);
      }

  pub scale-scalar : (x y : R) → scale 𝓐 x (scalar 𝓐 y) ≈ scalar 𝓐 (x ⊙ y)
  unfolding scale scalar
  scale-scalar x y = everywhere refl refl λ i j. refl

  pub adjoint-scalar : (x : R) → adjoint 𝓐 (scalar 𝓐 x) ≈ scalar 𝓐 (𝓐.conj x)
  unfolding adjoint scalar
  adjoint-scalar x = everywhere refl refl λ i j. refl

  -- a sum of one summand
  only : (n : ℕ) (f : ℕ → R) → n ≡ 1 → sum 𝓐 n f ≡ f 0
  unfolding sum
  only n f e = rw e (S.zero-add 𝓡 (f 0))

  pub mul-scalar : (A : Matrix R) (x : R) → A.columns ≡ 1 → mul 𝓐 A (scalar 𝓐 x) ≈ scale 𝓐 x A
  unfolding mul scalar scale
  mul-scalar A x e =
      record {
        rows = refl;
        columns = sym e;
        entries = λ i j h k. let b : j ≡ 0 = omega arith in only A.columns (λ l. A.entry i l ⊙ x) e ∙ cc (b, 𝓡.mul_comm (A.entry i 0) x);
      }

  pub scalar-mul : (x : R) (A : Matrix R) → A.rows ≡ 1 → mul 𝓐 (scalar 𝓐 x) A ≈ scale 𝓐 x A
  unfolding mul scalar scale
  scalar-mul x A e =
      record { rows = sym e; columns = refl; entries = λ i j h k. let a : i ≡ 0 = omega arith in only 1 (λ l. x ⊙ A.entry l j) refl ∙ cc a }

  pub scalar-kronecker : (x : R) (A : Matrix R) → kronecker 𝓐 (scalar 𝓐 x) A ≈ scale 𝓐 x A
  unfolding kronecker scalar scale
  scalar-kronecker x A =
      record {
        rows = one-mul A.rows;
        columns = one-mul A.columns;
        entries = λ i j h k.
            let a : i < A.rows = omega arith in
            let b : j < A.columns = omega arith in
            cc (mod-eq_of_lt a, mod-eq_of_lt b);
      }

  -- ---- outer and inner products: (K B) K' = (B K') K, and B (K B') = (B K) B'
  pub outer-mul : (K B K' : Matrix R) → K.columns ≡ 1 → B.rows ≡ 1 → K'.columns ≡ 1 → mul 𝓐 (mul 𝓐 K B) K' ≈ scale 𝓐 (number (mul 𝓐 B K')) K
  unfolding mul
  outer-mul K B K' k b k' =
      ≈-trans (mul_assoc 𝓡 K B K')
      (≈-trans (mul-≈ 𝓐 (k ∙ sym b) (≈-refl K) (scalar-number (mul 𝓐 B K') b k')) (mul-scalar K (number (mul 𝓐 B K')) k))

  pub mul-outer : (B K B' : Matrix R) → B.rows ≡ 1 → K.columns ≡ 1 → B'.rows ≡ 1 → mul 𝓐 B (mul 𝓐 K B') ≈ scale 𝓐 (number (mul 𝓐 B K)) B'
  unfolding mul
  mul-outer B K B' b k b' =
      ≈-trans (≈-sym (mul_assoc 𝓡 B K B'))
      (≈-trans (mul-≈ 𝓐 (k ∙ sym b') (scalar-number (mul 𝓐 B K) b k) (≈-refl B')) (scalar-mul (number (mul 𝓐 B K)) B' b'))

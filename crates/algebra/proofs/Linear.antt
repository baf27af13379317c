-- Laws that hold entry by entry: sums, scaling, adjoints.
use mathlib.Core.Path.{◌≡◌, refl, sym, ◌∙◌}
use Prim.Native.Nat.{ℕ}
use Rattle.algebra.specs.Semirings.{Arithmetic, StarSemiring}
use Rattle.algebra.specs.Matrices.{Matrix, ◌≈◌, zeros, identity, unit_column, unit_row, add, scale, adjoint}
use Rattle.algebra.proofs.Semirings as S
use Rattle.algebra.proofs.Alike.{≈-sym, ≈-trans, everywhere, adjoint-≈}
use Rattle.algebra.proofs.Deltas.{delta_sym, conj_delta}

module _ {R : Type 0} {𝓐 : Arithmetic R} (𝓡 : StarSemiring 𝓐) where
  -- ---- sums
  pub add_assoc : (A B C : Matrix R) → add 𝓐 (add 𝓐 A B) C ≈ add 𝓐 A (add 𝓐 B C)
  unfolding add
  add_assoc A B C = everywhere refl refl λ i j. 𝓡.add_assoc (A.entry i j) (B.entry i j) (C.entry i j)

  pub add_comm : (A B : Matrix R) → A.rows ≡ B.rows → A.columns ≡ B.columns → add 𝓐 A B ≈ add 𝓐 B A
  unfolding add
  add_comm A B m n = everywhere m n λ i j. 𝓡.add_comm (A.entry i j) (B.entry i j)

  pub add-zeros : (A : Matrix R) (m n : ℕ) → add 𝓐 A (zeros 𝓐 m n) ≈ A
  unfolding add zeros
  add-zeros A m n = everywhere refl refl λ i j. 𝓡.add_zero (A.entry i j)

  -- ---- scaling
  pub scale-add : (x : R) (A B : Matrix R) → scale 𝓐 x (add 𝓐 A B) ≈ add 𝓐 (scale 𝓐 x A) (scale 𝓐 x B)
  unfolding add scale
  scale-add x A B = everywhere refl refl λ i j. 𝓡.mul_add x (A.entry i j) (B.entry i j)

  pub add-scale : (x y : R) (A : Matrix R) → scale 𝓐 (𝓐.add x y) A ≈ add 𝓐 (scale 𝓐 x A) (scale 𝓐 y A)
  unfolding add scale
  add-scale x y A = everywhere refl refl λ i j. S.add-mul 𝓡 x y (A.entry i j)

  pub scale-scale : (x y : R) (A : Matrix R) → scale 𝓐 x (scale 𝓐 y A) ≈ scale 𝓐 (𝓐.mul x y) A
  unfolding scale
  scale-scale x y A = everywhere refl refl λ i j. sym (𝓡.mul_assoc x y (A.entry i j))

  pub scale_one : (A : Matrix R) → scale 𝓐 𝓐.one A ≈ A
  unfolding scale
  scale_one A = everywhere refl refl λ i j. S.one-mul 𝓡 (A.entry i j)

  pub scale-zero : (A : Matrix R) → scale 𝓐 𝓐.zero A ≈ zeros 𝓐 A.rows A.columns
  unfolding scale zeros
  scale-zero A = everywhere refl refl λ i j. S.zero-mul 𝓡 (A.entry i j)

  pub scale-zeros : (x : R) (m n : ℕ) → scale 𝓐 x (zeros 𝓐 m n) ≈ zeros 𝓐 m n
  unfolding scale zeros
  scale-zeros x m n = everywhere refl refl λ i j. 𝓡.mul_zero x

  -- ---- adjoints
  pub adjoint-adjoint : (A : Matrix R) → adjoint 𝓐 (adjoint 𝓐 A) ≈ A
  unfolding adjoint
  adjoint-adjoint A = everywhere refl refl λ i j. 𝓡.conj_conj (A.entry i j)

  pub adjoint-add : (A B : Matrix R) → adjoint 𝓐 (add 𝓐 A B) ≈ add 𝓐 (adjoint 𝓐 A) (adjoint 𝓐 B)
  unfolding adjoint add
  adjoint-add A B = everywhere refl refl λ i j. 𝓡.conj_add (A.entry j i) (B.entry j i)

  pub adjoint-scale : (x : R) (A : Matrix R) → adjoint 𝓐 (scale 𝓐 x A) ≈ scale 𝓐 (𝓐.conj x) (adjoint 𝓐 A)
  unfolding adjoint scale
  adjoint-scale x A = everywhere refl refl λ i j. 𝓡.conj_mul x (A.entry j i)

  pub adjoint-zeros : (m n : ℕ) → adjoint 𝓐 (zeros 𝓐 m n) ≈ zeros 𝓐 n m
  unfolding adjoint zeros
  adjoint-zeros m n = everywhere refl refl λ i j. S.conj-zero 𝓡

  pub adjoint-identity : (n : ℕ) → adjoint 𝓐 (identity 𝓐 n) ≈ identity 𝓐 n
  unfolding adjoint identity
  adjoint-identity n = everywhere refl refl λ i j. conj_delta 𝓡 j i ∙ delta_sym 𝓡 j i

  pub adjoint-unit_column : (n k : ℕ) → adjoint 𝓐 (unit_column 𝓐 n k) ≈ unit_row 𝓐 n k
  unfolding adjoint unit_column unit_row
  adjoint-unit_column n k = everywhere refl refl λ i j. conj_delta 𝓡 j k

  pub adjoint-unit_row : (n k : ℕ) → adjoint 𝓐 (unit_row 𝓐 n k) ≈ unit_column 𝓐 n k
  adjoint-unit_row n k = ≈-trans (adjoint-≈ 𝓐 (≈-sym (adjoint-unit_column n k))) (adjoint-adjoint (unit_column 𝓐 n k))

-- Laws that combine others, in the forms that the rules of the papers ask for.
use mathlib.Core.Path.{◌≡◌, refl, sym, ◌∙◌, ap}
use Prim.Native.Nat.{ℕ, ◌+◌, ◌*◌, ◌<◌}
use lib.Arith.{digits_div, digits_mod}
use Rattle.algebra.specs.Semirings.{Arithmetic, StarSemiring}
use Rattle.algebra.specs.Matrices.{Matrix, ◌≈◌, HasShape, number, kronecker_delta, zeros, unit_column, unit_row, scalar as scalar-matrix, scale, mul, adjoint, kronecker}
use Rattle.algebra.proofs.Deltas as Deltas
use Rattle.algebra.proofs.Alike.{≈-refl, ≈-sym, ≈-trans, ≡→≈, scale-≈, mul-≈, adjoint-≈, kronecker-≈}
use Rattle.algebra.proofs.Linear as Linear
use Rattle.algebra.proofs.Products as Products
use Rattle.algebra.proofs.Scalars as Scalars
use Rattle.algebra.proofs.Kronecker as Kronecker

module _ {R : Type 0} {𝓐 : Arithmetic R} (𝓡 : StarSemiring 𝓐) where
  open 𝓐 use {zero as 𝟘, one as 𝟙, mul as ◌⊙◌, conj}

  infixl 70 ◌⊙◌
  -- ---- zeros
  pub zeros-≈ : {m n m' n' : ℕ} → m ≡ m' → n ≡ n' → zeros 𝓐 m n ≈ zeros 𝓐 m' n'
  zeros-≈ e f = ≡→≈ (cc (e, f))

  pub zeros-mul : (m n : ℕ) (A : Matrix R) {k : ℕ} → A.columns ≡ k → mul 𝓐 (zeros 𝓐 m n) A ≈ zeros 𝓐 m k
  zeros-mul m n A e = ≈-trans (Products.zeros-mul 𝓡 m n A) (zeros-≈ refl e)

  pub mul-zeros : (A : Matrix R) (m n : ℕ) {k : ℕ} → A.rows ≡ k → mul 𝓐 A (zeros 𝓐 m n) ≈ zeros 𝓐 k n
  mul-zeros A m n e = ≈-trans (Products.mul-zeros 𝓡 A m n) (zeros-≈ e refl)

  pub zeros-kronecker : (m n : ℕ) (A : Matrix R) {k l : ℕ} → m * A.rows ≡ k → n * A.columns ≡ l → kronecker 𝓐 (zeros 𝓐 m n) A ≈ zeros 𝓐 k l
  zeros-kronecker m n A e f = ≈-trans (Kronecker.zeros-kronecker 𝓡 m n A) (zeros-≈ e f)

  pub kronecker-zeros : (A : Matrix R) (m n : ℕ) {k l : ℕ} → A.rows * m ≡ k → A.columns * n ≡ l → kronecker 𝓐 A (zeros 𝓐 m n) ≈ zeros 𝓐 k l
  kronecker-zeros A m n e f = ≈-trans (Kronecker.kronecker-zeros 𝓡 A m n) (zeros-≈ e f)

  -- ---- numbers
  pub number-scalar : (x : R) → number (scalar-matrix 𝓐 x) ≡ x
  unfolding number scalar-matrix
  number-scalar x = refl

  pub scalar-≈ : {x y : R} → x ≡ y → scalar-matrix 𝓐 x ≈ scalar-matrix 𝓐 y
  scalar-≈ e = ≡→≈ (ap (scalar-matrix 𝓐) e)

  -- a number is the 1 by 1 matrix that holds it
  pub scalar_is : (A : Matrix R) {x : R} → HasShape A 1 1 → x ≡ number A → scalar-matrix 𝓐 x ≈ A
  scalar_is A a e = ≈-trans (scalar-≈ e) (≈-sym (Scalars.scalar-number 𝓡 A a.rows a.columns))

  -- scaled by the number that 5 stands for
  pub scale_0 : (A : Matrix R) {m n : ℕ} → A.rows ≡ m → A.columns ≡ n → scale 𝓐 (number (scalar-matrix 𝓐 𝟘)) A ≈ zeros 𝓐 m n
  scale_0 A e f = ≈-trans (scale-≈ 𝓐 (number-scalar 𝟘) (≈-refl A)) (≈-trans (Linear.scale-zero 𝓡 A) (zeros-≈ e f))

  pub adjoint-number : (A : Matrix R) → HasShape A 1 1 → adjoint 𝓐 A ≈ scalar-matrix 𝓐 (conj (number A))
  adjoint-number A a = ≈-trans (adjoint-≈ 𝓐 (≈-sym (scalar_is A a refl))) (Scalars.adjoint-scalar 𝓡 _)

  -- what 8:2 of two scalars stands for
  abbrev pub both : Matrix R → Matrix R → Matrix R
  both A B = scalar-matrix 𝓐 (number A ⊙ (number B ⊙ 𝟙))

  pub number-both : (A B : Matrix R) → number A ⊙ number B ≡ number (both A B)
  number-both A B = cc (number-scalar (number A ⊙ (number B ⊙ 𝟙)), 𝓡.mul_one (number B))

  pub scale-both : (A B : Matrix R) → HasShape B 1 1 → scale 𝓐 (number A) B ≈ both A B
  scale-both A B b = ≈-trans (scale-≈ 𝓐 refl (≈-sym (scalar_is B b (𝓡.mul_one (number B))))) (Scalars.scale-scalar 𝓡 _ _)

  pub kronecker-both : (A B : Matrix R) → HasShape A 1 1 → HasShape B 1 1 → kronecker 𝓐 A B ≈ both A B
  kronecker-both A B a b =
      ≈-trans (kronecker-≈ 𝓐 (≈-sym (scalar_is A a refl)) (≈-refl B)) (≈-trans (Scalars.scalar-kronecker 𝓡 _ B) (scale-both A B b))

  -- ---- a Kronecker product times the unit column or row of a pair
  pub mixed_column : (A B : Matrix R) (m n s t : ℕ) → A.columns ≡ m → B.columns ≡ n → t < n
      → mul 𝓐 (kronecker 𝓐 A B) (unit_column 𝓐 (m * n) (s * n + t)) ≈ kronecker 𝓐 (mul 𝓐 A (unit_column 𝓐 m s)) (mul 𝓐 B (unit_column 𝓐 n t))
  unfolding kronecker unit_column
  mixed_column A B m n s t a b h =
      ≈-trans (mul-≈ 𝓐 (cc (a, b)) (≈-refl (kronecker 𝓐 A B)) (≈-sym (Kronecker.kronecker-unit_column 𝓡 m n s t h)))
      (Kronecker.mixed_product 𝓡 A B _ _ b)

  pub mixed_row : (A B : Matrix R) (m n s t : ℕ) → A.rows ≡ m → B.rows ≡ n → t < n
      → mul 𝓐 (unit_row 𝓐 (m * n) (s * n + t)) (kronecker 𝓐 A B) ≈ kronecker 𝓐 (mul 𝓐 (unit_row 𝓐 m s) A) (mul 𝓐 (unit_row 𝓐 n t) B)
  unfolding kronecker unit_row
  mixed_row A B m n s t a b h =
      ≈-trans (mul-≈ 𝓐 (cc (a, b)) (≈-sym (Kronecker.kronecker-unit_row 𝓡 m n s t h)) (≈-refl (kronecker 𝓐 A B)))
      (Kronecker.mixed_product 𝓡 _ _ A B (sym b))

  -- in a product of three, the first two are multiplied
  pub regroup : (A B : Matrix R) {C : Matrix R} (D : Matrix R) → B.columns ≡ D.rows → mul 𝓐 A B ≈ C → mul 𝓐 A (mul 𝓐 B D) ≈ mul 𝓐 C D
  unfolding mul
  regroup A B D e p = ≈-trans (≈-sym (Products.mul_assoc 𝓡 A B D)) (mul-≈ 𝓐 e p (≈-refl D))

  -- ---- deltas
  pub unit_inner : (m n s t : ℕ) → m ≡ n → s < m → mul 𝓐 (unit_row 𝓐 m s) (unit_column 𝓐 n t) ≈ scalar-matrix 𝓐 (kronecker_delta 𝓐 s t)
  unit_inner m n s t e h = rw (← e) (Products.unit_row_column 𝓡 m s t h)

  -- two pairs are equal where both their parts are
  pub delta_pair : (m n s t u v : ℕ) → m ≡ n → t < m → v < n
      → kronecker_delta 𝓐 (s * m + t) (u * n + v) ≡ kronecker_delta 𝓐 s u ⊙ kronecker_delta 𝓐 t v
  delta_pair m n s t u v e h k =
      sym (Deltas.delta_digits 𝓡 n (s * m + t) u v k) ∙ cc (e, digits_div s h, digits_mod s h)

  pub both_deltas : (m n s t u v : ℕ) → m ≡ n → t < m → v < n
      → scalar-matrix 𝓐 (kronecker_delta 𝓐 (s * m + t) (u * n + v))
      ≈ both (scalar-matrix 𝓐 (kronecker_delta 𝓐 s u)) (scalar-matrix 𝓐 (kronecker_delta 𝓐 t v))
  both_deltas m n s t u v e h k =
      scalar-≈ (delta_pair m n s t u v e h k
      ∙ cc (number-scalar (kronecker_delta 𝓐 s u), number-scalar (kronecker_delta 𝓐 t v), 𝓡.mul_one (kronecker_delta 𝓐 t v)))

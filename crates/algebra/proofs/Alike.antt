-- Being alike is an equivalence, and the operations keep it.
use mathlib.Core.Path.{◌≡◌, refl, sym, ◌∙◌, ap}
use Prim.Native.Nat.{ℕ}
use native.Mathlib.Omega.{arith}
use Rattle.algebra.specs.Semirings.{Arithmetic}
use Rattle.algebra.specs.Sums.{sum}
use Rattle.algebra.specs.Matrices.{Matrix, ◌≈◌, number, add, scale, mul, adjoint, kronecker}
use Rattle.algebra.proofs.Sums.{sum_ext}
use Rattle.algebra.proofs.Digits.{high, low}

module _ {R : Type 0} where
  pub ≈-refl : (A : Matrix R) → A ≈ A
  ≈-refl A = record { rows = refl; columns = refl; entries = λ i j h k. refl }

  pub ≡→≈ : {A B : Matrix R} → A ≡ B → A ≈ B
  ≡→≈ {A} e = rw (← e) (≈-refl A)

  pub ≈-sym : {A B : Matrix R} → A ≈ B → B ≈ A
  ≈-sym p = record { rows = sym p.rows; columns = sym p.columns; entries = λ i j h k. sym (p.entries i j (rw p.rows h) (rw p.columns k)) }

  pub ≈-trans : {A B C : Matrix R} → A ≈ B → B ≈ C → A ≈ C
  ≈-trans p q =
      record {
        rows = p.rows ∙ q.rows;
        columns = p.columns ∙ q.columns;
        entries = λ i j h k. p.entries i j h k ∙ q.entries i j (rw p.rows at h) (rw p.columns at k);
      }

  -- where the entries are equal in and out of range
  pub everywhere : {A B : Matrix R} → A.rows ≡ B.rows → A.columns ≡ B.columns → ((i j : ℕ) → A.entry i j ≡ B.entry i j) → A ≈ B
  everywhere m n e = record { rows = m; columns = n; entries = λ i j h k. e i j }

  pub number-≈ : {A B : Matrix R} → A ≈ B → A.rows ≡ 1 → A.columns ≡ 1 → number A ≡ number B
  unfolding number
  number-≈ p h k = p.entries 0 0 (omega arith) (omega arith)

module _ {R : Type 0} (𝓐 : Arithmetic R) where
  pub add-≈ : {A A' B B' : Matrix R} → A.rows ≡ B.rows → A.columns ≡ B.columns → A ≈ A' → B ≈ B' → add 𝓐 A B ≈ add 𝓐 A' B'
  unfolding add
  add-≈ m n p q =
      record { rows = p.rows; columns = p.columns; entries = λ i j h k. cc (p.entries i j h k, q.entries i j (rw m at h) (rw n at k)) }

  pub scale-≈ : {x y : R} {A A' : Matrix R} → x ≡ y → A ≈ A' → scale 𝓐 x A ≈ scale 𝓐 y A'
  unfolding scale
  scale-≈ e p = record { rows = p.rows; columns = p.columns; entries = λ i j h k. cc (e, p.entries i j h k) }

  pub mul-≈ : {A A' B B' : Matrix R} → A.columns ≡ B.rows → A ≈ A' → B ≈ B' → mul 𝓐 A B ≈ mul 𝓐 A' B'
  unfolding mul
  mul-≈ {A} {A'} {B} {B'} m p q =
      record {
        rows = p.rows;
        columns = q.columns;
        entries = λ i j h k.
            sum_ext 𝓐 A.columns _ _ (λ l b. cc (p.entries i l h b, q.entries l j (rw m at b) k))
            ∙ ap (λ n. sum 𝓐 n λ l. 𝓐.mul (A'.entry i l) (B'.entry l j)) p.columns;
      }

  pub adjoint-≈ : {A A' : Matrix R} → A ≈ A' → adjoint 𝓐 A ≈ adjoint 𝓐 A'
  unfolding adjoint
  adjoint-≈ p = record { rows = p.columns; columns = p.rows; entries = λ i j h k. ap 𝓐.conj (p.entries j i k h) }

  pub kronecker-≈ : {A A' B B' : Matrix R} → A ≈ A' → B ≈ B' → kronecker 𝓐 A B ≈ kronecker 𝓐 A' B'
  unfolding kronecker
  kronecker-≈ {A} {A'} {B} {B'} p q =
      record {
        rows = cc (p.rows, q.rows);
        columns = cc (p.columns, q.columns);
        entries = λ i j h k.
            let m = A.rows in
            let n = A.columns in
            cc (p.entries _ _ (high m B.rows h) (high n B.columns k), q.entries _ _ (low m B.rows h) (low n B.columns k), q.rows, q.columns);
      }

-- Laws of finite sums.
use mathlib.Core.Path.{◌≡◌, refl, sym, ◌∙◌, ap}
use mathlib.Core.Logic.{◌≢◌}
use Prim.Native.Nat.{ℕ, zero, suc, ◌+◌, ◌*◌, ◌/◌, ◌%◌, ◌<◌}
use native.Mathlib.Decide.{dec_lt}
use native.Mathlib.Nat.{add-zero, add-suc, zero-mul, suc-mul}
use native.Mathlib.Omega.{arith}
use lib.Arith.{digits_div, digits_mod}
use Rattle.algebra.specs.Semirings.{Arithmetic, StarSemiring}
use Rattle.algebra.specs.Sums.{sum}
use Rattle.algebra.proofs.Semirings as S

module _ {R : Type 0} (𝓐 : Arithmetic R) where
  -- only the summands in range count
  pub sum_ext : (n : ℕ) (f g : ℕ → R) → ((k : ℕ) → k < n → f k ≡ g k) → sum 𝓐 n f ≡ sum 𝓐 n g
  unfolding sum
  sum_ext zero f g e = refl
  sum_ext (suc n) f g e = cc (sum_ext n f g (λ k h. e k (omega arith)), e n (omega arith))

module _ {R : Type 0} {𝓐 : Arithmetic R} (𝓡 : StarSemiring 𝓐) where
  open 𝓐 use {zero as 𝟘, one as 𝟙, add as ◌⊕◌, mul as ◌⊙◌, conj}

  infixl 65 ◌⊕◌
  infixl 70 ◌⊙◌
  abbrev Σ : ℕ → (ℕ → R) → R
  Σ = sum 𝓐

  pub sum-zero : (n : ℕ) → Σ n (λ k. 𝟘) ≡ 𝟘
  unfolding sum
  sum-zero zero = refl
  sum-zero (suc n) = rw 𝓡.add_zero (sum-zero n)

  pub sum-add : (n : ℕ) (f g : ℕ → R) → Σ n (λ k. f k ⊕ g k) ≡ Σ n f ⊕ Σ n g
  unfolding sum
  sum-add zero f g = sym (𝓡.add_zero 𝟘)
  sum-add (suc n) f g = cc (sum-add n f g, S.add_exchange 𝓡 (Σ n f) (Σ n g) (f n) (g n))

  pub sum-scale : (x : R) (n : ℕ) (f : ℕ → R) → x ⊙ Σ n f ≡ Σ n (λ k. x ⊙ f k)
  unfolding sum
  sum-scale x zero f = 𝓡.mul_zero x
  sum-scale x (suc n) f = 𝓡.mul_add x (Σ n f) (f n) ∙ ap (λ y. y ⊕ x ⊙ f n) (sum-scale x n f)

  pub sum-conj : (n : ℕ) (f : ℕ → R) → conj (Σ n f) ≡ Σ n (λ k. conj (f k))
  unfolding sum
  sum-conj zero f = S.conj-zero 𝓡
  sum-conj (suc n) f = 𝓡.conj_add (Σ n f) (f n) ∙ ap (λ y. y ⊕ conj (f n)) (sum-conj n f)

  pub sum_swap : (m n : ℕ) (f : ℕ → ℕ → R) → Σ m (λ i. Σ n (f i)) ≡ Σ n (λ j. Σ m (λ i. f i j))
  unfolding sum
  sum_swap zero n f = sym (sum-zero n)
  sum_swap (suc m) n f = ap (λ y. y ⊕ Σ n (f m)) (sum_swap m n f) ∙ sym (sum-add n (λ j. Σ m (λ i. f i j)) (f m))

  -- all summands are zero, and all but one are
  pub sum-none : (n : ℕ) (f : ℕ → R) → ((i : ℕ) → i < n → f i ≡ 𝟘) → Σ n f ≡ 𝟘
  sum-none n f z = sum_ext 𝓐 n f (λ k. 𝟘) z ∙ sum-zero n

  pub sum_single : (n k : ℕ) (f : ℕ → R) → k < n → ((i : ℕ) → i < n → i ≢ k → f i ≡ 𝟘) → Σ n f ≡ f k
  unfolding sum
  sum_single zero k f h z = absurd (omega arith)
  sum_single (suc n) k f h z =
      elim (dec_lt k n) [
        | yes below ↦ cc (sum_single n k f below (λ i l. z i (omega arith)), z n (omega arith) (omega arith), 𝓡.add_zero (f k))
        | no last ↦ let e : k ≡ n = omega arith in
            rw e (ap (λ y. y ⊕ f n) (sum-none n f (λ i l. z i (omega arith) (omega arith))) ∙ S.zero-add 𝓡 (f n))
      ]

  -- a range of m · n as m ranges of n
  pub sum-append : (m n : ℕ) (f : ℕ → R) → Σ (m + n) f ≡ Σ m f ⊕ Σ n (λ j. f (m + j))
  unfolding sum
  sum-append m zero f = rw (add-zero m) (sym (𝓡.add_zero (Σ m f)))
  sum-append m (suc n) f = rw (add-suc m n) (cc (sum-append m n f, 𝓡.add_assoc (Σ m f) (Σ n (λ j. f (m + j))) (f (m + n))))

  pub sum_split : (m n : ℕ) (f : ℕ → R) → Σ (m * n) f ≡ Σ m (λ i. Σ n (λ j. f (i * n + j)))
  unfolding sum
  sum_split zero n f = rw (zero-mul n)
  sum_split (suc m) n f =
      rw (suc-mul m n) (sum-append (m * n) n f ∙ ap (λ y. y ⊕ Σ n (λ j. f (m * n + j))) (sum_split m n f))

  -- the same for a summand that is given by quotient and remainder
  pub sum_digits : (m n : ℕ) (f : ℕ → ℕ → R) → Σ (m * n) (λ k. f (k / n) (k % n)) ≡ Σ m (λ i. Σ n (f i))
  sum_digits m n f =
      sum_split m n (λ k. f (k / n) (k % n))
      ∙ sum_ext 𝓐 m _ _ λ i h. sum_ext 𝓐 n _ _ λ j l. cc (digits_div i l, digits_mod i l)

  pub sum-product : (m n : ℕ) (f g : ℕ → R) → Σ (m * n) (λ k. f (k / n) ⊙ g (k % n)) ≡ Σ m f ⊙ Σ n g
  sum-product m n f g =
      sum_digits m n (λ i j. f i ⊙ g j)
      ∙ sum_ext 𝓐 m _ _ (λ i h. sym (sum-scale (f i) n g) ∙ 𝓡.mul_comm (f i) (Σ n g))
      ∙ sym (sum-scale (Σ n g) m f)
      ∙ 𝓡.mul_comm (Σ n g) (Σ m f)

-- Laws of the Kronecker delta.
use mathlib.Core.Path.{◌≡◌, refl, sym, ◌∙◌}
use mathlib.Core.Logic.{◌≢◌}
use Prim.Native.Nat.{ℕ, ◌+◌, ◌*◌, ◌/◌, ◌%◌, ◌<◌}
use native.Mathlib.Decide.{ℕ_discrete}
use native.Mathlib.Nat.{div-add-mod'}
use lib.Arith.{digits_div, digits_mod}
use borrow.Author.Tests.{eq-eqb, ne_eqb}
use Rattle.algebra.specs.Semirings.{Arithmetic, StarSemiring}
use Rattle.algebra.specs.Matrices.{kronecker_delta}
use Rattle.algebra.proofs.Semirings as S

module _ {R : Type 0} {𝓐 : Arithmetic R} (𝓡 : StarSemiring 𝓐) where
  abbrev δ : ℕ → ℕ → R
  δ = kronecker_delta 𝓐

  pub delta_same : (i : ℕ) → δ i i ≡ 𝓐.one
  unfolding kronecker_delta
  delta_same i = rw (eq-eqb i i refl)

  pub delta_differ : (i j : ℕ) → i ≢ j → δ i j ≡ 𝓐.zero
  unfolding kronecker_delta
  delta_differ i j h = rw (ne_eqb i j h)

  -- to show something of a delta, show it where the two are equal and where they differ
  delta_cases : (P : R → Type 0) (i j : ℕ) → (i ≡ j → P 𝓐.one) → (i ≢ j → P 𝓐.zero) → P (δ i j)
  delta_cases P i j same differ =
      elim (ℕ_discrete i j) [ yes e ↦ rw (e, delta_same j) (same e) | no h ↦ rw (delta_differ i j h) (differ h) ]

  pub delta_sym : (i j : ℕ) → δ i j ≡ δ j i
  delta_sym i j = delta_cases (λ x. x ≡ δ j i) i j (λ e. rw e (sym (delta_same j))) (λ h. sym (delta_differ j i (λ e. h (sym e))))

  pub conj_delta : (i j : ℕ) → 𝓐.conj (δ i j) ≡ δ i j
  conj_delta i j = delta_cases (λ x. 𝓐.conj x ≡ x) i j (λ e. S.conj-one 𝓡) (λ h. S.conj-zero 𝓡)

  -- two numbers are equal where both their digits are
  pub delta_digits : (n i s t : ℕ) → t < n → 𝓐.mul (δ (i / n) s) (δ (i % n) t) ≡ δ i (s * n + t)
  delta_digits n i s t h =
      delta_cases (λ x. 𝓐.mul (δ (i / n) s) (δ (i % n) t) ≡ x) i (s * n + t)
      (λ e. rw (e, digits_div s h, digits_mod s h, delta_same s, delta_same t) (𝓡.mul_one 𝓐.one))
      (λ d. delta_cases (λ x. 𝓐.mul x (δ (i % n) t) ≡ 𝓐.zero) (i / n) s
      (λ e. rw (delta_differ (i % n) t (λ f. d (sym (div-add-mod' i n) ∙ cc (e, f)))) (𝓡.mul_zero 𝓐.one))
      (λ f. S.zero-mul 𝓡 (δ (i % n) t)))

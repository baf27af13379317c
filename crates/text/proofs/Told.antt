-- From what the code answers to what the definition says.
use mathlib.Core.Path.{◌≡◌, refl, sym, ◌∙◌, ap}
use mathlib.Core.Bool.{Bool, true, false, cond}
use mathlib.Core.Option.{Option, some, none}
use Prim.Native.Nat.{ℕ, ◌≤◌, ◌<◌, min}
use native.Mathlib.Omega.{arith}
use borrow.Author.Tests.{le-leb, lt-leb, leb-true, leb-false}
use lib.Dec.{leb}
use Rattle.std.specs.Prelude as Code
use Rattle.std.specs.Prelude.{Some, None, Ok, Err}
use Rattle.std.specs.Result.{OkIff, result_ok}
use Rattle.text.specs.Numbers.{told, most, limited_to}

pub told-none : {A B : Type 0} (f : A → B) (o : Option A) → told f o ≡ None → o ≡ none
unfolding told
told-none f none e = refl
told-none f (some x) e = absurd (let z : ◌≡◌ {A = ℕ} 0 1 = cc in omega arith)

pub told_some : {A B : Type 0} (f : A → B) (o : Option A) {y : B} → told f o ≡ Some y → (x : A) × (o ≡ some x) × (y ≡ f x)
unfolding told
told_some f none e = absurd (let z : ◌≡◌ {A = ℕ} 0 1 = cc in omega arith)
told_some f (some x) e = (x, refl, cc)

-- what is answered as it is
pub told_same : {A : Type 0} (o : Option A) {x : A} → told (λ y. y) o ≡ Some x → o ≡ some x
told_same o e = let a = told_some _ o e in a.1 ∙ ap some (sym a.2)

-- ---- numbers
module _ (limit : ℕ) (o : Option ℕ) where
  pub none-limited : told (min most) o ≡ None → limited_to limit o ≡ none
  unfolding limited_to
  none-limited e = rw (told-none _ o e)

  pub over_limit : {v : ℕ} → told (min most) o ≡ Some v → limit < most → limit < v → limited_to limit o ≡ none
  unfolding limited_to
  over_limit {v} e h g = let a = told_some _ o e in let b = a.2 in rw (a.1, lt-leb a.0 limit (omega arith))

  pub in_limit : {v : ℕ} → told (min most) o ≡ Some v → limit < most → v ≤ limit → limited_to limit o ≡ some v
  unfolding limited_to
  in_limit {v} e h g =
      let a = told_some _ o e in let b = a.2 in
      let z : a.0 ≡ v = omega arith in rw (a.1, le-leb a.0 limit (omega arith), z)

  pub limited-few : (n : ℕ) → limited_to limit o ≡ some n → (n ≤ limit) × (o ≡ some n)
  unfolding limited_to
  limited-few n e = go o e
    where
      by : (m : ℕ) (t : Bool) → leb m limit ≡ t → cond t (some m) none ≡ some n → (n ≤ limit) × (some m ≡ some n)
      by m true f e = let z : m ≡ n = cc in let h = leb-true m limit f in (omega arith, e)
      by m false f e = absurd (let z : ◌≡◌ {A = ℕ} 0 1 = cc in omega arith)

      go : (p : Option ℕ) → limited_to limit p ≡ some n → (n ≤ limit) × (p ≡ some n)
      go none e = absurd (let z : ◌≡◌ {A = ℕ} 0 1 = cc in omega arith)
      go (some m) e = by m (leb m limit) refl e

-- ---- a part, as `try_from` answers it
pub part_is : {E : Type 0} (o : Option ℕ) {v : ℕ} (r : Code.Result ℕ E) → told (min most) o ≡ Some v → OkIff r (v < 256) v → result_ok r ≡ told (λ n. n) (limited_to 255 o)
unfolding told
part_is o (Ok x) e h = let l = h.0 in rw (in_limit 255 o e (omega arith) (omega arith), h.1)
part_is o {v} (Err x) e h = rw (over_limit 255 o e (omega arith) (by_not (leb v 255) refl h))
  where
    by_not : (t : Bool) → leb v 255 ≡ t → (v < 256 → ⊥) → 255 < v
    by_not true f h = absurd (h (let l = leb-true v 255 f in omega arith))
    by_not false f h = leb-false v 255 f

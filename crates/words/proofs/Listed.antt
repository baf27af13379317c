-- Lists and tests by number: an item is found by its number, and a test passes where it passes for each.
use mathlib.Core.Path.{◌≡◌, refl, sym, ◌∙◌, ap}
use mathlib.Core.Bool.{Bool, true, false, not, ◌&&◌, and_assoc, and-eq-true_iff, and-false}
use mathlib.Core.Logic.{◌≢◌}
use mathlib.Core.List.{List, [], ◌∷◌, ◌++◌}
use mathlib.Core.Option as O
use Prim.Native.Nat.{ℕ, zero, suc, ◌+◌, ◌≤◌, ◌<◌}
use native.Mathlib.Numerals.{add-one}
use native.Mathlib.Decide.{dec_le}
use native.Mathlib.Omega.{arith}
use borrow.Author.Tests.{not-true, not-false, lt-ltb, le-ltb}
use lib.Dec.{ltb}
use lib.ListN.{length, drop, get_or, get_elem?, drop_of_length-le, get_or-eq_default}
use lib.Seq.{drop-cons}
use Rattle.words.specs.Listed.{up_to, all_up_to, all}

-- ---- items
module _ {A : Type 0} where
  pub up_to-at : (n : ℕ) (f : ℕ → A) (a : ℕ) → a < n → get_elem? (up_to n f) a ≡ O.some (f a)
  unfolding up_to
  up_to-at zero f a h = absurd (omega arith)
  up_to-at (suc n) f zero h = refl
  up_to-at (suc n) f (suc a) h = up_to-at n (λ k. f (suc k)) a (omega arith)

  pub up_to-past : (n : ℕ) (f : ℕ → A) (a : ℕ) → n ≤ a → get_elem? (up_to n f) a ≡ O.none
  unfolding up_to
  up_to-past zero f a h = refl
  up_to-past (suc n) f zero h = absurd (omega arith)
  up_to-past (suc n) f (suc a) h = up_to-past n (λ k. f (suc k)) a (omega arith)

  pub up_to-read : (n : ℕ) (f : ℕ → A) (d : A) (a : ℕ) → a < n → get_or (up_to n f) a d ≡ f a
  unfolding up_to
  up_to-read zero f d a h = absurd (omega arith)
  up_to-read (suc n) f d zero h = refl
  up_to-read (suc n) f d (suc a) h = up_to-read n (λ k. f (suc k)) d a (omega arith)

  pub up_to-some : (n : ℕ) (f : ℕ → A) (a : ℕ) (x : A) → get_elem? (up_to n f) a ≡ O.some x → (a < n) × (f a ≡ x)
  unfolding up_to
  up_to-some zero f a x e = absurd (let z : ◌≡◌ {A = ℕ} 0 1 = cc in omega arith)
  up_to-some (suc n) f zero x e = (omega arith, cc)
  up_to-some (suc n) f (suc a) x e = let r = up_to-some n (λ k. f (suc k)) a x e in (omega arith, r.1)

  pub length-up_to : (n : ℕ) (f : ℕ → A) → length (up_to n f) ≡ n
  unfolding up_to
  length-up_to zero f = refl
  length-up_to (suc n) f = ap suc (length-up_to n λ k. f (suc k))

  pub up_to-same : (n : ℕ) {f g : ℕ → A} → ((k : ℕ) → k < n → f k ≡ g k) → up_to n f ≡ up_to n g
  unfolding up_to
  up_to-same zero h = refl
  up_to-same (suc n) h = let r = up_to-same n (λ k l. h (suc k) (omega arith)) in rw (h 0 (omega arith), r)

  -- one item more
  pub up_to-more : (n : ℕ) {f g : ℕ → A} {x : A} → ((k : ℕ) → k < n → f k ≡ g k) → f n ≡ x → up_to (suc n) f ≡ up_to n g ++ x ∷ []
  unfolding up_to
  up_to-more zero h e = rw e
  up_to-more (suc n) h e = let r = up_to-more n (λ k l. h (suc k) (omega arith)) e in rw (h 0 (omega arith), r)

  pub up_to_split : (n m : ℕ) (f : ℕ → A) → up_to (n + m) f ≡ up_to n f ++ drop n (up_to (n + m) f)
  unfolding up_to
  up_to_split zero m f = refl
  up_to_split (suc n) m f = let z : suc n + m ≡ suc (n + m) = omega arith in rw z (ap (λ (l : List A). f 0 ∷ l) (up_to_split n m (λ k. f (suc k))))

  -- the items from the k-th on
  pub drop-up_to : (n : ℕ) (f : ℕ → A) (k : ℕ) → k < n → drop k (up_to n f) ≡ f k ∷ drop (suc k) (up_to n f)
  unfolding up_to
  drop-up_to zero f k h = absurd (omega arith)
  drop-up_to (suc n) f zero h = refl
  drop-up_to (suc n) f (suc k) h = drop-up_to n (λ a. f (suc a)) k (omega arith)

pub up_to_mark : (n : ℕ) (f : ℕ → Bool) (a : ℕ) → get_or (up_to n f) a false ≡ (ltb a n && f a)
up_to_mark n f a = elim (dec_le n a) [
  | yes h ↦ rw (le-ltb a n h) (get_or-eq_default (up_to n f) false (rw length-up_to h))
  | no h ↦ rw (lt-ltb a n (omega arith)) (up_to-read n f false a (omega arith))
]

-- ---- tests
pub all_up_to-at : (n : ℕ) (f : ℕ → Bool) → all_up_to n f ≡ true → (a : ℕ) → a < n → f a ≡ true
unfolding all_up_to
all_up_to-at zero f e a h = absurd (omega arith)
all_up_to-at (suc n) f e zero h = ((and-eq-true_iff (f 0) _).0 e).0
all_up_to-at (suc n) f e (suc a) h = all_up_to-at n (λ k. f (suc k)) ((and-eq-true_iff (f 0) _).0 e).1 a (omega arith)

pub all_up_to-all : (n : ℕ) (f : ℕ → Bool) → ((a : ℕ) → a < n → f a ≡ true) → all_up_to n f ≡ true
unfolding all_up_to
all_up_to-all zero f h = refl
all_up_to-all (suc n) f h = rw (h 0 (omega arith)) (all_up_to-all n (λ k. f (suc k)) λ a l. h (suc a) (omega arith))

pub all_up_to-fails : (n : ℕ) (f : ℕ → Bool) (a : ℕ) → a < n → f a ≡ false → all_up_to n f ≡ false
unfolding all_up_to
all_up_to-fails zero f a h e = absurd (omega arith)
all_up_to-fails (suc n) f zero h e = rw e
all_up_to-fails (suc n) f (suc a) h e = rw (all_up_to-fails n (λ k. f (suc k)) a (omega arith) e) (and-false (f 0))

-- ---- a test of every word, one after the other: all pass where those from i on do, and b is the test of the next
module _ (f : ℕ → Bool) (ws : List ℕ) (i : ℕ) (rest : all f ws ≡ all f (drop i ws)) where
  pub all_more : i < length ws → {b : Bool} → b ≡ f (get_or ws i 0) → not b ≡ false → all f ws ≡ all f (drop (i + 1) ws)
  unfolding all
  all_more h {b} e k = rest ∙ rw (add-one, drop-cons ws i 0 h, ← e, not-false b k)

  pub all-fails : i < length ws → {b : Bool} → b ≡ f (get_or ws i 0) → not b ≡ true → false ≡ all f ws
  unfolding all
  all-fails h {b} e k = sym (rest ∙ rw (drop-cons ws i 0 h, ← e, not-true b k))

  pub all_end : length ws ≤ i → true ≡ all f ws
  unfolding all
  all_end h = sym (rest ∙ rw (drop_of_length-le ws h))

-- two runs pass where both do
pub all-++ : (f : ℕ → Bool) (vs ws : List ℕ) → all f (vs ++ ws) ≡ (all f vs && all f ws)
unfolding all
all-++ f [] ws = refl
all-++ f (v ∷ vs) ws = rw (all-++ f vs ws) (sym (and_assoc (f v) (all f vs) (all f ws)))

-- ---- a number that is none of 0 .. n − 1, as the last arm of a `match` is told it
unfoldable pub Others : ℕ → ℕ → Type 0
Others zero k = Unit {0}
Others (suc n) k = Others n k × (k ≢ n)

pub others_from : (n k : ℕ) → Others n k → n ≤ k
unfolding Others
others_from zero k o = omega arith
others_from (suc n) k o = let h = others_from n k o.0 in let d = o.1 in omega arith

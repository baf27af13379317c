-- Walks over a text, byte by byte: what is to be known of a whole text is still to be known of the rest.
use mathlib.Core.Path.{◌≡◌, refl, sym}
use mathlib.Core.Logic.{◌≢◌}
use mathlib.Core.Bool.{Bool, true, false, cond, not, ◌&&◌, ◌||◌, and-eq-true_iff}
use mathlib.Core.List.{List, [], ◌∷◌}
use mathlib.Core.Option.{some, none}
use Prim.Native.Nat.{ℕ, suc, ◌+◌, ◌-◌, ◌*◌, ◌≤◌, ◌<◌, min}
use native.Mathlib.Numerals.{add-one}
use native.Mathlib.Omega.{arith}
use borrow.Author.Tests.{eq-eqb, ne_eqb, eqb-true, eqb-false}
use lib.Dec.{eqb, ltb}
use lib.ListN.{length, drop, get_or, drop_of_length-le}
use lib.Seq.{drop-cons}
use Rattle.words.specs.Listed.{all}
use Rattle.std.specs.Prelude.{Some, None, position}
use Rattle.std.specs.List.{position_or_len, starts_with, ends_with}
use Rattle.text.specs.Bytes.{line_feed, printable, fine, all_fine, bad_line, index_of}
use Rattle.text.specs.Pieces.{piece_end, starts}
use Rattle.text.specs.Numbers.{all_digits, value_from, well_begun, is_number, number_in, told, most}

-- ---- the bytes of a file
module _ (n : ℕ) (e : Bool) (s : List ℕ) (i : ℕ) where
  pub bad_feed : i < length s → get_or s i 0 ≡ 10 → bad_line n e (drop i s) ≡ bad_line (n + 1) true (drop (i + 1) s)
  unfolding bad_line
  bad_feed h f = rw (drop-cons s i 0 h, eq-eqb _ _ f, add-one i)

  pub bad-fine : i < length s → get_or s i 0 ≢ 10 → printable (get_or s i 0) ≡ true → bad_line n e (drop i s) ≡ bad_line n false (drop (i + 1) s)
  unfolding bad_line
  bad-fine h f p = rw (drop-cons s i 0 h, ne_eqb _ _ f, p, add-one i)

  pub bad-found : i < length s → get_or s i 0 ≢ 10 → printable (get_or s i 0) ≡ false → bad_line n e (drop i s) ≡ Some n
  unfolding bad_line
  bad-found h f p = rw (drop-cons s i 0 h, ne_eqb _ _ f, p)

  pub bad-end : length s ≤ i → bad_line n e (drop i s) ≡ cond e None (Some n)
  unfolding bad_line
  bad-end h = rw (drop_of_length-le s h)

-- ---- no bad byte
pub fine_more : (so : Bool) (s : List ℕ) (i : ℕ) → i < length s → (so && all_fine (drop i s)) ≡ ((so && fine (get_or s i 0)) && all_fine (drop (i + 1) s))
unfolding all
fine_more so s i h = rw (drop-cons s i 0 h, add-one i) (turned so (fine (get_or s i 0)) (all_fine (drop (suc i) s)))
  where
    turned : (a b c : Bool) → (a && (b && c)) ≡ ((a && b) && c)
    turned true b c = refl
    turned false b c = refl

pub fine_end : (so : Bool) (s : List ℕ) (i : ℕ) → length s ≤ i → (so && all_fine (drop i s)) ≡ so
unfolding all
fine_end true s i h = rw (drop_of_length-le s h)
fine_end false s i h = refl

-- whether the last byte is a LF; of no bytes, whether one stands before them
last_feed : Bool → List ℕ → Bool
last_feed e [] = e
last_feed e (b ∷ bs) = last_feed (eqb b line_feed) bs

last_feed_lem : (e : Bool) (b : ℕ) (s : List ℕ) → get_or (b ∷ s) (length s) 0 ≡ 10 → last_feed e (b ∷ s) ≡ true
unfolding last_feed
last_feed_lem e b [] h = eq-eqb b 10 h
last_feed_lem e b (c ∷ s) h = last_feed_lem (eqb b line_feed) c s h

fine-none : (s : List ℕ) (n : ℕ) (e : Bool) → all_fine s ≡ true → last_feed e s ≡ true → bad_line n e s ≡ None
unfolding all fine last_feed bad_line
fine-none [] n e h f = rw f
fine-none (b ∷ s) n e h f =
    let both = (and-eq-true_iff (eqb b line_feed || printable b) (all_fine s)).0 h in
    by_test (eqb b line_feed) (printable b) both.0 f (λ m. fine-none s (n + 1) true both.1 m) (λ m. fine-none s n false both.1 m)
  where
    by_test : (a p : Bool) → (a || p) ≡ true → last_feed a s ≡ true → (last_feed true s ≡ true → bad_line (n + 1) true s ≡ None) → (last_feed false s ≡ true → bad_line n false s ≡ None)
        → cond a (bad_line (n + 1) true s) (cond p (bad_line n false s) (Some n)) ≡ None
    by_test true p x m k l = k m
    by_test false true x m k l = l m
    by_test false false x m k l = absurd (let z : ◌≡◌ {A = ℕ} 0 1 = cc in omega arith)

-- the last byte, as `ends_with` tests it
pub last-fed : (s : List ℕ) → 1 ≤ length s → true ≡ ends_with eqb s (10 ∷ []) → get_or s (length s - 1) 0 ≡ 10
last-fed s h e =
    let f = rw (drop-cons s (length s - 1) 0 (omega arith)) at e in
    sym (eqb-true 10 _ ((and-eq-true_iff (eqb 10 (get_or s (length s - 1) 0)) _).0 (sym f)).0)

pub none-bad : (s : List ℕ) → 0 < length s → get_or s (length s - 1) 0 ≡ 10 → all_fine s ≡ true → bad_line 1 false s ≡ None
none-bad [] h l f = absurd (omega arith)
none-bad (b ∷ s) h l f = let z : suc (length s) - 1 ≡ length s = omega arith in fine-none (b ∷ s) 1 false f (last_feed_lem false b s (rw z at l))

-- ---- the end of a piece, and keys, by what std has of them
module _ (s : List ℕ) (i b : ℕ) where
  -- a piece from behind the last byte on ends where it begins
  pub end-past : length s ≤ i → i ≡ piece_end s i b
  unfolding piece_end index_of
  end-past h = rw (drop_of_length-le s h) (omega arith)

  pub end-found : i < length s → get_or s i 0 ≡ b → i ≡ piece_end s i b
  unfolding piece_end index_of
  end-found h e = rw (drop-cons s i 0 h, eq-eqb _ _ e) (omega arith)

  pub end_more : i < length s → get_or s i 0 ≢ b → piece_end s i b ≡ piece_end s (i + 1) b
  unfolding piece_end index_of
  end_more h e = rw (drop-cons s i 0 h, ne_eqb _ _ e, add-one i) (omega arith)

where-found : (b : ℕ) (s : List ℕ) → position_or_len (λ x. eqb x b) s ≡ index_of b s
unfolding index_of
where-found b [] = refl
where-found b (x ∷ xs) = rw (where-found b xs) (go (eqb x b) (index_of b xs))
  where
    go : (t : Bool) (n : ℕ) → cond (not t) (1 + n) 0 ≡ cond t 0 (suc n)
    go true n = refl
    go false n = omega arith

-- what `find` answers
pub find_is : (b : ℕ) (s : List ℕ) → position (λ x. eqb x b) s ≡ cond (ltb (index_of b s) (length s)) (Some (index_of b s)) None
find_is b s = rw (where-found b s)

eqb-turned : (a b : ℕ) → eqb a b ≡ eqb b a
eqb-turned a b = go (eqb a b) refl
  where
    go : (t : Bool) → eqb a b ≡ t → t ≡ eqb b a
    go true e = sym (eq-eqb b a (sym (eqb-true a b e)))
    go false e = sym (ne_eqb b a (λ q. eqb-false a b e (sym q)))

pub starts_is : (key s : List ℕ) → starts_with eqb s key ≡ starts key s
unfolding starts
starts_is [] s = refl
starts_is (k ∷ ks) [] = refl
starts_is (k ∷ ks) (b ∷ bs) = rw (eqb-turned k b, starts_is ks bs)

-- ---- numbers
pub begun_none : (s : List ℕ) → length s ≡ 0 → false ≡ well_begun s
unfolding well_begun
begun_none [] h = refl
begun_none (b ∷ bs) h = absurd (omega arith)

pub begun_one : (s : List ℕ) → length s ≡ 1 → true ≡ well_begun s
unfolding well_begun
begun_one [] h = absurd (omega arith)
begun_one (b ∷ []) h = refl
begun_one (b ∷ c ∷ bs) h = absurd (omega arith)

pub begun_more : (s : List ℕ) → 2 ≤ length s → not (eqb (get_or s 0 0) 48) ≡ well_begun s
unfolding well_begun
begun_more [] h = absurd (omega arith)
begun_more (b ∷ []) h = absurd (omega arith)
begun_more (b ∷ c ∷ bs) h = refl

module _ (s : List ℕ) where
  pub number_unbegun : well_begun s ≡ false → None ≡ told (min most) (number_in s)
  unfolding told number_in is_number
  number_unbegun e = rw e

  pub number_undigited : all_digits s ≡ false → None ≡ told (min most) (number_in s)
  unfolding told number_in is_number
  number_undigited e = go (well_begun s)
    where
      go : (t : Bool) → None ≡ told (min most) (cond (t && all_digits s) (some (value_from 0 s)) none)
      go true = rw e
      go false = refl

  pub number_value : {n : ℕ} → well_begun s ≡ true → all_digits s ≡ true → value_from 0 s ≡ n → Some (min most n) ≡ told (min most) (number_in s)
  unfolding told number_in is_number
  number_value e f g = rw (e, f, g)

  module _ (i : ℕ) where
    pub value_more : (n : ℕ) → i < length s → value_from n (drop i s) ≡ value_from (n * 10 + (get_or s i 0 - 48)) (drop (i + 1) s)
    unfolding value_from
    value_more n h = rw (drop-cons s i 0 h, add-one i)

    pub value_end : (n : ℕ) → length s ≤ i → value_from n (drop i s) ≡ n
    unfolding value_from
    value_end n h = rw (drop_of_length-le s h)

-- a number that is cut off stays so
pub cut_grown : (v n d : ℕ) → v ≡ min most n → min most (v * 10 + d) ≡ min most (n * 10 + d)
cut_grown v n d e = omega arith

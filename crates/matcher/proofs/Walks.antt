-- The walk as the code makes it: each test with the case of the definition that it leads to, and what stays true of where the walk stands.
use mathlib.Core.Path.{◌≡◌, refl, sym, ◌∙◌, ap}
use mathlib.Core.Logic.{◌≢◌}
use mathlib.Core.Bool.{Bool, true, false, cond, ◌&&◌, and-eq-true_iff}
use mathlib.Core.List.{List, []}
use Prim.Native.Nat.{ℕ, zero, suc, ◌+◌, ◌/◌, ◌%◌, ◌≤◌, ◌<◌}
use native.Mathlib.Decide.{ℕ_discrete}
use native.Mathlib.Omega.{arith}
use borrow.Author.Tests.{lt-ltb, le-ltb, eq-eqb, ne_eqb, ltb-true}
use lib.Dec.{eqb, ltb}
use lib.ListN.{length, take, drop, get_or, length-drop, length-set, drop_of_length-le}
use lib.Seq.{get_or-set_same, get_or-set_other, get_or-drop, drop-cons}
use Rattle.words.specs.Words.{same_words}
use Rattle.term.specs.Parts.{part}
use Rattle.term.proofs.Scan.{part-front, part_length}
use Rattle.matcher.specs.declared.Hole.{Hole}
use Rattle.matcher.specs.declared.Match.{Match}
use Rattle.matcher.specs.declared.Miss.{Miss}
use Rattle.std.specs.Prelude.{Result, Ok, Err}
use Rattle.matcher.specs.Matching.{empty, hole_of, start_of, end_of, held_in, Standing, began, missed, passed, taken, hole_matched, is_hole, word_matched, on_met, match_from, match_of}

-- the part with which the words from here on begin
module _ {ws here : List ℕ} {m : Match} {size : ℕ} (s : Standing ws m) (e : here ≡ drop m.at ws) (z : size ≡ 0 + length (part here 0)) where
  here_size : size ≡ length (part ws m.at)
  unfolding part
  here_size =
      let p : part here 0 ≡ part ws m.at = rw e refl in
      omega (arith, ap length p)

  pub here_end : m.at + size ≡ m.at + length (part ws m.at)
  here_end = ap (λ k. m.at + k) here_size

  pub here_room : (m.at + size ≤ length ws) × (size ≤ length here)
  here_room = omega (arith, ap length e, length-drop m.at ws, part_length ws m.at, s.inside, here_size)

  -- what the code compares is what the hole holds and the part
  pub here_same : (run : List ℕ) (b : Bool) → b ≡ same_words run (take size here) → same_words run (part ws m.at) ≡ b
  here_same run b w = sym (w ∙ rw (e, here_size, ← part-front ws m.at))

-- and their first word
pub here_word : (ws here : List ℕ) (at : ℕ) → here ≡ drop at ws → get_or here 0 0 ≡ get_or ws at 0
here_word ws here at e =
    let z : at + 0 ≡ at = omega arith in
    rw e (get_or-drop at ws 0 0 ∙ rw z)

module _ (ws : List ℕ) (m : Match) (p : ℕ) where
  -- ---- a hole
  pub hole-many : 5 ≤ p % 256 → Err (missed m p) ≡ hole_matched ws m p
  unfolding hole_matched
  hole-many h = rw (le-ltb (p % 256) 5 h)

  module _ (few : p % 256 < 5) {end : ℕ} (ends : end ≡ m.at + length (part ws m.at)) where
    pub no_part : end ≡ m.at → Err (missed m p) ≡ hole_matched ws m p
    unfolding hole_matched
    no_part h = rw (lt-ltb (p % 256) 5 few, le-ltb 0 (length (part ws m.at)) (omega arith))

    module _ (some : end ≢ m.at) where
      there : ltb 0 (length (part ws m.at)) ≡ true
      there = lt-ltb 0 (length (part ws m.at)) (omega arith)

      pub hole-new : p % 256 ≡ m.held → Ok (taken m (p % 256) end) ≡ hole_matched ws m p
      unfolding hole_matched
      hole-new h = rw (ends, lt-ltb (p % 256) 5 few, there, eq-eqb (p % 256) m.held h)

      pub hole_again : p % 256 ≢ m.held → same_words (held_in ws m (p % 256)) (part ws m.at) ≡ true → Ok (passed m end) ≡ hole_matched ws m p
      unfolding hole_matched
      hole_again n h = rw (ends, lt-ltb (p % 256) 5 few, there, ne_eqb (p % 256) m.held n, h)

      pub hole_differs : p % 256 ≢ m.held → same_words (held_in ws m (p % 256)) (part ws m.at) ≡ false → Err (missed m p) ≡ hole_matched ws m p
      unfolding hole_matched
      hole_differs n h = rw (lt-ltb (p % 256) 5 few, there, ne_eqb (p % 256) m.held n, h)

  -- ---- any word
  pub at-hole : p / 256 ≡ 255 → hole_matched ws m p ≡ word_matched ws m p
  unfolding word_matched
  at-hole h = rw (eq-eqb (p / 256) 255 h)

  module _ (other : p / 256 ≢ 255) where
    pub word_same : m.at < length ws → get_or ws m.at 0 ≡ p → Ok (passed m (m.at + 1)) ≡ word_matched ws m p
    unfolding word_matched
    word_same h e = rw (ne_eqb (p / 256) 255 other, lt-ltb m.at (length ws) h, eq-eqb p (get_or ws m.at 0) (sym e))

    pub word-past : length ws ≤ m.at → Err (missed m p) ≡ word_matched ws m p
    unfolding word_matched
    word-past h = rw (ne_eqb (p / 256) 255 other, le-ltb m.at (length ws) h)

    pub word_differs : m.at < length ws → get_or ws m.at 0 ≢ p → Err (missed m p) ≡ word_matched ws m p
    unfolding word_matched
    word_differs h n = rw (ne_eqb (p / 256) 255 other, lt-ltb m.at (length ws) h, ne_eqb p (get_or ws m.at 0) (λ z. n (sym z)))

-- ---- where the walk stands
five : (k : ℕ) → hole_of began k ≡ empty
five zero = refl
five (suc zero) = refl
five (suc (suc zero)) = refl
five (suc (suc (suc zero))) = refl
five (suc (suc (suc (suc zero)))) = refl
five (suc (suc (suc (suc (suc k))))) = refl

pub standing_begun : (ws : List ℕ) → Standing ws began
standing_begun ws = record { size = refl; inside = omega arith; spans = λ k l. rw (five k) (omega arith, omega arith) }

-- a hole that takes a part, and the others
module _ (m : Match) (k end j : ℕ) where
  abbrev new : Hole
  new = record { start = m.at; end = end }

  pub taken_same : k < length m.holes → j ≡ k → (start_of (taken m k end) j ≡ m.at) × (end_of (taken m k end) j ≡ end)
  taken_same few z =
      let e : hole_of (taken m k end) j ≡ new = rw z (get_or-set_same m.holes k new empty few) in
      (ap (λ (h : Hole). h.start) e, ap (λ (h : Hole). h.end) e)

  pub taken-other : j ≢ k → (start_of (taken m k end) j ≡ start_of m j) × (end_of (taken m k end) j ≡ end_of m j)
  taken-other z =
      let e : hole_of (taken m k end) j ≡ hole_of m j = get_or-set_other m.holes k j new empty z in
      (ap (λ (h : Hole). h.start) e, ap (λ (h : Hole). h.end) e)

module _ {ws : List ℕ} {m : Match} (s : Standing ws m) where
  pub end-inside : m.at + length (part ws m.at) ≤ length ws
  end-inside = omega (arith, part_length ws m.at, s.inside)

  pub standing-passed : (next : ℕ) → m.at ≤ next → next ≤ length ws → Standing ws (passed m next)
  standing-passed next g h = record { size = s.size; inside = h; spans = λ k l. ((s.spans k l).0, omega (arith, (s.spans k l).1, g)) }

  new_span : (k end j : ℕ) → k < 5 → m.at ≤ end → j < 5 → Dec (j ≡ k) → (start_of (taken m k end) j ≤ end_of (taken m k end) j) × (end_of (taken m k end) j ≤ end)
  new_span k end j few h g (yes z) = let e = taken_same m k end j (omega (arith, s.size)) z in omega arith
  new_span k end j few h g (no z) = let e = taken-other m k end j z in let b = s.spans j g in omega arith

  pub standing-taken : (k end : ℕ) → k < 5 → m.at ≤ end → end ≤ length ws → Standing ws (taken m k end)
  standing-taken k end few h l =
      record {
        size = length-set m.holes k (record { start = m.at; end = end }) ∙ s.size;
        inside = l;
        spans = λ j g. new_span k end j few h g (ℕ_discrete j k);
      }

-- what is met leaves the walk standing, and a miss has nothing to keep
data Stands (ws : List ℕ) : Result Match Miss → Type 0 where
  stands : {m : Match} → Standing ws m → Stands ws (Ok m)
  misses : (e : Miss) → Stands ws (Err e)

stands_by : {ws : List ℕ} (b : Bool) (x y : Result Match Miss) → (b ≡ true → Stands ws x) → Stands ws y → Stands ws (cond b x y)
stands_by true x y f g = f refl
stands_by false x y f g = g

module _ {ws : List ℕ} {m : Match} (s : Standing ws m) where
  stands-hole : (p : ℕ) → Stands ws (hole_matched ws m p)
  unfolding hole_matched
  stands-hole p =
      let k = p % 256 in
      let size = length (part ws m.at) in
      stands_by (ltb k 5 && ltb 0 size) _ _
      (λ h.
      let few = ltb-true k 5 ((and-eq-true_iff (ltb k 5) (ltb 0 size)).0 h).0 in
      stands_by (eqb k m.held) _ _
      (λ c. stands (standing-taken s k (m.at + size) few (omega arith) (end-inside s)))
      (stands_by (same_words (held_in ws m k) (part ws m.at)) _ _ (λ d. stands (standing-passed s (m.at + size) (omega arith) (end-inside s))) (misses _)))
      (misses _)

  stands-word : (p : ℕ) → Stands ws (word_matched ws m p)
  unfolding word_matched
  stands-word p =
      stands_by (is_hole p) _ _
      (λ a. stands-hole p)
      (stands_by (ltb m.at (length ws) && eqb p (get_or ws m.at 0)) _ _
      (λ h. stands (standing-passed s (m.at + 1) (omega arith) (omega (arith, ltb-true m.at (length ws) ((and-eq-true_iff (ltb m.at (length ws)) _).0 h).0))))
      (misses _))

  standing_by : {x : Result Match Miss} {r : Match} → Stands ws x → Ok r ≡ x → Standing ws r
  standing_by {r = r} (stands {m = q} t) e = let z : r ≡ q = cc in rw z t
  standing_by (misses q) e = absurd cc

  pub standing_next : (p : ℕ) {r : Match} → Ok r ≡ word_matched ws m p → Standing ws r
  standing_next p e = standing_by (stands-word p) e

-- ---- the whole walk: what is asked is what the rest from here gives
module _ (side ws : List ℕ) where
  pub record Asked (m : Match) (k : ℕ) : Type 0 where
    pub same : match_of side ws ≡ match_from (drop k side) ws m

  pub asked-first : Asked began 0
  unfolding match_of
  asked-first = record { same = refl }

  module _ {m : Match} {k : ℕ} (asked : Asked m k) where
    pub asked_last : length side ≤ k → Ok m ≡ match_of side ws
    unfolding match_from
    asked_last h =
        let z : drop k side ≡ [] = drop_of_length-le side h in
        sym (asked.same ∙ rw z)

    module _ (more : k < length side) where
      next : match_of side ws ≡ on_met (word_matched ws m (get_or side k 0)) λ r. match_from (drop (k + 1) side) ws r
      unfolding match_from
      next =
          let z : k + 1 ≡ suc k = omega arith in
          asked.same ∙ rw (z, drop-cons side k 0 more)

      pub asked-more : {r : Match} → Ok r ≡ word_matched ws m (get_or side k 0) → Asked r (k + 1)
      unfolding on_met
      asked-more e = record { same = next ∙ rw (← e) }

      pub asked-stops : {q : Miss} → Err q ≡ word_matched ws m (get_or side k 0) → Err q ≡ match_of side ws
      unfolding on_met
      asked-stops e = sym (next ∙ rw (← e))

-- Rows of leaves, which a scan passes at once.
use mathlib.Core.Path.{◌≡◌, sym, ◌∙◌}
use mathlib.Core.Bool.{Bool, true, cond, ◌&&◌, and-eq-true_iff}
use mathlib.Core.Logic.{◌≢◌}
use mathlib.Core.List.{List, [], ◌∷◌, ◌++◌}
use Prim.Native.Nat.{ℕ, zero, suc, ◌+◌, ◌-◌, ◌/◌, ◌≤◌, ◌<◌, max}
use native.Mathlib.Decide.{dec_lt}
use native.Mathlib.Omega.{arith}
use borrow.Author.Count.{below_more}
use borrow.Author.Tests.{eqb-true, ne_eqb}
use lib.Dec.{eqb}
use lib.ListN.{length, take, drop, get_or, get_or-append, length-take, length-drop}
use Rattle.std.proofs.lemmas.List.{get_or-take, get_or-drop}
use Rattle.std.specs.Prelude.{Some}
use Rattle.term.specs.Heads.{reading, read, arity_in, arity_of, heads}
use Rattle.term.specs.Parts.{chop, parse}
use Rattle.term.specs.Code.Rows.{Leaves}
use Rattle.term.proofs.Scan.{end_by, end_more}
use Rattle.term.proofs.Extents.{reach, reach_closed, reach_more, pend, pend_length, Walked, rest_read}

-- a variable is a leaf
variable_leaf : (w : ℕ) → w / 256 ≡ 26 → arity_of w ≡ Some 0
unfolding arity_of arity_in read reading heads
variable_leaf w e = rw e

-- one more of a row that is looked at
pub leaves-more : (ws : List ℕ) (k : ℕ) {before : Bool} → (before ≡ true → Leaves ws 0 k) → (before && eqb (get_or ws k 0 / 256) 26) ≡ true → Leaves ws 0 (k + 1)
leaves-more ws k {before} h e =
    let both = (and-eq-true_iff before _).0 e in
    let z : 0 + k ≡ k = omega arith in
    below_more _ _ (h both.0) (rw z (variable_leaf _ (eqb-true _ _ both.1)))

-- a row that stands in the words
pub leaves-within : (ws : List ℕ) (at n : ℕ) → at + n ≤ length ws → (row : List ℕ) → row ≡ take n (drop at ws) → Leaves row 0 (length row) → Leaves ws at n
leaves-within ws at n h row e l j k =
    let size : n ≤ length row = rw (e, length-take, length-drop) (omega arith) in
    let z : 0 + j ≡ j = omega arith in
    let item : get_or row j 0 ≡ get_or ws (at + j) 0 = rw e (get_or-take n (drop at ws) j 0 k ∙ get_or-drop at ws j 0) in
    rw (z, item) at (l j (omega arith))

-- the row without its first
leaves_later : (ws : List ℕ) (at k : ℕ) → Leaves ws at (suc k) → Leaves ws (at + 1) k
leaves_later ws at k h j l = let z : at + 1 + j ≡ at + suc j = omega arith in rw z (h (suc j) (omega arith))

leaf_first : (ws : List ℕ) (at k : ℕ) → Leaves ws at (suc k) → arity_of (get_or ws at 0) ≡ Some 0
leaf_first ws at k h = let z : at + 0 ≡ at = omega arith in rw z at (h 0 (omega arith))

-- ---- two slices, one behind the other
module _ (xs ys : List ℕ) where
  pub word-front : (i : ℕ) → i < length xs → get_or (xs ++ ys) i 0 ≡ get_or xs i 0
  word-front i h = get_or-append xs ys 0 i h

  pub word_back : (i : ℕ) → length xs ≤ i → get_or (xs ++ ys) i 0 ≡ get_or ys (i - length xs) 0
  word_back i h = go xs i h
    where
      go : (vs : List ℕ) (i : ℕ) → length vs ≤ i → get_or (vs ++ ys) i 0 ≡ get_or ys (i - length vs) 0
      go [] i h = let z : i - 0 ≡ i = omega arith in rw z
      go (v ∷ vs) zero h = absurd (omega arith)
      go (v ∷ vs) (suc i) h = let z : suc i - suc (length vs) ≡ i - length vs = omega arith in rw z (go vs i (omega arith))

  pub leaves-front : (at k : ℕ) → at + k ≤ length xs → Leaves xs at k → Leaves (xs ++ ys) at k
  leaves-front at k h f j l = rw (word-front (at + j) (omega arith)) (f j l)

  pub leaves-back : (at k : ℕ) → length xs ≤ at → Leaves ys (at - length xs) k → Leaves (xs ++ ys) at k
  leaves-back at k h f j l = let z : at + j - length xs ≡ at - length xs + j = omega arith in rw (word_back (at + j) (omega arith), z) (f j l)

  pub leaves-join : (at here k : ℕ) → at + here ≡ length xs → here ≤ k → Leaves xs at here → Leaves ys 0 (k - here) → Leaves (xs ++ ys) at k
  leaves-join at here k e h f g j l = elim (dec_lt j here) [
    | yes m ↦ leaves-front at here (omega arith) f j m
    | no m ↦ let z : at + j - length xs ≡ 0 + (j - here) = omega arith in rw (word_back (at + j) (omega arith), z) (g (j - here) (omega arith))
  ]

-- ---- the scan for the end
pub end_leaves : (ws : List ℕ) (at i need k : ℕ) → i + k ≤ length ws → k ≤ need → Leaves ws i k
    → end_by at i (chop need (parse (drop i ws))) ≡ end_by at (i + k) (chop (need - k) (parse (drop (i + k) ws)))
end_leaves ws at i need zero h l f = let a : i + 0 ≡ i = omega arith in let b : need - 0 ≡ need = omega arith in rw (a, b)
end_leaves ws at i need (suc k) h l f =
    let one = end_more ws at i need 0 (omega arith) (omega arith) (leaf_first ws i k f) in
    let more = end_leaves ws at (i + 1) (need - 1 + 0) k (omega arith) (omega arith) (leaves_later ws i k f) in
    let a : i + 1 + k ≡ i + suc k = omega arith in
    let b : need - 1 + 0 - k ≡ need - suc k = omega arith in
    one ∙ (rw (a, b) at more)

-- ---- the walk for end and depth
-- how deep a row of k leaves is
over : ℕ → ℕ → ℕ
over zero m = 0
over (suc k) m = m + 1

reach_leaves : (ws : List ℕ) (at i d k : ℕ) (ps : List ℕ) → length ps ≤ d → i + k ≤ length ws → Leaves ws i k
    → reach at i d (k ∷ ps) (parse (drop i ws)) ≡ reach at (i + k) (max d (over k (length ps))) ps (parse (drop (i + k) ws))
unfolding over
reach_leaves ws at i d zero ps m h f =
    let a : i + 0 ≡ i = omega arith in
    let b : max d 0 ≡ d = omega arith in
    rw (a, b) (reach_closed at i d ps (parse (drop i ws)) m)
reach_leaves ws at i d (suc k) ps m h f =
    let one = reach_more ws at i (omega arith) d k 0 ps (leaf_first ws i k f) in
    let closed = reach_closed at (i + 1) (max d (length ps + 1)) (k ∷ ps) (parse (drop (i + 1) ws)) (omega arith) in
    let more = reach_leaves ws at (i + 1) (max d (length ps + 1)) k ps (omega arith) (omega arith) (leaves_later ws i k f) in
    let a : i + 1 + k ≡ i + suc k = omega arith in
    one ∙ closed ∙ (rw (a, deeper k) at more)
  where
    deeper : (j : ℕ) → max (max d (length ps + 1)) (over j (length ps)) ≡ max d (length ps + 1)
    deeper zero = omega arith
    deeper (suc j) = omega arith

over_depth : (n d level : ℕ) → max (max d (level + 1)) (over n (level + 1)) ≡ max d (level + cond (eqb n 0) 1 2)
unfolding over
over_depth zero d level = omega arith
over_depth (suc n) d level = rw (ne_eqb (suc n) 0 (omega arith)) (omega arith)

-- a head over a row of leaves, or a leaf itself
pub walked_over : {ws : List ℕ} {at : ℕ} {outer : List ℕ} {left level d i : ℕ} → Walked ws at outer left level d i → left ≢ 0 → (n : ℕ) → i < length ws → i + 1 + n ≤ length ws
    → arity_of (get_or ws i 0) ≡ Some n → Leaves ws (i + 1) n → Walked ws at outer (left - 1) level (max d (level + cond (eqb n 0) 1 2)) (i + 1 + n)
walked_over {ws} {at} {outer} {left} {level} {d} {i} w more n inside room e f =
    let r = rest_read w more inside n e in
    let p = reach_leaves ws at (i + 1) (max d (level + 1)) n ((left - 1) ∷ pend outer level) (omega (arith, pend_length outer level)) room f in
    let l : length ((left - 1) ∷ pend outer level) ≡ level + 1 = omega (arith, pend_length outer level) in
    let same : max (max d (level + 1)) (over n (length ((left - 1) ∷ pend outer level))) ≡ max d (level + cond (eqb n 0) 1 2) = rw l (over_depth n d level) in
    record {
      few = omega (arith, w.few);
      room = w.room;
      deep = omega (arith, w.deep);
      rest = sym (rw same at p) ∙ r;
    }

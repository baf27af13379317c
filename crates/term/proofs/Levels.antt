-- The level of a place, as the code finds it: one word after the other, from the place back to the start; and the depth of a part from the levels of its words.
use mathlib.Core.Path.{◌≡◌, refl, sym, ◌∙◌, ap}
use mathlib.Core.Bool.{Bool, true, false, cond}
use mathlib.Core.List.{List, [], ◌∷◌, ◌++◌, reverse}
use Prim.Native.Nat.{ℕ, zero, suc, ◌+◌, ◌-◌, ◌≤◌, ◌<◌, max}
use native.Mathlib.Numerals.{add-one}
use native.Mathlib.Omega.{arith}
use borrow.Author.Tests.{lt-ltb, le-ltb}
use lib.Dec.{ltb}
use lib.ListN.{length, take, drop, length-take, length-append}
use Rattle.std.proofs.lemmas.List.{reverse-append, reverse-reverse}
use Rattle.std.specs.Prelude.{Some, None}
use Rattle.term.specs.Heads.{Label, Reading, unread, labelled, arity_of, read}
use Rattle.term.specs.Trees.{Tree, Forest, node, none, ◌▹◌, words, words*, Formed, Formed*, depth, depth*, level, level*}
use Rattle.term.specs.Parts.{parse, first, first_depth, part, part_depth}
use Rattle.term.specs.Terms.{Above, under, above, level_at}
use Rattle.term.specs.Code.Deepest.{deepest_in}
use Rattle.term.proofs.Parsing.{accepted}
use Rattle.term.proofs.Scan.{read_children, read-unknown}
use Rattle.term.proofs.Places.{level-words}

-- a place is no further down than there are words
level-under : (r : Reading) (a : Above) (n : ℕ) → a.level ≤ n → (under r a).level ≤ suc n
unfolding under
level-under unread a n h = omega arith
level-under (labelled l m) a n h = by_test (ltb a.parts m)
  where
    by_test : (b : Bool) → (cond {A = Above} b (record { level = suc a.level; parts = 0 }) (record { level = a.level; parts = a.parts - m + 1 })).level ≤ suc n
    by_test true = omega arith
    by_test false = omega arith

above-few : (ws : List ℕ) → (above ws).level ≤ length ws
unfolding above
above-few [] = omega arith
above-few (w ∷ ws) = level-under (read w) (above ws) (length ws) (above-few ws)

pub level-few : (ws : List ℕ) (at : ℕ) → level_at ws at ≤ length ws
unfolding level_at
level-few ws at = omega (arith, above-few (take at ws), length-take at ws)

-- what is known of the words before the place that a walk back has seen, the last of them first
pub record Back (seen : List ℕ) (level parts : ℕ) : Type 0 where
  pub few : level ≤ length seen
  pub some : parts ≤ length seen
  pub is : above (reverse seen) ≡ record { level = level; parts = parts }

pub back-begin : Back [] 0 0
unfolding above
back-begin = record { few = omega arith; some = omega arith; is = refl }

module _ {seen : List ℕ} {level parts : ℕ} (b : Back seen level parts) (w : ℕ) where
  next : above (reverse (seen ++ w ∷ [])) ≡ under (read w) (record { level = level; parts = parts })
  unfolding above
  next = rw (reverse-append seen (w ∷ []), b.is)

  pub back_below : (n : ℕ) → arity_of w ≡ Some n → parts < n → Back (seen ++ w ∷ []) (level + 1) 0
  unfolding under
  back_below n e h =
      let r = read_children w n e in
      let l = length-append seen (w ∷ []) in
      record { few = omega (arith, b.few, l); some = omega arith; is = next ∙ rw (r.1, lt-ltb parts n h, add-one) }

  pub back_whole : (n : ℕ) → arity_of w ≡ Some n → n ≤ parts → Back (seen ++ w ∷ []) level (parts - n + 1)
  unfolding under
  back_whole n e h =
      let r = read_children w n e in
      let l = length-append seen (w ∷ []) in
      record { few = omega (arith, b.few, l); some = omega (arith, b.some, l); is = next ∙ rw (r.1, le-ltb parts n h) }

  pub back-unknown : arity_of w ≡ None → Back (seen ++ w ∷ []) level parts
  unfolding under
  back-unknown e =
      let l = length-append seen (w ∷ []) in
      record { few = omega (arith, b.few, l); some = omega (arith, b.some, l); is = next ∙ rw (read-unknown w e) }

pub back_end : (ws : List ℕ) (at : ℕ) {level parts : ℕ} → Back (reverse (take at ws)) level parts → level ≡ level_at ws at
unfolding level_at
back_end ws at b = ap (λ (a : Above). a.level) (rw (reverse-reverse (take at ws)) at (sym b.is))

-- ---- the depth of a part is the greatest level of its words, and one more
greatest : ℕ → (ℕ → ℕ) → ℕ
greatest zero f = 0
greatest (suc n) f = max (greatest n f) (suc (f n))

greatest_none : (f : ℕ → ℕ) → greatest 0 f ≡ 0
unfolding greatest
greatest_none f = refl

greatest_same : (n : ℕ) (f g : ℕ → ℕ) → ((k : ℕ) → k < n → f k ≡ g k) → greatest n f ≡ greatest n g
unfolding greatest
greatest_same zero f g h = refl
greatest_same (suc n) f g h = rw (greatest_same n f g (λ k l. h k (omega arith)), h n (omega arith))

greatest_both : (n m : ℕ) (f : ℕ → ℕ) → greatest (n + m) f ≡ max (greatest n f) (greatest m (λ k. f (n + k)))
unfolding greatest
greatest_both n zero f = let z : n + 0 ≡ n = omega arith in rw z (omega arith)
greatest_both n (suc m) f = let z : n + suc m ≡ suc (n + m) = omega arith in rw z (omega (arith, greatest_both n m f))

-- one level further down
greatest_below : (n : ℕ) (f : ℕ → ℕ) → max 1 (greatest n (λ k. suc (f k))) ≡ suc (greatest n f)
unfolding greatest
greatest_below zero f = omega arith
greatest_below (suc n) f = omega (arith, greatest_below n f)

greatest_one : (f : ℕ → ℕ) → greatest 1 f ≡ suc (f 0)
unfolding greatest
greatest_one f = omega arith

length-node : (l : Label) (cs : Forest) → length (words (node l cs)) ≡ 1 + length (words* cs)
unfolding words
length-node l cs = omega arith

mutual
  unfolding level depth words

  tree-depth : (t : Tree) → greatest (length (words t)) (level t) ≡ depth t
  tree-depth (node l cs) =
      let n = length (words* cs) in
      let b = greatest_both 1 n (level (node l cs)) in
      let s = greatest_same n (λ k. level (node l cs) (1 + k)) (λ k. suc (level* cs k)) (λ k h. let y : 1 + k ≡ suc k = omega arith in rw y) in
      rw (length-node l cs) (omega (arith, b, s, greatest_one (level (node l cs)), greatest_below n (level* cs), forest_depth cs))

  forest_depth : (f : Forest) → greatest (length (words* f)) (level* f) ≡ depth* f
  forest_depth none = greatest_none (level* none)
  forest_depth (t ▹ f) =
      let n = length (words t) in
      let m = length (words* f) in
      let b = greatest_both n m (level* (t ▹ f)) in
      let x = greatest_same n (level* (t ▹ f)) (level t) (λ k h. rw (lt-ltb k n h)) in
      let y = greatest_same m (λ k. level* (t ▹ f) (n + k)) (level* f) (λ k h. let z : n + k - n ≡ k = omega arith in rw (le-ltb (n + k) n (omega arith), z)) in
      rw length-append (omega (arith, b, x, y, tree-depth t, forest_depth f))

greatest_of : (ws : List ℕ) (k : ℕ) → deepest_in ws k ≡ greatest k (level_at ws)
unfolding deepest_in greatest
greatest_of ws zero = refl
greatest_of ws (suc k) = rw (greatest_of ws k)

first_levels : (f : Forest) → Formed* f → deepest_in (first f) (length (first f)) ≡ first_depth f
unfolding first first_depth Formed deepest_in
first_levels none h = refl
first_levels (t ▹ f) h = greatest_of _ _ ∙ greatest_same _ _ _ (λ k l. level-words t k h.0 l) ∙ tree-depth t

pub part_levels : (ws : List ℕ) (at : ℕ) → deepest_in (part ws at) (length (part ws at)) ≡ part_depth ws at
unfolding part part_depth
part_levels ws at = first_levels (parse (drop at ws)) (accepted (drop at ws)).formed

-- one word more
pub deepest_more : (ws : List ℕ) (k d l : ℕ) → d ≡ deepest_in ws k → l ≡ level_at ws k → max d (l + 1) ≡ deepest_in ws (k + 1)
unfolding deepest_in
deepest_more ws k d l e h = let z : k + 1 ≡ suc k = omega arith in rw (z, e, h) (omega arith)

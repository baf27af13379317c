-- The limits of a result: its children, its words and its depth, from the part that is new.
use mathlib.Core.Path.{◌≡◌, refl, sym, ◌∙◌, ap}
use mathlib.Core.Bool.{Bool, true, false, cond, and-eq-true_iff, and-false}
use mathlib.Core.List.{List, ◌++◌}
use Prim.Native.Nat.{ℕ, zero, suc, ◌+◌, ◌-◌, ◌≤◌, ◌<◌}
use native.Mathlib.Decide.{dec_lt}
use native.Mathlib.Omega.{arith}
use borrow.Author.Tests.{lt-ltb, le-ltb, le-leb, lt-leb}
use lib.Dec.{ltb, leb}
use lib.ListN.{length, take, drop, length-append, length-drop}
use Rattle.words.specs.Words.{Added}
use Rattle.term.specs.Trees.{Tree, Forest, node, none, ◌▹◌, count, words, words*, depth, depth*, replace, replace*, level, level*}
use Rattle.term.specs.Parts.{parse, first, first_depth, part, part_depth}
use Rattle.term.specs.Terms.{max_words, max_depth, max_children, level_at}
use Rattle.term.proofs.Parsing.{parse-tree}
use Rattle.term.proofs.Theorems.{one-reading}
use Rattle.term.proofs.Scan.{part_length}
use Rattle.term.proofs.Places.{place, subtree-inside, subtree-formed, replace-formed, words-replace, length-replace, level-replace, depth-replace, level-words}
use Rattle.rules.specs.Steps.{few, few*, within, limited}
use Rattle.rules.proofs.Formed.{formed-few}
use Rattle.step.specs.declared.rewriting.Rewritten.{Rewritten}
use Rattle.families.specs.declared.writing.Refusal.{Refusal}
use Rattle.families.specs.declared.writing.Refusal.TheVariants.{TooBig}
use Rattle.std.specs.Prelude.{Option as Found, Some, None, Result, Ok, Err}
use Rattle.step.specs.Code.Making.{Seated, Fresh, Made}

-- ---- few children at each node: of the whole where they are few in the new part
count_kept : (f : Forest) (k : ℕ) (u : Tree) → count (replace* f k u) ≡ count f
unfolding replace count
count_kept none k u = refl
count_kept (t ▹ f) k u = by_test (ltb k (length (words t))) (count_kept f (k - length (words t)) u)
  where
    by_test : (b : Bool) → count (replace* f (k - length (words t)) u) ≡ count f → count (cond b (replace t k u ▹ f) (t ▹ replace* f (k - length (words t)) u)) ≡ suc (count f)
    by_test true e = refl
    by_test false e = ap suc e

mutual
  unfolding replace few words count

  few-replace : (t : Tree) (k : ℕ) (u : Tree) → few t ≡ true → few u ≡ true → few (replace t k u) ≡ true
  few-replace (node l cs) zero u h g = g
  few-replace (node l cs) (suc k) u h g =
      let p = (and-eq-true_iff (leb (count cs) max_children) (few* cs)).0 h in
      rw (count_kept cs k u, p.0) (few-replace* cs k u p.1 g)

  few-replace* : (f : Forest) (k : ℕ) (u : Tree) → few* f ≡ true → few u ≡ true → few* (replace* f k u) ≡ true
  few-replace* none k u h g = refl
  few-replace* (t ▹ f) k u h g =
      let p = (and-eq-true_iff (few t) (few* f)).0 h in
      elim (dec_lt k (length (words t))) [
        | yes d ↦ rw (lt-ltb k (length (words t)) d, few-replace t k u p.0 g) p.1
        | no d ↦ rw (le-ltb k (length (words t)) (omega arith), p.0) (few-replace* f (k - length (words t)) u p.1 g)
      ]

-- ---- the tests
module _ (t u : Tree) where
  too_long : max_words < length (words u) → limited t u ≡ record { code = 23; tree = t }
  unfolding limited within
  too_long h = rw (lt-leb (length (words u)) max_words h, and-false (few u))

  too_deep : max_depth < depth u → limited t u ≡ record { code = 23; tree = t }
  unfolding limited within
  too_deep h = rw (lt-leb (depth u) max_depth h, and-false (leb (length (words u)) max_words), and-false (few u))

  pub too_many : few u ≡ false → limited t u ≡ record { code = 23; tree = t }
  unfolding limited within
  too_many h = rw h

  in_limits : few u ≡ true → length (words u) ≤ max_words → depth u ≤ max_depth → limited t u ≡ record { code = 0; tree = u }
  unfolding limited within
  in_limits f h d = rw (f, le-leb (length (words u)) max_words h, le-leb (depth u) max_depth d)

-- ---- a place is at most as many levels down as words stand before it
mutual
  unfolding level words

  level-below : (t : Tree) (k : ℕ) → level t k ≤ k
  level-below (node l cs) zero = omega arith
  level-below (node l cs) (suc k) = omega (arith, level_below* cs k)

  level_below* : (f : Forest) (k : ℕ) → level* f k ≤ k
  level_below* none k = omega arith
  level_below* (t ▹ f) k =
      elim (dec_lt k (length (words t))) [
        | yes d ↦ rw (lt-ltb k (length (words t)) d) (level-below t k)
        | no d ↦ rw (le-ltb k (length (words t)) (omega arith)) (omega (arith, level_below* f (k - length (words t))))
      ]

-- ---- a part is no deeper than it has words
mutual
  unfolding depth words

  depth-few : (t : Tree) → depth t ≤ length (words t)
  depth-few (node l cs) = omega (arith, depth-few* cs)

  depth-few* : (f : Forest) → depth* f ≤ length (words* f)
  depth-few* none = omega arith
  depth-few* (t ▹ f) = omega (arith, depth-few t, depth-few* f, length-append (words t) (words* f))

first-few : (f : Forest) → first_depth f ≤ length (first f)
unfolding first_depth first
first-few none = omega arith
first-few (t ▹ f) = depth-few t

pub part-shallow : (ws : List ℕ) → part_depth ws 0 ≤ length ws
unfolding part_depth part
part-shallow ws = omega (arith, first-few (parse (drop 0 ws)), part_length ws 0)

-- ---- a part in its place
module _ {term : List ℕ} {at : ℕ} {old : Found ℕ} {new : List ℕ} (f : Seated term at old new) where
  seat_inside : at < length (words f.tree)
  seat_inside = subtree-inside f.tree at f.part f.there

  seat_level : level_at term at ≡ level f.tree at
  seat_level = rw (← f.is) (level-words f.tree at f.formed seat_inside)

  pub seat_below : level_at term at ≤ at
  seat_below = rw seat_level (level-below f.tree at)

  -- the part in its own place is the term itself
  same_replaced : replace f.tree at f.part ≡ f.tree
  same_replaced =
      let p = place f.tree at seat_inside in
      let x : p.here ≡ f.part = cc in
      let w : words (replace f.tree at f.part) ≡ words f.tree = rw (← x) (p.replaced p.here ∙ sym p.whole) in
      one-reading _ _ (replace-formed f.tree at f.part f.formed (subtree-formed f.tree at f.part f.formed f.there)) f.formed w

  part-fits : level_at term at + depth f.part ≤ max_depth
  part-fits =
      let d = ap depth same_replaced in
      omega (arith, level-replace f.tree at f.part seat_inside, f.shallow, seat_level)

  pub seat_fits : {d : ℕ} → old ≡ Some d → level_at term at + d ≤ max_depth
  seat_fits {d} e = rw (f.was d e) part-fits

  pub seat_flat : old ≡ None → level_at term at + part_depth new 0 ≤ max_depth
  seat_flat e = omega (arith, f.flat e, part-fits)

-- ---- a fresh part in its term
module _ {term : List ℕ} {at : ℕ} {made : Rewritten} {out : List ℕ} (f : Fresh term at made out) where
  -- where the part ends
  abbrev end : ℕ
  end = at + made.size

  abbrev whole : Tree
  whole = replace f.tree at f.result

  inside : at < length (words f.tree)
  inside = subtree-inside f.tree at f.part f.there

  -- it ends in the term, and so long the whole becomes
  pub end-inside : (at ≤ end) × (end ≤ length term) × (at ≤ length term)
  end-inside = omega (arith, ap length f.is, f.ends, part-fits)
    where
      part-fits : at + length (words f.part) ≤ length (words f.tree)
      part-fits =
          let p = place f.tree at inside in
          let x : p.here ≡ f.part = cc in
          let l = ap length p.whole in
          let a = length-append p.before (words p.here ++ p.after) in
          let b = length-append (words p.here) p.after in
          let c = ap (λ (t : Tree). length (words t)) x in
          omega (arith, p.offset)

  whole_length : length (words whole) ≡ at + (length (words f.result) + (length term - end))
  whole_length =
      let r = length-replace f.tree at f.part f.result f.there in
      omega (arith, ap length f.is, f.ends, end-inside)

  whole-few : few whole ≡ true
  whole-few = few-replace f.tree at f.result (formed-few f.tree f.formed) (formed-few f.result f.result_formed)

  -- the depth of the words that were written, and the level of the place
  pub result-depth : length (words f.result) ≤ max_words → part_depth (take made.end out) 0 ≡ depth f.result
  unfolding part_depth first_depth
  result-depth h = rw (f.written h, parse-tree f.result f.result_formed)

  pub seated : length (words f.result) ≤ max_words → Seated term at made.depth (take made.end out)
  seated h =
      record {
        tree = f.tree;
        is = f.is;
        formed = f.formed;
        shallow = f.shallow;
        part = f.part;
        there = f.there;
        was = f.was;
        flat = λ e. rw (result-depth h) (f.flat e);
      }

  pub place-level : level_at term at ≡ level f.tree at
  place-level = rw (← f.is) (level-words f.tree at f.formed inside)

  -- ---- the four ends
  abbrev MadeIn : List ℕ → Result ℕ Refusal → Type 0
  MadeIn = Made f.tree (limited f.tree whole) at

  refused_made : (out' : List ℕ) → limited f.tree whole ≡ record { code = 23; tree = f.tree } → length out' ≡ max_words → MadeIn out' (Err TooBig)
  refused_made out' e s = rw e (record { size = s; code = refl; fits = tt; words_are = tt; stays = refl })

  pub made_long : (out' : List ℕ) → max_words < made.end → length out' ≡ max_words → MadeIn out' (Err TooBig)
  made_long out' h = refused_made out' (too_long f.tree whole (omega (arith, whole_length, f.new_end)))

  pub made_behind : (out' : List ℕ) → max_words < at + (length (words f.result) + (length term - end)) → length out' ≡ max_words → MadeIn out' (Err TooBig)
  made_behind out' h = refused_made out' (too_long f.tree whole (rw whole_length h))

  pub made_deep : (out' : List ℕ) → max_depth < level f.tree at + depth f.result → length out' ≡ max_words → MadeIn out' (Err TooBig)
  made_deep out' h = refused_made out' (too_deep f.tree whole (omega (arith, level-replace f.tree at f.result inside)))

  pub made_good : {out' : List ℕ} {e : ℕ} → length (words f.result) ≤ max_words → level f.tree at + depth f.result ≤ max_depth
      → at + (length (words f.result) + (length term - end)) ≤ max_words → Added out made.end (drop end term) out' e → MadeIn out' (Ok e)
  made_good {out'} {e} short shallow fits a =
      let d = length-drop end term in
      let n : made.end ≡ length (words f.result) = omega (arith, f.new_end) in
      let l : e ≡ made.end + length (drop end term) = omega (arith, a.end, f.size, end-inside) in
      let w : take e out' ≡ words f.result ++ drop end term = rw l (a.front (omega (arith, f.size, end-inside)) ∙ rw (f.written short)) in
      let u : words whole ≡ take at (words f.tree) ++ (words f.result ++ drop end (words f.tree)) = rw f.ends (words-replace f.tree at f.part f.result f.there) in
      rw (in_limits f.tree whole whole-few (rw whole_length fits) (omega (arith, depth-replace f.tree at f.result, f.shallow)))
      (record { size = a.size ∙ f.size; code = refl; fits = omega (arith, l, n, d, end-inside); words_are = u ∙ rw (w, f.is); stays = tt })

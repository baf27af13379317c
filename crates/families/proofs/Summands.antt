-- The summands of a part's child, passed one by one, with the node over each written behind those before it.
use mathlib.Core.Path.{◌≡◌, refl, sym, ◌∙◌, ap}
use mathlib.Core.List.{List, ◌++◌, append_assoc, append-nil}
use Prim.Native.Nat.{ℕ, ◌+◌, ◌-◌, ◌≤◌, ◌<◌}
use native.Mathlib.Omega.{arith}
use lib.ListN.{length, take, drop, length-append}
use lib.Seq.{take_at, drop-append_seam, drop-drop}
use Rattle.words.specs.Words.{Added}
use Rattle.words.proofs.Runs.{added_both, added_as, none_added}
use Rattle.term.specs.Trees.{Tree, Forest, none, ◌▹◌, ◌⧺◌, words, words*, Formed, Formed*}
use Rattle.term.specs.Parts.{part}
use Rattle.term.proofs.Parsing.{⧺-none, ⧺-assoc, words*-⧺, Formed*-⧺, some_words}
use Rattle.term.proofs.Scan.{whole_part}
use Rattle.rules.specs.Instances.{spread}
use Rattle.families.proofs.Split.{no_words, Split, inside-child, replaced_words, child-bounds, child-formed}
use Rattle.families.proofs.Spread.{spread-more}

-- a row with words has a first tree
first-tree : (f : Forest) → 0 < length (words* f) → (t : Tree) × (g : Forest) × (f ≡ t ▹ g)
unfolding words
first-tree none h = absurd (omega arith)
first-tree (t ▹ g) h = (t, g, refl)

-- the summands before `next` are passed: behind the first `at` words of `out` stand the nodes over them, and those end at `done`
pub record Passed (ws : List ℕ) (k start end : ℕ) (out : List ℕ) (at next : ℕ) (out' : List ℕ) (done : ℕ) : Type 0 where
  pub split : Split ws k start end
  passed : Forest
  rest : Forest
  all : split.below ≡ passed ⧺ rest
  place : next ≡ start + 1 + length (words* passed)
  pub written : Added out at (words* (spread split.parent split.before passed split.after)) out' done

-- nothing is written yet
pub passed_none : {ws : List ℕ} {k start end : ℕ} {out : List ℕ} {at : ℕ} → Split ws k start end → at ≤ length out + 1 → Passed ws k start end out at (start + 1) out at
unfolding ◌⧺◌ words spread
passed_none {out} {at} s h =
    record {
      split = s;
      passed = none;
      rest = s.below;
      all = refl;
      place = omega arith;
      written = none_added out at h;
    }

module _ {ws : List ℕ} {k start end : ℕ} {out : List ℕ} {at next : ℕ} {out' : List ℕ} {done : ℕ} (p : Passed ws k start end out at next out' done) where
  -- the words from here on, and how many of them are the child's
  ahead : drop next ws ≡ words* p.rest ++ words* p.split.after
  ahead =
      let behind = drop-drop (length (words* p.passed)) (start + 1) ws in
      ap (λ (n : ℕ). drop n ws) p.place ∙ sym behind
      ∙ rw (inside-child p.split, p.all, words*-⧺, append_assoc, drop-append_seam)

  left : end ≡ next + length (words* p.rest)
  unfolding words
  left =
      let l = ap (λ (f : Forest). length (words* f)) p.all in
      let m = ap length (words*-⧺ p.passed p.rest) in
      omega (arith, p.place, p.split.ends, length-append (words* p.passed) (words* p.rest))

  -- the next summand is the part that begins here
  module _ (t : Tree) (g : Forest) (e : p.rest ≡ t ▹ g) where
    next_formed : Formed t
    unfolding Formed
    next_formed =
        let f : Formed* (p.passed ⧺ p.rest) = rw p.all at (child-formed p.split).1 in
        let h : Formed* (t ▹ g) = rw e at (Formed*-⧺ p.passed p.rest f).1 in h.0

    next_run : drop next ws ≡ words t ++ (words* g ++ words* p.split.after)
    unfolding words
    next_run = ahead ∙ rw (e, append_assoc)

    next_part : part ws next ≡ words t
    next_part = whole_part ws next (words t) (words* g ++ words* p.split.after) (t, next_formed, refl) next_run

    next_bounds : {b : ℕ} → b ≡ next + length (part ws next) → (start ≤ next) × (next < b) × (b ≤ end) × (end ≤ length ws)
    unfolding words
    next_bounds h =
        let l = ap (λ (f : Forest). length (words* f)) e in
        let m = ap length next_part in
        omega (arith, p.place, left, child-bounds p.split, some_words t, length-append (words t) (words* g))

    next_passed : {b : ℕ} {out'' : List ℕ} {done' : ℕ} → b ≡ next + length (part ws next)
        → Added out' done (take start ws ++ (take (b - next) (drop next ws) ++ drop end ws)) out'' done' → Passed ws k start end out at b out'' done'
    unfolding ◌⧺◌ words
    next_passed {b} h a =
        let m = ap length next_part in
        let run : take (b - next) (drop next ws) ≡ words t = rw next_run (take_at (words t) _ (b - next) (omega arith)) in
        let over = added_as (replaced_words p.split t) (rw run at a) in
        record {
          split = p.split;
          passed = p.passed ⧺ t ▹ none;
          rest = g;
          all = p.all ∙ rw (e, ⧺-assoc);
          place = rw (words*-⧺, append-nil) (omega (arith, p.place, length-append (words* p.passed) (words t)));
          written = rw spread-more (added_both p.written over);
        }

  next_tree : next < end → (t : Tree) × (g : Forest) × (p.rest ≡ t ▹ g)
  next_tree h = first-tree p.rest (omega (arith, left))

  -- the part that begins here lies inside the child, and with the node over it one summand more is passed
  pub passed-bounds : {b : ℕ} → next < end → b ≡ next + length (part ws next) → (start ≤ next) × (next < b) × (b ≤ end) × (end ≤ length ws)
  passed-bounds h e = let n = next_tree h in next_bounds n.0 n.1 n.2 e

  pub passed-more : {b : ℕ} {out'' : List ℕ} {done' : ℕ} → next < end → b ≡ next + length (part ws next)
      → Added out' done (take start ws ++ (take (b - next) (drop next ws) ++ drop end ws)) out'' done' → Passed ws k start end out at b out'' done'
  passed-more h e a = let n = next_tree h in next_passed n.0 n.1 n.2 e a

  -- where none is left, the nodes over all of them are written
  pub passed-all : end ≤ next → Added out at (words* (spread p.split.parent p.split.before p.split.below p.split.after)) out' done
  passed-all h =
      let n = no_words p.rest (omega (arith, left)) in
      let f : p.split.below ≡ p.passed = p.all ∙ rw (n, ⧺-none) in
      rw f p.written

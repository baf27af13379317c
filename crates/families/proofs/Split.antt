-- A whole part, and the part with one of its children: where the child's words stand in the part's.
use mathlib.Core.Path.{◌≡◌, refl, sym, ◌∙◌, ap}
use mathlib.Core.List.{List, ◌∷◌, ◌++◌, append_assoc}
use Rattle.std.specs.Prelude.{Some, None}
use Prim.Native.Nat.{ℕ, ◌+◌, ◌-◌, ◌≤◌, ◌<◌}
use native.Mathlib.Omega.{arith}
use lib.ListN.{length, take, drop, get_or, length-append}
use lib.Seq.{take_at, drop_at, get_or_at, drop-drop}
use Rattle.term.specs.Heads.{Label, word}
use Rattle.term.specs.Trees.{Tree, Forest, node, none, ◌▹◌, count, ◌⧺◌, words, words*, Formed, Formed*}
use Rattle.term.specs.Parts.{Whole, parse, tree_in}
use Rattle.term.proofs.Parsing.{count-⧺, words*-⧺, Formed*-⧺, parse-tree, some_words}
use Rattle.rules.specs.Rewrite.{Opened, outside, opened, open_at}
use Rattle.families.specs.declared.children.Child.{Child}
use Rattle.families.specs.Code.Children.{kids, child_of, child_in}
use Rattle.rules.proofs.Opening.{At, too_far, there, at}

-- ---- a whole part is the words of one formed tree
pub record Root (ws : List ℕ) : Type 0 where
  pub label : Label
  pub children : Forest
  pub tree : tree_in (parse ws) ≡ node label children
  pub formed : Formed (node label children)
  pub whole : ws ≡ word label (count children) ∷ words* children

pub root : {ws : List ℕ} → Whole ws → Root ws
unfolding tree_in words
root (node l cs, h, e) = record { label = l; children = cs; tree = rw (← e, parse-tree (node l cs) h); formed = h; whole = sym e }

-- so it has a first word, which is its head's
pub first_word : {ws : List ℕ} (r : Root ws) → get_or ws 0 0 ≡ word r.label (count r.children)
first_word r = rw r.whole

pub some_word : {ws : List ℕ} → Whole ws → 0 < length ws
some_word w = let l = ap length (root w).whole in omega arith

-- ---- the part with child i between the others, and its words with the child's from `start` up to `end`
pub record Split (ws : List ℕ) (i start end : ℕ) : Type 0 where
  pub parent : Label
  pub before : Forest
  pub label : Label
  pub below : Forest
  pub after : Forest
  pub tree : tree_in (parse ws) ≡ node parent (before ⧺ node label below ▹ after)
  pub formed : Formed (node parent (before ⧺ node label below ▹ after))
  pub child : open_at (before ⧺ node label below ▹ after) i ≡ opened before (node label below) after
  pub number : i ≡ count before
  pub whole : ws ≡ word parent (count (before ⧺ node label below ▹ after)) ∷ (words* before ++ (words (node label below) ++ words* after))
  pub begins : start ≡ 1 + length (words* before)
  pub ends : end ≡ start + length (words (node label below))

-- what `child_at` answers: there is no such child, or the part is split at it
outside_by : {f : Forest} {i : ℕ} {o : Opened} → At f i o → None ≡ child_of o → o ≡ outside
unfolding child_of
outside_by (too_far h) e = refl
outside_by (there b t a k n) e = cc

pub no_child : (f : Forest) (i : ℕ) → None ≡ child_of (open_at f i) → open_at f i ≡ outside
no_child f i e = outside_by (at f i) e

some_same : {c d : Child} → Some c ≡ Some d → c ≡ d
some_same e = cc

split_by : {ws : List ℕ} {i : ℕ} {o : Opened} {c : Child} (r : Root ws) → At r.children i o → open_at r.children i ≡ o → Some c ≡ child_of o → Split ws i c.start c.end
unfolding child_of words
split_by r (too_far h) q e = absurd (let z : ◌≡◌ {A = ℕ} 0 1 = cc in omega arith)
split_by {c} r (there b (node l f) a k n) q e =
    record {
      parent = r.label;
      before = b;
      label = l;
      below = f;
      after = a;
      tree = rw (← k) r.tree;
      formed = rw (← k) r.formed;
      child = rw (← k) q;
      number = n;
      whole = rw (r.whole, k, words*-⧺);
      begins = ap (λ (x : Child). x.start) (some_same e);
      ends = ap (λ (x : Child). x.end) (some_same e) ∙ ap (λ (n : ℕ). n + length (words (node l f))) (sym (ap (λ (x : Child). x.start) (some_same e)));
    }

pub split : {ws : List ℕ} {i : ℕ} {c : Child} → Whole ws → Some c ≡ child_in ws i → Split ws i c.start c.end
unfolding kids
split {ws} {i} {c} w e =
    let r = root w in
    let e' : Some c ≡ child_of (open_at r.children i) = rw r.tree at e in
    split_by r (at r.children i) refl e'

-- ---- a row of trees without words is empty
pub no_words : (f : Forest) → length (words* f) ≡ 0 → f ≡ none
unfolding words
no_words none e = refl
no_words (t ▹ f) e = absurd (omega (arith, length-append (words t) (words* f), some_words t))

-- ---- a run between others, behind a first word
module _ (h : ℕ) (xs ys zs : List ℕ) where
  all-front : take (1 + length xs) (h ∷ (xs ++ (ys ++ zs))) ≡ h ∷ xs
  all-front = take_at (h ∷ xs) (ys ++ zs) (1 + length xs) (omega arith)

  front-run : take (1 + length xs - 1) (drop 1 (h ∷ (xs ++ (ys ++ zs)))) ≡ xs
  front-run = take_at xs (ys ++ zs) (1 + length xs - 1) (omega arith)

  from_run : drop (1 + length xs) (h ∷ (xs ++ (ys ++ zs))) ≡ ys ++ zs
  from_run = drop_at (h ∷ xs) (ys ++ zs) (1 + length xs) (omega arith)

  behind-run : drop (1 + length xs + length ys) (h ∷ (xs ++ (ys ++ zs))) ≡ zs
  behind-run =
      rw (← append_assoc) (drop_at (h ∷ (xs ++ ys)) zs (1 + length xs + length ys) (omega (arith, length-append xs ys)))

module _ {ws : List ℕ} {i start end : ℕ} (s : Split ws i start end) where
  -- the words of the head, of the children before, of the child, and of the children behind it
  pub parent_word : get_or ws 0 0 ≡ word s.parent (count (s.before ⧺ node s.label s.below ▹ s.after))
  parent_word = rw s.whole

  pub up_to-child : take start ws ≡ word s.parent (count (s.before ⧺ node s.label s.below ▹ s.after)) ∷ words* s.before
  up_to-child = rw (s.begins, s.whole, all-front)

  pub before-run : take (start - 1) (drop 1 ws) ≡ words* s.before
  before-run = rw (s.begins, s.whole, front-run)

  from_child : drop start ws ≡ words (node s.label s.below) ++ words* s.after
  from_child = rw (s.begins, s.whole, from_run)

  pub child-run : take (end - start) (drop start ws) ≡ words (node s.label s.below)
  child-run = rw from_child (take_at _ _ (end - start) (omega (arith, s.ends)))

  pub behind-child : drop end ws ≡ words* s.after
  behind-child = rw (s.ends, s.begins, s.whole, behind-run)

  -- the child's own head, and what stands behind that
  pub child-word : get_or ws start 0 ≡ word s.label (count s.below)
  unfolding words
  child-word = rw (s.begins, s.whole) (get_or_at (_ ∷ words* s.before) _ _ 0 (1 + length (words* s.before)) (omega arith))

  pub inside-child : drop (start + 1) ws ≡ words* s.below ++ words* s.after
  unfolding words
  inside-child = sym (drop-drop 1 start ws) ∙ rw from_child

  -- with another tree in the child's place: as many children, so the same first word
  pub replaced_words : (t : Tree) → take start ws ++ (words t ++ drop end ws) ≡ words (node s.parent (s.before ⧺ t ▹ s.after))
  unfolding words count
  replaced_words t = rw (up_to-child, behind-child, words*-⧺ s.before, count-⧺, count-⧺)

  -- the child lies in the part's words, behind its head
  pub child-bounds : (1 ≤ start) × (start < end) × (end ≤ length ws)
  unfolding words
  child-bounds =
      let l = ap length s.whole in
      let b = length-append (words* s.before) (words (node s.label s.below) ++ words* s.after) in
      let c = length-append (words (node s.label s.below)) (words* s.after) in
      omega (arith, s.begins, s.ends)

  -- all of it is formed
  pub before-formed : Formed* s.before
  unfolding Formed
  before-formed = (Formed*-⧺ s.before _ s.formed.1).0

  pub child-formed : Formed (node s.label s.below)
  unfolding Formed
  child-formed = (Formed*-⧺ s.before _ s.formed.1).1.0

  pub after-formed : Formed* s.after
  unfolding Formed
  after-formed = (Formed*-⧺ s.before _ s.formed.1).1.1

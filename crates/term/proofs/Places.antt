-- Places in a tree and offsets in its words: the subtree at a place, and what its replacement does to words, form and depth.
use mathlib.Core.Path.{◌≡◌, refl, ◌∙◌, ap, fun_ext}
use mathlib.Core.List.{List, [], ◌∷◌, ◌++◌, append_assoc, append-nil}
use Prim.Native.Nat.{ℕ, zero, suc, ◌+◌, ◌-◌, ◌≤◌, ◌<◌, max, suc-le-suc}
use native.Mathlib.Decide.{dec_lt}
use native.Mathlib.Omega.{arith}
use borrow.Author.Tests.{lt-ltb, le-ltb}
use lib.ListN.{length, take, drop, length-append}
use lib.Seq.{take_at, drop_at, drop-drop}
use Rattle.term.specs.Heads.{Label, word}
use Rattle.term.specs.Trees.{Tree, Forest, node, none, ◌▹◌, count, words, words*, Formed, Formed*, depth, depth*, outside, found, subtree, subtree*, replace, replace*, level, level*}
use Rattle.term.specs.Parts.{parse}
use Rattle.term.specs.Terms.{under, above, level_at}
use Rattle.term.proofs.Parsing.{some_words, parse-words}

-- ---- the walk to a place

-- what stands around a place: the words before it and behind it, how many heads above it, and the forest with a given tree put there
record Around : Type 0 where
  before : List ℕ
  after : List ℕ
  above : ℕ
  put : Tree → Forest

-- `At f s w`: s stands in f, with w around it. A place in a tree t is one in t ▹ none, so that one recursion serves trees and forests
data At : Forest → Tree → Around → Type 0 where
  here : {s : Tree} {f : Forest} → At (s ▹ f) s (record { before = []; after = words* f; above = 0; put = λ u. u ▹ f })
  below : {l : Label} {cs f : Forest} {s : Tree} {w : Around} → At cs s w
      → At (node l cs ▹ f) s (record {
        before = word l (count cs) ∷ w.before;
        after = w.after ++ words* f;
        above = suc w.above;
        put = λ u. node l (w.put u) ▹ f;
      })
  later : {t : Tree} {f : Forest} {s : Tree} {w : Around} → At f s w
      → At (t ▹ f) s (record { before = words t ++ w.before; after = w.after; above = w.above; put = λ u. t ▹ w.put u })

at_words : {f : Forest} {s : Tree} {w : Around} → At f s w → words* f ≡ w.before ++ (words s ++ w.after)
unfolding words
at_words here = refl
at_words (below p) = rw (at_words p) (simp append_assoc)
at_words (later p) = rw (at_words p) (simp append_assoc)

tree-words : {t s : Tree} {w : Around} → At (t ▹ none) s w → words t ≡ w.before ++ (words s ++ w.after)
unfolding words
tree-words p = rw append-nil at (at_words p)

count-replace : {f : Forest} {s : Tree} {w : Around} → At f s w → (u : Tree) → count (w.put u) ≡ count f
unfolding count
count-replace here u = refl
count-replace (below p) u = refl
count-replace (later p) u = ap suc (count-replace p u)

-- the tree that was put there has the same around it: a head's word holds the count of its children, which stays
at-put : {f : Forest} {s : Tree} {w : Around} → At f s w → (u : Tree) → At (w.put u) u w
at-put here u = here
at-put (below p) u = rw (← count-replace p u) (below (at-put p u))
at-put (later p) u = later (at-put p u)

at-formed : {f : Forest} {s : Tree} {w : Around} → At f s w → Formed* f → Formed s × ((u : Tree) → Formed u → Formed* (w.put u))
unfolding Formed
at-formed here h = (h.0, λ u k. (k, h.1))
at-formed (below p) h = let q = at-formed p h.0.1 in (q.0, λ u k. ((rw (count-replace p u) h.0.0, q.1 u k), h.1))
at-formed (later p) h = let q = at-formed p h.1 in (q.0, λ u k. (h.0, q.1 u k))

at-depth : {f : Forest} {s : Tree} {w : Around} → At f s w → (u : Tree)
    → (depth* (w.put u) ≤ max (depth* f) (w.above + depth u)) × (w.above + depth u ≤ depth* (w.put u))
unfolding depth
at-depth here u = omega arith
at-depth (below p) u = omega (arith, at-depth p u)
at-depth (later p) u = omega (arith, at-depth p u)

-- a part as deep as the old one
at_same : {f : Forest} {s : Tree} {w : Around} → At f s w → (u : Tree) → depth u ≡ depth s → depth* (w.put u) ≡ depth* f
unfolding depth
at_same here u e = omega arith
at_same (below p) u e = omega (arith, at_same p u e)
at_same (later p) u e = omega (arith, at_same p u e)

-- ---- what `subtree`, `level` and `replace` give at the offset where a walk ends
inside : {f : Forest} {s : Tree} {w : Around} → At f s w → length w.before < length (words* f)
inside {s} p = rw (at_words p) (simp length-append (omega (arith, some_words s)))

at_root : (s : Tree) (f : Forest) → (subtree* (s ▹ f) 0 ≡ found s) × (level* (s ▹ f) 0 ≡ 0) × ((u : Tree) → replace* (s ▹ f) 0 u ≡ u ▹ f)
unfolding subtree level replace
at_root (node l cs) f = rw (lt-ltb 0 _ (some_words (node l cs))) (refl, refl, λ u. refl)

at_offset : {f : Forest} {s : Tree} {w : Around} → At f s w
    → (subtree* f (length w.before) ≡ found s)
    × (level* f (length w.before) ≡ w.above)
    × ((u : Tree) → replace* f (length w.before) u ≡ w.put u)
unfolding subtree level replace
at_offset (here {s} {f}) = at_root s f
at_offset (below p) = let q = at_offset p in rw (lt-ltb _ _ (suc-le-suc (inside p))) (q.0, ap suc q.1, λ u. rw (q.2 u))
at_offset (later {t} {w} p) =
    let q = at_offset p in
    let e = length-append (words t) w.before in
    let d : length (words t ++ w.before) - length (words t) ≡ length w.before = omega arith in
    rw (le-ltb (length (words t ++ w.before)) (length (words t)) (omega arith), d) (q.0, q.1, λ u. rw (q.2 u))

tree-offset : {t s : Tree} {w : Around} → At (t ▹ none) s w → (k : ℕ) → length w.before ≡ k
    → (subtree t k ≡ found s) × (level t k ≡ w.above) × ((u : Tree) → replace t k u ▹ none ≡ w.put u)
unfolding subtree level replace
tree-offset {t} p k e =
    let h : k < length (words t) = rw (← e) (rw append-nil at (inside p)) in
    rw (e, lt-ltb k (length (words t)) h) at (at_offset p)

-- ---- each offset inside has its walk
record Walk (f : Forest) (k : ℕ) : Type 0 where
  part : Tree
  around : Around
  at : At f part around
  offset : length around.before ≡ k

walk : {f : Forest} {k : ℕ} {s : Tree} {w : Around} → At f s w → length w.before ≡ k → Walk f k
walk p e = record { part = _; around = _; at = p; offset = e }

mutual
  unfolding words

  walk_to : (t : Tree) (f : Forest) (k : ℕ) → k < length (words t) → Walk (t ▹ f) k
  walk_to (node l cs) f zero h = walk here refl
  walk_to (node l cs) f (suc k) h = let p = walk_to* cs k (omega arith) in walk (below p.at) (ap suc p.offset)

  walk_to* : (f : Forest) (k : ℕ) → k < length (words* f) → Walk f k
  walk_to* none k h = absurd (omega arith)
  walk_to* (t ▹ f) k h =
      elim (dec_lt k (length (words t))) [
        | yes d ↦ walk_to t f k d
        | no d ↦
            let p = walk_to* f (k - length (words t)) (omega (arith, length-append (words t) (words* f))) in
            walk (later p.at) (length-append (words t) p.around.before ∙ omega arith)
      ]

-- a place of a tree in its words: an offset k cuts them into those before the subtree, its own and those behind, and `replace` changes only the middle
pub record Place (t : Tree) (k : ℕ) : Type 0 where
  pub before : List ℕ
  pub here : Tree
  pub after : List ℕ
  pub offset : length before ≡ k
  pub whole : words t ≡ before ++ (words here ++ after)
  pub is : subtree t k ≡ found here
  pub replaced : (u : Tree) → words (replace t k u) ≡ before ++ (words u ++ after)

-- a place with the walk there, which says of form and depth what `Place` says of words
record Seen (t : Tree) (k : ℕ) : Type 0 where
  place : Place t k
  at : At (t ▹ none) place.here (record { before = place.before; after = place.after; above = level t k; put = λ u. replace t k u ▹ none })

see : (t : Tree) (k : ℕ) → k < length (words t) → Seen t k
see t k h =
    let p = walk_to t none k h in
    let q = tree-offset p.at k p.offset in
    let w : Around = record { before = p.around.before; after = p.around.after; above = level t k; put = λ u. replace t k u ▹ none } in
    let a : At (t ▹ none) p.part w = rw (q.1, fun_ext q.2) p.at in
    record {
      place = record {
        before = w.before;
        here = p.part;
        after = w.after;
        offset = p.offset;
        whole = tree-words a;
        is = q.0;
        replaced = λ u. tree-words (at-put a u);
      };
      at = a;
    }

pub place : (t : Tree) (k : ℕ) → k < length (words t) → Place t k
place t k h = (see t k h).place

pub level-replace : (t : Tree) (k : ℕ) (u : Tree) → k < length (words t) → level t k + depth u ≤ depth (replace t k u)
unfolding depth
level-replace t k u h = omega (arith, at-depth (see t k h).at u)

-- ---- an offset past the last word
outside* : (f : Forest) (k : ℕ) → length (words* f) ≤ k → (subtree* f k ≡ outside) × ((u : Tree) → replace* f k u ≡ f)
unfolding subtree replace
outside* none k h = (refl, λ u. refl)
outside* (t ▹ f) k h =
    let e = length-append (words t) (words* f) in
    let q = outside* f (k - length (words t)) (omega arith) in
    rw (le-ltb k (length (words t)) (omega arith)) (q.0, λ u. rw (q.1 u))

-- an offset is in the tree, or there is no subtree there and to replace it changes nothing
data Look (t : Tree) (k : ℕ) : Type 0 where
  in_it : k < length (words t) → Look t k
  past_it : subtree t k ≡ outside → ((u : Tree) → replace t k u ≡ t) → Look t k

look : (t : Tree) (k : ℕ) → Look t k
unfolding subtree replace
look (node l cs) zero = in_it (omega arith)
look (node l cs) (suc k) =
    elim (dec_lt k (length (words* cs))) [
      | yes d ↦ in_it (omega arith)
      | no d ↦ let q = outside* cs k (omega arith) in past_it q.0 (λ u. rw (q.1 u))
    ]

pub replace-formed : (t : Tree) (k : ℕ) (u : Tree) → Formed t → Formed u → Formed (replace t k u)
unfolding Formed
replace-formed t k u f g = elim (look t k) [ in_it h ↦ ((at-formed (see t k h).at (f, tt)).1 u g).0 | past_it e r ↦ rw (r u) f ]

pub depth-replace : (t : Tree) (k : ℕ) (u : Tree) → depth (replace t k u) ≤ max (depth t) (level t k + depth u)
unfolding depth
depth-replace t k u = elim (look t k) [ in_it h ↦ omega (arith, at-depth (see t k h).at u) | past_it e r ↦ rw (r u) (omega arith) ]

pub subtree-inside : (t : Tree) (k : ℕ) (s : Tree) → subtree t k ≡ found s → k < length (words t)
subtree-inside t k s e = elim (look t k) [ in_it h ↦ h | past_it o r ↦ let z : ◌≡◌ {A = ℕ} 0 1 = cc in omega arith ]

-- ---- from the subtree found: the place's tree is that one, since both are what `subtree` gives
pub subtree-formed : (t : Tree) (k : ℕ) (s : Tree) → Formed t → subtree t k ≡ found s → Formed s
unfolding Formed
subtree-formed t k s f e =
    let p = see t k (subtree-inside t k s e) in
    let x : p.place.here ≡ s = cc in
    rw x at (at-formed p.at (f, tt)).0

pub part-there : (t : Tree) (k : ℕ) (s : Tree) → Formed t → subtree t k ≡ found s → (f : Forest) × (parse (drop k (words t)) ≡ s ▹ f)
part-there t k s f e =
    let p = place t k (subtree-inside t k s e) in
    let x : p.here ≡ s = cc in
    let o = p.offset in
    (parse p.after, rw (p.whole, drop_at, x) (parse-words s (subtree-formed t k s f e) p.after))

pub words-replace : (t : Tree) (k : ℕ) (s u : Tree) → subtree t k ≡ found s
    → words (replace t k u) ≡ take k (words t) ++ (words u ++ drop (k + length (words s)) (words t))
words-replace t k s u e =
    let p = place t k (subtree-inside t k s e) in
    let x : p.here ≡ s = cc in
    let o = p.offset in
    rw (p.replaced u, p.whole, x, ← drop-drop) (simp (take_at, drop_at))

pub length-replace : (t : Tree) (k : ℕ) (s u : Tree) → subtree t k ≡ found s
    → length (words (replace t k u)) + length (words s) ≡ length (words t) + length (words u)
length-replace t k s u e =
    let p = place t k (subtree-inside t k s e) in
    let x : p.here ≡ s = cc in
    rw (p.replaced u, p.whole, x) (simp length-append (omega arith))

pub depth_same : (t : Tree) (k : ℕ) (s u : Tree) → subtree t k ≡ found s → depth u ≡ depth s → depth (replace t k u) ≡ depth t
unfolding depth
depth_same t k s u e d =
    let p = see t k (subtree-inside t k s e) in
    let x : p.place.here ≡ s = cc in
    omega (arith, at_same p.at u (rw x d))

-- ---- the level of a place by the words before it
mutual
  unfolding above under words count Formed

  -- a whole part is one part more
  above_tree : (t : Tree) (ws : List ℕ) → Formed t → above (words t ++ ws) ≡ record { level = (above ws).level; parts = (above ws).parts + 1 }
  above_tree (node l cs) ws h =
      let r = above_forest cs ws h.1 in
      rw (h.0, r, le-ltb ((above ws).parts + count cs) (count cs) (omega arith)) (ap (λ (n : ℕ). record { level = (above ws).level; parts = n }) (omega arith))

  above_forest : (f : Forest) (ws : List ℕ) → Formed* f → above (words* f ++ ws) ≡ record { level = (above ws).level; parts = (above ws).parts + count f }
  above_forest none ws h = ap (λ (n : ℕ). record { level = (above ws).level; parts = n }) (omega arith)
  above_forest (t ▹ f) ws h =
      rw (append_assoc (words t) (words* f) ws, above_tree t (words* f ++ ws) h.0, above_forest f ws h.1)
      (ap (λ (n : ℕ). record { level = (above ws).level; parts = n }) (omega arith))

at_above : {f : Forest} {s : Tree} {w : Around} → At f s w → Formed* f → ((above w.before).level ≡ w.above) × ((above w.before).parts < count f)
unfolding above under count Formed
at_above here h = (refl, omega arith)
at_above (below p) h = let q = at_above p h.0.1 in rw (h.0.0, lt-ltb _ _ q.1) (ap suc q.0, omega arith)
at_above (later {t} {w = w} p) h = let q = at_above p h.1 in rw (above_tree t w.before h.0) (q.0, omega arith)

pub level-words : (t : Tree) (k : ℕ) → Formed t → k < length (words t) → level_at (words t) k ≡ level t k
unfolding level_at Formed
level-words t k f h =
    let p = see t k h in
    let e = ap (take k) p.place.whole ∙ take_at p.place.before (words p.place.here ++ p.place.after) k p.place.offset in
    ap (λ (ws : List ℕ). (above ws).level) e ∙ (at_above p.at (f, tt)).0

-- ---- a part is no deeper than the whole
at_deep : {f : Forest} {s : Tree} {w : Around} → At f s w → depth s ≤ depth* f
unfolding depth
at_deep here = omega arith
at_deep (below p) = omega (arith, at_deep p)
at_deep (later p) = omega (arith, at_deep p)

pub subtree-depth : (t : Tree) (k : ℕ) (s : Tree) → subtree t k ≡ found s → depth s ≤ depth t
unfolding depth
subtree-depth t k s e =
    let p = see t k (subtree-inside t k s e) in
    let x : p.place.here ≡ s = cc in
    rw (← x) (omega (arith, at_deep p.at))

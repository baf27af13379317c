-- The end and the depth of a part, as one walk over its words finds them, and its depth from the levels of its words.
use mathlib.Core.Path.{◌≡◌, refl, sym, ◌∙◌, ap}
use mathlib.Core.Logic.{◌≢◌}
use mathlib.Core.List.{List, [], ◌∷◌, ◌++◌, append_assoc, append-nil}
use Prim.Native.Nat.{ℕ, zero, suc, ◌+◌, ◌-◌, ◌≤◌, ◌<◌, max}
use native.Mathlib.Numerals.{add-one}
use native.Mathlib.Decide.{dec_lt}
use native.Mathlib.Omega.{arith}
use lib.ListN.{length, drop, get_or, set, length-append, length-set, drop_of_length-le}
use lib.Seq.{drop-cons, drop-append_seam, get_or-set_same, get_or-set_other}
use Rattle.std.specs.Prelude.{Some, None}
use Rattle.term.specs.Heads.{Label, read, arity_of}
use Rattle.term.specs.Trees.{Tree, Forest, node, none, ◌▹◌, ◌⧺◌, words, words*, Formed, Formed*, depth, depth*}
use Rattle.term.specs.Parts.{Cut, short, cut, behind, chop, plant, grow, parse, first, first_depth, part, part_depth}
use Rattle.term.proofs.Parsing.{⧺-none, parse-words*, accepted}
use Rattle.term.proofs.Scan.{read_children, read-unknown, children_few}

pub depth*-⧺ : (f g : Forest) → depth* (f ⧺ g) ≡ max (depth* f) (depth* g)
unfolding ◌⧺◌ depth
depth*-⧺ none g = omega arith
depth*-⧺ (t ▹ f) g = omega (arith, depth*-⧺ f g)

-- behind the first part of a row stands the rest of it
pub parse-behind : (ws : List ℕ) (t : Tree) (f : Forest) → parse ws ≡ t ▹ f → parse (drop (length (words t)) ws) ≡ f
unfolding words Formed
parse-behind ws t f e =
    let a = accepted ws in
    let k : Formed* (t ▹ f) = rw e at a.formed in
    let w : words t ++ (words* f ++ a.rest) ≡ ws = sym (append_assoc (words t) (words* f) a.rest) ∙ (rw e at a.whole) in
    rw (← w, drop-append_seam, parse-words* f k.1, a.stops, ⧺-none)

-- ---- the walk. Under each open head, the nearest first, so many parts are still to come
pub record Reach : Type 0 where
  pub end : ℕ
  pub depth : ℕ

-- what is asked for, and what is answered where there is no part
abbrev pub asked : List ℕ → ℕ → Reach
asked ws at = record { end = at + length (part ws at); depth = part_depth ws at }

abbrev missed : ℕ → Reach
missed at = record { end = at; depth = 0 }

on_cut : Reach → (Forest → Forest → Reach) → Cut → Reach
on_cut r f short = r
on_cut r f (cut a b) = f a b

-- Where a walk that has come to i, and been d deep, ends, and how deep it has been then; at `at` and 0 deep where the words do not suffice
pub reach : ℕ → ℕ → ℕ → List ℕ → Forest → Reach
reach at i d [] f = record { end = i; depth = d }
reach at i d (p ∷ ps) f = on_cut (missed at) (λ a b. reach at (i + length (words* a)) (max d (length ps + depth* a)) ps b) (chop p f)

-- what is asked for is where the walk for one part ends
begin_by : (at : ℕ) (f : Forest) → reach at at 0 (1 ∷ []) f ≡ record { end = at + length (first f); depth = first_depth f }
unfolding reach on_cut chop first first_depth words depth
begin_by at none = let e : at + 0 ≡ at = omega arith in rw e
begin_by at (t ▹ f) = let e : max 0 (0 + max (depth t) 0) ≡ depth t = omega arith in rw (append-nil, e)

pub reach_begin : (ws : List ℕ) (at : ℕ) → reach at at 0 (1 ∷ []) (parse (drop at ws)) ≡ asked ws at
unfolding part part_depth
reach_begin ws at = begin_by at (parse (drop at ws))

module _ (at : ℕ) where
  -- nothing is left to come under the nearest head
  pub reach_closed : (i d : ℕ) (ps : List ℕ) (f : Forest) → length ps ≤ d → reach at i d (0 ∷ ps) f ≡ reach at i d ps f
  unfolding reach on_cut chop words depth
  reach_closed i d ps f h =
      let e : i + 0 ≡ i = omega arith in
      let g : max d (length ps + 0) ≡ d = omega arith in
      rw (e, g)

  -- no part begins
  reach_stopped : (i d p : ℕ) (ps : List ℕ) → reach at i d (suc p ∷ ps) none ≡ missed at
  unfolding reach on_cut chop
  reach_stopped i d p ps = refl

  -- a head with so many children is opened, if there are so many
  opened_by : (i d p : ℕ) (ps : List ℕ) (l : Label) (a : Forest) (c : Cut)
      → on_cut (missed at) (λ x y. reach at (i + length (words* x)) (max d (length ps + depth* x)) ps y) (behind (node l a) c)
      ≡ on_cut (missed at) (λ x y. reach at (i + 1 + length (words* a) + length (words* x)) (max (max (max d (length ps + 1)) (suc (length ps) + depth* a)) (length ps + depth* x)) ps y) c
  unfolding on_cut behind words depth
  opened_by i d p ps l a short = refl
  opened_by i d p ps l a (cut x y) =
      let e : i + suc (length (words* a ++ words* x)) ≡ i + 1 + length (words* a) + length (words* x) = omega (arith, length-append (words* a) (words* x)) in
      let g : max d (length ps + max (suc (depth* a)) (depth* x)) ≡ max (max (max d (length ps + 1)) (suc (length ps) + depth* a)) (length ps + depth* x) = omega arith in
      rw (e, g)

  reach_opened : (i d p n : ℕ) (ps : List ℕ) (l : Label) (c : Cut)
      → reach at i d (suc p ∷ ps) (plant l c) ≡ on_cut (missed at) (λ a b. reach at (i + 1 + length (words* a)) (max (max d (length ps + 1)) (suc (length ps) + depth* a)) (p ∷ ps) b) c
  unfolding reach on_cut plant chop
  reach_opened i d p n ps l short = refl
  reach_opened i d p n ps l (cut a b) = opened_by i d p ps l a (chop p b)

-- ---- the same at an offset of the words
module _ (ws : List ℕ) (at i : ℕ) (h : i < length ws) where
  parse-at : parse (drop i ws) ≡ grow (read (get_or ws i 0)) (parse (drop (i + 1) ws))
  unfolding parse
  parse-at = rw (add-one, drop-cons ws i 0 h)

  pub reach_unknown : (d p : ℕ) (ps : List ℕ) → arity_of (get_or ws i 0) ≡ None → reach at i d (suc p ∷ ps) (parse (drop i ws)) ≡ missed at
  unfolding grow
  reach_unknown d p ps e = rw (parse-at, read-unknown _ e) (reach_stopped at i d p ps)

  pub reach_more : (d p n : ℕ) (ps : List ℕ) → arity_of (get_or ws i 0) ≡ Some n
      → reach at i d (suc p ∷ ps) (parse (drop i ws)) ≡ reach at (i + 1) (max d (length ps + 1)) (n ∷ p ∷ ps) (parse (drop (i + 1) ws))
  unfolding grow reach
  reach_more d p n ps e =
      let r = read_children _ n e in
      rw (parse-at, r.1) (reach_opened at i d p n ps r.0 (chop n (parse (drop (i + 1) ws))))

-- ---- the counts as the code keeps them: those of the first k heads, the nearest first
pub pend : List ℕ → ℕ → List ℕ
pend o zero = []
pend o (suc k) = get_or o k 0 ∷ pend o k

pub pend_length : (o : List ℕ) (k : ℕ) → length (pend o k) ≡ k
unfolding pend
pend_length o zero = refl
pend_length o (suc k) = ap suc (pend_length o k)

pend_top : (o : List ℕ) (k v : ℕ) → 0 < k → v ≡ get_or o (k - 1) 0 → pend o k ≡ v ∷ pend o (k - 1)
unfolding pend
pend_top o zero v h e = absurd (omega arith)
pend_top o (suc k) v h e = let z : suc k - 1 ≡ k = omega arith in rw (e, z)

pend_set : (o : List ℕ) (k v j : ℕ) → j ≤ k → pend (set o k v) j ≡ pend o j
unfolding pend
pend_set o k v zero h = refl
pend_set o k v (suc j) h = let r = pend_set o k v j (omega arith) in rw (get_or-set_other o k j v 0 (λ e. omega (arith, e)), r)

-- what is known before each word
pub record Walked (ws : List ℕ) (at : ℕ) (outer : List ℕ) (left level deepest i : ℕ) : Type 0 where
  pub few : left ≤ 255
  pub room : level ≤ length outer
  pub deep : level ≤ deepest
  pub rest : reach at i deepest (left ∷ pend outer level) (parse (drop i ws)) ≡ asked ws at

-- and what that tells, once the walk knows where it ends
abbrev pub Told : List ℕ → ℕ → ℕ → ℕ → Type 0
Told ws at e d = (e ≡ at + length (part ws at)) × (d ≡ part_depth ws at)

told_by : (ws : List ℕ) (at e d : ℕ) → ◌≡◌ {A = Reach} (record { end = e; depth = d }) (asked ws at) → Told ws at e d
told_by ws at e d h = (ap (λ (r : Reach). r.end) h, ap (λ (r : Reach). r.depth) h)

module _ {ws : List ℕ} {at : ℕ} {outer : List ℕ} where
  pub walked-begin : Walked ws at outer 1 0 0 at
  unfolding pend
  walked-begin = record { few = omega arith; room = omega arith; deep = omega arith; rest = reach_begin ws at }

  pub walked_end : {d i : ℕ} → Walked ws at outer 0 0 d i → Told ws at i d
  unfolding pend reach
  walked_end {d} {i} w = told_by ws at i d (sym (reach_closed at i d [] (parse (drop i ws)) (omega arith)) ∙ w.rest)

  pub walked-close : {level d i : ℕ} → Walked ws at outer 0 level d i → 0 < level → (left : ℕ) → left ≡ get_or outer (level - 1) 0 → left ≤ 255 → Walked ws at outer left (level - 1) d i
  unfolding pend
  walked-close {level} {d} {i} w h left e few =
      let p : pend outer level ≡ left ∷ pend outer (level - 1) = pend_top outer level left h e in
      record {
        few = few;
        room = omega (arith, w.room);
        deep = omega (arith, w.deep);
        rest = sym (reach_closed at i d (left ∷ pend outer (level - 1)) (parse (drop i ws)) (omega (arith, w.deep, pend_length outer (level - 1)))) ∙ (rw p at w.rest);
      }

  module _ {left level d i : ℕ} (w : Walked ws at outer left level d i) (more : left ≢ 0) where
    rest_more : reach at i d (suc (left - 1) ∷ pend outer level) (parse (drop i ws)) ≡ asked ws at
    rest_more = let z : left ≡ suc (left - 1) = omega arith in rw z at w.rest

    walked-past : length ws ≤ i → Told ws at at 0
    unfolding parse
    walked-past h = told_by ws at at 0 (sym (rw (drop_of_length-le ws h) (reach_stopped at i d (left - 1) (pend outer level))) ∙ rest_more)

    walked-unknown : i < length ws → arity_of (get_or ws i 0) ≡ None → Told ws at at 0
    walked-unknown h e = told_by ws at at 0 (sym (reach_unknown ws at i h d (left - 1) (pend outer level) e) ∙ rest_more)

    pub walked_missing : arity_of (get_or ws i 0) ≡ None → Told ws at at 0
    walked_missing e = elim (dec_lt i (length ws)) [ yes h ↦ walked-unknown h e | no h ↦ walked-past (omega arith) ]

    module _ (inside : i < length ws) (n : ℕ) (e : arity_of (get_or ws i 0) ≡ Some n) where
      pub rest_read : reach at (i + 1) (max d (level + 1)) (n ∷ (left - 1) ∷ pend outer level) (parse (drop (i + 1) ws)) ≡ asked ws at
      rest_read = rw (pend_length outer level) at (sym (reach_more ws at i inside d (left - 1) n (pend outer level) e) ∙ rest_more)

      pub walked_open : level < length outer → Walked ws at (set outer level (left - 1)) n (level + 1) (max d (level + 1)) (i + 1)
      unfolding pend
      walked_open h =
          let p : pend (set outer level (left - 1)) (suc level) ≡ (left - 1) ∷ pend outer level = rw (get_or-set_same outer level (left - 1) 0 h, pend_set outer level (left - 1) level (omega arith)) in
          let z : level + 1 ≡ suc level = omega arith in
          record {
            few = children_few _ _ e;
            room = omega (arith, length-set outer level (left - 1));
            deep = omega arith;
            rest = rw (z, p) (rw z at rest_read);
          }

-- ---- no part, no depth
depth-none : (f : Forest) → length (first f) ≡ 0 → first_depth f ≡ 0
unfolding first first_depth words
depth-none none h = refl
depth-none (node l cs ▹ f) h = absurd (omega arith)

pub depth_missing : (ws : List ℕ) (at : ℕ) → length (part ws at) ≡ 0 → part_depth ws at ≡ 0
unfolding part part_depth
depth_missing ws at h = depth-none (parse (drop at ws)) h

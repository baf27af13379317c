-- The walk back, one word after the other, as the code does it.
use mathlib.Core.Path.{◌≡◌, refl, sym, ◌∙◌}
use mathlib.Core.Logic.{◌≢◌}
use mathlib.Core.Bool.{Bool, true, false, cond, ◌&&◌}
use mathlib.Core.List.{List, []}
use Prim.Native.Nat.{ℕ, zero, suc, ◌+◌, ◌-◌, ◌/◌, ◌≤◌, ◌<◌}
use native.Mathlib.Omega.{arith}
use borrow.Author.Tests.{eq-eqb, ne_eqb, lt-ltb, le-ltb}
use lib.Dec.{eqb, ltb}
use lib.ListN.{get_or}
use Rattle.term.specs.Heads.{Label, Reading, unread, labelled, read, arity_of}
use Rattle.term.specs.Parts.{part}
use Rattle.term.proofs.Scan.{read_children, read-unknown}
use Rattle.types.specs.Inside.{binds}
use Rattle.types.proofs.Labels.{binds-word}
use Rattle.std.specs.Prelude.{Option, Some, None, Ok, Err}
use Rattle.shapes.specs.Bodies.{Walk, found, outside, step_back, back, walked, index_by, bound_in, nowhere, outer_at}

-- what it finds is before the place from which it set out
data Before (i : ℕ) : Walk → Type 0 where
  found-before : {k : ℕ} → k < i → Before i (found k)
  is-outside : {n : ℕ} → Before i (outside n)

before-suc : {i : ℕ} {w : Walk} → Before i w → Before (suc i) w
before-suc (found-before h) = found-before (omega arith)
before-suc is-outside = is-outside

step-few : (r : Reading) (i parts left : ℕ) (on : ℕ → ℕ → Walk) → ((p n : ℕ) → Before i (on p n)) → Before (suc i) (step_back r i parts left on)
unfolding step_back
step-few unread i parts left on h = before-suc (h parts left)
step-few (labelled l n) i parts left on h = go (ltb parts n) (eqb parts 1 && binds l) (eqb left 0)
  where
    go : (a b c : Bool) → Before (suc i) (cond a (cond b (cond c (found i) (on 0 (left - 1))) (on 0 left)) (on (parts - n + 1) left))
    go true true true = found-before (omega arith)
    go true true false = before-suc (h 0 (left - 1))
    go true false c = before-suc (h 0 left)
    go false b c = before-suc (h (parts - n + 1) left)

back-few : (ws : List ℕ) (i parts left : ℕ) → Before i (back ws i parts left)
unfolding back
back-few ws zero parts left = is-outside
back-few ws (suc i) parts left = step-few (read (get_or ws i 0)) i parts left _ (λ p n. back-few ws i p n)

few-by : {at k : ℕ} {w : Walk} → Before at w → Ok k ≡ walked w → k < at
unfolding walked
few-by {k = k} (found-before {k = j} h) e = let z : k ≡ j = cc in omega arith
few-by is-outside e = absurd cc

pub binder_few : (ws : List ℕ) (at a : ℕ) {k : ℕ} → Ok k ≡ walked (back ws at 0 a) → k < at
binder_few ws at a e = few-by (back-few ws at 0 a) e

-- the index by what the code is told of the walk
near_by : (ws : List ℕ) (outer : ℕ → List ℕ) (w : Walk) {k : ℕ} → Ok k ≡ walked w → part ws (k + 1) ≡ index_by ws outer w
unfolding walked index_by
near_by ws outer (found i) e = cc
near_by ws outer (outside n) e = absurd cc

outer_by : (ws : List ℕ) (outer : ℕ → List ℕ) (w : Walk) {n : ℕ} → Err n ≡ walked w → outer n ≡ index_by ws outer w
unfolding walked index_by
outer_by ws outer (found i) e = absurd cc
outer_by ws outer (outside n) e = cc

pub bound_near : (ws : List ℕ) (outer : ℕ → List ℕ) (at a : ℕ) {k : ℕ} → Ok k ≡ walked (back ws at 0 a) → part ws (k + 1) ≡ bound_in ws outer at a
unfolding bound_in
bound_near ws outer at a e = near_by ws outer (back ws at 0 a) e

pub bound-outside : (ws : List ℕ) (outer : ℕ → List ℕ) (at a : ℕ) {n : ℕ} → Err n ≡ walked (back ws at 0 a) → outer n ≡ bound_in ws outer at a
unfolding bound_in
bound-outside ws outer at a e = outer_by ws outer (back ws at 0 a) e

-- and outside the words, by the walk from the place
pub far_found : (term : List ℕ) (place n : ℕ) {k : ℕ} → Ok k ≡ walked (back term place 0 n) → part term (k + 1) ≡ outer_at term place n
unfolding outer_at
far_found term place n e = bound_near term nowhere place n e

pub far_none : (term : List ℕ) (place n : ℕ) {m : ℕ} → Err m ≡ walked (back term place 0 n) → [] ≡ outer_at term place n
unfolding outer_at
far_none term place n e = bound-outside term nowhere place n e

-- the answer asked for is what the walk gives from here on
pub record Walking (ws : List ℕ) (at a i parts left : ℕ) : Type 0 where
  pub few : parts + i ≤ at
  pub is : back ws i parts left ≡ back ws at 0 a

module _ (ws : List ℕ) (at a : ℕ) where
  pub walk_begin : Walking ws at a at 0 a
  walk_begin = record { few = omega arith; is = refl }

  pub walk_end : (i parts left : ℕ) → Walking ws at a i parts left → i ≡ 0 → Err left ≡ walked (back ws at 0 a)
  unfolding back walked
  walk_end i parts left w e = let h = rw e at w.is in rw (← h)

-- a turn: the word before, and what it wants
module _ {ws : List ℕ} {at a i parts left word : ℕ} {arity : Option ℕ} (walking : Walking ws at a i parts left) (more : 0 < i) (word-is : word ≡ get_or ws (i - 1) 0)
    (arity_is : arity ≡ arity_of word) where
  walk_on : step_back (read word) (i - 1) parts left (λ p n. back ws (i - 1) p n) ≡ back ws at 0 a
  unfolding back
  walk_on = let z : i ≡ suc (i - 1) = omega arith in let h = rw z at walking.is in rw (← word-is) at h

  pub walk_unknown : arity ≡ None → Walking ws at a (i - 1) parts left
  unfolding step_back
  walk_unknown r = record { few = omega (arith, walking.few); is = rw (read-unknown word (sym arity_is ∙ r)) at walk_on }

  module _ {n : ℕ} (r : arity ≡ Some n) where
    walk_read : (l : Label) × (step_back (labelled l n) (i - 1) parts left (λ p m. back ws (i - 1) p m) ≡ back ws at 0 a) × (binds l ≡ eqb (word / 256) 27)
    walk_read = let k = read_children word n (sym arity_is ∙ r) in (k.0, rw k.1 at walk_on, binds-word word k.0 n k.1)

    pub walk_whole : n ≤ parts → Walking ws at a (i - 1) (parts - n + 1) left
    unfolding step_back
    walk_whole h = record { few = omega (arith, walking.few); is = rw (le-ltb parts n h) at walk_read.1 }

    module _ (h : parts < n) where
      -- a head above, in which the place is no body
      pub walk_first : parts ≢ 1 → Walking ws at a (i - 1) 0 left
      unfolding step_back
      walk_first k = record { few = omega (arith, walking.few); is = rw (lt-ltb parts n h, ne_eqb parts 1 k) at walk_read.1 }

      module _ (one : parts ≡ 1) where
        below_one : (l : Label) × (cond (binds l) (cond (eqb left 0) (found (i - 1)) (back ws (i - 1) 0 (left - 1))) (back ws (i - 1) 0 left) ≡ back ws at 0 a) × (binds l ≡ eqb (word / 256) 27)
        unfolding step_back
        below_one = let k = walk_read in (k.0, rw (lt-ltb parts n h, eq-eqb parts 1 one) at k.1, k.2)

        pub walk_other : word / 256 ≢ 27 → Walking ws at a (i - 1) 0 left
        walk_other k = let b = below_one in record { few = omega (arith, walking.few); is = rw (b.2 ∙ ne_eqb _ 27 k) at b.1 }

        module _ (sum : word / 256 ≡ 27) where
          pub walk_found : left ≡ 0 → Ok (i - 1) ≡ walked (back ws at 0 a)
          unfolding walked
          walk_found z = let b = below_one in let h = rw (b.2 ∙ eq-eqb _ 27 sum, eq-eqb left 0 z) at b.1 in rw (← h)

          pub walk_body : left ≢ 0 → Walking ws at a (i - 1) 0 (left - 1)
          walk_body z = let b = below_one in record { few = omega (arith, walking.few); is = rw (b.2 ∙ eq-eqb _ 27 sum, ne_eqb left 0 z) at b.1 }

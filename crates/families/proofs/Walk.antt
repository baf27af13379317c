-- Passing the children of a part one by one, up to child i.
use mathlib.Core.Path.{◌≡◌, refl, ◌∙◌, ap}
use mathlib.Core.List.{List, ◌++◌}
use Rattle.std.specs.Prelude.{Option, Some, None}
use Prim.Native.Nat.{ℕ, suc, ◌+◌, ◌-◌, ◌≤◌, ◌<◌}
use native.Mathlib.Omega.{arith}
use lib.ListN.{length, drop, get_or, length-append}
use lib.Seq.{drop-drop}
use Rattle.std.specs.Prelude.{Some, None}
use Rattle.term.specs.Heads.{labelled, read, arity_of}
use Rattle.term.specs.Trees.{Tree, Forest, none, ◌▹◌, count, words, words*, Formed}
use Rattle.term.specs.Parts.{Whole, parse, first, part}
use Rattle.term.proofs.Parsing.{parse-all}
use Rattle.term.proofs.Scan.{read_children, read-unknown}
use Rattle.term.proofs.Extents.{parse-behind}
use Rattle.rules.specs.Rewrite.{Opened, outside, opened, behind, open_at}
use Rattle.families.specs.declared.children.Child.{Child}
use Rattle.families.specs.Code.Children.{kids, child_of, child_in}
use Rattle.rules.proofs.Opening.{open_past}
use Rattle.families.proofs.Split.{Root, root, first_word}

-- a child of a row that begins at an offset
unfoldable pub child_from : ℕ → Opened → Option Child
child_from from outside = None
child_from from (opened b t a) = Some (record { start = from + length (words* b); end = from + length (words* b) + length (words t) })

-- the part's own children begin at 1
from_one : (o : Opened) → child_of o ≡ child_from 1 o
unfolding child_of child_from
from_one outside = refl
from_one (opened b t a) = refl

from_next : (from : ℕ) (t : Tree) (o : Opened) → child_from from (behind t o) ≡ child_from (from + length (words t)) o
unfolding child_from behind words
from_next from t outside = refl
from_next from t (opened b u a) =
    let z : from + length (words t ++ words* b) ≡ from + length (words t) + length (words* b) = omega (arith, length-append (words t) (words* b)) in rw z

-- ---- what the part's first word says
root_read : {ws : List ℕ} (r : Root ws) → read (get_or ws 0 0) ≡ labelled r.label (count r.children)
unfolding Formed
root_read r = rw (first_word r) r.formed.0

pub read_first : {ws : List ℕ} → Whole ws → arity_of (get_or ws 0 0) ≡ None → ⊥
read_first {ws} w e =
    let r = root_read (root w) in
    let u = read-unknown (get_or ws 0 0) e in
    let z : ◌≡◌ {A = ℕ} 0 1 = cc in omega arith

children_number : {ws : List ℕ} {n : ℕ} (r : Root ws) → arity_of (get_or ws 0 0) ≡ Some n → n ≡ count r.children
children_number {ws} {n} r e =
    let a = root_read r in
    let b = (read_children (get_or ws 0 0) n e).1 in cc

-- ---- the children
root_children : {ws : List ℕ} (r : Root ws) → parse (drop 1 ws) ≡ r.children
unfolding Formed
root_children r = rw r.whole (parse-all r.children r.formed.1)

-- k of them are passed, and child i is what it is among the rest
pub record Walked (ws : List ℕ) (i n start k : ℕ) : Type 0 where
  passed : k ≤ i
  left : count (parse (drop start ws)) + k ≡ n
  answer : child_in ws i ≡ child_from start (open_at (parse (drop start ws)) (i - k))

pub walked_none : {ws : List ℕ} {n : ℕ} (i : ℕ) → Whole ws → arity_of (get_or ws 0 0) ≡ Some n → Walked ws i n 1 0
unfolding kids
walked_none {ws} {n} i w e =
    let r = root w in
    let p = root_children r in
    let z : i - 0 ≡ i = omega arith in
    record {
      passed = omega arith;
      left = rw p (omega (arith, children_number r e));
      answer = rw (r.tree, z, p) (from_one (open_at r.children i));
    }

-- there is no child i where the part has no more
pub walked-past : {ws : List ℕ} {n : ℕ} (i : ℕ) → Whole ws → arity_of (get_or ws 0 0) ≡ Some n → n ≤ i
    → None ≡ child_in ws i
unfolding kids child_of
walked-past i w e l =
    let r = root w in rw (r.tree, open_past r.children i (omega (arith, children_number r e)))

-- one more is passed
more_by : {ws : List ℕ} {i n start k : ℕ} → Walked ws i n start k → k < i → i < n → (f : Forest) → parse (drop start ws) ≡ f
    → Walked ws i n (start + length (first f)) (k + 1)
unfolding first count open_at
more_by w l m none e = absurd (omega (arith, w.left, ap count e))
more_by {ws} {i} {n} {start} {k} w l m (t ▹ f) e =
    let b : parse (drop (start + length (words t)) ws) ≡ f = rw drop-drop at (parse-behind (drop start ws) t f e) in
    let z : i - k ≡ suc (i - (k + 1)) = omega arith in
    let c = ap count e in
    record {
      passed = omega arith;
      left = rw b (omega (arith, w.left));
      answer = w.answer ∙ rw (e, z, b) (from_next start t (open_at f (i - (k + 1))));
    }

pub walked_more : {ws : List ℕ} {i n start k e : ℕ} → Walked ws i n start k → k < i → i < n → e ≡ start + length (part ws start) → Walked ws i n e (k + 1)
unfolding part
walked_more {ws} {start} w l m h = rw h (more_by w l m (parse (drop start ws)) refl)

-- and child i itself is the next
here_by : {ws : List ℕ} {i n start k : ℕ} → Walked ws i n start k → i ≤ k → i < n → (f : Forest) → parse (drop start ws) ≡ f
    → Some (record { start = start; end = start + length (first f) }) ≡ child_in ws i
unfolding first count open_at child_from words
here_by w l m none e = absurd (omega (arith, w.left, ap count e))
here_by {i} {start} {k} w l m (t ▹ f) e =
    let z : i - k ≡ 0 = omega (arith, w.passed) in
    let s : start + 0 ≡ start = omega arith in
    rw (w.answer, e, z, s)

pub walked_here : {ws : List ℕ} {i n start k e : ℕ} → Walked ws i n start k → i ≤ k → i < n → e ≡ start + length (part ws start)
    → Some (record { start = start; end = e }) ≡ child_in ws i
unfolding part
walked_here {ws} {start} w l m h = rw h (here_by w l m (parse (drop start ws)) refl)

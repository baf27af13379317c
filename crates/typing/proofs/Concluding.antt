-- The rules in code: the lines' digits, the indices where they stand, and what is laid on the stack.
use mathlib.Core.Path.{◌≡◌, refl, sym, ◌∙◌, ap}
use mathlib.Core.Bool.{Bool, true, false, cond, not, ◌&&◌, ◌||◌, and-eq-true_iff}
use mathlib.Core.Logic.{◌≢◌, ◌⊎◌, inl, inr}
use mathlib.Core.List.{List, [], ◌∷◌, ◌++◌, append-nil}
use mathlib.Core.Option.{Option, some}
use Rattle.std.specs.Prelude.{Some, None}
use Prim.Native.Nat.{ℕ, zero, suc, ◌+◌, ◌/◌, ◌%◌, ◌≤◌, ◌<◌, min}
use native.Mathlib.Numerals.{add-one}
use native.Mathlib.Omega.{arith}
use borrow.Author.Tests.{ne_eqb, leb-true, eqb-true}
use lib.Dec.{eqb, leb}
use lib.ListN.{length, take, set, length-append, length-set}
use lib.Seq.{take-suc-set}
use Rattle.words.specs.Words.{same_words, laid, Added}
use Rattle.words.proofs.Runs.{added, added_both}
use Rattle.term.specs.declared.heads.Class.{Class}
use Rattle.typing.specs.declared.sorts.Gathered as G
use Rattle.typing.specs.declared.sorts.Plan as P
use Rattle.typing.specs.declared.sorts.Run as R
use Rattle.typebook.specs.Code.Shapes.{Shape, shape, given}
use Rattle.typing.specs.Code.Shapes.{shape_at, run, run_at, Inside, Small, Ready}
use Rattle.typebook.specs.Code.Lines.{rule_at, piece_of, pair_of, side_of, short_both, fitted, met, class_by, shaped, by_line, children_of}
use Rattle.typing.specs.Code.Conclude.{place_of, side_size, product, left_at, right_at, rows_of, columns_of, well_made, made_of, plan_of, standing, sides_of, Laying, Concludes}
use Rattle.typing.proofs.Lying.{run_length, run-both, answers_none, above-laid, shape-laid, laid_same}

-- the test for a product's sides alone
pub short_sides : (p : Bool) (n m : ℕ) → short_both p n m ≡ (not p || (leb n 63 && leb m 63))
unfolding short_both
short_sides true n m = refl
short_sides false n m = refl

-- ---- where an index stands by its digit
pub place-few : (g : G.Gathered) → Small g.first → Small g.latest → (k : ℕ) → (place_of k g).len ≤ 63
place-few g a b zero = omega arith
place-few g a b (suc zero) = omega arith
place-few g a b (suc (suc zero)) = omega arith
place-few g a b (suc (suc (suc zero))) = omega arith
place-few g a b (suc (suc (suc (suc zero)))) = omega arith
place-few g a b (suc (suc (suc (suc (suc k))))) = omega arith

-- on the stack
pub record Placed (st : List ℕ) (g : G.Gathered) (k : ℕ) : Type 0 where
  pub is : run_at st (place_of k g) ≡ piece_of k (shape_at st g.top g.first) (shape_at st g.at g.latest)
  pub inside : Inside (place_of k g) st

pub placed : {st : List ℕ} {g : G.Gathered} → Ready g st → (k : ℕ) → Placed st g k
placed r zero = record { is = refl; inside = omega arith }
placed r (suc zero) = record { is = refl; inside = omega arith }
placed r (suc (suc zero)) = record { is = refl; inside = omega arith }
placed r (suc (suc (suc zero))) = record { is = refl; inside = omega arith }
placed r (suc (suc (suc (suc zero)))) = record { is = refl; inside = omega arith }
placed r (suc (suc (suc (suc (suc k))))) = record { is = refl; inside = omega arith }

-- 1 and 2 as what is asked: the first's index of that digit is the second's
pub met-run : (t : ℕ) (a b : Shape) (alike : Bool) → t ≢ 0 → t < 3 → met t a b alike ≡ same_words (piece_of t a b) (piece_of 3 a b)
unfolding met
met-run zero a b alike z h = absurd (z refl)
met-run (suc zero) a b alike z h = refl
met-run (suc (suc zero)) a b alike z h = refl
met-run (suc (suc (suc t))) a b alike z h = absurd (omega arith)

-- ---- an index, or a product of two
pub pair-some : (i j : List ℕ) → length i ≢ 0 → pair_of i j ≡ 512 ∷ (i ++ j)
unfolding pair_of
pair-some [] j h = absurd (h refl)
pair-some (w ∷ i) j h = refl

pub side-size : (p : Bool) (i j : List ℕ) → length (side_of p i j) ≡ side_size p (length i) (length j)
unfolding side_of side_size pair_of
side-size false i j = refl
side-size true [] j = refl
side-size true (w ∷ i) j = rw (ne_eqb (suc (length i)) 0 (λ h. omega arith)) (omega (arith, length-append i j))

-- ---- what is laid
-- words that stand where they are wanted
stands-run : (st : List ℕ) (r : R.Run) (at : ℕ) → standing r at ≡ true → run_at st r ≡ run st at r.len
stands-run st r at e = go r.len refl (eqb r.len 0) refl e
  where
    go : (n : ℕ) → r.len ≡ n → (b : Bool) → eqb r.len 0 ≡ b → cond b true (eqb r.at at) ≡ true → run_at st r ≡ run st at r.len
    go n q true p h = let z = eqb-true r.len 0 p in rw z
    go n q false p h = let z = eqb-true r.at at h in rw z

pub in_place : {st : List ℕ} {p : P.Plan} {g : G.Gathered} → Laying st p g → p.product ≡ false → standing p.left g.top ≡ true → standing p.right (g.top + p.left.len) ≡ true
    → st ≡ laid st g.top (sides_of st p g)
unfolding side_of
in_place {st} {p} {g} h n a b =
    let l = run_length st p.left.at p.left.len h.left_inside in
    let r = run_length st p.right.at p.right.len h.right_inside in
    let k = rw (n, length-append (run_at st p.left) (run_at st p.right)) at h.few in
    rw (n, stands-run st p.left g.top a, stands-run st p.right (g.top + p.left.len) b) (sym (laid_same st g.top p.left.len p.right.len (omega (arith, h.ready.room))))

-- one product of two that stand one behind the other
pub inserted : {st : List ℕ} {p : P.Plan} {g : G.Gathered} → Laying st p g → p.product ≡ true → standing p.left g.top ≡ true → p.left.len ≢ 0 → p.right.len ≡ 0
    → g.at ≡ g.top + p.left.len
    → laid st g.top (512 ∷ run st g.top (p.left.len + g.latest.left)) ≡ laid st g.top (sides_of st p g)
unfolding side_of pair_of
inserted {st} {p} {g} h y s full right next =
    let l = run_length st p.left.at p.left.len h.left_inside in
    let i = run_at st p.left in
    let j = run_at st (place_of 3 g) in
    rw (y, pair-some i j (λ z. full (sym l ∙ z)), right, append-nil (i ++ j), stands-run st p.left g.top s, next, run-both st g.top p.left.len g.latest.left)

-- one side behind the other, made apart
pub record Made (ws out' : List ℕ) (e : ℕ) : Type 0 where
  pub end : e ≡ length ws
  pub inside : e ≤ length out'
  pub is : take e out' ≡ ws

made : {out mid out' : List ℕ} {n e : ℕ} (i j : List ℕ) → Added out 0 i mid n → Added mid n j out' e → length (i ++ j) ≤ length out → Made (i ++ j) out' e
made {e = e} i j p q h =
    let a = added_both p q in
    let z : 0 + length (i ++ j) ≡ length (i ++ j) = omega arith in
    let k = rw z at a.end in
    let m : e ≡ length (i ++ j) = omega arith in
    record { end = m; inside = omega (arith, a.size); is = rw m (rw z at (a.front (omega arith))) }

pub sides_made : {st : List ℕ} {p : P.Plan} {g : G.Gathered} {out mid out' : List ℕ} {n e : ℕ} {q r : R.Run} → Laying st p g → q ≡ place_of 3 g → r ≡ place_of 4 g → 126 ≤ length
    out
    → Added out 0 (side_of p.product (run_at st p.left) (run_at st q)) mid n → Added mid n (side_of p.product (run_at st p.right) (run_at st r)) out' e → Made (sides_of st p g) out' e
sides_made h x y l a b = let few = h.few in made _ _ (rw x at a) (rw y at b) (omega arith)

-- the first leaves room
pub made_room : {out mid : List ℕ} {n : ℕ} (i j : List ℕ) → Added out 0 i mid n → length (i ++ j) ≤ 126 → 126 < length out → n < length mid
made_room i j a h k = omega (arith, a.end, a.size, length-append i j)

-- what is appended is a run
pub added-run : {out src xs out' : List ℕ} {at e : ℕ} → xs ≡ src → (e ≡ min (at + length xs) (length out + 1)) × (out' ≡ laid out at xs) → Added out at src out' e
added-run x h = added _ _ _ _ _ (rw x at h.0) (rw x at h.1)

module _ (st : List ℕ) (p q : R.Run) {out out' : List ℕ} {to e : ℕ} {product : Bool} where
  pub put-plain : (product ≡ false) ⊎ (p.len ≡ 0) → Added out to (run_at st p) out' e → Added out to (side_of product (run_at st p) (run_at st q)) out' e
  unfolding side_of pair_of
  put-plain (inl n) a = rw n a
  put-plain (inr n) a = let x : run_at st p ≡ [] = rw n in rw x (go product (rw x at a))
    where
      go : (b : Bool) → Added out to [] out' e → Added out to (cond b [] []) out' e
      go true a = a
      go false a = a

  pub put-product : {mid : List ℕ} {f : ℕ} → product ≡ true → p.len ≢ 0 → Inside p st → to < length out → Added (set out to 512) (to + 1) (run_at st p) mid f → Added mid f (run_at st q) out' e
      → Added out to (side_of product (run_at st p) (run_at st q)) out' e
  unfolding side_of
  put-product y n h i a b =
      let l = run_length st p.at p.len h in
      let w : Added out to (512 ∷ []) (set out to 512) (to + 1) = record { size = length-set out to 512; end = omega arith; front = λ k. rw add-one (take-suc-set out to 512 i) } in
      rw (y, pair-some (run_at st p) (run_at st q) (λ z. n (sym l ∙ z))) (added_both (added_both w a) b)

-- ---- a plan
-- a plan by its parts, as the code finds them
module _ (h n : ℕ) (m : Bool) (g : G.Gathered) {rule rows columns : ℕ} {left right : R.Run} {fit well : Bool} (a : rule ≡ rule_at h) (l : left ≡ left_at rule g) (r : right ≡ right_at rule g)
    (i : rows ≡ side_size (product rule) left.len g.latest.left) (j : columns ≡ side_size (product rule) right.len g.latest.right) (f : fit ≡ fitted h n g.first.class g.latest.class)
    (w : well ≡ (fit && (m && short_both (product rule) rows columns))) where
  well-is : well ≡ well_made h n m g
  unfolding well_made
  well-is = w ∙ rw (f, j, i, r, l, a)

  pub plan_none : well ≡ false → None ≡ plan_of h n m g
  unfolding plan_of
  plan_none no' = rw (sym well-is ∙ no')

  pub plan_some : well ≡ true → {class : Class} → class ≡ class_by (rule / 256 % 16) h g.first.class g.latest.class
      → Some (record { sorted = record { class = class; left = rows; right = columns }; product = product rule; left = left; right = right }) ≡ plan_of h n m g
  unfolding plan_of made_of
  plan_some e k = rw (sym well-is ∙ e, k, j, i, r, l, a)

plan-by : (b : Bool) (p q : P.Plan) → Some p ≡ cond b (Some q) None → (b ≡ true) × (p ≡ q)
plan-by true p q e = (refl, cc)
plan-by false p q e = (cc, cc)

no_plan : (b : Bool) (q : P.Plan) → None ≡ cond b (Some q) None → b ≡ false
no_plan true q e = cc
no_plan false q e = refl

few_by : (p : Bool) (k l m n : ℕ) → k ≤ 63 → l ≤ 63 → short_both p (side_size p k m) (side_size p l n) ≡ true → (side_size p k m ≤ 63) × (side_size p l n ≤ 63)
unfolding short_both side_size
few_by true k l m n h i e = let s = (and-eq-true_iff _ _).0 e in (leb-true _ _ s.0, leb-true _ _ s.1)
few_by false k l m n h i e = (h, i)

-- three tests, one after the other
three : (f m s : Bool) (o : Option Shape) → given f (given m (given s o)) ≡ given (f && (m && s)) o
three true true s o = refl
three true false s o = refl
three false m s o = refl

module _ (h n : ℕ) {g : G.Gathered} {st : List ℕ} (ready : Ready g st) {m : Bool}
    (meets : m ≡ met (rule_at h / 4096) (shape_at st g.top g.first) (shape_at st g.at g.latest) g.alike) where
  abbrev rule : ℕ
  rule = rule_at h

  abbrev lefts : List ℕ
  lefts = side_of (product rule) (run_at st (left_at rule g)) (run_at st (place_of 3 g))

  abbrev rights : List ℕ
  rights = side_of (product rule) (run_at st (right_at rule g)) (run_at st (place_of 4 g))

  abbrev class : Class
  class = class_by (rule / 256 % 16) h g.first.class g.latest.class

  size_of : (k l : ℕ) → length (side_of (product rule) (run_at st (place_of k g)) (run_at st (place_of l g))) ≡ side_size (product rule) (place_of k g).len (place_of l g).len
  size_of k l = side-size (product rule) _ _ ∙ rw (run_length st _ _ (placed ready k).inside, run_length st _ _ (placed ready l).inside)

  planned : children_of h n (shape_at st g.top g.first) (shape_at st g.at g.latest) g.alike ≡ given (well_made h n m g) (some (shape class lefts rights))
  unfolding children_of by_line shaped well_made
  planned =
      rw (← meets, ← (placed ready (rule / 16 % 16)).is, ← (placed ready (rule % 16)).is, size_of (rule / 16 % 16) 3, size_of (rule % 16) 4)
      (three (fitted h n g.first.class g.latest.class) m _ _)

  pub rejects : None ≡ plan_of h n m g → Concludes h n g st None st
  unfolding plan_of
  rejects e = answers_none (planned ∙ rw (no_plan (well_made h n m g) _ e))

  module _ {p : P.Plan} (is : Some p ≡ plan_of h n m g) where
    well : well_made h n m g ≡ true
    unfolding plan_of
    well = (plan-by (well_made h n m g) p _ is).0

    made-is : p ≡ made_of h g
    unfolding plan_of
    made-is = (plan-by (well_made h n m g) p _ is).1

    sides-few : (rows_of rule g ≤ 63) × (columns_of rule g ≤ 63)
    unfolding well_made
    sides-few =
        let a = (and-eq-true_iff (fitted h n g.first.class g.latest.class) _).0 well in
        let b = (and-eq-true_iff m _).0 a.1 in
        few_by (product rule) _ _ _ _ (place-few g ready.first ready.latest (rule / 16 % 16)) (place-few g ready.first ready.latest (rule % 16)) b.1

    sides-length : length (lefts ++ rights) ≤ 126
    sides-length = omega (arith, sides-few, length-append lefts rights, size_of (rule / 16 % 16) 3, size_of (rule % 16) 4)

    pub laying : Laying st p g
    unfolding made_of
    laying = rw made-is (record { ready = ready; left_inside = (placed ready (rule / 16 % 16)).inside; right_inside = (placed ready (rule % 16)).inside; few = sides-length })

    pub concludes : {st' : List ℕ} → st' ≡ laid st g.top (sides_of st p g) → Concludes h n g st (Some p.sorted) st'
    unfolding made_of
    concludes l =
        let b : g.top + length (lefts ++ rights) ≤ length st = omega (arith, sides-length, ready.room) in
        let x = rw (size_of (rule / 16 % 16) 3, size_of (rule % 16) 4) at (shape-laid class st g.top lefts rights b) in
        rw (l, made-is) (record { told = ap some x ∙ sym (planned ∙ rw well); small = sides-few; kept = above-laid st g.top (lefts ++ rights) b })

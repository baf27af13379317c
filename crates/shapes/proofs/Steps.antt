-- The reading, one head at a time, as the code does it.
use mathlib.Core.Path.{◌≡◌, refl, sym, ◌∙◌, ap}
use mathlib.Core.Logic.{◌≢◌}
use mathlib.Core.Bool.{Bool, true, false, cond, not, beq}
use mathlib.Core.List.{List, [], ◌∷◌, ◌++◌}
use Prim.Native.Nat.{ℕ, zero, suc, ◌+◌, ◌-◌, ◌/◌, ◌%◌, ◌≤◌, ◌<◌}
use native.Mathlib.Decide.{dec_le}
use native.Mathlib.Omega.{arith}
use borrow.Author.Tests.{eq-eqb, ne_eqb, eqb-true, eqb-false, le-leb, lt-leb}
use lib.Dec.{eqb, leb}
use lib.ListN.{length, take, drop, get_or, get_or-eq_default}
use Rattle.term.specs.declared.heads.Class.{Class}
use Rattle.term.specs.declared.heads.Class.TheVariants.{Nothing, Index, Basis, Scalar, Ket, Bra, Operator, Array, Term}
use Rattle.term.specs.Heads.{heads, result_of}
use Rattle.term.specs.Parts.{part}
use Rattle.term.proofs.Scan.{part-front}
use Rattle.typebook.specs.Code.Shapes.{number_of}
use Rattle.typebook.specs.Code.Lines.{rules, rule_at, turned}
use Rattle.shapes.specs.Bodies.{bound_in}
use Rattle.shapes.specs.Reading.{second_of, declared_index, leaf_index, variable_class, child_at, turned_if, class_read, class_at, digit, is_right, side_read, side_at}

-- a variable has two indices at most
pub second-few : (right : Bool) (kind : ℕ) {k : ℕ} → k ≡ second_of right kind → k ≤ 1
unfolding second_of
second-few right kind e = go right (eqb (kind % 4) 3) e
  where
    go : (r t : Bool) {k : ℕ} → k ≡ cond r (cond t 1 0) 0 → k ≤ 1
    go true true e = omega arith
    go true false e = omega arith
    go false t e = omega arith

-- past the end there is the word 0, which has no rule
pub there : (ws : List ℕ) (at : ℕ) {word rule : ℕ} → word ≡ get_or ws at 0 → rule ≡ rule_at (word / 256) → rule ≢ 0 → at < length ws
unfolding rule_at rules
there ws at w r h = elim (dec_le (length ws) at) [
  | yes k ↦ absurd (h (rw (r, w, get_or-eq_default ws 0 k)))
  | no k ↦ omega arith
]

some-rule : (right : Bool) {rule k : ℕ} → k ≡ digit right rule → k ≢ 0 → rule ≢ 0
some-rule true e h z = h (rw (e, z))
some-rule false e h z = h (rw (e, z))

-- ---- the class
pub turned_number : (c : Class) → number_of (turned c) ≡ turned_if true (number_of c)
unfolding turned_if
turned_number Nothing = refl
turned_number Index = refl
turned_number Basis = refl
turned_number Scalar = refl
turned_number Ket = refl
turned_number Bra = refl
turned_number Operator = refl
turned_number Array = refl
turned_number Term = refl

index-is : (c : Class) → number_of c ≡ 1 → c ≡ Index
index-is Nothing e = absurd (omega arith)
index-is Index e = refl
index-is Basis e = absurd (omega arith)
index-is Scalar e = absurd (omega arith)
index-is Ket e = absurd (omega arith)
index-is Bra e = absurd (omega arith)
index-is Operator e = absurd (omega arith)
index-is Array e = absurd (omega arith)
index-is Term e = absurd (omega arith)

-- turning twice is not turning
twice : (n : ℕ) → turned_if true (turned_if true n) ≡ n
unfolding turned_if
twice n = go (eqb n 4) refl (eqb n 5) refl
  where
    go : (a : Bool) → eqb n 4 ≡ a → (b : Bool) → eqb n 5 ≡ b → turned_if true (turned_if true n) ≡ n
    go true e b f = rw (eqb-true n 4 e)
    go false e true f = rw (eqb-true n 5 f)
    go false e false f = rw (e, f, e, f)

turned-both : (s t : Bool) (n : ℕ) → turned_if (not (beq s t)) n ≡ turned_if s (turned_if t n)
unfolding turned_if
turned-both true true n = sym (twice n)
turned-both true false n = refl
turned-both false true n = refl
turned-both false false n = refl

class-at : (ds ws : List ℕ) (n at : ℕ) → 0 < n → class_at ds ws n at ≡ class_read ds (get_or ws at 0) λ second. class_at ds ws (n - 1) (child_at ws at second)
unfolding class_at
class-at ds ws zero at h = absurd (omega arith)
class-at ds ws (suc n) at h = let z : suc n - 1 ≡ n = omega arith in rw z

-- where the loop stands: the class at hand, turned or not, with the budget that is left, is the one asked for
pub record Turning (ds ws : List ℕ) (budget done at : ℕ) (turned : Bool) (goal : ℕ) : Type 0 where
  pub same : turned_if turned (class_at ds ws (budget - done) at) ≡ goal

pub class-begun : (ds ws : List ℕ) (budget at : ℕ) → Turning ds ws budget 0 at false (class_at ds ws budget at)
unfolding turned_if
class-begun ds ws budget at = let z : budget - 0 ≡ budget = omega arith in record { same = rw z }

none-left : (ds ws : List ℕ) (n at : ℕ) (turned : Bool) → n ≡ 0 → 0 ≡ turned_if turned (class_at ds ws n at)
unfolding class_at turned_if
none-left ds ws n at true e = rw e
none-left ds ws n at false e = rw e

module _ {ds ws : List ℕ} {budget done at : ℕ} {turned : Bool} {goal : ℕ} (x : Turning ds ws budget done at turned goal) where
  pub class-none : budget ≤ done → 0 ≡ goal
  class-none h = none-left ds ws (budget - done) at turned (omega arith) ∙ x.same

  module _ (more : done < budget) {word : ℕ} (word-is : word ≡ get_or ws at 0) where
    by_word : turned_if turned (class_read ds word λ second. class_at ds ws (budget - done - 1) (child_at ws at second)) ≡ goal
    by_word = rw (← word-is) at (rw (class-at ds ws (budget - done) at (omega arith)) at x.same)

    pub class_variable : word / 256 ≡ 26 → {v r : ℕ} → v ≡ variable_class ds (word % 256) → r ≡ turned_if turned v → r ≡ goal
    unfolding class_read
    class_variable h e f = rw (f, e) (rw (eq-eqb _ 26 h) at by_word)

    module _ (other : word / 256 ≢ 26) {rule : ℕ} (r : rule ≡ rule_at (word / 256)) where
      pub class_head : rule / 256 % 16 ≡ 0 → {v r : ℕ} → v ≡ number_of (result_of (word / 256)) → r ≡ turned_if turned v → r ≡ goal
      unfolding class_read
      class_head h e f = rw (f, e) (rw (ne_eqb _ 26 other, ← r, eq-eqb _ 0 h) at by_word)

      pub class-child : rule / 256 % 16 ≢ 0 → {child : ℕ} → child ≡ child_at ws at (eqb (rule / 256 % 16) 2)
          → Turning ds ws budget (done + 1) child (not (beq turned (eqb (rule / 256 % 16) 3))) goal
      unfolding class_read
      class-child h e =
          let z : budget - (done + 1) ≡ budget - done - 1 = omega arith in
          record { same = rw (z, e, turned-both) (rw (ne_eqb _ 26 other, ← r, ne_eqb _ 0 h) at by_word) }

-- ---- the index on a side
side-none : (ds ws : List ℕ) (outer : ℕ → List ℕ) (right : Bool) (n at : ℕ) → n ≡ 0 → [] ≡ side_at ds ws outer right n at
unfolding side_at
side-none ds ws outer right n at e = rw e

side-at : (ds ws : List ℕ) (outer : ℕ → List ℕ) (right : Bool) (n at : ℕ) → n ≢ 0
    → side_at ds ws outer right n at ≡ side_read (get_or ws at 0) (part ws at) (leaf_index ds ws outer right at (get_or ws at 0)) right λ r second. side_at ds ws outer r (n - 1) (child_at ws at second)
unfolding side_at
side-at ds ws outer right zero at h = absurd (h refl)
side-at ds ws outer right (suc n) at h = let z : suc n - 1 ≡ n = omega arith in rw z

-- a part is the run up to its end
pub part-run : (ws : List ℕ) (at : ℕ) {e : ℕ} → e ≡ at + length (part ws at) → take (e - at) (drop at ws) ≡ part ws at
part-run ws at {e} h = let z : e - at ≡ length (part ws at) = omega arith in rw z (sym (part-front ws at))

-- a word that has a rule, or a class, is there, and there is budget for it
within : (ws : List ℕ) (n at : ℕ) {word : ℕ} → word ≡ cond (eqb n 0) 0 (get_or ws at 0) → word ≢ 0 → (n ≢ 0) × (word ≡ get_or ws at 0)
within ws n at {word} w h = go (eqb n 0) refl w
  where
    go : (b : Bool) → eqb n 0 ≡ b → word ≡ cond b 0 (get_or ws at 0) → (n ≢ 0) × (word ≡ get_or ws at 0)
    go true e w = absurd (h w)
    go false e w = (eqb-false n 0 e, w)

some-class : {word : ℕ} {class : Class} → class ≡ result_of (word / 256) → class ≡ Index → word ≢ 0
unfolding result_of heads
some-class c h z = let e : Index ≡ Nothing = sym h ∙ (rw z at c) in absurd cc

some_word : {word rule : ℕ} → rule ≡ rule_at (word / 256) → rule ≢ 0 → word ≢ 0
unfolding rule_at rules
some_word r h z = h (rw z at r)

-- ---- by the tests that the code makes, one after the other
-- a word that is read, with its rule where it is no index
pub record Ruled (ws : List ℕ) (n at word rule : ℕ) : Type 0 where
  pub word-is : word ≡ cond (eqb n 0) 0 (get_or ws at 0)
  pub no_index : number_of (result_of (word / 256)) ≢ 1
  pub rule-is : rule ≡ rule_at (word / 256)

pub ruled : (ws : List ℕ) (n at : ℕ) {word rule : ℕ} {class : Class} → word ≡ cond (eqb n 0) 0 (get_or ws at 0) → class ≡ result_of (word / 256) → class ≢ Index → rule ≡ rule_at (word / 256)
    → Ruled ws n at word rule
ruled ws n at w c h r = record { word-is = w; no_index = λ z. h (c ∙ index-is _ z); rule-is = r }

module _ {ws : List ℕ} {n at word rule : ℕ} (x : Ruled ws n at word rule) where
  ruled_word : rule ≢ 0 → (n ≢ 0) × (word ≡ get_or ws at 0)
  ruled_word h = within ws n at x.word-is (some_word x.rule-is h)

  inside : rule ≢ 0 → (n ≢ 0) × (at < length ws)
  inside h = let y = ruled_word h in (y.0, there ws at y.1 x.rule-is h)

  pub product_inside : 4 ≤ rule / 4096 → (n ≢ 0) × (at < length ws)
  product_inside h = inside (λ z. omega arith)

  pub child-inside : (right : Bool) {k : ℕ} → k ≡ digit right rule → k ≢ 0 → (n ≢ 0) × (at < length ws)
  child-inside right e h = inside (some-rule right e h)

module _ (ds ws : List ℕ) (outer : ℕ → List ℕ) (right : Bool) (n at : ℕ) where
  abbrev Sides : List ℕ → Type 0
  Sides is = is ≡ side_at ds ws outer right n at

  word-side : {word : ℕ} → (n ≢ 0) × (word ≡ get_or ws at 0)
      → Sides (side_read word (part ws at) (leaf_index ds ws outer right at word) right λ r second. side_at ds ws outer r (n - 1) (child_at ws at second))
  word-side x = rw (side-at ds ws outer right n at x.0, x.1)

  pub side_index : {word : ℕ} {class : Class} → word ≡ cond (eqb n 0) 0 (get_or ws at 0) → class ≡ result_of (word / 256) → class ≡ Index → Sides (part ws at)
  unfolding side_read
  side_index w c h = let one = ap number_of (sym c ∙ h) in rw (eq-eqb _ 1 one) at (word-side (within ws n at w (some-class c h)))

  module _ {word rule : ℕ} (x : Ruled ws n at word rule) where
    other : eqb (number_of (result_of (word / 256))) 1 ≡ false
    other = ne_eqb _ 1 x.no_index

    pub side-product : 4 ≤ rule / 4096 → {second : ℕ} → second ≡ child_at ws at true → Sides (512 ∷ (side_at ds ws outer right (n - 1) (at + 1) ++ side_at ds ws outer right (n - 1) second))
    unfolding side_read child_at
    side-product h e = rw e (rw (other, ← x.rule-is, le-leb 4 _ h) at (word-side (ruled_word x (λ z. omega arith))))

    module _ (no-product : rule / 4096 < 4) {k : ℕ} (d : k ≡ digit right rule) where
      leaf_by : (b : Bool) → eqb n 0 ≡ b → word ≡ cond b 0 (get_or ws at 0) → k ≡ 0 → Sides (leaf_index ds ws outer right at word)
      unfolding side_read leaf_index declared_index
      leaf_by true e w h = rw w (side-none ds ws outer right n at (eqb-true n 0 e))
      leaf_by false e w h = rw (other, ← x.rule-is, lt-leb 4 _ no-product, eq-eqb (digit right rule) 0 (sym d ∙ h)) at (word-side (eqb-false n 0 e, w))

      leaf : k ≡ 0 → Sides (leaf_index ds ws outer right at word)
      leaf = leaf_by (eqb n 0) refl x.word-is

      pub side-bound : k ≡ 0 → word / 256 ≡ 28 → Sides (bound_in ws outer at (word % 256))
      unfolding leaf_index
      side-bound h b = rw (eq-eqb _ 28 b) at (leaf h)

      pub side-declared : k ≡ 0 → word / 256 ≢ 28 → Sides (declared_index ds right word)
      unfolding leaf_index
      side-declared h b = rw (ne_eqb _ 28 b) at (leaf h)

      pub side-child : k ≢ 0 → {child : ℕ} → child ≡ child_at ws at (leb 3 k) → Sides (side_at ds ws outer (is_right k) (n - 1) child)
      unfolding side_read
      side-child h e = rw (e, d) (rw (other, ← x.rule-is, lt-leb 4 _ no-product, ne_eqb (digit right rule) 0 (λ z. h (d ∙ z))) at (word-side (ruled_word x (some-rule right d h))))

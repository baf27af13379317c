-- A head with children: what is read by the digits of its rule is what the rule concludes.
use mathlib.Core.Path.{◌≡◌, refl, sym, ◌∙◌, ap}
use mathlib.Core.Logic.{◌≢◌}
use mathlib.Core.Bool.{Bool, true, false, cond}
use mathlib.Core.List.{List, [], ◌∷◌, ◌++◌}
use mathlib.Core.Option.{Option, some}
use Prim.Native.Nat.{ℕ, zero, suc, ◌/◌, ◌%◌, ◌≤◌}
use native.Mathlib.Omega.{arith}
use borrow.Author.Tests.{ne_eqb, eqb-true}
use lib.Dec.{eqb, leb}
use lib.ListN.{length, get_or}
use Rattle.term.specs.declared.heads.Class.{Class}
use Rattle.term.specs.declared.heads.Class.TheVariants.{Nothing, Index, Basis, Scalar, Ket, Bra, Operator, Array, Term}
use Rattle.term.specs.Heads.{result_of}
use Rattle.term.specs.Trees.{Tree, words}
use Rattle.term.specs.Parts.{part}
use Rattle.term.proofs.Parsing.{some_words}
use Rattle.types.specs.Sorts.{Sort, index, basis, scalar, ket, bra, operator}
use Rattle.typebook.specs.Code.Shapes.{Shape, shape, shape_of, number_of, given}
use Rattle.typebook.specs.Code.Lines.{rule_at, met, fitted, turned, class_by, piece_of, is_product, pair_of, side_of, short_both, shaped, by_line, children_of}
use Rattle.shapes.specs.Reading.{leaf_index, child_at, turned_if, class_read, class_at, digit, is_right, side_read, side_at, side_in, Read}
use Rattle.shapes.proofs.Digits.{Row, same_class}

-- ---- what a conclusion tells
given-some : (b : Bool) (o : Option Shape) (x : Shape) → given b o ≡ some x → (b ≡ true) × (o ≡ some x)
given-some true o x e = (refl, e)
given-some false o x e = absurd (let z : ◌≡◌ {A = ℕ} 0 1 = cc in omega arith)

pub record Told (h n : ℕ) (a b : Shape) (alike : Bool) (x : Shape) : Type 0 where
  pub fits : fitted h n a.class b.class ≡ true
  pub meets : met (rule_at h / 4096) a b alike ≡ true
  pub class : x.class ≡ class_by (rule_at h / 256 % 16) h a.class b.class
  pub side : (right : Bool) → side_in right x ≡ side_of (is_product (rule_at h / 4096)) (piece_of (digit right (rule_at h)) a b) (side_in right b)

-- the shape that a line gives
abbrev result : ℕ → Shape → Shape → Shape
result h a b =
    let p = is_product (rule_at h / 4096) in
    shape (class_by (rule_at h / 256 % 16) h a.class b.class) (side_of p (piece_of (rule_at h / 16 % 16) a b) b.left) (side_of p (piece_of (rule_at h % 16) a b) b.right)

pub told : (h n : ℕ) (a b : Shape) (alike : Bool) (x : Shape) → children_of h n a b alike ≡ some x → Told h n a b alike x
unfolding children_of by_line shaped
told h n a b alike x e =
    let p = given-some (fitted h n a.class b.class) _ x e in
    let q = given-some (met (rule_at h / 4096) a b alike) _ x p.1 in
    let s = given-some (short_both (is_product (rule_at h / 4096)) (length (result h a b).left) (length (result h a b).right)) (some (result h a b)) x q.1 in
    let z : result h a b ≡ x = cc s.1 in
    record { fits = p.0; meets = q.0; class = sym (ap (λ (y : Shape). y.class) z); side = sides z }
  where
    sides : result h a b ≡ x → (right : Bool) → side_in right x ≡ side_of (is_product (rule_at h / 4096)) (piece_of (digit right (rule_at h)) a b) (side_in right b)
    sides z true = sym (ap (λ (y : Shape). y.right) z)
    sides z false = sym (ap (λ (y : Shape). y.left) z)

-- ---- which sides a class has
abbrev has_side : Bool → ℕ → Bool
has_side false n = get_or (false ∷ true ∷ true ∷ false ∷ true ∷ false ∷ true ∷ []) n false
has_side true n = get_or (false ∷ false ∷ false ∷ false ∷ false ∷ true ∷ true ∷ []) n false

pub some_index : (σ : Tree) → words σ ≢ []
some_index σ e = omega (arith, some_words σ, ap length e)

has : (right : Bool) (s : Sort) → side_in right (shape_of s) ≢ [] → has_side right (number_of (shape_of s).class) ≡ true
has false (index σ) n = refl
has false (basis σ) n = refl
has false scalar n = absurd (n refl)
has false (ket σ) n = refl
has false (bra σ) n = absurd (n refl)
has false (operator σ τ) n = refl
has true (index σ) n = absurd (n refl)
has true (basis σ) n = absurd (n refl)
has true scalar n = absurd (n refl)
has true (ket σ) n = absurd (n refl)
has true (bra σ) n = refl
has true (operator σ τ) n = refl

not_had : {A : Type 0} → false ≡ true → A
not_had e = absurd (let z : ◌≡◌ {A = ℕ} 0 1 = cc in omega arith)

had : (right : Bool) (s : Sort) → has_side right (number_of (shape_of s).class) ≡ true → side_in right (shape_of s) ≢ []
had false (index σ) e = some_index σ
had false (basis σ) e = some_index σ
had false scalar e = not_had e
had false (ket σ) e = some_index σ
had false (bra σ) e = not_had e
had false (operator σ τ) e = some_index σ
had true (index σ) e = not_had e
had true (basis σ) e = not_had e
had true scalar e = not_had e
had true (ket σ) e = not_had e
had true (bra σ) e = some_index σ
had true (operator σ τ) e = some_index τ

-- ---- the class
turned-number : (c : Class) → turned_if true (number_of c) ≡ number_of (turned c)
unfolding turned_if
turned-number Nothing = refl
turned-number Index = refl
turned-number Basis = refl
turned-number Scalar = refl
turned-number Ket = refl
turned-number Bra = refl
turned-number Operator = refl
turned-number Array = refl
turned-number Term = refl

class_by_lem : (k h : ℕ) (a b : Class) (child : Bool → ℕ) → k ≤ 3 → child false ≡ number_of a → (k ≡ 2 → child true ≡ number_of b)
    → cond (eqb k 0) (number_of (result_of h)) (turned_if (eqb k 3) (child (eqb k 2))) ≡ number_of (class_by k h a b)
unfolding class_by turned_if
class_by_lem zero h a b child f x y = refl
class_by_lem (suc zero) h a b child f x y = x
class_by_lem (suc (suc zero)) h a b child f x y = y refl
class_by_lem (suc (suc (suc zero))) h a b child f x y = rw x (turned-number a)
class_by_lem (suc (suc (suc (suc k)))) h a b child f x y = absurd (omega arith)

-- ---- the indices
pair-first : (i j : List ℕ) → pair_of i j ≢ [] → i ≢ []
unfolding pair_of
pair-first i j n e = n (rw e)

pair_is : (i j : List ℕ) → pair_of i j ≢ [] → 512 ∷ (i ++ j) ≡ pair_of i j
unfolding pair_of
pair_is [] j n = absurd (n refl)
pair_is (x ∷ i) j n = refl

piece_is : (k : ℕ) (a b : Shape) (none : List ℕ) (child : Bool → Bool → List ℕ) → ((right : Bool) → side_in right a ≢ [] → child right false ≡ side_in right a)
    → (3 ≤ k → (right : Bool) → side_in right b ≢ [] → child right true ≡ side_in right b) → piece_of k a b ≢ [] → cond (eqb k 0) none (child (is_right k) (leb 3 k)) ≡ piece_of k a b
piece_is zero a b none child x y n = absurd (n refl)
piece_is (suc zero) a b none child x y n = x false n
piece_is (suc (suc zero)) a b none child x y n = x true n
piece_is (suc (suc (suc zero))) a b none child x y n = y (omega arith) false n
piece_is (suc (suc (suc (suc zero)))) a b none child x y n = y (omega arith) true n
piece_is (suc (suc (suc (suc (suc k))))) a b none child x y n = absurd (n refl)

own_digit : (right : Bool) (r : ℕ) (a b : Shape) → digit false r ≡ 1 → digit true r ≡ 2 → piece_of (digit right r) a b ≡ side_in right a
own_digit true r a b l k = rw k
own_digit false r a b l k = rw l

-- ---- both, of a part whose children are read
module _ (ds ws : List ℕ) (outer : ℕ → List ℕ) (n at m : ℕ) (S s t : Sort) (alike : Bool) (row : Row (get_or ws at 0 / 256) m) (x : Told (get_or ws at 0 / 256) m (shape_of s) (shape_of t) alike (shape_of S))
    (unnamed : get_or ws at 0 / 256 ≢ 26) (first : Read ds ws outer n (child_at ws at false) s) (second : m ≡ 2 → Read ds ws outer n (child_at ws at true) t) where
  abbrev h : ℕ
  h = get_or ws at 0 / 256

  pub node-class : class_at ds ws (suc n) at ≡ number_of (shape_of S).class
  unfolding class_at class_read
  node-class =
      rw (ne_eqb _ 26 unnamed, x.class)
      (class_by_lem (rule_at h / 256 % 16) h (shape_of s).class (shape_of t).class (λ k. class_at ds ws n (child_at ws at k)) row.few first.class (λ z. (second (row.class-two z)).class))

  product-side : (right : Bool) → is_product (rule_at h / 4096) ≡ true → side_in right (shape_of S) ≢ []
      → 512 ∷ (side_at ds ws outer right n (child_at ws at false) ++ side_at ds ws outer right n (child_at ws at true)) ≡ side_in right (shape_of S)
  unfolding side_of
  product-side right p there =
      let r = row.product p in
      let e : side_in right (shape_of S) ≡ pair_of (side_in right (shape_of s)) (side_in right (shape_of t)) = rw (p, own_digit right (rule_at h) (shape_of s) (shape_of t) r.1 r.2) at (x.side right) in
      let u = pair-first (side_in right (shape_of s)) (side_in right (shape_of t)) (λ z. there (e ∙ z)) in
      let c = same_class h (shape_of s) (shape_of t) alike r.3 (rw r.0 at x.fits) x.meets in
      let v = had right t (rw c at (has right s u)) in
      rw (first.side right u, (second r.0).side right v) (pair_is (side_in right (shape_of s)) (side_in right (shape_of t)) (λ z. there (e ∙ z)) ∙ sym e)

  piece-side : (right : Bool) → is_product (rule_at h / 4096) ≡ false → side_in right (shape_of S) ≢ []
      → cond (eqb (digit right (rule_at h)) 0) (leaf_index ds ws outer right at (get_or ws at 0))
      (side_at ds ws outer (is_right (digit right (rule_at h))) n (child_at ws at (leb 3 (digit right (rule_at h))))) ≡ side_in right (shape_of S)
  unfolding side_of
  piece-side right p there =
      let e : side_in right (shape_of S) ≡ piece_of (digit right (rule_at h)) (shape_of s) (shape_of t) = rw p at (x.side right) in
      piece_is (digit right (rule_at h)) (shape_of s) (shape_of t) (leaf_index ds ws outer right at (get_or ws at 0)) (λ r k. side_at ds ws outer r n (child_at ws at k)) first.side
      (λ z. (second (row.side-two right z)).side) (λ z. there (e ∙ z)) ∙ sym e

  -- an index is its own, which the caller knows
  pub node-side : (number_of (shape_of S).class ≡ 1 → (right : Bool) → side_in right (shape_of S) ≢ [] → part ws at ≡ side_in right (shape_of S))
      → (right : Bool) → side_in right (shape_of S) ≢ [] → side_at ds ws outer right (suc n) at ≡ side_in right (shape_of S)
  unfolding side_at side_read class_by
  node-side own right there = go (eqb (number_of (result_of h)) 1) refl (is_product (rule_at h / 4096)) refl
    where
      go : (i : Bool) → eqb (number_of (result_of h)) 1 ≡ i → (p : Bool) → is_product (rule_at h / 4096) ≡ p → side_at ds ws outer right (suc n) at ≡ side_in right (shape_of S)
      go true e p f = rw e (own (ap number_of (rw (row.index (eqb-true _ 1 e)) at x.class) ∙ eqb-true _ 1 e) right there)
      go false e true f = rw (e, f) (product-side right f there)
      go false e false f = rw (e, f) (piece-side right f there)

-- What the lines of the typing rules have in common: which of a head's children each digit is about, and that only children of one class are multiplied.
use mathlib.Core.Path.{◌≡◌, refl, sym, ◌∙◌}
use mathlib.Core.Logic.{◌≢◌}
use mathlib.Core.Bool.{Bool, true, false, cond, ◌&&◌, and-eq-true_iff}
use Prim.Native.Nat.{ℕ, zero, suc, ◌/◌, ◌%◌, ◌≤◌, ◌<◌}
use native.Mathlib.Nat.{zero-add}
use native.Mathlib.Omega.{arith}
use borrow.Author.Tests.{eqb-true, leb-true, ltb-true, eq-eqb, ne_eqb, le-leb}
use lib.Dec.{eqb, leb, ltb, eqb-suc-zero}
use lib.ListN.{length, get_or}
use Rattle.term.specs.Heads.{Label, Head, unknown, named, fixed, counted, heads, unread, labelled, reading, read, result_of, child_of}
use Rattle.term.proofs.Readings.{Every, every_at, ◌⨾◌}
use Rattle.typebook.specs.Code.Shapes.{Shape, number_of}
use Rattle.typebook.specs.Code.Lines.{rules, rule_at, is_product, met, fitted}
use Rattle.shapes.specs.Reading.{digit}

-- ---- a line's tests, where `two` says that the head has two children
abbrev implies : Bool → Bool → Bool
implies a b = cond a b true

-- children that are multiplied are of one class: the rule asks for it, or the table of heads does
abbrev one_class : ℕ → Bool
one_class h = cond (eqb (rule_at h / 4096) 5) true (eqb (rule_at h / 4096) 4 && (eqb (number_of (child_of h 0)) (number_of (child_of h 1)) && ltb (number_of (child_of h 0)) 7))

abbrev multiplies : ℕ → Bool → Bool
multiplies h two = two && (eqb (digit false (rule_at h)) 1 && (eqb (digit true (rule_at h)) 2 && one_class h))

abbrev in_order : ℕ → Bool → Bool
in_order h two =
    leb (rule_at h / 256 % 16) 3
    && (implies (eqb (number_of (result_of h)) 1) (eqb (rule_at h / 256 % 16) 0)
    && (implies (eqb (rule_at h / 256 % 16) 2) two
    && (implies (leb 3 (digit false (rule_at h))) two
    && (implies (leb 3 (digit true (rule_at h))) two
    && implies (is_product (rule_at h / 4096)) (multiplies h two)))))

abbrev RowTest : ℕ → Head → Type 0
RowTest h unknown = Unit {0}
RowTest h (named l c) = Unit {0}
RowTest h (fixed l c cs) = in_order h (eqb (length cs) 2) ≡ true
RowTest h (counted l c c') = in_order h false ≡ true

rows : Every RowTest 0 heads
unfolding heads rule_at rules result_of child_of
rows =
    tt ⨾ tt ⨾ refl ⨾ tt ⨾ refl ⨾ refl ⨾ refl ⨾ refl ⨾ refl ⨾ refl ⨾ refl ⨾ refl ⨾ refl ⨾ refl ⨾ refl ⨾ refl ⨾ refl ⨾ refl ⨾ refl ⨾ refl ⨾ refl ⨾ refl ⨾ refl ⨾ refl ⨾ refl
    ⨾ refl ⨾ tt ⨾ refl ⨾ tt ⨾ tt

-- ---- what they tell of a head with n children
pub record Row (h n : ℕ) : Type 0 where
  pub few : rule_at h / 256 % 16 ≤ 3
  pub index : number_of (result_of h) ≡ 1 → rule_at h / 256 % 16 ≡ 0
  pub class-two : rule_at h / 256 % 16 ≡ 2 → n ≡ 2
  pub side-two : (right : Bool) → 3 ≤ digit right (rule_at h) → n ≡ 2
  pub product : is_product (rule_at h / 4096) ≡ true → (n ≡ 2) × (digit false (rule_at h) ≡ 1) × (digit true (rule_at h) ≡ 2) × (one_class h ≡ true)

both : (a b : Bool) → (a && b) ≡ true → (a ≡ true) × (b ≡ true)
both a b e = (and-eq-true_iff a b).0 e

then : (a b : Bool) → implies a b ≡ true → a ≡ true → b ≡ true
then true b e h = e
then false b e h = absurd (let z : ◌≡◌ {A = ℕ} 0 1 = cc in omega arith)

row : (h n : ℕ) (two : Bool) → (two ≡ true → n ≡ 2) → in_order h two ≡ true → Row h n
row h n two t e =
    let a = both (leb (rule_at h / 256 % 16) 3) _ e in
    let b = both (implies (eqb (number_of (result_of h)) 1) (eqb (rule_at h / 256 % 16) 0)) _ a.1 in
    let c = both (implies (eqb (rule_at h / 256 % 16) 2) two) _ b.1 in
    let l = both (implies (leb 3 (digit false (rule_at h))) two) _ c.1 in
    let r = both (implies (leb 3 (digit true (rule_at h))) two) _ l.1 in
    record {
      few = leb-true _ _ a.0;
      index = λ z. eqb-true _ _ (then _ _ b.0 (eq-eqb _ _ z));
      class-two = λ z. t (then _ _ c.0 (eq-eqb _ _ z));
      side-two = sides l.0 r.0;
      product = λ z.
          let p = both two _ (then _ _ r.1 z) in
          let q = both (eqb (digit false (rule_at h)) 1) _ p.1 in
          let s = both (eqb (digit true (rule_at h)) 2) (one_class h) q.1 in
          (t p.0, eqb-true _ _ q.0, eqb-true _ _ s.0, s.1);
    }
  where
    sides : implies (leb 3 (digit false (rule_at h))) two ≡ true → implies (leb 3 (digit true (rule_at h))) two ≡ true → (right : Bool) → 3 ≤ digit right (rule_at h) → n ≡ 2
    sides l r true z = t (then _ _ r (le-leb _ _ z))
    sides l r false z = t (then _ _ l (le-leb _ _ z))

row_of : (h : ℕ) (d : Head) → RowTest h d → (a : ℕ) (l : Label) (n : ℕ) → reading d a ≡ labelled l (suc n) → Row h (suc n)
unfolding reading
row_of h unknown x a l n e = absurd (let z : ◌≡◌ {A = ℕ} 0 1 = cc in omega arith)
row_of h (named f c) x a l n e = absurd (let z : ◌≡◌ {A = ℕ} 0 1 = cc in omega arith)
row_of h (fixed m c cs) x zero l n e = let y : length cs ≡ suc n = cc in row h (suc n) (eqb (length cs) 2) (λ t. sym y ∙ eqb-true _ _ t) x
row_of h (fixed m c cs) x (suc a) l n e =
    let e' : unread ≡ labelled l (suc n) = rw eqb-suc-zero at e in
    absurd (let z : ◌≡◌ {A = ℕ} 0 1 = cc in omega arith)
row_of h (counted m c c') x a l n e = row h (suc n) false (λ t. absurd (let z : ◌≡◌ {A = ℕ} 0 1 = cc in omega arith)) x

pub row_at : (w : ℕ) (l : Label) (n : ℕ) → read w ≡ labelled l (suc n) → Row (w / 256) (suc n)
unfolding read
row_at w l n e = row_of (w / 256) (get_or heads (w / 256) unknown) (rw zero-add at (every_at RowTest (λ k. tt) heads 0 rows (w / 256))) (w % 256) l n e

-- a variable has no children
pub no_variable : (w : ℕ) (l : Label) (n : ℕ) → read w ≡ labelled l (suc n) → w / 256 ≢ 26
unfolding read heads reading
no_variable w l n e z = let v = rw z at e in let y : ◌≡◌ {A = ℕ} 0 1 = cc in omega arith

-- ---- children that are multiplied
one_only : (n m : ℕ) → n < m → eqb n m ≡ false
one_only n m h = ne_eqb n m (λ z. omega arith)

pub same_class : (h : ℕ) (a b : Shape) (alike : Bool) → one_class h ≡ true → fitted h 2 a.class b.class ≡ true → met (rule_at h / 4096) a b alike ≡ true
    → number_of a.class ≡ number_of b.class
unfolding fitted met
same_class h a b alike o f m = go (eqb (rule_at h / 4096) 5) refl o
  where
    go : (five : Bool) → eqb (rule_at h / 4096) 5 ≡ five
        → cond five true (eqb (rule_at h / 4096) 4 && (eqb (number_of (child_of h 0)) (number_of (child_of h 1)) && ltb (number_of (child_of h 0)) 7)) ≡ true
        → number_of a.class ≡ number_of b.class
    go true e o = let five = eqb-true (rule_at h / 4096) 5 e in eqb-true (number_of a.class) (number_of b.class) (rw five at m)
    go false e o =
        let p = both (eqb (rule_at h / 4096) 4) _ o in
        let q = both (eqb (number_of (child_of h 0)) (number_of (child_of h 1))) (ltb (number_of (child_of h 0)) 7) p.1 in
        let same = eqb-true (number_of (child_of h 0)) (number_of (child_of h 1)) q.0 in
        let few = ltb-true (number_of (child_of h 0)) 7 q.1 in
        let four = eqb-true (rule_at h / 4096) 4 p.0 in
        let i = number_of (child_of h 0) in
        let j = number_of (child_of h 1) in
        let g = both (eqb (number_of a.class) (number_of (child_of h 0))) (eqb (number_of b.class) (number_of (child_of h 1)))
        (rw (four, one_only i 7 few, one_only i 8 (omega arith), one_only j 7 (omega arith), one_only j 8 (omega arith)) at f) in
        eqb-true _ _ g.0 ∙ same ∙ sym (eqb-true _ _ g.1)

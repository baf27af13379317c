-- A head without a name is known by its word: no other label of a formed node has the same.
use mathlib.Core.Path.{◌≡◌, refl, sym, ◌∙◌, ap}
use mathlib.Core.Bool.{Bool, true, false, ◌&&◌, ◌||◌, and-eq-true_iff}
use Prim.Native.Nat.{ℕ, ◌%◌, ◌≤◌}
use native.Mathlib.Omega.{arith}
use borrow.Author.Tests.{eqb-true, eq-eqb}
use lib.Dec.{eqb}
use lib.ListN.{get_or}
use Rattle.term.specs.Heads.{Label, Head, unknown, named, fixed, counted, heads, head_of, word, labelled, read}
use Rattle.term.proofs.Readings.{Every, ◌⨾◌, every_at, head_read, read-few, Written, label_line}
use Rattle.term.specs.Trees.{Forest, node, none as no-tree, count, Formed}
use Rattle.rules.specs.Rewrite.{nameless, is_head}

pub either : {P : Type 0} (a b : Bool) → (a ≡ true → P) → (b ≡ true → P) → (a || b) ≡ true → P
either true b x y e = x refl
either false b x y e = y e

-- what the labels of a line carry beside their head: a name, nothing, or the number of children
abbrev Carries : ℕ → Head → Type 0
Carries k unknown = Unit {0}
Carries k (named f c) = (a : ℕ) → nameless (f a) ≡ false
Carries k (fixed l c cs) = (n : ℕ) → (head_of l n).1 ≡ 0
Carries k (counted l c c') = (n : ℕ) → (head_of l n).1 ≡ n

carries : Every Carries 0 heads
unfolding heads head_of
carries =
    tt ⨾ (λ a. refl) ⨾ (λ n. refl) ⨾ (λ a. refl) ⨾ (λ n. refl) ⨾ (λ n. refl) ⨾ (λ n. refl) ⨾ (λ n. refl) ⨾ (λ n. refl) ⨾ (λ n. refl)
    ⨾ (λ n. refl) ⨾ (λ n. refl) ⨾ (λ n. refl) ⨾ (λ n. refl) ⨾ (λ n. refl) ⨾ (λ n. refl) ⨾ (λ n. refl) ⨾ (λ n. refl) ⨾ (λ n. refl) ⨾ (λ n. refl)
    ⨾ (λ n. refl) ⨾ (λ n. refl) ⨾ (λ n. refl) ⨾ (λ n. refl) ⨾ (λ n. refl) ⨾ (λ n. refl) ⨾ (λ a. refl) ⨾ (λ n. refl) ⨾ (λ a. refl) ⨾ tt

carried_few : (l : Label) (n : ℕ) → nameless l ≡ true → (head_of l n).1 ≤ n
carried_few l n p = by (head_of l n).0 (get_or heads (head_of l n).0 unknown) (every_at Carries (λ k. tt) heads 0 carries (head_of l n).0) (label_line l n)
  where
    by : (k : ℕ) (h : Head) → Carries k h → Written l (head_of l n).1 h → (head_of l n).1 ≤ n
    by k unknown x w = absurd w
    by k (named f c) x w = absurd (let y = x (head_of l n).1 in let z : ◌≡◌ {A = ℕ} 0 1 = cc in omega arith)
    by k (fixed m c cs) x w = let z : (head_of l n).1 ≡ 0 = rw w at (x n) in omega arith
    by k (counted m c c') x w = let z : (head_of l n).1 ≡ n = rw w at (x n) in omega arith

-- the labels of a line that carry the same are one
one_line : {l m : Label} (a : ℕ) (h : Head) → Written l a h → Written m a h → l ≡ m
one_line a unknown x y = absurd x
one_line a (named f c) x y = sym x ∙ y
one_line a (fixed k c cs) x y = sym x ∙ y
one_line a (counted k c c') x y = sym x ∙ y

-- so a word is that of one label, where what both carry is a byte
by_word : (l m : Label) (n : ℕ) → (head_of l n).1 ≤ 255 → read (word m n) ≡ labelled m n → word l n ≡ word m n → l ≡ m
unfolding word
by_word l m n few e w =
    let a : (head_of m n).1 ≡ word m n % 256 = ap (λ x. x.1) (head_read (word m n) m n e).0 in
    let h : (head_of l n).0 ≡ (head_of m n).0 = omega arith in
    let c : (head_of l n).1 ≡ (head_of m n).1 = omega arith in
    one_line (head_of m n).1 (get_or heads (head_of m n).0 unknown) (rw (h, c) at (label_line l n)) (label_line m n)

-- the test of heads: it passes a head itself, and at a formed node nothing else
pub is_head_lem : (l : Label) (n : ℕ) → is_head l l n ≡ true
unfolding is_head
is_head_lem l n = eq-eqb (word l n) (word l n) refl

pub head_is : (l m : Label) (f : Forest) → nameless l ≡ true → Formed (node m f) → is_head l m (count f) ≡ true → l ≡ m
unfolding is_head Formed
head_is l m f p h t =
    let few = read-few (word m (count f)) m (count f) h.0 in
    by_word l m (count f) (omega (arith, carried_few l (count f) p)) h.0 (eqb-true (word l (count f)) (word m (count f)) t)

-- ---- a leaf is known by its word too where it is the basis that is bound last
unfoldable pub is_own : Label → Bool
unfolding head_of
is_own l = eqb (head_of l 0).0 28 && eqb (head_of l 0).1 0

pub leaf_is : (l m : Label) → nameless l || is_own l ≡ true → Formed (node m no-tree) → is_head l m 0 ≡ true → l ≡ m
unfolding is_head Formed is_own count
leaf_is l m p h t = by_word l m 0 (either (nameless l) (is_own l) (λ n. omega (arith, carried_few l 0 n)) own p) h.0 (eqb-true (word l 0) (word m 0) t)
  where
    own : is_own l ≡ true → (head_of l 0).1 ≤ 255
    own o = let z = eqb-true (head_of l 0).1 0 ((and-eq-true_iff (eqb (head_of l 0).0 28) _).0 o).1 in omega arith

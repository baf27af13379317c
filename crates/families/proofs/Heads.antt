-- A head is known by its number, the upper byte of its word.
use mathlib.Core.Path.{◌≡◌, refl, sym, ◌∙◌, ap}
use mathlib.Core.Logic.{◌≢◌}
use mathlib.Core.Bool.{Bool, true, false, ◌||◌, true≢false, beq}
use Prim.Native.Nat.{ℕ, ◌+◌, ◌*◌, ◌/◌, ◌≤◌}
use native.Mathlib.Decide.{dec_lt}
use native.Mathlib.Nat.{zero-add}
use native.Mathlib.Omega.{arith}
use borrow.Author.Tests.{eqb-true, eq-eqb, ne_eqb}
use lib.Dec.{eqb}
use lib.ListN.{get_or, get_or-eq_default}
use Rattle.words.specs.Listed.{all_up_to}
use Rattle.words.proofs.Listed.{all_up_to-at}
use Rattle.term.specs.Heads.{Label, scalar_sum, scalar_product, delta, add, Head, unknown, named, fixed, counted, heads, head_of, word}
use Rattle.term.specs.Trees.{Forest, node, count, Formed}
use Rattle.term.proofs.Readings.{Every, ◌⨾◌, every_at, head_read, Written, label_line, read-few}
use Rattle.rules.specs.Instances.{ACSymbol, scalar_sums, scalar_products, sums}
use Rattle.rules.specs.Rewrite.{nameless, is_head, is_chain, is_loose}
use Rattle.rules.proofs.Known.{either, is_head_lem, head_is}
use Rattle.typebook.specs.Code.Lines.{rules, rule_at, is_sum}
use Rattle.rulebook.specs.Code.Rows.{head_number}
use Rattle.families.specs.Code.Families.{chain_word, loose_word}

-- ---- the labels of a line of the table have names, or are written with its number, over few children
abbrev Plain : ℕ → Head → Type 0
Plain k unknown = Unit {0}
Plain k (named f c) = (a : ℕ) → nameless (f a) ≡ false
Plain k (fixed l c cs) = (n : ℕ) → n ≤ 255 → word l n / 256 ≡ k
Plain k (counted l c d) = (n : ℕ) → n ≤ 255 → word l n / 256 ≡ k

plain : Every Plain 0 heads
unfolding word heads
plain =
    tt ⨾ (λ a. refl) ⨾ (λ n h. refl) ⨾ (λ a. refl) ⨾ (λ n h. refl) ⨾ (λ n h. refl) ⨾ (λ n h. refl) ⨾ (λ n h. omega arith) ⨾ (λ n h. omega arith) ⨾ (λ n h. refl)
    ⨾ (λ n h. refl) ⨾ (λ n h. refl) ⨾ (λ n h. refl) ⨾ (λ n h. refl) ⨾ (λ n h. refl) ⨾ (λ n h. refl) ⨾ (λ n h. refl) ⨾ (λ n h. refl) ⨾ (λ n h. refl) ⨾ (λ n h. refl)
    ⨾ (λ n h. omega arith) ⨾ (λ n h. refl) ⨾ (λ n h. refl) ⨾ (λ n h. refl) ⨾ (λ n h. refl) ⨾ (λ n h. refl) ⨾ (λ a. refl) ⨾ (λ n h. refl) ⨾ (λ a. refl) ⨾ tt

-- so a label without a name is written with its line's number, and is the only one there
by_line_lem : (k a : ℕ) (l : Label) (h : Head) → nameless l ≡ true → Written l a h → Plain k h
    → ((n : ℕ) → n ≤ 255 → word l n / 256 ≡ k) × ((m : Label) (b : ℕ) → Written m b h → l ≡ m)
by_line_lem k a l unknown p w x = absurd w
by_line_lem k a l (named f c) p w x = absurd (true≢false (sym p ∙ ap nameless (sym w) ∙ x a))
by_line_lem k a l (fixed j c cs) p w x = (rw w at x, λ m b v. sym w ∙ v)
by_line_lem k a l (counted j c d) p w x = (rw w at x, λ m b v. sym w ∙ v)

own_line : (l : Label) → nameless l ≡ true
    → let k = (head_of l 0).0 in
    ((n : ℕ) → n ≤ 255 → word l n / 256 ≡ k) × ((m : Label) (b : ℕ) → Written m b (get_or heads k unknown) → l ≡ m)
own_line l p =
    let k = (head_of l 0).0 in
    by_line_lem k (head_of l 0).1 l (get_or heads k unknown) p (label_line l 0) (rw zero-add at (every_at Plain (λ k. tt) heads 0 plain k))

-- ---- a node whose word has the number of a head has that head
pub same_head : (l m : Label) (f : Forest) → nameless l ≡ true → Formed (node m f) → word m (count f) / 256 ≡ head_number l → l ≡ m
unfolding Formed
same_head l m f p h e =
    let q : (head_of m 0).0 ≡ (head_of l 0).0 = ap (λ (x : ℕ × ℕ). x.0) (head_read _ m (count f) h.0).2 ∙ e ∙ (own_line l p).0 0 (omega arith) in
    (own_line l p).1 m _ (rw q at (label_line m 0))

-- and the other way round: the number of children stays in the lower byte
pub head_number_lem : (l : Label) (n : ℕ) → nameless l ≡ true → n ≤ 255 → word l n / 256 ≡ head_number l
head_number_lem l n p h = (own_line l p).0 n h ∙ sym ((own_line l p).0 0 (omega arith))

-- ---- the code's tests: of one head
same_test : (a b : Bool) → (a ≡ true → b ≡ true) → (b ≡ true → a ≡ true) → a ≡ b
same_test true b x y = sym (x refl)
same_test false true x y = y refl
same_test false false x y = refl

pub head_test : (l m : Label) (f : Forest) → nameless l ≡ true → Formed (node m f) → eqb (word m (count f) / 256) (head_number l) ≡ is_head l m (count f)
unfolding Formed
head_test l m f p h =
    let few = read-few (word m (count f)) m (count f) h.0 in
    same_test (eqb (word m (count f) / 256) (head_number l)) (is_head l m (count f))
    (λ t. rw (← (same_head l m f p h (eqb-true _ _ t))) (is_head_lem l (count f)))
    (λ t. eq-eqb (word m (count f) / 256) (head_number l) (rw (← (head_is l m f p h t)) (head_number_lem l (count f) p few)))

pub other_head : (l m : Label) (f : Forest) → nameless l ≡ true → Formed (node m f) → word m (count f) / 256 ≢ head_number l → is_head l m (count f) ≡ false
other_head l m f p h n = sym (head_test l m f p h) ∙ ne_eqb _ _ n

-- ---- and of a chain: the heads of sums and products of many are 7, 8 and 20
sum_head : ℕ → Bool
sum_head h = eqb h 7 || (eqb h 8 || eqb h 20)

same_bool : (a b : Bool) → beq a b ≡ true → a ≡ b
same_bool true true e = refl
same_bool true false e = sym e
same_bool false true e = e
same_bool false false e = refl

pub sum-heads : (h : ℕ) → is_sum h ≡ (eqb h 7 || (eqb h 8 || eqb h 20))
unfolding rule_at rules sum_head all_up_to
sum-heads h = elim (dec_lt h 28) [
  | yes l ↦ same_bool _ _ (all_up_to-at 28 (λ k. beq (is_sum k) (sum_head k)) refl h l)
  | no l ↦ rw (get_or-eq_default rules 0 {n = h} (omega (arith, l)), ne_eqb h 7 (λ z. omega (arith, l, z)), ne_eqb h 8 (λ z. omega (arith, l, z)), ne_eqb h 20 (λ z. omega (arith, l, z)))
]

pub chain_test : (m : Label) (f : Forest) → Formed (node m f) → chain_word (word m (count f)) ≡ is_chain m (count f)
unfolding is_chain word
chain_test m f h = rw (head_test scalar_sum m f refl h, head_test scalar_product m f refl h, head_test add m f refl h)

-- and of a head that is loose: these, and 10
delta_test : (m : Label) (f : Forest) → Formed (node m f) → eqb (word m (count f) / 256) 10 ≡ is_head delta m (count f)
unfolding word
delta_test m f h = head_test delta m f refl h

pub loose_test : (m : Label) (f : Forest) → Formed (node m f) → loose_word (word m (count f)) ≡ is_loose m (count f)
unfolding is_loose
loose_test m f h = rw (delta_test m f h, chain_test m f h)

pub chain_of : (m : Label) (f : Forest) → Formed (node m f) → chain_word (word m (count f)) ≡ true → ACSymbol m
unfolding word
chain_of m f h =
    either (eqb (word m (count f) / 256) 7) _ (λ t. rw (← (same_head scalar_sum m f refl h (eqb-true _ _ t))) scalar_sums)
    (either (eqb (word m (count f) / 256) 8) _ (λ t. rw (← (same_head scalar_product m f refl h (eqb-true _ _ t))) scalar_products)
    (λ t. rw (← (same_head add m f refl h (eqb-true _ _ t))) sums))

-- ---- a chain's word has its number and that of its children
pub chain-word : {l : Label} → ACSymbol l → (n : ℕ) → word l n ≡ head_number l * 256 + n
unfolding word
chain-word scalar_sums n = refl
chain-word scalar_products n = refl
chain-word sums n = refl

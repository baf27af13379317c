-- The code's table is the definition's, and what a row says of its rule.
use mathlib.Core.Path.{◌≡◌, refl, sym, ◌∙◌, ap}
use mathlib.Core.Bool.{Bool, true, false, cond, ◌&&◌, and-eq-true_iff, true≢false}
use mathlib.Core.List.{List, [], ◌∷◌, ◌++◌, append_assoc}
use mathlib.Core.Option.{some, none}
use Prim.Native.Nat.{ℕ, ◌+◌, ◌*◌, ◌/◌, ◌%◌, ◌≤◌, ◌<◌}
use native.Mathlib.Omega.{arith}
use native.Mathlib.Decide.{dec_lt}
use borrow.Author.Tests.{ltb-true, eqb-true, eq-eqb, ne_eqb}
use lib.Dec.{eqb, ltb}
use lib.ListN.{length, take, drop, length-append, length-drop}
use lib.Seq.{drop-drop, drop-append_seam, drop-append-add, take-append_seam}
use Rattle.words.specs.Listed.{all_up_to}
use Rattle.words.proofs.Listed.{all_up_to-at}
use Rattle.term.specs.Heads.{word}
use Rattle.rules.specs.Patterns.{Pattern, #◌, first, second, ◌⟨⟩, ◌⟨◌⟩, ◌⟨◌∣◌⟩}
use Rattle.rules.specs.Table.{Condition, Rule, ◌⇒◌▷◌, Line, ◌∶◌, table, find, rule_of}
use Rattle.rulebook.specs.declared.Row.{Row}
use Rattle.rulebook.specs.declared.Family.{Family}
use Rattle.rulebook.specs.declared.Family.TheVariants.{NoRule, Equation, Spread, Remove, Absorb, Merge, Collect, Swap, Distribute}
use Rattle.rulebook.specs.Code.Rows.{pattern_words, rule_words, words_of, grouped, lines_in, words_in, start_among, start_in, row, row_for, row_of, row_line, digit_of, family_of, condition_number}

-- ---- no rule has a number from 192 on
below : ℕ → List Line → Bool
below m [] = true
below m ((n ∶ r) ∷ ls) = ltb n m && below m ls

find_past : (m : ℕ) (ls : List Line) → below m ls ≡ true → (n : ℕ) → m ≤ n → find n ls ≡ none
unfolding below
find_past m [] e n h = refl
find_past m ((k ∶ r) ∷ ls) e n h =
    let p = (and-eq-true_iff (ltb k m) _).0 e in
    rw (ne_eqb n k (λ z. omega (arith, ltb-true k m p.0, z, h))) (find_past m ls p.1 n h)

pub line-past : (n : ℕ) → 192 ≤ n → row_line (row_of n) ≡ 0
unfolding row_line row_of rule_of row_for below
line-past n h = rw (find_past 192 table refl n h)

-- ---- a row is told by its digits: a computed test of every number
abbrev row_in : ℕ → Row
row_in w = record { family = family_of (w / 268435456); a = w / 1048576 % 256; b = w / 65536 % 16; c = w / 256 % 256; d = w % 256 }

family-of-digit : (f : Family) → family_of (digit_of f) ≡ f
family-of-digit NoRule = refl
family-of-digit Equation = refl
family-of-digit Spread = refl
family-of-digit Remove = refl
family-of-digit Absorb = refl
family-of-digit Merge = refl
family-of-digit Collect = refl
family-of-digit Swap = refl
family-of-digit Distribute = refl

same_row : Row → Row → Bool
same_row r s = eqb (digit_of r.family) (digit_of s.family) && (eqb r.a s.a && (eqb r.b s.b && (eqb r.c s.c && eqb r.d s.d)))

same_row_lem : (r s : Row) → same_row r s ≡ true → r ≡ s
unfolding same_row
same_row_lem r s e =
    let p = (and-eq-true_iff (eqb (digit_of r.family) (digit_of s.family)) _).0 e in
    let q = (and-eq-true_iff (eqb r.a s.a) _).0 p.1 in
    let t = (and-eq-true_iff (eqb r.b s.b) _).0 q.1 in
    let u = (and-eq-true_iff (eqb r.c s.c) _).0 t.1 in
    let f = sym (family-of-digit r.family) ∙ ap family_of (eqb-true _ _ p.0) ∙ family-of-digit s.family in
    let a = eqb-true _ _ q.0 in
    let b = eqb-true _ _ t.0 in
    let c = eqb-true _ _ u.0 in
    let d = eqb-true _ _ u.1 in
    λ i. record { family = f i; a = a i; b = b i; c = c i; d = d i }

pub row_in_lem : (n : ℕ) → row_in (row_line (row_of n)) ≡ row_of n
unfolding all_up_to same_row below row_line row_of rule_of start_among grouped word
row_in_lem n = elim (dec_lt n 192) [
  | yes h ↦ same_row_lem _ _ (all_up_to-at 192 (λ k. same_row (row_in (row_line (row_of k))) (row_of k)) refl n h)
  | no h ↦ rw (find_past 192 table refl n (omega arith))
]

-- ---- groups: a rule is found in its own, and one whose numbers are past every line's has no line
find-grouped : (n : ℕ) (ls : List Line) → find n (grouped (n / 50) ls) ≡ find n ls
unfolding grouped
find-grouped n [] = refl
find-grouped n ((k ∶ r) ∷ ls) = by_test (eqb (k / 50) (n / 50)) refl (find-grouped n ls)
  where
    by_test : (b : Bool) → eqb (k / 50) (n / 50) ≡ b → find n (grouped (n / 50) ls) ≡ find n ls
        → find n (cond b ((k ∶ r) ∷ grouped (n / 50) ls) (grouped (n / 50) ls)) ≡ cond (eqb n k) (some r) (find n ls)
    by_test true h e = ap (cond (eqb n k) (some r)) e
    by_test false h e = rw (ne_eqb n k (λ z. true≢false (sym (eq-eqb (k / 50) (n / 50) (ap (λ x. x / 50) (sym z))) ∙ h))) e

find_in : (n : ℕ) → find n (lines_in (n / 50)) ≡ rule_of n
unfolding lines_in rule_of
find_in n = find-grouped n table

grouped-past : (m : ℕ) (ls : List Line) → below m ls ≡ true → (g : ℕ) → m ≤ g * 50 → grouped g ls ≡ []
unfolding below grouped
grouped-past m [] e g h = refl
grouped-past m ((k ∶ r) ∷ ls) e g h =
    let p = (and-eq-true_iff (ltb k m) _).0 e in
    rw (ne_eqb (k / 50) g (λ z. omega (arith, ltb-true k m p.0, z, h))) (grouped-past m ls p.1 g h)

pub words-past : (g : ℕ) → 4 ≤ g → words_in g ≡ []
unfolding words_in words_of lines_in below
words-past g h = ap words_of (grouped-past 192 table refl g (omega arith))

-- ---- the words of an equation stand where its row says
record Stand (n : ℕ) (ls : List Line) (l r : Pattern) : Type 0 where
  rest : List ℕ
  are : drop (start_among n ls) (words_of ls) ≡ pattern_words l ++ (pattern_words r ++ rest)

stand_first : (n m : ℕ) (s : Rule) (ls : List Line) {k : Condition} (l r : Pattern) → eqb n m ≡ true → s ≡ k ⇒ l ▷ r → Stand n ((m ∶ s) ∷ ls) l r
unfolding start_among words_of rule_words
stand_first n m s ls l r h e = record { rest = words_of ls; are = rw (h, e) (append_assoc (pattern_words l) (pattern_words r) (words_of ls)) }

stand_later : (n m : ℕ) (s : Rule) (ls : List Line) (l r : Pattern) → eqb n m ≡ false → Stand n ls l r → Stand n ((m ∶ s) ∷ ls) l r
unfolding start_among words_of
stand_later n m s ls l r h x = record { rest = x.rest; are = rw (h, drop-append-add (rule_words s) (words_of ls) (start_among n ls)) x.are }

stand : (n : ℕ) (ls : List Line) {k : Condition} (l r : Pattern) → find n ls ≡ some (k ⇒ l ▷ r) → Stand n ls l r
stand n [] l r e = absurd (let z : ◌≡◌ {A = ℕ} 0 1 = cc in omega arith)
stand n ((m ∶ s) ∷ ls) {k} l r e = by_test (eqb n m) refl e (λ f. stand n ls l r f)
  where
    by_test : (b : Bool) → eqb n m ≡ b → cond b (some s) (find n ls) ≡ some (k ⇒ l ▷ r) → (find n ls ≡ some (k ⇒ l ▷ r) → Stand n ls l r) → Stand n ((m ∶ s) ∷ ls) l r
    by_test true h f more = let z : s ≡ k ⇒ l ▷ r = cc in stand_first n m s ls l r h z
    by_test false h f more = stand_later n m s ls l r h (more f)

-- a pattern has a word
pattern_some : (p : Pattern) → 0 < length (pattern_words p)
unfolding pattern_words
pattern_some (# k) = omega arith
pattern_some (first k) = omega arith
pattern_some (second k) = omega arith
pattern_some (l ⟨⟩) = omega arith
pattern_some (l ⟨ p ⟩) = omega arith
pattern_some (l ⟨ p ∣ q ⟩) = omega arith

-- both sides of an equation, one behind the other
module _ (n : ℕ) (ls : List Line) {k : Condition} {l r : Pattern} (e : find n ls ≡ some (k ⇒ l ▷ r)) where
  stands : Stand n ls l r
  stands = stand n ls l r e

  sides_among : (take (length (pattern_words l)) (drop (start_among n ls) (words_of ls)) ≡ pattern_words l)
      × (take (length (pattern_words r)) (drop (start_among n ls + length (pattern_words l)) (words_of ls)) ≡ pattern_words r)
  sides_among = rw (← drop-drop (length (pattern_words l)) (start_among n ls) (words_of ls), stands.are, drop-append_seam) (take-append_seam _ _, take-append_seam _ _)

  inside_among : start_among n ls + length (pattern_words l) + length (pattern_words r) ≤ length (words_of ls)
  inside_among =
      let d = ap length stands.are in
      let a = length-append (pattern_words l) (pattern_words r ++ stands.rest) in
      let b = length-append (pattern_words r) stands.rest in
      omega (arith, length-drop (start_among n ls) (words_of ls), pattern_some l)

-- ---- the row of an equation: both sides are in its group, at the place and of the lengths that the row says
module _ (n : ℕ) {k : Condition} {l r : Pattern} (e : rule_of n ≡ some (k ⇒ l ▷ r)) where
  row_at : row_of n ≡ row Equation (start_among n (lines_in (n / 50))) (length (pattern_words l)) (length (pattern_words r)) (condition_number k)
  unfolding row_of row_for start_in lines_in
  row_at = rw e

  pub sizes : ((row_of n).b ≡ length (pattern_words l)) × ((row_of n).c ≡ length (pattern_words r))
  sizes = rw row_at (refl, refl)

  pub kind_at : (row_of n).d ≡ condition_number k
  kind_at = rw row_at

  pub sides-at : (take (row_of n).b (drop (row_of n).a (words_in (n / 50))) ≡ pattern_words l) × (take (row_of n).c (drop ((row_of n).a + (row_of n).b) (words_in (n / 50))) ≡ pattern_words r)
  unfolding words_in
  sides-at = rw row_at (sides_among n (lines_in (n / 50)) (find_in n ∙ e))

  pub sides-inside : (row_of n).a + (row_of n).b + (row_of n).c ≤ length (words_in (n / 50))
  unfolding words_in
  sides-inside = rw row_at (inside_among n (lines_in (n / 50)) (find_in n ∙ e))

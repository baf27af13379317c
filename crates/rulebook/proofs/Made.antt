-- How the words of a pattern are told apart: a head's is no hole's, and it reads as a head with as many children as the pattern has there.
use mathlib.Core.Path.{◌≡◌, refl, sym, ◌∙◌}
use mathlib.Core.Logic.{◌≢◌}
use mathlib.Core.Bool.{Bool, true, false, ◌&&◌, and-eq-true_iff}
use mathlib.Core.Option.{some}
use Prim.Native.Nat.{ℕ, ◌/◌, ◌<◌}
use borrow.Author.Tests.{ltb-true, ne_eqb, eqb-true}
use lib.Dec.{eqb, ltb}
use Rattle.term.specs.Heads.{Label, Reading, unread, labelled, read, word}
use Rattle.rules.specs.Patterns.{Pattern, #◌, first, second, ◌⟨⟩, ◌⟨◌⟩, ◌⟨◌∣◌⟩}
use Rattle.rules.specs.Table.{Condition, ◌⇒◌▷◌, rule_of}
use Rattle.rules.proofs.Every.{on_equations, equation_passes}
use Rattle.rules.proofs.Good.{both}

unfoldable pub children_in : Reading → ℕ
children_in unread = 256
children_in (labelled l n) = n

unfoldable pub head_word : ℕ → ℕ → Bool
head_word w n = ltb (w / 256) 253 && eqb (children_in (read w)) n

unfoldable pub made : Pattern → Bool
made (# k) = ltb k 5
made (first k) = ltb k 5
made (second k) = ltb k 5
made (l ⟨⟩) = head_word (word l 0) 0
made (l ⟨ p ⟩) = head_word (word l 1) 1 && made p
made (l ⟨ p ∣ q ⟩) = head_word (word l 2) 2 && (made p && made q)

pub head_plain : (w n : ℕ) → head_word w n ≡ true → w / 256 < 253
unfolding head_word
head_plain w n e = ltb-true (w / 256) 253 ((and-eq-true_iff (ltb (w / 256) 253) _).0 e).0

-- a head's word is that of no node with another number of children
pub head_count : (l m : Label) (n k : ℕ) → head_word (word l n) n ≡ true → read (word m k) ≡ labelled m k → n ≢ k → eqb (word l n) (word m k) ≡ false
unfolding head_word children_in
head_count l m n k e f d =
    ne_eqb (word l n) (word m k) λ z.
    let c : children_in (read (word l n)) ≡ n = eqb-true _ n ((and-eq-true_iff (ltb (word l n / 256) 253) _).0 e).1 in
    d (sym c ∙ rw (z, f) refl)

-- ---- every equation of the table is made so
pub every_made : (n : ℕ) {k : Condition} {l r : Pattern} → rule_of n ≡ some (k ⇒ l ▷ r) → (made l ≡ true) × (made r ≡ true)
unfolding on_equations made head_word children_in read word
every_made n {k} {l} {r} e = both (made l) (made r) (equation_passes (λ l r. made l && made r) refl n k l r e)

-- The pieces of a right side's words are the words of the right side, filled.
use mathlib.Core.Path.{◌≡◌, refl, sym, ◌∙◌, ap}
use mathlib.Core.Bool.{true, ◌&&◌, and-eq-true_iff}
use mathlib.Core.List.{List, [], ◌∷◌, ◌++◌, append_assoc, append-nil}
use Prim.Native.Nat.{ℕ, ◌+◌, ◌*◌, ◌/◌, ◌≤◌, ◌<◌}
use native.Mathlib.Omega.{arith}
use borrow.Author.Tests.{lt-ltb, le-ltb, ltb-true}
use lib.Arith.{digits_div, digits_mod}
use lib.Dec.{ltb}
use Rattle.term.specs.Heads.{word}
use Rattle.term.specs.Trees.{Tree, count, words}
use Rattle.types.specs.Sorts.{Context}
use Rattle.rules.specs.Patterns.{Pattern, #◌, first, second, ◌⟨⟩, ◌⟨◌⟩, ◌⟨◌∣◌⟩, first_index, second_index}
use Rattle.rules.specs.Rewrite.{sort_of, fill, holes}
use Rattle.rules.proofs.Good.{below, both}
use Rattle.rulebook.specs.Code.Rows.{pattern_words}
use Rattle.step.specs.Code.Building.{piece, pieces, asks, all_ask}
use Rattle.rulebook.proofs.Made.{head_word, made, head_plain}
use Rattle.step.proofs.Pieces.{piece-word}

module _ (Γ : Context) (c : List Tree) where
  pieces-++ : (vs ws : List ℕ) → pieces Γ c (vs ++ ws) ≡ pieces Γ c vs ++ pieces Γ c ws
  unfolding pieces
  pieces-++ [] ws = refl
  pieces-++ (v ∷ vs) ws = ap (λ (us : List ℕ). piece Γ c v ++ us) (pieces-++ vs ws) ∙ sym (append_assoc (piece Γ c v) (pieces Γ c vs) (pieces Γ c ws))

  no_pieces : pieces Γ c [] ≡ []
  unfolding pieces
  no_pieces = refl

  -- a head's word stands for itself
  head_piece : (w n : ℕ) (ws : List ℕ) → head_word w n ≡ true → pieces Γ c (w ∷ ws) ≡ w ∷ pieces Γ c ws
  unfolding pieces
  head_piece w n ws h = ap (λ (vs : List ℕ). vs ++ pieces Γ c ws) (sym (piece-word Γ c w (head_plain w n h)))

  module _ (k : ℕ) (few : k < 5) where
    low : k < 256
    low = omega arith

    hole-piece : pieces Γ c ((255 * 256 + k) ∷ []) ≡ words (holes c k)
    unfolding pieces piece
    hole-piece = rw (digits_div 255 low, digits_mod 255 low) (append-nil (words (holes c k)))

    first_piece : pieces Γ c ((254 * 256 + k) ∷ []) ≡ words (first_index (sort_of Γ (holes c k)))
    unfolding pieces piece
    first_piece = rw (digits_div 254 low, digits_mod 254 low) (append-nil (words (first_index (sort_of Γ (holes c k)))))

    second-piece : pieces Γ c ((253 * 256 + k) ∷ []) ≡ words (second_index (sort_of Γ (holes c k)))
    unfolding pieces piece
    second-piece = rw (digits_div 253 low, digits_mod 253 low) (append-nil (words (second_index (sort_of Γ (holes c k)))))

  pub right-words : (p : Pattern) → made p ≡ true → pieces Γ c (pattern_words p) ≡ words (fill Γ (holes c) p)
  unfolding made pattern_words words count
  right-words (# k) e = hole-piece k (ltb-true k 5 e)
  right-words (first k) e = first_piece k (ltb-true k 5 e)
  right-words (second k) e = second-piece k (ltb-true k 5 e)
  right-words (l ⟨⟩) e = head_piece (word l 0) 0 [] e ∙ ap (λ (ws : List ℕ). word l 0 ∷ ws) no_pieces
  right-words (l ⟨ p ⟩) e =
      let b = both (head_word (word l 1) 1) (made p) e in
      head_piece (word l 1) 1 (pattern_words p) b.0 ∙ ap (λ (ws : List ℕ). word l 1 ∷ ws) (right-words p b.1 ∙ sym (append-nil (words (fill Γ (holes c) p))))
  right-words (l ⟨ p ∣ q ⟩) e =
      let b = both (head_word (word l 2) 2) (made p && made q) e in
      let d = both (made p) (made q) b.1 in
      let x = right-words p d.0 in
      let y = right-words q d.1 ∙ sym (append-nil (words (fill Γ (holes c) q))) in
      head_piece (word l 2) 2 (pattern_words p ++ pattern_words q) b.0 ∙ ap (λ (ws : List ℕ). word l 2 ∷ ws) (pieces-++ (pattern_words p) (pattern_words q) ∙ (λ i. x i ++ y i))

-- ---- a right side asks for the holes of its left side only
ask-++ : (n : ℕ) (vs ws : List ℕ) → all_ask n vs ≡ true → all_ask n ws ≡ true → all_ask n (vs ++ ws) ≡ true
unfolding all_ask
ask-++ n [] ws a b = b
ask-++ n (v ∷ vs) ws a b = let p = (and-eq-true_iff (asks n v) _).0 a in rw p.0 (ask-++ n vs ws p.1 b)

module _ (n : ℕ) where
  ask_head : (w k : ℕ) (ws : List ℕ) → head_word w k ≡ true → all_ask n ws ≡ true → all_ask n (w ∷ ws) ≡ true
  unfolding all_ask asks
  ask_head w k ws h e = rw (lt-ltb (w / 256) 253 (head_plain w k h)) e

  ask_hole : (q k : ℕ) → 253 ≤ q → k < 5 → ltb k n ≡ true → all_ask n ((q * 256 + k) ∷ []) ≡ true
  unfolding all_ask asks
  ask_hole q k s h e = let low : k < 256 = omega arith in rw (digits_div q low, digits_mod q low, le-ltb q 253 s, e)

  ask_none : all_ask n [] ≡ true
  unfolding all_ask
  ask_none = refl

  pub ask_words : (p : Pattern) → made p ≡ true → below p n ≡ true → all_ask n (pattern_words p) ≡ true
  unfolding made below pattern_words
  ask_words (# k) e b = ask_hole 255 k (omega arith) (ltb-true k 5 e) b
  ask_words (first k) e b = ask_hole 254 k (omega arith) (ltb-true k 5 e) b
  ask_words (second k) e b = ask_hole 253 k (omega arith) (ltb-true k 5 e) b
  ask_words (l ⟨⟩) e b = ask_head (word l 0) 0 [] e ask_none
  ask_words (l ⟨ p ⟩) e b =
      let x = both (head_word (word l 1) 1) (made p) e in
      ask_head (word l 1) 1 (pattern_words p) x.0 (ask_words p x.1 b)
  ask_words (l ⟨ p ∣ q ⟩) e b =
      let x = both (head_word (word l 2) 2) (made p && made q) e in
      let y = both (made p) (made q) x.1 in
      let z = both (below p n) (below q n) b in
      ask_head (word l 2) 2 (pattern_words p ++ pattern_words q) x.0 (ask-++ n (pattern_words p) (pattern_words q) (ask_words p y.0 z.0) (ask_words q y.1 z.1))

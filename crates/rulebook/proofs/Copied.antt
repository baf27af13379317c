-- The words of an equation, copied: both its sides stand at the front, one behind the other.
use mathlib.Core.Path.{◌≡◌, refl, sym, ◌∙◌}
use mathlib.Core.List.{List, [], ◌++◌, append_assoc}
use mathlib.Core.Option.{some}
use Prim.Native.Nat.{ℕ, ◌+◌, ◌/◌, ◌≤◌}
use native.Mathlib.Omega.{arith}
use borrow.Author.Tests.{leb-true}
use lib.Dec.{leb}
use lib.ListN.{length, take, drop, length-drop, length-take, drop_of_length-le, take-append-drop}
use lib.Seq.{take-nil, take-take, take-append-le, take-add, take_at, drop_at, drop-drop}
use Rattle.words.specs.Words.{overlaid}
use Rattle.rules.specs.Patterns.{Pattern}
use Rattle.rules.specs.Table.{Condition, ◌⇒◌▷◌, rule_of}
use Rattle.rules.proofs.Every.{on_equations, equation_passes}
use Rattle.rulebook.specs.Code.Rows.{pattern_words, words_in, row_of}
use Rattle.rulebook.proofs.Rows.{sizes, sides-at, sides-inside}

-- ---- what is laid over the front
laid_none : (dst : List ℕ) → dst ≡ overlaid dst []
unfolding overlaid
laid_none dst = rw (take-nil (length dst))

pub none_left : (dst ws : List ℕ) (from : ℕ) → length ws ≤ from → dst ≡ overlaid dst (drop from ws)
none_left dst ws from h = rw (drop_of_length-le ws {i = from} h) (laid_none dst)

-- ---- both sides of an equation, one behind the other
module _ (n : ℕ) {k : Condition} {l r : Pattern} (rule : rule_of n ≡ some (k ⇒ l ▷ r)) where
  pub sides-short : (row_of n).b + (row_of n).c ≤ 24
  unfolding on_equations pattern_words
  sides-short =
      rw ((sizes n rule).0, (sizes n rule).1) (leb-true _ 24 (equation_passes (λ l r. leb (length (pattern_words l) + length (pattern_words r)) 24) refl n k l r rule))

  -- the words of both sides stand at the front of the copy
  module _ (dst : List ℕ) (room : length dst ≡ 24) where
    abbrev copy : List ℕ
    copy = overlaid dst (drop (row_of n).a (words_in (n / 50)))

    front : take ((row_of n).b + (row_of n).c) copy ≡ pattern_words l ++ pattern_words r
    unfolding overlaid
    front =
        let all = words_in (n / 50) in
        let src = drop (row_of n).a all in
        let s = sides-at n rule in
        let z : (row_of n).b + (row_of n).c ≤ length (take 24 src) = omega (arith, length-take 24 src, length-drop (row_of n).a all, sides-inside n rule, sides-short) in
        rw (
          room,
          take-append-le ((row_of n).b + (row_of n).c) (take 24 src) (drop (length src) dst) z,
          take-take ((row_of n).b + (row_of n).c) 24 src sides-short,
          take-add (row_of n).b (row_of n).c src,
          drop-drop (row_of n).b (row_of n).a all,
          s.0,
          s.1,
        )

    whole : copy ≡ pattern_words l ++ (pattern_words r ++ drop ((row_of n).b + (row_of n).c) copy)
    whole = sym (take-append-drop ((row_of n).b + (row_of n).c) copy) ∙ rw front (append_assoc (pattern_words l) (pattern_words r) _)

    pub left_copied : take (row_of n).b copy ≡ pattern_words l
    left_copied = rw whole (take_at (pattern_words l) _ (row_of n).b (sym (sizes n rule).0))

    pub right_copied : take (row_of n).c (drop (row_of n).b copy) ≡ pattern_words r
    right_copied = rw (whole, drop_at (pattern_words l) _ (row_of n).b (sym (sizes n rule).0)) (take_at (pattern_words r) _ (row_of n).c (sym (sizes n rule).1))

-- Patterns: terms with numbered holes.
use Rattle.std.specs.Prelude.{ℕ}
use Rattle.term.specs.Heads.{Label, scalar_zero}
use Rattle.term.specs.Trees.{Tree, node, none}
use Rattle.types.specs.Sorts.{Sort, index, basis, scalar, ket, bra, operator}

-- A hole holds any part, and where it stands twice the same part twice. On the right side `first k` and `second k` are the indices of the type of what
-- hole k holds, as in 002's "K : K(τ) ⇒"
infix 85 #◌
infix 80 ◌⟨⟩
infix 80 ◌⟨◌⟩
infix 80 ◌⟨◌∣◌⟩
pub data Pattern : Type 0 where
  #◌ : ℕ → Pattern
  first second : ℕ → Pattern
  ◌⟨⟩ : Label → Pattern
  ◌⟨◌⟩ : Label → Pattern → Pattern
  ◌⟨◌∣◌⟩ : Label → Pattern → Pattern → Pattern

-- ---- the indices of a part's type
abbrev pub no_index : Tree
no_index = node scalar_zero none

abbrev pub first_index : Sort → Tree
first_index (index σ) = no_index
first_index (basis σ) = no_index
first_index scalar = no_index
first_index (ket σ) = σ
first_index (bra σ) = σ
first_index (operator σ τ) = σ

abbrev pub second_index : Sort → Tree
second_index (index σ) = no_index
second_index (basis σ) = no_index
second_index scalar = no_index
second_index (ket σ) = no_index
second_index (bra σ) = no_index
second_index (operator σ τ) = τ

-- The part that code 10 names. 01: "at is the offset of the untyped part that ends first, among equal ends the one with the greatest offset"
use Rattle.std.specs.Prelude.{◌≡◌, ◌⊎◌, ℕ, ◌+◌, ◌<◌, length}
use Rattle.term.specs.Trees.{Tree, words, Subtree, found, subtree}
use Rattle.types.specs.Sorts.{Sort, Context}
use Rattle.types.specs.Rules.{◌⊢◌∶◌}
use Rattle.types.specs.Inside.{inside}

abbrev pub HasSort : Context → Tree → Type 0
HasSort Γ t = (S : Sort) × (Γ ⊢ t ∶ S)

-- the part u at j ends before the part t at k, or ends with it and begins later
abbrev pub Earlier : ℕ → Tree → ℕ → Tree → Type 0
Earlier j u k t = (j + length (words u) < k + length (words t)) ⊎ ((j + length (words u) ≡ k + length (words t)) × (k < j))

-- the part at k is untyped, and every earlier one is typed; `sub` tells the part at each offset, and `Γs` its context
pub record First (Γs : ℕ → Context) (sub : ℕ → Subtree) (k : ℕ) : Type 0 where
  pub there : Tree
  pub is : sub k ≡ found there
  pub untyped : HasSort (Γs k) there → ⊥
  pub earlier : (j : ℕ) (u : Tree) → sub j ≡ found u → Earlier j u k there → HasSort (Γs j) u

abbrev pub FirstUntyped : Context → Tree → ℕ → Type 0
FirstUntyped Γ t k = First (inside Γ t) (subtree t) k

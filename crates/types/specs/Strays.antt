-- The place of code 13. 02, CR 1: "13, a 28 with no such 27 around it, or a ninth nesting (at its 27); side and the lowest such offset given".
use Rattle.std.specs.Prelude.{◌≡◌, Bool, cond, ◌&&◌, ℕ, suc, ◌+◌, ◌≤◌, eqb, leb, length}
use Rattle.std.proofs.Math.Option.{Option, some, none as nothing}
use Rattle.words.specs.Listed.{or_else}
use Rattle.term.specs.Heads.{Label, bound_basis, big_sum, head_of}
use Rattle.term.specs.Trees.{Tree, Forest, node, none, ◌▹◌, words, Subtree, found, subtree}
use Rattle.term.specs.Terms.{max_bodies}
use Rattle.types.specs.Sorts.{Context}
use Rattle.types.specs.Inside.{binds, inside}

-- a part with so many bodies around it
pub data Stray : Tree → ℕ → Type 0 where
  unbound : {a n : ℕ} {f : Forest} → n ≤ a → Stray (node (bound_basis a) f) n
  ninth : {n : ℕ} {f : Forest} → max_bodies ≤ n → Stray (node big_sum f) n

-- the lowest offset of one; `sub` tells the part at each offset, and `Γs` its context
pub record Lowest (Γs : ℕ → Context) (sub : ℕ → Subtree) (k : ℕ) : Type 0 where
  pub there : Tree
  pub is : sub k ≡ found there
  pub stray : Stray there (length (Γs k).bound)
  pub lowest : (j : ℕ) (u : Tree) → sub j ≡ found u → Stray u (length (Γs j).bound) → k ≤ j

abbrev pub FirstStray : Context → Tree → ℕ → Type 0
FirstStray Γ t k = Lowest (inside Γ t) (subtree t) k

abbrev pub NoStray : Context → Tree → Type 0
NoStray Γ t = (j : ℕ) (u : Tree) → subtree t j ≡ found u → Stray u (length (inside Γ t j).bound) → ⊥

-- ---- as a function for the code to equal, of a part at an offset with so many bodies around it
unfoldable pub is_stray : Label → ℕ → Bool
unfolding head_of
is_stray l n = cond (eqb (head_of l 0).0 28) (leb n (head_of l 0).1) (eqb (head_of l 0).0 27 && leb max_bodies n)

unfoldable mutual
  unfolding is_stray binds or_else words

  pub stray_of : ℕ → ℕ → Tree → Option ℕ
  stray_of n at (node l cs) = cond (is_stray l n) (some at) (strays_of n (cond (binds l) (suc n) n) (at + 1) cs)

  -- of a row of children, the first with so many bodies around it and the others with so many
  pub strays_of : ℕ → ℕ → ℕ → Forest → Option ℕ
  strays_of n m at none = nothing
  strays_of n m at (t ▹ f) = or_else (stray_of n at t) (strays_of m m (at + length (words t)) f)

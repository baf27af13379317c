-- The search for a stray part, as the code does it.
use Rattle.std.specs.Prelude.{◌≡◌, Bool, cond, List, ℕ, ◌+◌, ◌/◌, ◌%◌, ◌≤◌, ◌<◌, eqb, leb, length, drop, Result, Ok, Err}
use Rattle.std.proofs.Math.Option.{some, none as nothing}
use Rattle.term.specs.Parts.{parse, tree_in, part, part_depth}
use Rattle.types.specs.Strays.{stray_of}
use Rattle.typing.specs.Code.Chains.{enters_at, ninth}

-- a word's part is a stray one with so many bodies around it
unfoldable pub stray_word : ℕ → ℕ → Bool
stray_word w n = cond (eqb (w / 256) 28) (leb n (w % 256)) (ninth (w / 256) n)

-- the bodies around a word's child, behind k others
unfoldable pub bodies_in : ℕ → ℕ → ℕ → ℕ
bodies_in w k n = cond (enters_at (w / 256) k) (n + 1) n

-- what is told of a whole part that is no deeper than the budget: its end, or the offset of its first stray part
abbrev pub Told : List ℕ → ℕ → ℕ → Result ℕ ℕ → Type 0
Told ws at bodies (Ok end) = (stray_of bodies at (tree_in (parse (drop at ws))) ≡ nothing) × (end ≡ at + length (part ws at))
Told ws at bodies (Err k) = stray_of bodies at (tree_in (parse (drop at ws))) ≡ some k

-- either is an offset in the words, or that of their end
abbrev pub Inside : List ℕ → Result ℕ ℕ → Type 0
Inside ws (Ok end) = end ≤ length ws
Inside ws (Err k) = k ≤ length ws

pub record Looked (ws : List ℕ) (at bodies budget : ℕ) (r : Result ℕ ℕ) : Type 0 where
  pub inside : Inside ws r
  pub told : 0 < length (part ws at) → part_depth ws at ≤ budget → Told ws at bodies r

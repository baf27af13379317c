-- Sorts on the stack: the words of their indices stand there, and what goes by value is the class, and how many words they are.
use Rattle.std.specs.Prelude.{◌≡◌, List, ℕ, ◌+◌, ◌≤◌, length, take, drop, Option as CodeOption, Some, None, IfSome}
use Rattle.std.proofs.Math.Option.{Option, some, none as nothing}
use Rattle.term.specs.declared.heads.Class.TheVariants.{Scalar}
use Rattle.typebook.specs.Code.Shapes.{Shape, shape}
use Rattle.typing.specs.declared.sorts.Sorted as S
use Rattle.typing.specs.declared.sorts.Run as R
use Rattle.typing.specs.declared.sorts.Gathered as G

-- so many words from an offset on
abbrev pub run : List ℕ → ℕ → ℕ → List ℕ
run st at n = take n (drop at st)

abbrev pub run_at : List ℕ → R.Run → List ℕ
run_at st r = run st r.at r.len

abbrev pub Inside : R.Run → List ℕ → Type 0
Inside r st = r.at + r.len ≤ length st

-- a sort whose words stand from an offset on
abbrev pub shape_at : List ℕ → ℕ → S.Sorted → Shape
shape_at st at s = shape s.class (run st at s.left) (run st (at + s.left) s.right)

abbrev pub Small : S.Sorted → Type 0
Small s = (s.left ≤ 63) × (s.right ≤ 63)

-- there is room for a sort
abbrev pub Room : ℕ → List ℕ → Type 0
Room at st = at + 126 ≤ length st

-- the first and the latest of a part's children: in numbers, and on the stack
abbrev pub Near : G.Gathered → Type 0
Near g = (g.top ≤ 8320) × (g.at ≤ 8320) × Small g.first × Small g.latest

pub record Ready (g : G.Gathered) (st : List ℕ) : Type 0 where
  pub room : Room g.top st
  pub more : Room g.at st
  pub long : length st ≤ 8320
  pub first : Small g.first
  pub latest : Small g.latest

-- a stack on which nothing changed below an offset
pub record Above (top : ℕ) (st st' : List ℕ) : Type 0 where
  pub long : length st' ≡ length st
  pub below : take top st' ≡ take top st

-- ---- what is concluded
abbrev pub plain : S.Sorted
plain = record { class = Scalar; left = 0; right = 0 }

-- the shape of a sort, where there is one
abbrev pub told_at : List ℕ → ℕ → CodeOption S.Sorted → Option Shape
told_at st at None = nothing
told_at st at (Some s) = some (shape_at st at s)

-- the answer to a rule: its sort, with the words from an offset on
pub record Answers (o : Option Shape) (r : CodeOption S.Sorted) (top : ℕ) (st st' : List ℕ) : Type 0 where
  pub told : told_at st' top r ≡ o
  pub small : IfSome r Small
  pub kept : Above top st st'

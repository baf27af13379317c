-- A run under way: two slices that hold two typed terms, and what a step does to them.
use Rattle.std.specs.Prelude.{◌≡◌, true, cond, List, ℕ, eqb, length, Result, Ok, Err}
use Rattle.term.specs.Trees.{Tree, words}
use Rattle.types.specs.Sorts.{Sort, IsType, Context}
use Rattle.types.specs.Rules.{Typed}
use Rattle.declarations.specs.Declarations.{context_in, good_declarations}
use Rattle.rules.specs.Steps.{Stepped, step_of, Move, Sides, chosen, put, Run}
use Rattle.families.specs.declared.writing.Refusal.{Refusal}
use Rattle.families.specs.Writing.{code_of}
use Rattle.step.specs.declared.run.Answer.{Answer}
use Rattle.step.specs.declared.running.Lengths.{Lengths}
use Rattle.step.specs.Answers.{held}

-- a typed term under good declarations, in the first n words of its slice, with zeros behind it
pub record Holding (ds ws : List ℕ) (n : ℕ) (S : Sort) (t : Tree) : Type 0 where
  pub good : good_declarations ds ≡ true
  pub is_type : IsType S
  pub typed : Typed (context_in ds) S t
  pub slice : ws ≡ held t
  pub long : n ≡ length (words t)

-- two of one type
pub record Ready (ds l r : List ℕ) (long : Lengths) (p : Sides) (S : Sort) : Type 0 where
  pub left : Holding ds l long.left S p.left
  pub right : Holding ds r long.right S p.right

-- how long they are
abbrev pub lengths_of : Sides → Lengths
lengths_of p = record { left = length (words p.left); right = length (words p.right) }

-- a step on its side
abbrev pub step_on : Context → Sides → Move → Stepped
step_on Γ p m = step_of Γ (chosen m.side p) m.step

-- the sides after it: a bad one moves nothing
unfoldable pub moved_by : Context → Sides → Move → Sides
moved_by Γ p m = cond (eqb (step_on Γ p m).code 0) (put m.side (step_on Γ p m).tree p) p

-- the lengths behind a good step, or the code of a bad one
unfoldable pub moved_to : ℕ → Sides → Result Lengths ℕ
moved_to code p = cond (eqb code 0) (Ok (lengths_of p)) (Err code)

-- a refusal by its code
abbrev pub by_code : Result Lengths Refusal → Result Lengths ℕ
by_code (Ok long) = Ok long
by_code (Err e) = Err (code_of e)

-- what is answered of a run that stopped at a bad step
unfoldable pub numbers_of : Run → Answer
numbers_of r =
    record { code = r.code; side = r.side; step = r.step; at = r.at; left = length (words r.sides.left); right = length (words r.sides.right) }

-- the lengths behind steps that were all good, or that answer
unfoldable pub taken_to : Run → Result Lengths Answer
unfolding numbers_of
taken_to r = cond (eqb r.code 0) (Ok (lengths_of r.sides)) (Err (numbers_of r))

-- Where a rule is tried: a typed part of a term, under good declarations.
use Rattle.std.specs.Prelude.{◌≡◌, true, Result, Ok, Err, List, [], ◌++◌, ℕ, ◌-◌, ◌≤◌, length, take, drop}
use Rattle.std.proofs.Math.Option.{Option, some}
use Rattle.term.specs.Trees.{Tree, words, Formed, depth}
use Rattle.term.specs.Terms.{max_depth}
use Rattle.types.specs.Sorts.{Sort}
use Rattle.types.specs.Rules.{◌⊢◌∶◌}
use Rattle.declarations.specs.Declarations.{good_declarations, context_at}
use Rattle.shapes.specs.Bodies.{Bound, outer_at}
use Rattle.rules.specs.Patterns.{Pattern}
use Rattle.rules.specs.Table.{Condition, Rule, ◌⇒◌▷◌, rule_of}
use Rattle.rules.specs.Rewrite.{rewrite}
use Rattle.families.specs.declared.writing.Refusal.{Refusal}
use Rattle.families.specs.Writing.{Writes}
use Rattle.rules.specs.Steps.{Step}
use Rattle.rulebook.specs.declared.Row.{Row}
use Rattle.rulebook.specs.Code.Rows.{row_of}
use Rattle.step.specs.declared.rewriting.Rewritten.{Rewritten}

-- the words of a term from a place on, as the code lends them
abbrev pub words_from : List ℕ → ℕ → List ℕ
words_from term place = take (length term - place) (drop place term)

-- words from a place of a term on, which begin with the part there; `bodies` are what the sums around it have for an index
pub record Site (ds term : List ℕ) (place : ℕ) (ws : List ℕ) : Type 0 where
  pub good : good_declarations ds ≡ true
  pub bodies : List Tree
  pub bound : Bound [] (outer_at term place) 0 bodies
  pub tree : Tree
  pub formed : Formed tree
  pub shallow : depth tree ≤ max_depth
  pub sort : Sort
  pub typed : context_at ds bodies ⊢ tree ∶ sort
  pub after : List ℕ
  pub whole : ws ≡ words tree ++ after

-- a number of the table, with its row, that is an equation's
pub record Equation (number : ℕ) (row : Row) : Type 0 where
  pub condition : Condition
  pub left : Pattern
  pub right : Pattern
  pub rule : rule_of number ≡ some (condition ⇒ left ▷ right)
  pub is : row ≡ row_of number

-- what the equation makes of the part
abbrev pub equated_at : (ds : List ℕ) {term : List ℕ} {place : ℕ} {ws : List ℕ} {number : ℕ} {row : Row} → Site ds term place ws → Equation number row → ℕ → ℕ → Option Tree
equated_at ds x e i j = rewrite (context_at ds x.bodies) (e.condition ⇒ e.left ▷ e.right) i j x.tree

-- where what was written for a part ends
abbrev pub ends : Result Rewritten Refusal → Result ℕ Refusal
ends (Ok r) = Ok r.end
ends (Err e) = Err e

-- what a step's rule makes of the part at its place is written
abbrev pub Promise : List ℕ → List ℕ → Step → List ℕ → List ℕ → Result ℕ Refusal → Type 0
Promise ds term s out out' r =
    (x : Site ds term s.place (words_from term s.place)) (k : Rule) → rule_of s.rule ≡ some k → Writes (rewrite (context_at ds x.bodies) k s.i s.j x.tree) out out' r

-- The library's answers as numbers in a lent slice, for a caller in another language.
use Rattle.std.specs.Prelude.{◌≡◌, Bool, cond, ◌&&◌, List, [], ◌∷◌, ℕ, eqb, length, Ok, Err}
use Rattle.declarations.specs.declared.constructor.PutError.TheVariants.{WrongSize, Full, Bad}
use Rattle.declarations.specs.Put.{Outcome}
use Rattle.typing.specs.declared.terms.Typing as T
use Rattle.typing.specs.Answers.{sizes_of}
use Rattle.rules.specs.Steps.{Move}
use Rattle.lent.specs.declared.steps.Step as L
use Rattle.lent.specs.Lent.{side_in, asked}
use Rattle.step.specs.declared.run.Answer as R
use Rattle.step.specs.declared.single.Answer as S

-- whether a slice for numbers is of the size
abbrev pub of_size : ℕ → List ℕ → Bool
of_size size answer = eqb (length answer) size

-- what a call returns: 0, or 1 where a slice for its answer is of another size
abbrev pub status : Bool → ℕ
status sized = cond sized 0 1

-- what a slice then holds: what was made of it, or where the call was refused what was lent
abbrev pub handed : Bool → List ℕ → List ℕ → List ℕ
handed sized made lent = cond sized made lent

-- a replay's or a run's answer
abbrev pub answer_numbers : R.Answer → List ℕ
answer_numbers a = a.code ∷ a.side ∷ a.step ∷ a.at ∷ a.left ∷ a.right ∷ []

-- the single step's answer
abbrev pub step_numbers : S.Answer → List ℕ
step_numbers a = a.code ∷ a.side ∷ a.step ∷ a.at ∷ a.length ∷ []

-- the typing's answer: the kind by its number, with the lengths of the indices of its rows and of its columns
abbrev pub typing_numbers : T.Typing → List ℕ
typing_numbers t =
    let z = sizes_of t.of.kind in
    t.code ∷ t.side ∷ t.step ∷ t.at ∷ t.length ∷ t.depth ∷ z.number ∷ z.rows ∷ z.columns ∷ []

-- the typing and the preview write into three slices
abbrev pub of_sizes : List ℕ → List ℕ → List ℕ → Bool
of_sizes answer rows columns = of_size 9 answer && (of_size 63 rows && of_size 63 columns)

-- what is told so: what is returned, and the three slices then
pub record Told (answer rows columns : List ℕ) (t : T.Typing) (r : ℕ) (answer' rows' columns' : List ℕ) : Type 0 where
  pub returned : r ≡ status (of_sizes answer rows columns)
  pub numbers : answer' ≡ handed (of_sizes answer rows columns) (typing_numbers t) answer
  pub row_words : rows' ≡ handed (of_sizes answer rows columns) t.of.rows rows
  pub column_words : columns' ≡ handed (of_sizes answer rows columns) t.of.columns columns

-- What putting a name answers, by 01's numbers: 1 is the calling program's doing, "6 one basis, var or step line too many", "7 a declaration is not exactly the indices wanted,
-- or breaks a limit or a name"
abbrev pub put_number : Outcome → ℕ
put_number (Ok u) = 0
put_number (Err WrongSize) = 1
put_number (Err Full) = 6
put_number (Err Bad) = 7

-- a step by the numbers that are handed over
abbrev pub step_of : ℕ → ℕ → ℕ → ℕ → L.Step
step_of rule place i j = record { rule = rule; place = place; i = i; j = j }

abbrev pub move_of : ℕ → ℕ → ℕ → ℕ → ℕ → Move
move_of side rule place i j = record { side = side_in side; step = asked (step_of rule place i j) }

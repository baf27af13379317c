-- What was read in each stage: the file so far is in order, and the lines so far are those written of it.
use Rattle.std.specs.Prelude.{◌≡◌, true, List, [], ◌∷◌, ◌++◌, map, ℕ}
use Rattle.term.specs.Terms.{term_words}
use Rattle.rules.specs.Steps.{Move}
use Rattle.text.specs.Pieces.{Text}
use Rattle.text.specs.Tokens.{tokens}
use Rattle.format.specs.Files.{Basis, Var, LeftTerm, RightTerm, Step, Variable, File, key_text, variable_text, step_text, header, lines, names_of, WellDeclared, InOrder}
use Rattle.format.specs.Reading.{nothing}

-- ---- the lines of a file
abbrev pub basis_line : List ℕ → Text
basis_line b = key_text Basis ++ tokens b

abbrev pub variable_line : Variable → Text
variable_line v = key_text Var ++ variable_text v

abbrev pub left_line : File → Text
left_line f = key_text LeftTerm ++ tokens f.left

abbrev pub right_line : File → Text
right_line f = key_text RightTerm ++ tokens f.right

abbrev pub step_line : Move → Text
step_line m = key_text Step ++ step_text m

abbrev pub step_lines : File → List Text
step_lines f = map step_line f.steps

-- ---- by stage
pub data Reached : ℕ → File → List Text → Type 0 where
  start : Reached 0 nothing []
  bases : {f : File} → WellDeclared f → f.variables ≡ [] → f.steps ≡ [] → Reached 1 f (header f)
  variables : {f : File} → WellDeclared f → f.steps ≡ [] → Reached 2 f (header f)
  left_side : {f : File} → WellDeclared f → f.steps ≡ [] → term_words (names_of f) f.left ≡ true → Reached 3 f (header f ++ left_line f ∷ [])
  steps : {f : File} → InOrder f → Reached 4 f (header f ++ left_line f ∷ right_line f ∷ step_lines f)
  done : {f : File} → InOrder f → Reached 5 f (lines f)

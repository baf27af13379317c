-- The invariant: where all so far were variables, the first words are leaves.
use mathlib.Core.Path.{◌≡◌}
use mathlib.Core.Bool.{true}
use Rattle.term.specs.Code.Rows.{Leaves}
use Rattle.term.proofs.ahead.are_variables.Given as goal

abbrev pub invariant-loop-word : goal.invariant-loop-word
invariant-loop-word l = l.all ≡ true → Leaves l.row 0 l.word-index

-- What a file says as the reader keeps it, in the words that it is lent, as functions for the code to equal: declarations, two terms, steps. What to believe is the file with its `context_of`
-- of `Files`: demand 2 has that the words declare that context and hold those steps (`declares`, `lends` of `file` Demands).
use Rattle.std.specs.Prelude.{List, [], ◌∷◌, ◌++◌, ℕ, ◌+◌, ◌-◌, length, replicate}
use Rattle.term.specs.Terms.{max_words}
use Rattle.declarations.specs.Declarations.{size}
use Rattle.declarations.specs.Put.{started, basis_put, variable_put}
use Rattle.rules.specs.Steps.{Move}
use Rattle.lent.specs.Lent.{step_put}
use Rattle.format.specs.Files.{Variable, File}

-- ---- declarations, put one after the other
unfoldable pub put_bases : List ℕ → List (List ℕ) → List ℕ
unfolding basis_put
put_bases ds [] = ds
put_bases ds (b ∷ bs) = put_bases (basis_put ds b) bs

unfoldable pub put_variables : List ℕ → List Variable → List ℕ
unfolding variable_put
put_variables ds [] = ds
put_variables ds (v ∷ vs) = put_variables (variable_put ds v.kind v.first v.second) vs

unfoldable pub declarations_of : File → List ℕ
unfolding put_bases put_variables started
declarations_of f = put_variables (put_bases (started (replicate size 0) f.types) f.bases) f.variables

-- ---- a term, "zeros behind"
unfoldable pub padded : List ℕ → List ℕ
padded ws = ws ++ replicate (max_words - length ws) 0

-- ---- steps, from the k-th place on
unfoldable pub put_steps : List ℕ → ℕ → List Move → List ℕ
unfolding step_put
put_steps ws k [] = ws
put_steps ws k (m ∷ ms) = put_steps (step_put ws k m) (k + 1) ms

abbrev pub steps_size : ℕ
steps_size = 8000

unfoldable pub steps_of : File → List ℕ
unfolding put_steps
steps_of f = put_steps (replicate steps_size 0) 0 f.steps

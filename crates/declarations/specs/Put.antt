-- Putting names into declarations, as functions for the code to equal: what the calls answer, and the words that they leave. What to believe is `context_in` of `Declarations`: after a put
-- it has one name more and else what it had, and good declarations stay good (`PutsBasis` and `PutsVariable` of `Statements`).
use Rattle.std.specs.Prelude.{Bool, cond, List, ◌∷◌, ℕ, ◌+◌, eqb, leb, length, get_or, set, Result, Ok, Err}
use Rattle.std.proofs.lemmas.List.Edits.{sets}
use Rattle.term.specs.Terms.{max_names}
use Rattle.words.specs.Words.{cleared}
use Rattle.declarations.specs.declared.constructor.PutError.{PutError}
use Rattle.declarations.specs.declared.constructor.PutError.TheVariants.{WrongSize, Full, Bad}
use Rattle.declarations.specs.Declarations.{size, basis_at, variable_at, counted}

-- what a call answers: that it is done, or why it is not
abbrev pub Outcome : Type 0
Outcome = Result (Unit {0}) PutError

abbrev pub done : Outcome
done = Ok tt

abbrev pub refused : PutError → Outcome
refused e = Err e

-- the words that a call leaves: what it made where it is done, and else what it was lent
unfoldable pub leaves : Outcome → List ℕ → List ℕ → List ℕ
leaves (Ok u) made ds = made
leaves (Err e) made ds = ds

-- ---- no names but so many types
unfoldable pub start_answer : List ℕ → ℕ → Outcome
start_answer ds types = cond (eqb (length ds) size) (cond (leb types max_names) done (refused Bad)) (refused WrongSize)

unfoldable pub started : List ℕ → ℕ → List ℕ
started ds types = set (cleared ds 0) 0 types

-- ---- one name more of those that word k counts
unfoldable pub room : List ℕ → ℕ → Outcome
room ds k =
    cond (eqb (length ds) size)
    (cond (counted (get_or ds 0 0) (get_or ds 1 0) (get_or ds 2 0))
    (cond (eqb (get_or ds k 0) max_names) (refused Full) done)
    (refused Bad))
    (refused WrongSize)

-- where there is room, the answer is whether what is put fits
unfoldable pub answer : Outcome → Bool → Outcome
answer (Ok u) fits = cond fits done (refused Bad)
answer (Err e) fits = refused e

unfoldable pub basis_put : List ℕ → List ℕ → List ℕ
basis_put ds index = let a = get_or ds 1 0 in sets (set ds 1 (a + 1)) (basis_at a) (length index ∷ index)

unfoldable pub variable_put : List ℕ → ℕ → List ℕ → List ℕ → List ℕ
variable_put ds kind first second =
    let a = get_or ds 2 0 in
    let at = variable_at a in
    sets (sets (set ds 2 (a + 1)) at (kind ∷ length first ∷ length second ∷ first)) (at + 66) second

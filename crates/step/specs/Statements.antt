-- What is proved of the single step and of the run.
use Rattle.std.specs.Prelude.{◌≡◌, ◌↔◌, ◌≢◌, List, ℕ, ◌+◌}
use Rattle.term.specs.Trees.{Tree}
use Rattle.types.specs.Sorts.{Sort, Context}
use Rattle.declarations.specs.Declarations.{context_in}
use Rattle.typing.specs.Answers.{typing_of, TypedTerm}
use Rattle.rules.specs.Steps.{Sides, step_of}
use Rattle.lent.specs.declared.steps.Step.{Step}
use Rattle.lent.specs.Lent.{Derivation, asked}
use Rattle.lent.specs.Refusals.{Begun}
use Rattle.step.specs.Alike.{Alike}
use Rattle.step.specs.Calls as C
use Rattle.step.specs.Calls.{Done, Refused, Work}
use Rattle.step.specs.Previews.{preview_of, Agrees}
use Rattle.step.specs.Runs.{run_from, and_then, run_answer, left_after, right_after}
use Rattle.step.specs.Derivations.{Accepted, Decision, RunKept}

-- ---- the single step
-- 01: "stepping relies only on what typing promises": on a typed term the call does the step of the rules, whatever stands behind the term
abbrev pub Entry : Type 0
Entry = (ds ws : List ℕ) (n : ℕ) (t : Tree) (S : Sort) → TypedTerm ds ws n t S → (s : Step) → Done ds ws n s (step_of (context_in ds) t (asked s))

-- where typing refuses, the step is refused as typing does
abbrev pub Refusals : Type 0
Refusals = (ds ws : List ℕ) (n : ℕ) → (typing_of ds ws n).code ≢ 0 → (s : Step) → Refused ds ws n s

-- 01: "one claim about the whole list, not one for each step. A list begins with a typed term, one that none of 7, 8, 10 and 11 refuses, in a slice of 4,096
-- words with any words behind"; nor does 13: 02, CR 1, "13 is as 10". Demand 3: "any rules, places and indices, refused ones included"
abbrev pub Lists : Type 1
Lists =
    (ds : List ℕ) (w : Work) (t : Tree) (S : Sort) → TypedTerm ds w.slice w.length t S → (ss : List Step) → (u : Tree) × C.ListKept ds w t S ss u

-- ---- the preview
-- 02, CR 3, for all inputs: "refused steps included", and untyped terms
abbrev pub Previews : Type 0
Previews = (ds ws : List ℕ) (n : ℕ) (s : Step) → Agrees ds ws n s (preview_of ds ws n s)

-- ---- the run
-- Demand 2: accepted "exactly when"
abbrev pub Accepts : Type 0
Accepts = (d : Derivation) → ((run_answer d).code ≡ 0) ↔ Accepted d

-- "Otherwise the first fault in document 01's order is named": every answer, with what it says and the two slices that it leaves
abbrev pub Decides : Type 0
Decides = (d : Derivation) → Decision d (run_answer d) (left_after d) (right_after d)

-- each side through every run that begins
abbrev pub Keeps : Type 1
Keeps = (d : Derivation) (p : Sides) (S : Sort) → Begun d p S → (q : Sides) × RunKept d p S q

-- Demand 3: accepted, "the number at each row and column of the matrix that the left term in it stands for equals the number there for the right term in it"
abbrev pub Proves : Type 1
Proves = (d : Derivation) (a : Accepted d) → Alike (context_in d.ds) a.sort a.start.left a.start.right

-- the steps from the k-th on, m of them and then a more, are m + a of them at once
abbrev pub Pieces : Type 0
Pieces =
    (Γ : Context) (p : Sides) (steps : List ℕ) (k m a : ℕ)
    → run_from Γ p steps k (k + m + a) ≡ and_then (run_from Γ p steps k (k + m)) (λ q. run_from Γ q steps (k + m) (k + m + a))

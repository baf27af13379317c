-- The three demands, as the customer wrote them, each sentence beside what it says of the replay and of the single step. `proofs/Demands` holds a value of each.
use Rattle.std.specs.Prelude.{◌≡◌, ◌↔◌, ◌≢◌, true, List, ℕ, ◌-◌, length, drop, replicate}
use Rattle.algebra.specs.Gaussian.{Gaussian, gaussian}
use Rattle.term.specs.Trees.{Tree, words}
use Rattle.types.specs.Sorts.{Sort}
use Rattle.meaning.specs.Choices.{Choice}
use Rattle.meaning.specs.Meaning.{mean}
use Rattle.meaning.specs.Sorted.{Fits, EveryChoice, SomeUnitary, EqualNumbers}
use Rattle.declarations.specs.Declarations.{context_in, good_declarations}
use Rattle.rules.specs.Steps.{Sides}
use Rattle.lent.specs.declared.steps.Step.{Step}
use Rattle.lent.specs.Lent.{Derivation, moves_in}
use Rattle.format.specs.Files.{File, context_of, Written}
use Rattle.format.specs.Kept.{declarations_of, steps_of}
use Rattle.step.specs.declared.run.Answer as A
use Rattle.step.specs.Answers.{held, answer_to, words_left}
use Rattle.step.specs.Runs.{run_answer, left_after, right_after}
use Rattle.step.specs.Statements.{Lists}
use Rattle.step.specs.Alike.{Alike}
use Rattle.file.specs.Replays.{replay_answer, left_replayed, right_replayed}
use Rattle.file.specs.Files.{TypedSide, AcceptedFile, LateCode, PastTypes, RunDecides, Sized, FileDecision}

-- ---- Demand 1
-- "each word behind the end of a term is zero"; where there is no term its length is 0
abbrev pub ZerosBehind : ℕ → List ℕ → Type 0
ZerosBehind n ws = drop n ws ≡ replicate (length ws - n) 0

-- "A derivation file, whatever it holds and however it is cut off, is accepted or refused, with the number, side, step and place that document 01 fixes. No entry relies on its caller
-- having looked first.
-- After every replay or single step each word behind the end of a term is zero, unless the lent buffers were refused for their size, and then they are untouched."
-- No entry has a `requires`. The run of lent steps writes two slices as well, and the same is said of it.
pub record Demand1 : Type 0 where
  pub answered : (bytes left right : List ℕ) → FileDecision bytes left right (replay_answer bytes left right) (left_replayed bytes left right) (right_replayed bytes left right)
  pub replay_zeros : (bytes left right : List ℕ) → (replay_answer bytes left right).code ≢ 1
      → ZerosBehind (replay_answer bytes left right).left (left_replayed bytes left right) × ZerosBehind (replay_answer bytes left right).right (right_replayed bytes left right)
  pub replay_untouched : (bytes left right : List ℕ) → (replay_answer bytes left right).code ≡ 1 → (left_replayed bytes left right ≡ left) × (right_replayed bytes left right ≡ right)
  pub step_zeros : (ds ws : List ℕ) (n : ℕ) (s : Step) → (answer_to ds ws n s).code ≢ 1 → ZerosBehind (answer_to ds ws n s).length (words_left ds ws n s)
  pub step_untouched : (ds ws : List ℕ) (n : ℕ) (s : Step) → (answer_to ds ws n s).code ≡ 1 → words_left ds ws n s ≡ ws
  pub run_zeros : (d : Derivation) → (run_answer d).code ≢ 1 → ZerosBehind (run_answer d).left (left_after d) × ZerosBehind (run_answer d).right (right_after d)
  pub run_untouched : (d : Derivation) → (run_answer d).code ≡ 1 → (left_after d ≡ d.left) × (right_after d ≡ d.right)

-- ---- Demand 2
-- "A file of document 01's form is accepted exactly when both terms have one and the same type, .. each step is an instance of its numbered rule, .. and the two terms then agree. Otherwise the first
-- fault in document 01's order is named." `FileDecision` of demand 1 has the faults before these; of a file of the form the run's own decision is named, over the declarations and steps
-- that it writes down
pub record Demand2 : Type 0 where
  pub accepts : (bytes left right : List ℕ) → Sized left right → ((replay_answer bytes left right).code ≡ 0) ↔ AcceptedFile bytes
  pub otherwise : (bytes left right : List ℕ) (f : File) → Sized left right → Written bytes f
      → RunDecides f (replay_answer bytes left right) (left_replayed bytes left right) (right_replayed bytes left right)
  pub codes : (bytes left right : List ℕ) (f : File) → Sized left right → Written bytes f → LateCode (replay_answer bytes left right).code
  pub declares : (bytes : List ℕ) (f : File) → Written bytes f → context_in (declarations_of f) ≡ context_of f
  pub lends : (bytes : List ℕ) (f : File) → Written bytes f → moves_in (steps_of f) (length f.steps) ≡ f.steps

-- ---- Demand 3
-- a file that is accepted, or refused only at a step or because its ends differ: its own terms, and the terms that stand in the slices behind the answer a
pub record Ends (bytes : List ℕ) (a : A.Answer) (l r : List ℕ) : Type 0 where
  pub file : File
  pub written : Written bytes file
  pub start : Sides
  pub end : Sides
  pub sort : Sort
  pub left_side : TypedSide file file.left start.left sort
  pub right_side : TypedSide file file.right start.right sort
  pub left_slice : (l ≡ held end.left) × (a.left ≡ length (words end.left))
  pub right_slice : (r ≡ held end.right) × (a.right ≡ length (words end.right))

pub record FileKept (bytes left right : List ℕ) : Type 1 where
  pub ends : Ends bytes (replay_answer bytes left right) (left_replayed bytes left right) (right_replayed bytes left right)
  pub left_alike : Alike (context_of ends.file) ends.sort ends.start.left ends.end.left
  pub right_alike : Alike (context_of ends.file) ends.sort ends.start.right ends.end.right

-- "For every accepted file, .. the number at each row and column of the matrix that the left term in it stands for equals the number there for the right term in it: for every dimension from 1 up ..,
-- every index inside its range .., and every Gaussian integer put into the entries of the variables, with the shapes as declared. Where a file is accepted, or refused only at a step or because its
-- ends differ, the term that the file gives for each side and what the replay leaves of it are alike in shape and in every such number. For every list of single steps from a typed term .., each
-- step is answered and done as document 01 fixes, and that term and the one left after the list are alike in the same way." `Alike` says shape and numbers, for every choice that fits;
-- `chooses` says which do, all dimensions, indices and entries that are asked for: of every file of the form, so of every accepted one, and of lent declarations. 02, CR 7: this "now speaks only of
-- choices where a marked matrix times its adjoint is the identity, from both sides"; `exist` says that there are such, whatever the rest
pub record Demand3 : Type 1 where
  pub chooses : (bytes : List ℕ) (f : File) → Written bytes f → EveryChoice gaussian (context_of f)
  pub chooses_lent : (ds : List ℕ) → good_declarations ds ≡ true → EveryChoice gaussian (context_in ds)
  pub exist : (bytes : List ℕ) (f : File) → Written bytes f → SomeUnitary gaussian (context_of f)
  pub exist_lent : (ds : List ℕ) → good_declarations ds ≡ true → SomeUnitary gaussian (context_in ds)
  pub proves : (bytes : List ℕ) (a : AcceptedFile bytes) → Alike (context_of a.file) a.sort a.start.left a.start.right
  pub keeps : (bytes left right : List ℕ) → PastTypes (replay_answer bytes left right).code → FileKept bytes left right
  pub lists : Lists

-- ---- the same of one call, as far as a clause of the entry's contract can say it
-- demand 1: zeros behind both ends, or untouched
abbrev pub Behind : List ℕ → List ℕ → A.Answer → List ℕ → List ℕ → Type 0
Behind left right a l r = (a.code ≢ 1 → ZerosBehind a.left l × ZerosBehind a.right r) × (a.code ≡ 1 → (l ≡ left) × (r ≡ right))

-- demand 2: accepted exactly when
abbrev pub Exactly : List ℕ → List ℕ → List ℕ → A.Answer → Type 0
Exactly bytes left right a = Sized left right → (a.code ≡ 0) ↔ AcceptedFile bytes

-- demand 2: otherwise the first fault is named, of a file of the form
abbrev pub Named : List ℕ → List ℕ → List ℕ → A.Answer → List ℕ → List ℕ → Type 0
Named bytes left right a l r = (f : File) → Sized left right → Written bytes f → RunDecides f a l r

-- demand 3: the number at each row and column, over the Gaussian integers, under what a file declares
abbrev pub EqualTerms : File → Tree → Tree → Type 0
EqualTerms f t u = (χ : Choice Gaussian) → Fits gaussian (context_of f) χ → EqualNumbers (mean gaussian (context_of f) χ t) (mean gaussian (context_of f) χ u)

-- of an accepted file's two terms
abbrev pub EqualSides : List ℕ → Type 0
EqualSides bytes = (a : AcceptedFile bytes) → EqualTerms a.file a.start.left a.start.right

-- and of each side's term and what is left of it
abbrev pub EqualEnds : List ℕ → A.Answer → List ℕ → List ℕ → Type 0
EqualEnds bytes a l r = PastTypes a.code → (e : Ends bytes a l r) × EqualTerms e.file e.start.left e.end.left × EqualTerms e.file e.start.right e.end.right

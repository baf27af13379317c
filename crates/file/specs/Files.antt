-- When a file is accepted, and every answer of its replay: the relations that `replay_answer` of `Replays` answers.
use Rattle.std.specs.Prelude.{◌≡◌, ◌⊎◌, List, ℕ, ◌≤◌, length, replicate}
use Rattle.term.specs.Trees.{Tree, words}
use Rattle.term.specs.Terms.{max_words, IsTerm}
use Rattle.types.specs.Sorts.{Sort, IsType}
use Rattle.types.specs.Rules.{◌⊢◌∶◌}
use Rattle.text.specs.Pieces.{Text}
use Rattle.format.specs.Files.{File, names_of, context_of, Written}
use Rattle.format.specs.Reading.{fault, read_of}
use Rattle.rules.specs.Steps.{Sides}
use Rattle.step.specs.declared.run.Answer as A
use Rattle.step.specs.Derivations as D
use Rattle.step.specs.Derivations.{AllTaken}
use Rattle.file.specs.Replays.{file_refusal, derivation_of}

-- a side of a file: the term that its words are, with a type by the published rules under what the file declares
pub record TypedSide (f : File) (ws : List ℕ) (t : Tree) (S : Sort) : Type 0 where
  pub is : words t ≡ ws
  pub term : IsTerm (names_of f) t
  pub is_type : IsType S
  pub rules : context_of f ⊢ t ∶ S

-- Demand 2: "both terms have one and the same type, that of a scalar, ket, bra or operator, by the published typing rules within document 01's index limit, each step is an instance of its
-- numbered rule, published or document 01's swap, at its place and stays inside the limits, and the two terms then agree"
pub record AcceptedFile (bytes : Text) : Type 0 where
  pub file : File
  pub written : Written bytes file
  pub start : Sides
  pub end : Sides
  pub sort : Sort
  pub left : TypedSide file file.left start.left sort
  pub right : TypedSide file file.right start.right sort
  pub taken : AllTaken (context_of file) start file.steps end
  pub same : end.left ≡ end.right

-- the codes that a file of the form can have: "10 no type", "11 a side is an index or a basis", "12 the two types differ"; 02, CR 1: "13, a 28 with no such 27 around
-- it, or a ninth nesting (at its 27)"; 20 to 23; 30; 0
pub data LateCode : ℕ → Type 0 where
  of_types : {c : ℕ} → 10 ≤ c → c ≤ 13 → LateCode c
  of_step : {c : ℕ} → 20 ≤ c → c ≤ 23 → LateCode c
  of_ends : LateCode 30
  of_none : LateCode 0

-- Demand 3: "Where a file is accepted, or refused only at a step or because its ends differ": the codes behind those of types
abbrev pub PastTypes : ℕ → Type 0
PastTypes c = (c ≡ 0) ⊎ (20 ≤ c)

-- what a run of the file's own words decides, with the two slices that it leaves
abbrev pub RunDecides : File → A.Answer → List ℕ → List ℕ → Type 0
RunDecides f = D.Decision (derivation_of f)

-- both slices of 4,096 words
abbrev pub Sized : List ℕ → List ℕ → Type 0
Sized left right = (length left ≡ max_words) × (length right ≡ max_words)

-- Every answer, with the two slices that it leaves: 1; the first fault of the bytes and lines, 2 to 9; or, for a file of the form, what its run decides
pub data FileDecision (bytes left right : List ℕ) : A.Answer → List ℕ → List ℕ → Type 0 where
  wrong_size : (Sized left right → ⊥) → FileDecision bytes left right (file_refusal 1 0) left right
  unread : {c n : ℕ} → Sized left right → read_of bytes ≡ fault c n → 2 ≤ c → c ≤ 9 → FileDecision bytes left right (file_refusal c n) (replicate max_words 0) (replicate max_words 0)
  replayed : {f : File} {a : A.Answer} {l r : List ℕ} → Sized left right → Written bytes f → RunDecides f a l r → FileDecision bytes left right a l r

-- What the lent words hold of a file that is read up to some line, and what a line makes of it.
use Rattle.std.specs.Prelude.{◌≡◌, ◌≢◌, true, false, cond, List, ℕ, ◌≤◌, eqb, length, None, Result, Ok, Err, IfOk, MatchResult}
use Rattle.text.specs.Bytes.{bad_line}
use Rattle.text.specs.Pieces.{Text}
use Rattle.format.specs.Files.{File, Key, max_bytes}
use Rattle.format.specs.Reading as R
use Rattle.format.specs.Kept.{declarations_of, padded, steps_of}
use Rattle.format.specs.Code.Reached.{Reached}
use Rattle.reader.specs.declared.faults.Fault.{Fault}
use Rattle.reader.specs.declared.files.Read.{Read}
use Rattle.reader.specs.declared.keys.Key as K
use Rattle.reader.specs.declared.walking.State.{State}
use Rattle.reader.specs.Answers.{answer_of}
use Rattle.reader.specs.Code.Keys.{named, number}
use Rattle.reader.specs.Code.Lines.{fault, Answers, ordered}

-- What stands in the four slices in a state: declarations, the left and the right side, steps. Before its line a slice may hold anything, but for the steps
pub record InSlices (s : State) (f : File) (ds ls rs ms : List ℕ) : Type 0 where
  pub declarations : number s.stage ≢ 0 → ds ≡ declarations_of f
  pub left : 3 ≤ number s.stage → (ls ≡ padded f.left) × (s.left ≡ length f.left)
  pub right : 4 ≤ number s.stage → (rs ≡ padded f.right) × (s.right ≡ length f.right)
  pub steps : (ms ≡ steps_of f) × (s.steps ≡ length f.steps)

-- and the lines so far are those of the file so far
pub record Holding (s : State) (f : File) (ds ls rs ms : List ℕ) : Type 0 where
  pub lines : List Text
  pub reached : Reached (number s.stage) f lines
  pub kept : InSlices s f ds ls rs ms

-- what the value of a key is answered in line n, in a state: its fault, or the state behind it with what then stands in the slices
pub record Valued (n : ℕ) (k : Key) (f : File) (v : Text) (r : Result State Fault) (ds ls rs ms : List ℕ) : Type 0 where
  pub answer : Answers n (ordered k f v) r
  pub state : IfOk r λ t. (number t.stage ≡ R.stage_after k) × ((g : File) → ordered k f v ≡ R.good g → InSlices t g ds ls rs ms)

-- what line n, of a key, answers, and what then stands in them
pub record After (n : ℕ) (k : Key) (l : R.Line) (r : Result State Fault) (ds ls rs ms : List ℕ) : Type 0 where
  pub answer : Answers n l r
  pub state : IfOk r λ t. (number t.stage ≡ R.stage_after k) × ((g : File) → l ≡ R.good g → Holding t g ds ls rs ms)

-- what the value of a key does, and a line, with four slices before and behind it
abbrev pub ValuedIn : ℕ → K.Key → Text → State → List ℕ → List ℕ → List ℕ → List ℕ → Result State Fault → List ℕ → List ℕ → List ℕ → List ℕ → Type 0
ValuedIn n k v s ds ls rs ms r es ks qs ns =
    (f : File) → Holding s f ds ls rs ms → R.fits (named k) (number s.stage) ≡ true → Valued n (named k) f v r es ks qs ns

abbrev pub LineRead : Text → ℕ → State → List ℕ → List ℕ → List ℕ → List ℕ → Result State Fault → List ℕ → List ℕ → List ℕ → List ℕ → Type 0
LineRead l n s ds ls rs ms r es ks qs ns =
    (f : File) → Holding s f ds ls rs ms → After n (R.key_of l) (R.line_taken (number s.stage) f l) r es ks qs ns

-- what the test of the bytes tells: the answer where it is a fault, and else that they are good
abbrev pub BytesTold : {A : Type 0} → Text → Result A Fault → Type 0
BytesTold bytes r = MatchResult r (λ x. (length bytes ≤ max_bytes) × (bad_line 1 false bytes ≡ None)) λ e. Err e ≡ answer_of (R.read_of bytes)

-- the answer behind the last line, in a state
unfoldable pub ended_in : State → ℕ → Result Read Fault
ended_in s n = cond (eqb (number s.stage) 5) (Ok (record { left = s.left; right = s.right; steps = s.steps })) (Err (fault 4 n))

-- what the reading of some lines answers, and what then stands in the slices where it is a file
pub record Found (o : R.Reading) (r : Result Read Fault) (ds ls rs ms : List ℕ) : Type 0 where
  pub answer : r ≡ answer_of o
  pub words : (f : File) → o ≡ R.read f → (ds ≡ declarations_of f) × (ls ≡ padded f.left) × (rs ≡ padded f.right) × (ms ≡ steps_of f)

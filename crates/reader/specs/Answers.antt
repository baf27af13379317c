-- The answer of the reading of a file, and every word of the four slices that it is lent: for declarations, the two terms and the steps, as functions for the code to equal. The relation to
-- believe of what is read is `Written` of `format` Files, and of its words what `format` Kept says.
use Rattle.std.specs.Prelude.{◌≡◌, Bool, ◌&&◌, List, ℕ, eqb, length, replicate, Result, Ok, Err}
use Rattle.std.proofs.Math.Bool.{cond}
use Rattle.term.specs.Terms.{max_words}
use Rattle.declarations.specs.Declarations.{size}
use Rattle.format.specs.Files.{File}
use Rattle.format.specs.Reading.{Reading, fault, read, read_of}
use Rattle.format.specs.Kept.{steps_size, declarations_of, padded, steps_of}
use Rattle.reader.specs.declared.faults.Fault.{Fault}
use Rattle.reader.specs.declared.files.Read.{Read}

-- a code with its line
abbrev pub read_refusal : ℕ → ℕ → Result Read Fault
read_refusal code at = Err (record { code = code; at = at })

-- what was read: its lengths, and how many steps it has
unfoldable pub answer_of : Reading → Result Read Fault
answer_of (fault c n) = read_refusal c n
answer_of (read f) = Ok (record { left = length f.left; right = length f.right; steps = length f.steps })

-- the words that a file leaves, and zeros behind a fault
unfoldable pub slice : Reading → List ℕ → (File → List ℕ) → List ℕ
slice (fault c n) ws made = replicate (length ws) 0
slice (read f) ws made = made f

-- a slice of another size is refused with 1, as in a replay, and nothing is touched
unfoldable pub sized : List ℕ → List ℕ → List ℕ → List ℕ → Bool
sized ds left right steps = eqb (length ds) size && (eqb (length left) max_words && (eqb (length right) max_words && eqb (length steps) steps_size))

module _ (bytes ds left right steps : List ℕ) where
  unfoldable pub read_answer : Result Read Fault
  unfolding sized answer_of read_of
  read_answer = cond (sized ds left right steps) (answer_of (read_of bytes)) (read_refusal 1 0)

  unfoldable pub after : List ℕ → (File → List ℕ) → List ℕ
  unfolding sized slice read_of
  after ws made = cond (sized ds left right steps) (slice (read_of bytes) ws made) ws

-- what is answered, and what then stands in the four slices
pub record Done (bytes ds left right steps : List ℕ) (r : Result Read Fault) (ds' left' right' steps' : List ℕ) : Type 0 where
  pub answer : r ≡ read_answer bytes ds left right steps
  pub declarations : ds' ≡ after bytes ds left right steps ds declarations_of
  pub lefts : left' ≡ after bytes ds left right steps left λ f. padded f.left
  pub rights : right' ≡ after bytes ds left right steps right λ f. padded f.right
  pub moves : steps' ≡ after bytes ds left right steps steps steps_of

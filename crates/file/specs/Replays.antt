-- The replay of a file, as functions for the code to equal: its answer, and every word of both work slices. The relations to believe are `AcceptedFile` and `FileDecision` of `Files`,
-- and the demands say that the replay is so. Document 01, "What comes out, by whose doing".
use Rattle.std.specs.Prelude.{Bool, ◌&&◌, List, ℕ, eqb, length, replicate}
use Rattle.std.proofs.Math.Bool.{cond}
use Rattle.term.specs.Terms.{max_words}
use Rattle.format.specs.Files.{File}
use Rattle.format.specs.Reading.{Reading, fault, read, read_of}
use Rattle.format.specs.Kept.{declarations_of, padded, steps_of}
use Rattle.lent.specs.Lent.{Derivation, lent}
use Rattle.lent.specs.Faults as L
use Rattle.step.specs.declared.run.Answer as A
use Rattle.step.specs.Runs as R

-- "1 a work slice is not 4,096 words long. Other fields 0, lengths 0"; "Caused by the typist; step 0, .. lengths 0, side 0": 2 to 9, and at is the line
abbrev pub file_refusal : ℕ → ℕ → A.Answer
file_refusal code at = R.run_refusal (L.fault code 0 at)

-- what a file lends to the run
abbrev pub derivation_of : File → Derivation
derivation_of f = lent (declarations_of f) (padded f.left) (length f.left) (padded f.right) (length f.right) (steps_of f) (length f.steps)

-- a file that was read is the run of what it says
module _ (f : File) where
  abbrev pub run_of_file : A.Answer
  run_of_file = R.run_answer (derivation_of f)

  abbrev pub left_of_file : List ℕ
  left_of_file = R.left_after (derivation_of f)

  abbrev pub right_of_file : List ℕ
  right_of_file = R.right_after (derivation_of f)

unfoldable pub answered : Reading → A.Answer
answered (fault c n) = file_refusal c n
answered (read f) = run_of_file f

-- "both slices all zero" behind a fault of the file
unfoldable pub slice : Reading → (File → List ℕ) → List ℕ
slice (fault c n) made = replicate max_words 0
slice (read f) made = made f

unfoldable pub sized : List ℕ → List ℕ → Bool
sized left right = eqb (length left) max_words && eqb (length right) max_words

module _ (bytes left right : List ℕ) where
  unfoldable pub replay_answer : A.Answer
  unfolding sized answered read_of
  replay_answer = cond (sized left right) (answered (read_of bytes)) (file_refusal 1 0)

  -- "slices untouched" at 1
  unfoldable pub left_replayed : List ℕ
  unfolding sized slice read_of
  left_replayed = cond (sized left right) (slice (read_of bytes) left_of_file) left

  unfoldable pub right_replayed : List ℕ
  unfolding sized slice read_of
  right_replayed = cond (sized left right) (slice (read_of bytes) right_of_file) right

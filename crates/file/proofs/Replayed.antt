-- The whole replay by its cases: sizes, the reading, the run.
use mathlib.Core.Path.{◌≡◌, refl}
use mathlib.Core.Bool.{Bool, true, false, cond, and-eq-true_iff}
use mathlib.Core.List.{List}
use Prim.Native.Nat.{ℕ}
use borrow.Author.Tests.{eqb-true, eq-eqb}
use lib.Dec.{eqb}
use lib.ListN.{length}
use Rattle.term.specs.Terms.{max_words}
use Rattle.format.specs.Files.{File, Written}
use Rattle.format.specs.Reading.{Reading, fault, read, read_of}
use Rattle.format.proofs.Whole.{reads}
use Rattle.lent.proofs.Judging.{not-both}
use Rattle.step.proofs.RunTheorems.{decides}
use Rattle.file.specs.Replays.{file_refusal, derivation_of, run_of_file, left_of_file, right_of_file, answered, slice, sized, replay_answer, left_replayed, right_replayed}
use Rattle.file.specs.Files.{Sized, FileDecision, wrong_size, unread, replayed}
use Rattle.format.proofs.Codes.{fault-code}

sized_of : (left right : List ℕ) → Sized left right → sized left right ≡ true
unfolding sized
sized_of left right h = rw (eq-eqb _ _ h.0, eq-eqb _ _ h.1)

of_sized : (left right : List ℕ) → sized left right ≡ true → Sized left right
unfolding sized
of_sized left right e = let p = (and-eq-true_iff (eqb (length left) max_words) (eqb (length right) max_words)).0 e in (eqb-true _ _ p.0, eqb-true _ _ p.1)

-- by the outcome of the test and of the reading
module _ (bytes left right : List ℕ) (b : Bool) (r : Reading) (s : sized left right ≡ b) (e : read_of bytes ≡ r) where
  answer_by : replay_answer bytes left right ≡ cond b (answered r) (file_refusal 1 0)
  unfolding replay_answer
  answer_by = rw (← s, ← e)

  left_by : left_replayed bytes left right ≡ cond b (slice r left_of_file) left
  unfolding left_replayed
  left_by = rw (← s, ← e)

  right_by : right_replayed bytes left right ≡ cond b (slice r right_of_file) right
  unfolding right_replayed
  right_by = rw (← s, ← e)

module _ (bytes left right : List ℕ) where
  -- every answer
  decided_by : (b : Bool) (r : Reading) → sized left right ≡ b → read_of bytes ≡ r
      → FileDecision bytes left right (cond b (answered r) (file_refusal 1 0)) (cond b (slice r left_of_file) left) (cond b (slice r right_of_file) right)
  unfolding answered slice
  decided_by false r s e = wrong_size (λ h. not-both s (sized_of left right h))
  decided_by true (fault c n) s e = let k = fault-code bytes e in unread (of_sized left right s) e k.0 k.1
  decided_by true (read f) s e =
      replayed (of_sized left right s) ((reads bytes f).0 e) (decides (derivation_of f))

  pub decided : FileDecision bytes left right (replay_answer bytes left right) (left_replayed bytes left right) (right_replayed bytes left right)
  decided = rw (answer_by bytes left right _ _ refl refl, left_by bytes left right _ _ refl refl, right_by bytes left right _ _ refl refl) (decided_by _ _ refl refl)

  -- a file of the form
  module _ (f : File) (h : Sized left right) (w : Written bytes f) where
    pub answer_of_lem : replay_answer bytes left right ≡ run_of_file f
    unfolding answered
    answer_of_lem = answer_by bytes left right true (read f) (sized_of left right h) ((reads bytes f).1 w)

    pub left_of : left_replayed bytes left right ≡ left_of_file f
    unfolding slice
    left_of = left_by bytes left right true (read f) (sized_of left right h) ((reads bytes f).1 w)

    pub right_of : right_replayed bytes left right ≡ right_of_file f
    unfolding slice
    right_of = right_by bytes left right true (read f) (sized_of left right h) ((reads bytes f).1 w)

use mathlib.Core.Path.{refl, sym}
use native.Mathlib.Omega.{arith}
use Rattle.words.proofs.Runs.{laid_out, laid_copied}
use Rattle.words.proofs.append.Goals as goal
use Rattle.words.proofs.append.Goals.{then-out-at-via-then-out-at, then-out-at-via-else-out-at+then-out-at-2}

pub returns-then-out-at : goal.returns-then-out-at
returns-then-out-at c =
    elim c.then-out-at.branch [
      | then-out-at-via-then-out-at w ↦ (omega arith, sym (laid_out _ _ _ (omega arith)))
      | then-out-at-via-else-out-at+then-out-at-2 w ↦ (omega arith, sym (laid_out _ _ _ (omega arith)))
    ]

pub returns : goal.returns
returns c = (omega arith, laid_copied _ _ _ _ _ (omega arith) refl c.copy_words.ensures.1)

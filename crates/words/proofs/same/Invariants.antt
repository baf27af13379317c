-- The invariant: whether the first `i` words of both are the same.
use mathlib.Core.Path.{◌≡◌}
use lib.ListN.{take}
use Rattle.words.specs.Words.{same_words}
use Rattle.words.proofs.same.Given as goal

abbrev pub invariant-loop-i : goal.invariant-loop-i
invariant-loop-i l = l.alike ≡ same_words (take l.i l.a) (take l.i l.b)

-- The invariant: the first `i` words are those that are wanted, the others are as they were, and what is carried is the next one.
use mathlib.Core.Path.{◌≡◌}
use mathlib.Core.List.{◌∷◌, ◌++◌}
use lib.ListN.{take, drop, get_or}
use Rattle.words.proofs.put_first.Given as goal

abbrev pub invariant-loop-i : goal.invariant-loop-i
invariant-loop-i l = (l.row ≡ take l.i (l.word ∷ l.initial.row) ++ drop l.i l.initial.row) × (l.carried ≡ get_or (l.word ∷ l.initial.row) l.i 0)

-- The invariant: `level` and `parts` are what the words that were seen give.
use Rattle.std.proofs.Common.{map}
use Rattle.term.proofs.Levels.{Back}
use Rattle.term.proofs.parts.level_at.Given as goal

abbrev pub invariant-loop-word : goal.invariant-loop-word
invariant-loop-word l =
    (goal.iterator-loop-word).can_next l.word-iterator ×
    (goal.iterator-loop-word).is_finite l.word-iterator ×
    Back (map (λ w. w.now) l.yielded) l.level l.parts

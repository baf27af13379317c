-- The invariant: `deepest` is that of the first `k` words.
use mathlib.Core.Path.{◌≡◌}
use Rattle.term.specs.Code.Deepest.{deepest_in}
use Rattle.term.proofs.parts.deepest_of.Given as goal

abbrev pub invariant-loop-k : goal.invariant-loop-k
invariant-loop-k l = l.deepest ≡ deepest_in l.part l.k

-- The invariant: the sum asked for is what the walk comes to from here on.
use Rattle.shapes.proofs.Walks.{Walking}
use Rattle.shapes.proofs.binder_of.Given as goal

abbrev pub invariant-loop-i : goal.invariant-loop-i
invariant-loop-i l = Walking l.ws l.at l.a l.i l.parts l.left

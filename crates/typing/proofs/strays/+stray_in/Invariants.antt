-- The measure of the recursion is the budget. The loop's invariant: where a whole part begins here, the children passed so far have no stray part (`Passing`).
use Rattle.std.proofs.Common.{◌≤◌, length}
use Rattle.typing.proofs.Straying.{Passing}
use Rattle.typing.proofs.strays.+stray_in.Given as goal

abbrev pub decreases-stray_in : goal.decreases-stray_in
decreases-stray_in l = l.budget

abbrev pub invariant-loop-k : goal.invariant-loop-k
invariant-loop-k l = (l.next ≤ length l.ws) × Passing l.ws l.at l.bodies l.budget l.next l.k

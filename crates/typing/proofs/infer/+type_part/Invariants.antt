-- The measure of the recursion is the budget. The loop's invariant: the children passed so far have sorts, whose numbers are gathered, and the words of the first and the latest
-- stand on the stack (`Walks`), whatever trees the sums around it are over; its measure is how many are still to come.
use Rattle.typing.specs.Code.Chains.{budget_of, around_of}
use Rattle.typing.proofs.Walked.{Walks}
use Rattle.typing.proofs.infer.+type_part.Given as goal

abbrev pub decreases-type_part : goal.decreases-type_part
decreases-type_part l = budget_of l.within

abbrev pub invariant-loop-k : goal.invariant-loop-k
invariant-loop-k l = Walks l.ds l.ws (budget_of l.within) l.top l.head l.next l.k l.deepest l.g (around_of l.within) l.initial.stack l.stack

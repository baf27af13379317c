-- The child is found or the part is refused. The invariant: the summands before `next` are passed, and the node over each of them is written behind the sum's word.
-- The measure is what is left of the child.
use Prim.Native.Nat.{◌-◌}
use Rattle.families.proofs.Summands.{Passed}
use Rattle.families.proofs.spreading.spread.Given as goal

abbrev pub invariant-loop-next : goal.invariant-loop-next
invariant-loop-next l = Passed l.part.words.now l.k l.start l.end l.initial.out l.initial.done l.next l.out l.done

abbrev pub decreases-loop-next : goal.decreases-loop-next
decreases-loop-next l = l.end - l.next

-- The invariant: the class asked for is that of the part at hand, turned or not, with the budget that is left.
use Rattle.shapes.specs.Reading.{class_at}
use Rattle.shapes.proofs.Steps.{Turning}
use Rattle.shapes.proofs.class_of.Given as goal

abbrev pub invariant-loop : goal.invariant-loop
invariant-loop l = Turning l.ds l.ws l.budget l.counter l.at l.turned (class_at l.ds l.ws l.budget l.from)

-- The measure is the budget. Each way on is the definition at the tests that led to it.
use Rattle.shapes.proofs.+append_side.Given as goal

abbrev pub decreases-append_side : goal.decreases-append_side
decreases-append_side l = l.budget

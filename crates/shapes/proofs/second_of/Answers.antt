-- By the two tests.
use borrow.Author.Tests.{eq-eqb, ne_eqb}
use Rattle.shapes.specs.Reading.{second_of}
use Rattle.shapes.proofs.second_of.Goals as goal

pub returns-in-Right : goal.returns-in-Right
unfolding second_of
returns-in-Right c = rw (c.in-Right.is, eq-eqb _ 3 c.if-kind-eq3.true)

pub returns-in_default : goal.returns-in_default
unfolding second_of
returns-in_default c = rw (c.in-Right.is, ne_eqb _ 3 c.if-kind-eq3.false)

pub returns-in_default-2 : goal.returns-in_default-2
unfolding second_of
returns-in_default-2 c = rw c.in_default.is

-- The kind is a class from 3 on.
use native.Mathlib.Omega.{arith}
use Rattle.shapes.specs.Reading.{variable_class}
use Rattle.shapes.proofs.variable_class.Goals as goal

pub returns-in-0 : goal.returns-in-0
unfolding variable_class
returns-in-0 c = rw (← c.word_at.ensures, c.in-0.is)

pub returns-in-1 : goal.returns-in-1
unfolding variable_class
returns-in-1 c = rw (← c.word_at.ensures, c.in-1.is)

pub returns-in-2 : goal.returns-in-2
unfolding variable_class
returns-in-2 c = rw (← c.word_at.ensures, c.in-2.is)

pub returns-in_default : goal.returns-in_default
unfolding variable_class
returns-in_default c = rw (← c.word_at.ensures) (omega arith)

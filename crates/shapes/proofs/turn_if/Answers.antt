use Rattle.shapes.specs.Reading.{turned_if}
use Rattle.shapes.proofs.turn_if.Goals as goal

pub returns-else-turned : goal.returns-else-turned
unfolding turned_if
returns-else-turned c = rw c.if-turned.false

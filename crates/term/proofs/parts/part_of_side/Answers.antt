-- Each side's part is the first lookup's.
use Rattle.term.specs.Parts.{side}
use Rattle.term.proofs.parts.part_of_side.Goals as goal

pub returns-in-Left : goal.returns-in-Left
unfolding side
returns-in-Left c = rw c.in-Left.is c.part_at.ensures

pub returns-in-Right : goal.returns-in-Right
unfolding side
returns-in-Right c = rw c.in-Right.is c.part_at-in-Right.ensures

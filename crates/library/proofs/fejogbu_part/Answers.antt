-- What the lookup hands back, as its length and its depth.
use mathlib.Core.Path.{ap}
use lib.ListN.{length}
use Rattle.library.proofs.fejogbu_part.Goals as goal

pub returns : goal.returns
returns c = record { returned = ap length c.part_at-found.ensures.same; deep = c.part_at-found.ensures.depth }

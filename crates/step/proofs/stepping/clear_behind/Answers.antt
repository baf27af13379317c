-- What lies behind the new end is cleared as far as the old words went.
use Rattle.step.proofs.Putting.{clear_words}
use Rattle.step.proofs.stepping.clear_behind.Goals as goal

pub returns : goal.returns
returns c = let pre = c.requires in clear_words _ _ pre.1 pre.2 _ pre.0 _ c.clear_from.ensures

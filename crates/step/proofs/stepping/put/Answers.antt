-- What is copied stands over what the clearing left.
use Rattle.step.proofs.Putting.{put-words}
use Rattle.step.proofs.stepping.put.Goals as goal

pub returns : goal.returns
returns c =
    put-words _ _ _ c.requires.0 _ _ c.clear_behind.ensures c.append.ensures.1

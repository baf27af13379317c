-- What is handed out is what was asked for.
use Rattle.library.proofs.fejogbu_preview.Goals as goal

pub returns : goal.returns
returns c = rw c.preview_step.ensures at c.hand_out.ensures

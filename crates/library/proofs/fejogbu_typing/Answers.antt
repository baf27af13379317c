-- What is handed out is what was asked for.
use Rattle.library.proofs.fejogbu_typing.Goals as goal

pub returns : goal.returns
returns c = rw c.type_term.ensures at c.hand_out.ensures

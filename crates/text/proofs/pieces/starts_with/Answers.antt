use mathlib.Core.Path.{◌∙◌}
use Rattle.text.proofs.Scanned.{starts_is}
use Rattle.text.proofs.pieces.starts_with.Goals as goal

pub returns : goal.returns
returns c = c.starts_with.ensures.value ∙ starts_is _ _

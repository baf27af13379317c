-- There is room for the part.
use mathlib.Core.Path.{◌∙◌}
use Rattle.declarations.proofs.Put.{copied}
use Rattle.declarations.proofs.constructor.lay.Goals as goal

pub returns : goal.returns
returns c = c.append.ensures.1 ∙ copied _ _ _ c.requires

-- None of the words is the one.
use mathlib.Core.Path.{◌∙◌, ap}
use mathlib.Core.Bool.{not}
use Rattle.step.proofs.Conditions.{lacks_lem}
use Rattle.step.proofs.equations.is_without.Goals as goal

pub returns : goal.returns
returns c = let args = c.args in ap not c.contains.ensures.value ∙ lacks_lem args.word args.ws.now

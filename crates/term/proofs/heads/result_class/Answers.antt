-- `heads::result_class` meets its contract: the second digit of the head's line.
use mathlib.Core.Path.{◌∙◌}
use Rattle.term.proofs.Lines.{result-line}
use Rattle.term.proofs.heads.result_class.Goals as goal

pub returns : goal.returns
returns c = c.class_of.ensures ∙ result-line _ _ c.line_of.ensures

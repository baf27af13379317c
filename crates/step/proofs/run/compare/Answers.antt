-- The same, or the first difference.
use mathlib.Core.Path.{sym, ◌∙◌}
use Rattle.step.specs.Runs.{compared}
use Rattle.step.proofs.run.compare.Goals as goal

pub returns-then-same : goal.returns-then-same
unfolding compared
returns-then-same c = rw (sym c.same.ensures ∙ c.if-same.true)

pub returns : goal.returns
unfolding compared
returns c = rw (sym c.same.ensures ∙ c.if-same.false, c.first_difference.ensures)

use Rattle.cases.proofs.Slices.{filled-end, filled_put}
use Rattle.cases.proofs.input.fill.Goals as goal

pub returns-then-from-end : goal.returns-then-from-end
returns-then-from-end c = filled_put _ _ _ _ _ _ c.min-end.ensures c.if-from-end.true (c.fill.ensures.after (λ y h. h))

pub returns-else-from-end : goal.returns-else-from-end
returns-else-from-end c = filled-end _ _ _ _ _ c.min-end.ensures c.if-from-end.false

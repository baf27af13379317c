-- Right where the word says so.
use borrow.Author.Tests.{ne_eqb}
use Rattle.lent.specs.Lent.{side_in}
use Rattle.step.proofs.running.side_named.Goals as goal

pub returns-then-word-eq2 : goal.returns-then-word-eq2
unfolding side_in
returns-then-word-eq2 c = rw c.if-word-eq2.true

pub returns-else-word-eq2 : goal.returns-else-word-eq2
unfolding side_in
returns-else-word-eq2 c = rw (ne_eqb _ _ c.if-word-eq2.false)

-- Each answer is what its test says.
use borrow.Author.Tests.{eq-eqb, ne_eqb}
use Rattle.families.proofs.collecting.factor.Goals as goal

pub returns-then-x-start : goal.returns-then-x-start
returns-then-x-start c = rw (eq-eqb c.args.x c.args.start c.if-x-start.true)

pub returns : goal.returns
returns c = rw (ne_eqb c.args.x c.args.start c.if-x-start.false)

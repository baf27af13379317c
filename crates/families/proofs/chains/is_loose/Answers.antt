-- The two tests.
use borrow.Author.Tests.{eq-eqb, ne_eqb}
use Rattle.families.proofs.chains.is_loose.Goals as goal

pub returns-then-word-eq-DELTA : goal.returns-then-word-eq-DELTA
returns-then-word-eq-DELTA c = rw (eq-eqb _ _ c.if-word-eq-DELTA.true)

pub returns : goal.returns
returns c = rw (ne_eqb _ _ c.if-word-eq-DELTA.false) c.is_chain.ensures

-- The tests in their order.
use borrow.Author.Tests.{ne_eqb}
use Rattle.lent.specs.Faults.{early_code}
use Rattle.lent.proofs.faults.terms_fault.Goals as goal
use Rattle.lent.proofs.faults.terms_fault.Goals.{then-left-eq1-via-then-left-eq1, then-left-eq1-via-else-left-eq1+then-right-eq1}
use Rattle.lent.proofs.faults.terms_fault.Goals.{then-left-eq8-via-then-left-eq8, then-left-eq8-via-else-left-eq8+then-right-eq8}

pub returns-then-left-eq1 : goal.returns-then-left-eq1
unfolding early_code
returns-then-left-eq1 c = rw c.unnamed.ensures (elim c.then-left-eq1.branch [
  | then-left-eq1-via-then-left-eq1 w ↦ rw w.if-left-eq1.true
  | then-left-eq1-via-else-left-eq1+then-right-eq1 w ↦ rw (ne_eqb _ _ w.if-left-eq1.false, w.if-right-eq1.true)
])

pub returns-then-left-eq7 : goal.returns-then-left-eq7
unfolding early_code
returns-then-left-eq7 c = rw (c.unnamed-then-left-eq7.ensures, ne_eqb _ _ c.if-right-eq1.false, c.if-left-eq7.true)

pub returns-then-left-eq8 : goal.returns-then-left-eq8
unfolding early_code
returns-then-left-eq8 c = rw (c.unnamed-then-left-eq8.ensures, ne_eqb _ _ c.if-left-eq1.false, ne_eqb _ _ c.if-right-eq1.false, ne_eqb _ _ c.if-left-eq7.false) (elim c.then-left-eq8.branch [
  | then-left-eq8-via-then-left-eq8 w ↦ rw w.if-left-eq8.true
  | then-left-eq8-via-else-left-eq8+then-right-eq8 w ↦ rw (ne_eqb _ _ w.if-left-eq8.false, w.if-right-eq8.true)
])

pub returns : goal.returns
unfolding early_code
returns c = rw (ne_eqb _ _ c.if-left-eq1.false, ne_eqb _ _ c.if-right-eq1.false, ne_eqb _ _ c.if-left-eq7.false, ne_eqb _ _ c.if-left-eq8.false, ne_eqb _ _ c.if-right-eq8.false)

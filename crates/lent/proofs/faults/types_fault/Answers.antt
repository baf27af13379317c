-- The tests in their order.
use mathlib.Core.Path.{sym, ◌∙◌, ap}
use borrow.Author.Tests.{eq-eqb, ne_eqb}
use Rattle.lent.specs.Faults.{at_fault, types_fault}
use Rattle.lent.proofs.faults.types_fault.Goals as goal

pub returns-then-left-ne0 : goal.returns-then-left-ne0
unfolding types_fault
returns-then-left-ne0 c = rw (ne_eqb _ _ c.if-left-ne0.true, ne_eqb _ _ c.if-left-ne0.true)

pub returns-then-right-ne0 : goal.returns-then-right-ne0
unfolding types_fault
returns-then-right-ne0 c = rw (eq-eqb _ _ c.if-left-ne0.false, ne_eqb _ _ c.if-right-ne0.true, ne_eqb _ _ c.if-right-ne0.true)

pub returns-then-not-same_type : goal.returns-then-not-same_type
unfolding types_fault
returns-then-not-same_type c =
    let differ = sym c.same_type.ensures ∙ c.if-not-same_type.true in
    rw (eq-eqb _ _ c.if-left-ne0.false, eq-eqb _ _ c.if-right-ne0.false, differ) (ap at_fault c.unnamed.ensures)

pub returns : goal.returns
unfolding types_fault
returns c =
    let alike = sym c.same_type.ensures ∙ c.if-not-same_type.false in
    rw (eq-eqb _ _ c.if-left-ne0.false, eq-eqb _ _ c.if-right-ne0.false, alike)

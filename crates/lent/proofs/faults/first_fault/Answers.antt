-- The tests in their order.
use mathlib.Core.Path.{sym, ◌∙◌}
use Rattle.std.proofs.lemmas.Result.{err_from_is_err_and}
use Rattle.lent.proofs.Tests.{early_fault, order_fault, late_fault}
use Rattle.lent.proofs.faults.first_fault.Goals as goal

pub returns-in_err-terms_fault : goal.returns-in_err-terms_fault
returns-in_err-terms_fault c =
    let p = err_from_is_err_and c.from_residual.result c.from_residual.ensures.1 in
    rw (p.1, p.2) (early_fault _ _ _ c.type_term-of_left.ensures c.type_term-of_right.ensures (sym c.in_err-terms_fault.ensures))

pub returns-in_err-steps_fault : goal.returns-in_err-steps_fault
returns-in_err-steps_fault c =
    let p = err_from_is_err_and c.from_residual-in_err-steps_fault.result c.from_residual-in_err-steps_fault.ensures.1 in
    rw (p.1, p.2) (order_fault _ _ _ c.type_term-of_left.ensures c.type_term-of_right.ensures (sym c.in_ok-terms_fault.ensures) (sym c.in_err-steps_fault.ensures))

pub returns : goal.returns
returns c =
    c.types_fault.ensures
    ∙ late_fault _ _ _ c.type_term-of_left.ensures c.type_term-of_right.ensures (sym c.in_ok-terms_fault.ensures) (sym c.in_ok-steps_fault.ensures)

-- The room is told first, and then whether what is put fits; where both are so, it is short.
use mathlib.Core.Path.{refl, sym, ◌∙◌}
use native.Mathlib.Omega.{arith}
use Rattle.std.proofs.lemmas.Result.{err_from_is_err_and}
use Rattle.declarations.specs.Put.{answer, leaves}
use Rattle.declarations.proofs.Put.{room-done, variable_few}
use Rattle.declarations.proofs.constructor.put_variable.Goals as goal

pub bounds-ds-0 : goal.bounds-ds-0
bounds-ds-0 c = let r = room-done _ 2 (sym c.in_ok-room_for.ensures) in omega arith

pub add_variable-requires : goal.add_variable-requires
add_variable-requires c =
    let r = room-done _ 2 (sym c.in_ok-room_for.ensures) in
    let short = variable_few _ _ _ _ (sym c.is_variable.ensures ∙ c.if-not-is_variable.false) in omega arith

pub returns-in_err-room_for : goal.returns-in_err-room_for
unfolding answer leaves
returns-in_err-room_for c =
    let p = err_from_is_err_and c.from_residual.result c.from_residual.ensures.1 in
    record { value = rw (p.1, p.2, ← c.in_err-room_for.ensures); ds_after = rw p.1 }

pub returns-then-not-is_variable : goal.returns-then-not-is_variable
unfolding answer leaves
returns-then-not-is_variable c = record { value = rw (← c.in_ok-room_for.ensures, ← c.from.ensures, sym c.is_variable.ensures ∙ c.if-not-is_variable.true); ds_after = refl }

pub returns : goal.returns
unfolding answer leaves
returns c = record { value = rw (← c.in_ok-room_for.ensures, ← c.from.ensures, sym c.is_variable.ensures ∙ c.if-not-is_variable.false); ds_after = c.add_variable.ensures }

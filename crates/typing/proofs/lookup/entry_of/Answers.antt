-- The entry that is looked at lies inside the declarations.
use native.Mathlib.Omega.{arith}
use Rattle.typing.proofs.Putting.{good-size, basis_entry_lem, variable_entry_lem}
use Rattle.typing.proofs.lookup.entry_of.Goals as goal

pub bounds-ds-1 : goal.bounds-ds-1
bounds-ds-1 c = omega (arith, good-size _ c.requires)

pub basis_entry-requires : goal.basis_entry-requires
basis_entry-requires c = let r = basis_entry_lem _ _ (c.requires, c.if-name-ds.true) in (r.0, omega (arith, r.1))

pub bounds-ds-2 : goal.bounds-ds-2
bounds-ds-2 c = omega (arith, good-size _ c.requires)

pub variable_entry-requires : goal.variable_entry-requires
variable_entry-requires c = let r = variable_entry_lem _ _ (c.requires, c.if-name-ds-2.true) in (r.0, omega (arith, r.1))

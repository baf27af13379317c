-- Two stores and the index behind them are the run of stores that the definition names.
use mathlib.Core.Path.{refl, ◌∙◌}
use native.Mathlib.Omega.{arith}
use lib.ListN.{length-set}
use Rattle.declarations.proofs.Put.{basis_laid}
use Rattle.declarations.proofs.constructor.add_basis.Goals as goal

pub bounds-ds-at : goal.bounds-ds-at
bounds-ds-at c = simp length-set (omega arith)

pub lay-requires : goal.lay-requires
lay-requires c = simp length-set (omega arith)

pub shape_of-ds : goal.shape_of-ds
shape_of-ds c = c.lay.auto.ds ∙ simp length-set

pub returns : goal.returns
returns c = c.lay.ensures ∙ rw c.from.ensures (basis_laid _ _ _ refl)

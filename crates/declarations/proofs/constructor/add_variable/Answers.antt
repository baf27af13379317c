-- The count, the entry's first words and the two indices are the runs of stores that the definition names.
use mathlib.Core.Path.{refl, ◌∙◌}
use native.Mathlib.Omega.{arith}
use lib.ListN.{length-set}
use Rattle.declarations.proofs.Put.{variable_laid}
use Rattle.declarations.proofs.constructor.add_variable.Goals as goal

pub lay-requires : goal.lay-requires
lay-requires c = simp length-set (omega arith)

pub lay-requires-2 : goal.lay-requires-2
lay-requires-2 c = omega (arith, simp length-set at c.lay.auto.ds)

pub lay-requires-3 : goal.lay-requires-3
lay-requires-3 c =
    omega (arith, c.lay-2.auto.ds, simp length-set at c.lay.auto.ds)

pub shape_of-ds : goal.shape_of-ds
shape_of-ds c =
    c.lay-3.auto.ds ∙ c.lay-2.auto.ds ∙ c.lay.auto.ds ∙ simp length-set

pub returns : goal.returns
returns c =
    c.lay-3.ensures ∙ rw (c.lay-2.ensures, c.lay.ensures, c.from.ensures) (variable_laid _ _ _ _ _ refl)

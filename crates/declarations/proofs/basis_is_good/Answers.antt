-- The length is tested first, as in the definition, and then the words that it takes in.
use mathlib.Core.Path.{◌∙◌}
use borrow.Author.Tests.{le-leb, lt-leb}
use Rattle.declarations.specs.Declarations.{good_basis, good_index}
use Rattle.declarations.proofs.basis_is_good.Goals as goal

pub returns-in_default : goal.returns-in_default
unfolding good_basis good_index
returns-in_default c = rw (lt-leb _ _ c.in_default.ensures)

pub returns : goal.returns
unfolding good_basis good_index
returns c = let index = c.in-Some.ensures in c.is_index.ensures ∙ rw (c.from.ensures, le-leb _ _ index.0, index.1)

-- The lengths are tested first, as in the definition, and then the words that they take in.
use mathlib.Core.Path.{◌∙◌}
use borrow.Author.Tests.{le-leb, lt-leb}
use Rattle.declarations.specs.Declarations.{good_variable}
use Rattle.declarations.proofs.variable_is_good.Goals as goal

pub returns-in_default : goal.returns-in_default
unfolding good_variable
returns-in_default c = rw (lt-leb _ _ c.in_default.ensures)

pub returns-in_default-index_at : goal.returns-in_default-index_at
unfolding good_variable
returns-in_default-index_at c = let first = c.in-Some.ensures in rw (le-leb _ _ first.0, lt-leb _ _ c.in_default-index_at.ensures)

pub returns : goal.returns
unfolding good_variable
returns c =
    let first = c.in-Some.ensures in
    let second = c.in-Some-index_at.ensures in
    c.is_variable.ensures ∙ rw (c.from.ensures, le-leb _ _ first.0, le-leb _ _ second.0, first.1, second.1)

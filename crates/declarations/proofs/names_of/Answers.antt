-- The size picks the case, as in the definition.
use borrow.Author.Tests.{eq-eqb, ne_eqb}
use Rattle.declarations.specs.Declarations.{names_in}
use Rattle.declarations.proofs.names_of.Goals as goal

pub returns-in_default : goal.returns-in_default
unfolding names_in
returns-in_default c = rw (ne_eqb _ _ c.in_default.ensures.cases)

pub returns : goal.returns
unfolding names_in
returns c = let whole = c.in-Some.ensures.cases in rw (c.from.ensures, c.from-2.ensures, c.from-3.ensures, eq-eqb _ _ whole.long, ← whole.same)

-- The tests are the definition's in their order; the stores are a clearing and the count.
use mathlib.Core.Path.{refl}
use borrow.Author.Tests.{eq-eqb, ne_eqb, le-leb, lt-leb}
use Rattle.declarations.specs.Put.{leaves, start_answer, started}
use Rattle.declarations.proofs.Kept.{zeroed}
use Rattle.declarations.proofs.constructor.start.Goals as goal

pub returns-then-ds-ne-SIZE : goal.returns-then-ds-ne-SIZE
unfolding leaves start_answer
returns-then-ds-ne-SIZE c = (rw (ne_eqb _ _ c.if-ds-ne-SIZE.true), refl)

pub returns-then-types-gt32 : goal.returns-then-types-gt32
unfolding leaves start_answer
returns-then-types-gt32 c = (rw (eq-eqb _ _ c.if-ds-ne-SIZE.false, lt-leb _ _ c.if-types-gt32.true), refl)

pub returns : goal.returns
unfolding leaves start_answer started
returns c = (rw (eq-eqb _ _ c.if-ds-ne-SIZE.false, le-leb _ _ c.if-types-gt32.false), rw (c.fill.ensures.after (λ y h. h), zeroed))

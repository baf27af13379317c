-- Each answer is the first condition of the definition that fails, or the last one.
use mathlib.Core.Path.{sym, ◌∙◌}
use borrow.Author.Tests.{eq-eqb, ne_eqb}
use Rattle.declarations.specs.Put.{room}
use Rattle.declarations.proofs.constructor.room_for.Goals as goal

pub returns-then-ds-ne-SIZE : goal.returns-then-ds-ne-SIZE
unfolding room
returns-then-ds-ne-SIZE c = rw (ne_eqb _ _ c.if-ds-ne-SIZE.true)

pub returns-then-not-are_counts : goal.returns-then-not-are_counts
unfolding room
returns-then-not-are_counts c = rw (eq-eqb _ _ c.if-ds-ne-SIZE.false, sym c.are_counts.ensures ∙ c.if-not-are_counts.true)

pub returns-then-ds-k-eq32 : goal.returns-then-ds-k-eq32
unfolding room
returns-then-ds-k-eq32 c = rw (eq-eqb _ _ c.if-ds-ne-SIZE.false, sym c.are_counts.ensures ∙ c.if-not-are_counts.false, eq-eqb _ _ c.if-ds-k-eq32.true)

pub returns : goal.returns
unfolding room
returns c = rw (eq-eqb _ _ c.if-ds-ne-SIZE.false, sym c.are_counts.ensures ∙ c.if-not-are_counts.false, ne_eqb _ _ c.if-ds-k-eq32.false)

-- The key, whether it may come next, and its value.
use mathlib.Core.Path.{refl, sym, ◌∙◌}
use Rattle.format.specs.Reading.{fits}
use Rattle.reader.proofs.Keyed.{line_by}
use Rattle.reader.proofs.Held.{disordered, line_after}
use Rattle.reader.proofs.walking.take_line.Goals as goal

pub returns-in_default : goal.returns-in_default
unfolding fits
returns-in_default c =
    let key = c.in_default.ensures in (λ f h. rw (line_by _ f _ key refl, key) (disordered _ _ f _ refl c.refused.ensures))

pub returns-then-not-fits : goal.returns-then-not-fits
returns-then-not-fits c =
    let key = c.in-Some.ensures in
    let fit = sym c.fits.ensures ∙ c.if-not-fits.true in
    λ f h. rw (line_by _ f _ key.0 key.1, key.0) (disordered _ _ f _ fit c.refused-then-not-fits.ensures)

pub returns : goal.returns
returns c =
    let key = c.in-Some.ensures in
    let fit = sym c.fits.ensures ∙ c.if-not-fits.false in
    let told = c.take_value.ensures in
    λ f h. rw (line_by _ f _ key.0 key.1, key.0) (line_after _ _ f _ fit h (told f h fit))

-- A number, and its limit.
use mathlib.Core.Path.{sym, ◌∙◌}
use Rattle.text.specs.Numbers.{told}
use Rattle.text.proofs.Told.{none-limited, part_is}
use Rattle.text.proofs.tokens.read_part.Goals as goal

pub returns-in_err-n : goal.returns-in_err-n
unfolding told
returns-in_err-n c = c.from_residual.ensures ∙ rw (none-limited 255 _ (sym c.read_number.ensures ∙ c.in_err-n.was))

pub returns : goal.returns
returns c = c.ok.ensures.value ∙ part_is _ _ (sym c.read_number.ensures ∙ c.in_ok-n.was) c.try_from.ensures

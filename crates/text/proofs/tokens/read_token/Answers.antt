-- The head, and what stands behind the colon if there is one.
use mathlib.Core.Path.{sym, ◌∙◌}
use Rattle.text.specs.Numbers.{told}
use Rattle.text.proofs.Told.{told-none, told_same}
use Rattle.text.proofs.Tokened.{bare-none, paired_none, half_paired, token-bare, token-paired}
use Rattle.text.proofs.tokens.read_token.Goals as goal

pub returns-in_err-read_part : goal.returns-in_err-read_part
unfolding told
returns-in_err-read_part c =
    c.from_residual.ensures
    ∙ rw (token-bare _ (sym c.find.ensures ∙ c.in_default.is), told-none _ _ (sym c.read_part.ensures ∙ c.in_err-read_part.was), bare-none)

pub returns-in_default : goal.returns-in_default
returns-in_default c =
    c.bare_token.ensures
    ∙ rw (token-bare _ (sym c.find.ensures ∙ c.in_default.is), told_same _ (sym c.read_part.ensures ∙ c.in_ok-read_part.was))

pub returns-in_err-head : goal.returns-in_err-head
unfolding told
returns-in_err-head c =
    c.from_residual-in_err-head.ensures
    ∙ rw (token-paired _ (sym c.find.ensures ∙ c.in-Some.is), told-none _ _ (sym c.read_part-2.ensures ∙ c.in_err-head.was), paired_none)

pub returns-in_err-part : goal.returns-in_err-part
unfolding told
returns-in_err-part c =
    c.from_residual-in_err-part.ensures
    ∙ rw (token-paired _ (sym c.find.ensures ∙ c.in-Some.is), half_paired _ (told-none _ _ (sym c.read_part-3.ensures ∙ c.in_err-part.was)))

pub returns : goal.returns
returns c =
    c.paired_token.ensures
    ∙ rw (
      token-paired _ (sym c.find.ensures ∙ c.in-Some.is),
      told_same _ (sym c.read_part-2.ensures ∙ c.in_ok-head.was),
      told_same _ (sym c.read_part-3.ensures ∙ c.in_ok-part.was),
    )

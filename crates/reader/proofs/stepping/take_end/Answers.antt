-- The number of the last line against the steps present, of which there are no more than 1,000.
use mathlib.Core.Path.{sym, ◌∙◌}
use native.Mathlib.Omega.{arith}
use Rattle.reader.proofs.Fields.{no_end, other_end, same_end}
use Rattle.reader.proofs.stepping.take_end.Goals as goal

pub returns-in_default : goal.returns-in_default
returns-in_default c = λ f n. no_end f _ _ (sym c.read_number.ensures ∙ c.in_default.is) c.refused.ensures

pub returns-then-n-k : goal.returns-then-n-k
returns-then-n-k c =
    let told = sym c.read_number.ensures ∙ c.in-Some.is in
    λ f n. other_end f _ _ c.requires n told c.if-n-k.true c.refused-then-n-k.ensures

pub returns : goal.returns
returns c =
    let told = sym c.read_number.ensures ∙ c.in-Some.is in
    λ f n. same_end f _ _ c.requires n told (omega arith)

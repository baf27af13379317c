-- By how many bytes there are.
use native.Mathlib.Omega.{arith}
use Rattle.text.proofs.Scanned.{begun_none, begun_one, begun_more}
use Rattle.text.proofs.numbers.is_well_begun.Goals as goal

pub returns-in-empty : goal.returns-in-empty
returns-in-empty c = begun_none _ (omega arith)

pub returns-in-len1 : goal.returns-in-len1
returns-in-len1 c = begun_one _ (omega arith)

pub returns-in-len1-up : goal.returns-in-len1-up
returns-in-len1-up c = begun_more _ c.in-len1-up.len_at_least

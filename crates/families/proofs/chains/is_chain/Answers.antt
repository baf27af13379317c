-- The typing rules have three heads of sums and products of many.
use mathlib.Core.Path.{◌∙◌}
use Rattle.families.proofs.Heads.{sum-heads}
use Rattle.families.proofs.chains.is_chain.Goals as goal

pub returns : goal.returns
returns c = c.is_sum.ensures ∙ rw c.from.ensures (sum-heads _)

-- By the family of the row.
use mathlib.Core.Path.{◌∙◌}
use Rattle.families.proofs.Depths.{row_keeps, swaps_kept, others_kept}
use Rattle.families.proofs.keeps_depth.Goals as goal

pub returns-in-Swap : goal.returns-in-Swap
returns-in-Swap c = swaps_kept _ c.in-Swap.is ∙ row_keeps _ _ c.row_of.ensures

pub returns-in_default : goal.returns-in_default
returns-in_default c = others_kept _ c.in_default.not-Swap ∙ row_keeps _ _ c.row_of.ensures

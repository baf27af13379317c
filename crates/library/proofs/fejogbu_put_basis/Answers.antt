-- The constructor's answer, by its number.
use mathlib.Core.Path.{ap, ◌∙◌}
use Rattle.library.specs.Numbers.{put_number}
use Rattle.library.proofs.Tests.{left_by}
use Rattle.library.proofs.fejogbu_put_basis.Goals as goal

pub returns : goal.returns
returns c =
    let r = c.put_basis.ensures in
    record { returned = c.put_number.ensures ∙ ap put_number r.value; declared = left_by _ _ _ _ _ r.value r.ds_after }

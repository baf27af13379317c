-- The constructor's answer, by its number.
use mathlib.Core.Path.{ap, ◌∙◌}
use Rattle.library.specs.Numbers.{put_number}
use Rattle.library.proofs.Tests.{left_by}
use Rattle.library.proofs.fejogbu_start_declarations.Goals as goal

pub returns : goal.returns
returns c =
    let r = c.start.ensures in
    record { returned = c.put_number.ensures ∙ ap put_number r.0; declared = left_by _ _ _ _ _ r.0 r.1 }

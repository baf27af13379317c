-- A part is the run up to its end.
use Rattle.words.proofs.Runs.{added_as, appended}
use Rattle.shapes.proofs.Steps.{part-run}
use Rattle.shapes.proofs.append_part.Goals as goal

pub returns : goal.returns
returns c = added_as (part-run _ _ c.part_end.ensures) (appended (c.append_run.ensures.value, c.append_run.ensures.out_after))

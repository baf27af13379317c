-- By the stage.
use Rattle.reader.specs.declared.keys.Stage.TheVariants.{End}
use Rattle.reader.specs.Code.Holding.{ended_in}
use Rattle.reader.proofs.Keyed.{other_stage}
use Rattle.reader.proofs.files.ended_in.Goals as goal

pub returns-in-End : goal.returns-in-End
unfolding ended_in
returns-in-End c = rw c.in-End.is

pub returns-in_default : goal.returns-in_default
unfolding ended_in
returns-in_default c = rw (other_stage c.args.s.stage End c.in_default.not-End, c.refused.ensures)

use Rattle.term.proofs.Rows.{leaves-more}
use Rattle.term.proofs.ahead.are_variables.Goals as goal

pub loop-word-preserved : goal.loop-word-preserved
loop-word-preserved c = leaves-more c.args.row.now c.loop-word.word-index c.loop-word.invariant

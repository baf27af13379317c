-- A word and two runs, one behind the other.
use Rattle.words.proofs.Runs.{added_both, to_end, appended, added_as}
use Rattle.families.proofs.chains.append_without.Goals as goal

pub returns : goal.returns
returns c =
    let args = c.args in
    added_both (appended c.append_word-a.ensures) (added_both (appended (c.append_run-b.ensures.value, c.append_run-b.ensures.out_after)) (added_as (to_end args.ws.now args.from) (appended (c.append_run.ensures.value, c.append_run.ensures.out_after))))

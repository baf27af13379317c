-- The reading, and the run of what was read.
use mathlib.Core.Path.{refl}
use Rattle.file.proofs.Performed.{refused, ran}
use Rattle.file.proofs.Clauses.{behind, exactly, named, equal_sides, equal_ends}
use Rattle.file.proofs.replay.replay.Goals as goal

pub returns-in-Err : goal.returns-in-Err
returns-in-Err c =
    let x = refused _ _ _ _ _ refl refl c.in-Err.ensures refl c.refused_with.ensures in
    record { answer = x.answer; slices = (x.left_slice, x.right_slice); demand1 = behind x; demand2 = exactly x; otherwise = named x; demand3 = equal_sides _; keeps = equal_ends x }

pub returns-in-Ok : goal.returns-in-Ok
returns-in-Ok c =
    let run = c.run_steps.ensures in
    let x = ran _ _ _ _ _ refl refl c.in-Ok.ensures refl run.0 run.1 run.2 in
    record { answer = x.answer; slices = (x.left_slice, x.right_slice); demand1 = behind x; demand2 = exactly x; otherwise = named x; demand3 = equal_sides _; keeps = equal_ends x }

-- The three demands hold.
use Rattle.step.proofs.Theorems.{lists}
use Rattle.step.proofs.RunTheorems.{decides}
use Rattle.file.specs.Demands.{Demand1, Demand2, Demand3}
use Rattle.file.proofs.Behind.{run-behind, run_untouched}
use Rattle.file.proofs.Single.{step_zeros, step_untouched}
use Rattle.file.proofs.Sides.{context, moves}
use Rattle.file.proofs.Decided.{run-code}
use Rattle.file.proofs.Replayed.{decided}
use Rattle.file.proofs.Answered.{zeros, untouched}
use Rattle.file.proofs.Accepting.{accepts, otherwise}
use Rattle.file.proofs.Keeping.{chooses, chooses_lent, exist, exist_lent, proves, keeps}

pub demand1 : Demand1
demand1 = record {
  answered = decided;
  replay_zeros = λ bytes left right. zeros (decided bytes left right);
  replay_untouched = λ bytes left right. untouched (decided bytes left right);
  step_zeros = step_zeros;
  step_untouched = step_untouched;
  run_zeros = λ d. run-behind (decides d);
  run_untouched = λ d. run_untouched (decides d);
}

pub demand2 : Demand2
demand2 = record {
  accepts = accepts;
  otherwise = otherwise;
  codes = λ bytes left right f h w. run-code f w.order (otherwise bytes left right f h w);
  declares = λ bytes f w. context f w.order;
  lends = λ bytes f w. moves f w.order;
}

pub demand3 : Demand3
demand3 = record { chooses = chooses; chooses_lent = chooses_lent; exist = exist; exist_lent = exist_lent; proves = proves; keeps = keeps; lists = lists }

-- The numbers as the slice wants them, with those of the kind.
use Rattle.library.proofs.put_numbers.Goals as goal

pub returns : goal.returns
returns c = cc

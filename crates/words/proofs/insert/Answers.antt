use mathlib.Core.Path.{sym}
use native.Mathlib.Omega.{arith}
use Rattle.words.proofs.Runs.{no_room, laid_first}
use Rattle.words.proofs.insert.Goals as goal

pub returns-then-n-saturating_sub : goal.returns-then-n-saturating_sub
returns-then-n-saturating_sub c = let a = c.args in laid_first a.ws.now a.at a.word a.n _ _ (omega arith) (omega arith) c.put_first.ensures

pub returns-else-n-saturating_sub : goal.returns-else-n-saturating_sub
returns-else-n-saturating_sub c = sym (no_room _ _ _ _ (omega arith))

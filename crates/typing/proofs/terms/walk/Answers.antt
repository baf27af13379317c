-- No sum is around the whole of the words.
use native.Mathlib.Omega.{arith}
use borrow.Author.Rules.{rules}
use Rattle.typing.proofs.Deciding.{typable_top, found_top}
use Rattle.typing.proofs.terms.walk.Goals as goal

pub type_part-requires : goal.type_part-requires
type_part-requires c = typable_top _ _ _ (search rules) (omega arith) (omega arith)

pub returns-then-n-le10 : goal.returns-then-n-le10
returns-then-n-le10 c = found_top _ c.type_part.ensures

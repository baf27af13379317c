-- No sum is around the whole of the words, and those that were found are at the bottom.
use native.Mathlib.Omega.{arith}
use Prim.Native.Nat.{ℕ}
use lib.ListN.{length-replicate}
use Rattle.typing.proofs.Deciding.{typable_top, found_top, found-room, found_moved}
use Rattle.typing.proofs.terms.walk_on.Goals as goal

pub type_part-found-requires : goal.type_part-found-requires
type_part-found-requires g c = typable_top _ _ _ c.requires.0 (omega (arith, length-replicate {A = ℕ})) (omega (arith, length-replicate {A = ℕ}))

pub returns : goal.returns
returns g c = let f = found_top c.args.ds.now c.type_part-found.ensures in found_moved f _ (found-room f 126 (omega (arith, length-replicate {A = ℕ}))) c.requires.3 c.copy_words.ensures.1

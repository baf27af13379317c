-- The invariant: what is left of the whole row is the row of the text that is left.
use mathlib.Core.Path.{◌≡◌}
use mathlib.Core.Bool.{false}
use Prim.Native.Nat.{◌+◌, ◌≤◌}
use lib.ListN.{length}
use Rattle.text.specs.Pieces.{space, parted}
use Rattle.text.specs.Numbers.{told}
use Rattle.text.specs.Tokens.{tokens_in, words_of, stored}
use Rattle.text.proofs.Tokened.{left, counted}
use Rattle.text.proofs.tokens.read_tokens.Given as goal

abbrev pub invariant-loop-piece : goal.invariant-loop-piece
invariant-loop-piece l =
    (l.piece-iterator.done ≡ false → l.n + length l.piece-iterator.rest.now ≤ length l.text)
    × (told length (tokens_in l.text) ≡ counted l.n (words_of (left l.piece-iterator.done l.piece-iterator.rest.now)))
    × (stored (parted space l.text) l.initial.out 0 ≡ stored (left l.piece-iterator.done l.piece-iterator.rest.now) l.out l.n)

-- A run laid over one of its own length is that run.
use mathlib.Core.Path.{◌≡◌}
use mathlib.Core.List.{List, [], append-nil}
use Prim.Native.Nat.{ℕ}
use native.Mathlib.Omega.{arith}
use lib.ListN.{length, take, drop}
use lib.Seq.{take_all, drop-length}
use Rattle.words.specs.Words.{overlaid}

pub overlaid-whole : (dst src : List ℕ) → length dst ≡ length src → overlaid dst src ≡ src
unfolding overlaid
overlaid-whole dst src h =
    let f : take (length dst) src ≡ src = take_all (length dst) src (omega arith) in
    let g : drop (length src) dst ≡ [] = rw (← h) (drop-length dst) in
    rw (f, g, append-nil)

-- Slices of a case: filling, and what was read into a front.
use mathlib.Core.Path.{◌≡◌, sym, ◌∙◌, ap}
use mathlib.Core.List.{List, ◌++◌, append-nil}
use Prim.Native.Nat.{ℕ, ◌+◌, ◌-◌, ◌≤◌, ◌<◌, min, max}
use native.Mathlib.Decide.{dec_le}
use native.Mathlib.Omega.{arith}
use borrow.Rule.Slice.PartMut.{put_mid}
use lib.ListN.{length, take, drop, replicate, length-take, length-drop, take-append-drop, drop_of_length-le}
use lib.Seq.{take_all, drop-drop}
use Rattle.cases.specs.Slices.{filled}

-- nothing is to be filled
pub filled-end : (ws : List ℕ) (from to word end : ℕ) → end ≡ min to (length ws) → end ≤ from → ws ≡ filled ws from to word
unfolding filled
filled-end ws from to word end e h =
    let z : min to (length ws) - from ≡ 0 = omega arith in
    rw z (by_room (dec_le to from))
  where
    by_room : Dec (to ≤ from) → ws ≡ take from ws ++ drop (max from to) ws
    by_room (yes k) = let m : max from to ≡ from = omega arith in rw m (sym (take-append-drop from ws))
    by_room (no k) = rw (take_all from ws (omega arith), drop_of_length-le ws {i = max from to} (omega arith)) (sym (append-nil ws))

-- the word in all the places from the one offset up to the other
pub filled_put : (ws : List ℕ) (from to word end : ℕ) (ys : List ℕ) → end ≡ min to (length ws) → from < end → ys ≡ replicate (length (take (end - from) (drop from ws))) word
    → put_mid from (end - from) ws ys ≡ filled ws from to word
unfolding filled
filled_put ws from to word end ys e h y =
    let n : length (take (end - from) (drop from ws)) ≡ min to (length ws) - from = simp (length-take, length-drop) (omega arith) in
    let m : max from to ≡ to = omega arith in
    rw (y, n, m, drop-drop (end - from) from ws, behind (dec_le to (length ws)))
  where
    behind : Dec (to ≤ length ws) → drop (from + (end - from)) ws ≡ drop to ws
    behind (yes k) = let z : from + (end - from) ≡ to = omega arith in rw z
    behind (no k) = drop_of_length-le ws {i = from + (end - from)} (omega arith) ∙ sym (drop_of_length-le ws {i = to} (omega arith))

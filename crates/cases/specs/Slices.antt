-- Slices of a case: filled, and the front of one handed on.
use Rattle.std.specs.Prelude.{◌≡◌, List, ◌++◌, ℕ, ◌-◌, ◌≤◌, min, max, length, take, drop, replicate}
use Rattle.std.specs.Borrow.{Bor}

-- `word` at the offsets from `from` up to `to`, as far as there are any; the others as they are
unfoldable pub filled : List ℕ → ℕ → ℕ → ℕ → List ℕ
filled ws from to word = take from ws ++ (replicate (min to (length ws) - from) word ++ drop (max from to) ws)

-- The first `n` words of a slice, or all where there are fewer, and no copy: they begin where it does
pub record Front (ws : Bor (List ℕ)) (n : ℕ) (r : Bor (List ℕ)) : Type 0 where
  pub same : r.now ≡ take n ws.now
  pub begin : r.ref_ptr ≡ ws.ref_ptr

-- What is read into the front of a slice: at most `n` words or bytes, and no more than it has. What they are is the input's
pub record Taken (room : Bor (List ℕ)) (n : ℕ) (r : Bor (List ℕ)) : Type 0 where
  pub few : length r.now ≤ min n (length room.now)
  pub begin : r.ref_ptr ≡ room.ref_ptr

-- A test of every word is the library's.
use mathlib.Core.Path.{◌≡◌, refl}
use mathlib.Core.Bool.{Bool}
use mathlib.Core.List.{List, [], ◌∷◌}
use Prim.Native.Nat.{ℕ}
use Rattle.std.specs.List.{list_all}
use Rattle.words.specs.Listed.{all}

pub all_is : (f : ℕ → Bool) (ws : List ℕ) → list_all f ws ≡ all f ws
unfolding all
all_is f [] = refl
all_is f (w ∷ ws) = rw (all_is f ws)

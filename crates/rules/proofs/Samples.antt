-- Document 01, "The rules by number", with those of 02: these numbers and no other.
use mathlib.Core.Path.{◌≡◌, refl}
use mathlib.Core.List.{List, [], ◌∷◌, ◌++◌}
use Prim.Native.Nat.{ℕ, zero, suc, ◌+◌}
use Rattle.rules.specs.Table.{Line, ◌∶◌, table}

abbrev from : ℕ → ℕ → List ℕ
from a zero = []
from a (suc n) = a ∷ from (a + 1) n

abbrev numbers : List Line → List ℕ
numbers [] = []
numbers ((n ∶ r) ∷ ls) = n ∷ numbers ls

the-numbers :
    numbers table
    ≡ from 1 7 ++ from 10 7 ++ from 20 15 ++ from 40 9 ++ from 50 8 ++ from 60 14 ++ from 80 14 ++ from 100 12 ++ from 120 12 ++ from 140 6 ++ from 150 13 ++ from 170 1 ++ from 180 4 ++ from 190 2
the-numbers = refl

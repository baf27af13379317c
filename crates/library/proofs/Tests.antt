-- What is left by an answer, and by what the answer is.
use mathlib.Core.Path.{◌≡◌}
use mathlib.Core.List.{List}
use Prim.Native.Nat.{ℕ}
use Rattle.declarations.specs.Put.{Outcome, leaves}

pub left_by : (p q : Outcome) (l made old : List ℕ) → p ≡ q → l ≡ leaves p made old → l ≡ leaves q made old
left_by p q l made old e h = rw (← e) h

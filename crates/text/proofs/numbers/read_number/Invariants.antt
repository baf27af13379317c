-- The invariant: what is to be known of all bytes is still to be known of those from `i` on; `value` is the number so far, cut off above 65,535.
use mathlib.Core.Path.{◌≡◌}
use Prim.Native.Nat.{ℕ, min}
use lib.ListN.{drop}
use Rattle.text.specs.Numbers.{all_digits, value_from, most}
use Rattle.text.proofs.numbers.read_number.Given as goal

abbrev pub invariant-loop-digit : goal.invariant-loop-digit
invariant-loop-digit l = (all_digits l.text ≡ all_digits (drop l.digit-index l.text)) × ((n : ℕ) × (l.value ≡ min most n) × (value_from 0 l.text ≡ value_from n (drop l.digit-index l.text)))

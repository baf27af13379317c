-- Numbers up to a limit: a decimal is read as its number, and nothing else is.
use mathlib.Core.Path.{◌≡◌}
use mathlib.Core.Option.{some}
use Prim.Native.Nat.{ℕ, ◌≤◌}
use borrow.Author.Tests.{le-leb}
use Rattle.text.specs.Pieces.{Text}
use Rattle.text.specs.Numbers.{decimal, limited_to, number_in, at_most}
use Rattle.text.proofs.Decimals.{number-decimal, decimal-number}
use Rattle.text.proofs.Told.{limited-few}

module _ (limit : ℕ) where
  pub limit_read : (n : ℕ) → n ≤ limit → at_most limit (decimal n) ≡ some n
  unfolding limited_to
  limit_read n h = rw (number-decimal, le-leb n limit h)

  pub limit_written : (s : Text) (n : ℕ) → at_most limit s ≡ some n → (s ≡ decimal n) × (n ≤ limit)
  limit_written s n e = let f = limited-few limit (number_in s) n e in (decimal-number s n f.1, f.0)

-- Finite sums.
use Rattle.std.specs.Prelude.{ℕ, zero, suc}
use Rattle.algebra.specs.Semirings.{Arithmetic}

module _ {R : Type 0} (𝓐 : Arithmetic R) where
  -- f 0 + .. + f (n − 1)
  unfoldable pub sum : ℕ → (ℕ → R) → R
  sum zero f = 𝓐.zero
  sum (suc n) f = 𝓐.add (sum n f) (f n)

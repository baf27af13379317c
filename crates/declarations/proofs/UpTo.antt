-- A test of the numbers of a range, as `all` over it tells it, is the test of 0 .. n − 1 of `words` Listed.
use mathlib.Core.Path.{◌≡◌, refl, ap, ◌∙◌}
use mathlib.Core.Bool.{Bool, ◌&&◌}
use Prim.Native.Nat.{ℕ, zero, suc, ◌+◌}
use native.Mathlib.Omega.{arith}
use Rattle.std.specs.List.{list_all, range_with_len}
use Rattle.words.specs.Listed.{all_up_to}

from_lem : (n a : ℕ) (f : ℕ → Bool) → list_all f (range_with_len a n) ≡ all_up_to n (λ k. f (a + k))
unfolding all_up_to
from_lem zero a f = refl
from_lem (suc n) a f =
    let first : a ≡ a + 0 = omega arith in
    let later : (k : ℕ) → (a + 1) + k ≡ a + suc k = λ k. omega arith in
    (λ i. f (first i) && list_all f (range_with_len (a + 1) n)) ∙ ap (λ b. f (a + 0) && b) (from_lem n (a + 1) f ∙ (λ i. all_up_to n (λ k. f (later k i))))

pub in_range : (n : ℕ) (f : ℕ → Bool) → list_all f (range_with_len 0 n) ≡ all_up_to n f
in_range n f = from_lem n 0 f ∙ (let e : (k : ℕ) → 0 + k ≡ k = λ k. omega arith in λ i. all_up_to n (λ k. f (e k i)))

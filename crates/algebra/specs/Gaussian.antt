-- The Gaussian integers. Document 01: "Entries are Gaussian integers, pairs of whole numbers".
use Rattle.std.specs.Prelude.{ℤ, pos, neg_ℤ, ◌+ℤ◌, ◌-ℤ◌, ◌*ℤ◌}
use Rattle.algebra.specs.Semirings.{Arithmetic}

-- re + im · i
pub record Gaussian : Type 0 where
  pub re : ℤ
  pub im : ℤ

abbrev pub zero : Gaussian
zero = record { re = pos 0; im = pos 0 }

abbrev pub one : Gaussian
one = record { re = pos 1; im = pos 0 }

unfoldable pub add : Gaussian → Gaussian → Gaussian
add x y = record { re = x.re +ℤ y.re; im = x.im +ℤ y.im }

-- i² = −1
unfoldable pub mul : Gaussian → Gaussian → Gaussian
mul x y = record { re = x.re *ℤ y.re -ℤ x.im *ℤ y.im; im = x.re *ℤ y.im +ℤ x.im *ℤ y.re }

unfoldable pub conj : Gaussian → Gaussian
conj x = record { re = x.re; im = neg_ℤ x.im }

-- the arithmetic in which demand 3 is read. It computes where `add`, `mul` and `conj` stand on an `unfolding` line
abbrev pub gaussian : Arithmetic Gaussian
gaussian = record { zero = zero; one = one; add = add; mul = mul; conj = conj }

-- What follows from the laws of a star semiring.
use mathlib.Core.Path.{◌≡◌, ◌∙◌}
use Rattle.algebra.specs.Semirings.{Arithmetic, StarSemiring}
use Rattle.algebra.proofs.Commutative.{left_comm, exchange, unit_left, keeps_unit}

module _ {R : Type 0} {𝓐 : Arithmetic R} (𝓡 : StarSemiring 𝓐) where
  open 𝓐 use {zero as 𝟘, one as 𝟙, add as ◌⊕◌, mul as ◌⊙◌, conj}

  infixl 65 ◌⊕◌
  infixl 70 ◌⊙◌
  pub zero-add : (x : R) → 𝟘 ⊕ x ≡ x
  zero-add = unit_left ◌⊕◌ 𝓡.add_comm 𝟘 𝓡.add_zero

  pub one-mul : (x : R) → 𝟙 ⊙ x ≡ x
  one-mul = unit_left ◌⊙◌ 𝓡.mul_comm 𝟙 𝓡.mul_one

  pub zero-mul : (x : R) → 𝟘 ⊙ x ≡ 𝟘
  zero-mul x = 𝓡.mul_comm 𝟘 x ∙ 𝓡.mul_zero x

  pub add-mul : (x y z : R) → (x ⊕ y) ⊙ z ≡ x ⊙ z ⊕ y ⊙ z
  add-mul x y z = 𝓡.mul_comm (x ⊕ y) z ∙ 𝓡.mul_add z x y ∙ cc (𝓡.mul_comm z x, 𝓡.mul_comm z y)

  pub mul_left_comm : (x y z : R) → x ⊙ (y ⊙ z) ≡ y ⊙ (x ⊙ z)
  mul_left_comm = left_comm ◌⊙◌ 𝓡.mul_comm 𝓡.mul_assoc

  pub add_exchange : (x y z w : R) → x ⊕ y ⊕ (z ⊕ w) ≡ x ⊕ z ⊕ (y ⊕ w)
  add_exchange = exchange ◌⊕◌ 𝓡.add_comm 𝓡.add_assoc

  pub mul_exchange : (x y z w : R) → x ⊙ y ⊙ (z ⊙ w) ≡ x ⊙ z ⊙ (y ⊙ w)
  mul_exchange = exchange ◌⊙◌ 𝓡.mul_comm 𝓡.mul_assoc

  pub conj-zero : conj 𝟘 ≡ 𝟘
  conj-zero = keeps_unit ◌⊕◌ 𝓡.add_comm 𝟘 𝓡.add_zero conj 𝓡.conj_conj 𝓡.conj_add

  pub conj-one : conj 𝟙 ≡ 𝟙
  conj-one = keeps_unit ◌⊙◌ 𝓡.mul_comm 𝟙 𝓡.mul_one conj 𝓡.conj_conj 𝓡.conj_mul

-- The Gaussian integers are a star semiring.
use mathlib.Core.Path.{◌≡◌, refl}
use lib.IntN.{+ℤ_assoc, +ℤ_comm, +ℤ_idl, +ℤ_idr, neg_ℤ-neg_ℤ, neg_ℤ-+ℤ, *ℤ-zero, *ℤ_comm}
use Rattle.algebra.specs.Semirings.{StarSemiring}
use Rattle.algebra.specs.Gaussian.{Gaussian, gaussian, zero, one, add, mul, conj}
use Rattle.algebra.proofs.Integers as Z

-- multiplies out, moves negations outward over products and inward over sums, and sorts (for want of a `ring` tactic)
ruleset ring = (+ℤ_assoc, +ℤ_comm, Z.add_left_comm, Z.mul_assoc, *ℤ_comm, Z.mul_left_comm, Z.mul_add, Z.add-mul, Z.mul_neg, Z.neg_mul, neg_ℤ-+ℤ)

parts : {x y : Gaussian} → x.re ≡ y.re → x.im ≡ y.im → x ≡ y
parts p q = λ i. record { re = p i; im = q i }

pub add_assoc : (x y z : Gaussian) → add (add x y) z ≡ add x (add y z)
unfolding add
add_assoc x y z = parts (simp ring) (simp ring)

pub add_comm : (x y : Gaussian) → add x y ≡ add y x
unfolding add
add_comm x y = parts (simp ring) (simp ring)

pub add_zero : (x : Gaussian) → add x zero ≡ x
unfolding add
add_zero x = parts (+ℤ_idr _) (+ℤ_idr _)

pub mul_assoc : (x y z : Gaussian) → mul (mul x y) z ≡ mul x (mul y z)
unfolding mul
mul_assoc x y z = parts (simp ring) (simp ring)

pub mul_comm : (x y : Gaussian) → mul x y ≡ mul y x
unfolding mul
mul_comm x y = parts (simp ring) (simp ring)

pub mul_one : (x : Gaussian) → mul x one ≡ x
unfolding mul
mul_one x = parts (simp (Z.mul_one, *ℤ-zero, +ℤ_idr)) (simp (Z.mul_one, *ℤ-zero, +ℤ_idl))

pub mul_zero : (x : Gaussian) → mul x zero ≡ zero
unfolding mul
mul_zero x = parts (simp *ℤ-zero) (simp *ℤ-zero)

pub mul_add : (x y z : Gaussian) → mul x (add y z) ≡ add (mul x y) (mul x z)
unfolding add mul
mul_add x y z = parts (simp ring) (simp ring)

pub conj_conj : (x : Gaussian) → conj (conj x) ≡ x
unfolding conj
conj_conj x = parts refl (neg_ℤ-neg_ℤ _)

pub conj_add : (x y : Gaussian) → conj (add x y) ≡ add (conj x) (conj y)
unfolding add conj
conj_add x y = parts refl (neg_ℤ-+ℤ x.im y.im)

pub conj_mul : (x y : Gaussian) → conj (mul x y) ≡ mul (conj x) (conj y)
unfolding mul conj
conj_mul x y = parts (simp (Z.mul_neg, Z.neg_mul, neg_ℤ-neg_ℤ)) (simp (Z.mul_neg, Z.neg_mul, neg_ℤ-+ℤ))

pub gaussian_laws : StarSemiring gaussian
gaussian_laws =
    record {
      add_assoc = add_assoc;
      add_comm = add_comm;
      add_zero = add_zero;
      mul_assoc = mul_assoc;
      mul_comm = mul_comm;
      mul_one = mul_one;
      mul_zero = mul_zero;
      mul_add = mul_add;
      conj_conj = conj_conj;
      conj_add = conj_add;
      conj_mul = conj_mul;
    }

-- What the entries of a matrix are reckoned with, and commutative semirings with an involution: what they must be for every rule to hold.
use Rattle.std.specs.Prelude.{◌≡◌}

-- The operations, of which matrices and the meanings of terms are made. No rule subtracts, so there is no negation
pub record Arithmetic (R : Type 0) : Type 0 where
  pub zero : R
  pub one : R
  pub add : R → R → R
  pub mul : R → R → R
  pub conj : R → R

module _ {R : Type 0} (𝓐 : Arithmetic R) where
  open 𝓐 use {zero, one, add, mul, conj}

  -- The laws are those that do not follow from the others: what holds on the left holds on the right by commutativity, and that conjugation keeps
  -- 0 and 1 follows from its being an involution (proofs/Semirings).
  pub record StarSemiring : Type 0 where
    pub add_assoc : (x y z : R) → add (add x y) z ≡ add x (add y z)
    pub add_comm : (x y : R) → add x y ≡ add y x
    pub add_zero : (x : R) → add x zero ≡ x
    pub mul_assoc : (x y z : R) → mul (mul x y) z ≡ mul x (mul y z)
    pub mul_comm : (x y : R) → mul x y ≡ mul y x
    pub mul_one : (x : R) → mul x one ≡ x
    pub mul_zero : (x : R) → mul x zero ≡ zero
    pub mul_add : (x y z : R) → mul x (add y z) ≡ add (mul x y) (mul x z)
    pub conj_conj : (x : R) → conj (conj x) ≡ x
    pub conj_add : (x y : R) → conj (add x y) ≡ add (conj x) (conj y)
    pub conj_mul : (x y : R) → conj (mul x y) ≡ mul (conj x) (conj y)

-- To stand for the same is an equivalence, at every sort.
use mathlib.Core.Path.{refl}
use Rattle.algebra.proofs.Alike.{≈-refl, ≈-sym, ≈-trans}
use Rattle.types.specs.Sorts.{Sort, index, basis, scalar, ket, bra, operator}
use Rattle.meaning.specs.Choices.{Meaning}
use Rattle.meaning.specs.Sorted.{Same}

pub same_refl : {R : Type 0} (S : Sort) (x : Meaning R) → Same S x x
same_refl (index σ) x = refl
same_refl (basis σ) x = refl
same_refl scalar x = ≈-refl x.matrix
same_refl (ket σ) x = ≈-refl x.matrix
same_refl (bra σ) x = ≈-refl x.matrix
same_refl (operator σ τ) x = ≈-refl x.matrix

pub same_sym : {R : Type 0} (S : Sort) (x y : Meaning R) → Same S x y → Same S y x
same_sym (index σ) x y p = cc
same_sym (basis σ) x y p = cc
same_sym scalar x y p = ≈-sym p
same_sym (ket σ) x y p = ≈-sym p
same_sym (bra σ) x y p = ≈-sym p
same_sym (operator σ τ) x y p = ≈-sym p

pub same_trans : {R : Type 0} (S : Sort) (x y z : Meaning R) → Same S x y → Same S y z → Same S x z
same_trans (index σ) x y z p q = cc
same_trans (basis σ) x y z p q = cc
same_trans scalar x y z p q = ≈-trans p q
same_trans (ket σ) x y z p q = ≈-trans p q
same_trans (bra σ) x y z p q = ≈-trans p q
same_trans (operator σ τ) x y z p q = ≈-trans p q

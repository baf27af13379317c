-- The definitions of meaning, computed at small dimensions over the Gaussian integers. The answers are worked out by hand from document 01.
use mathlib.Core.Path.{◌≡◌, refl}
use mathlib.Core.List.{List, [], ◌∷◌}
use Prim.Native.Nat.{ℕ, zero, suc, ◌<◌}
use native.Mathlib.Omega.{arith}
use lib.IntN.{ℤ, pos, negsuc}
use lib.ListN.{get_or}
use Rattle.algebra.specs.Sums.{sum}
use Rattle.algebra.specs.Matrices.{Matrix, number, kronecker_delta, zeros, identity as identity-matrix, unit_column, unit_row, scalar as scalar-matrix, add as add-matrix}
use Rattle.algebra.specs.Matrices.{scale as scale-matrix, mul, adjoint as adjoint-matrix, kronecker, sum_matrices, Unitary}
use Rattle.algebra.specs.Gaussian.{Gaussian, gaussian, add as add-numbers, mul as multiply-numbers, conj}
use Rattle.term.specs.Heads.{Label, type_name, basis_name, variable, index_product, pair, scalar_one, scalar_sum, scalar_product, conjugate, delta, dot, zero_operator, identity, basis_ket}
use Rattle.term.specs.Heads.{basis_bra, adjoint, scale, add, tensor, mulk, outer, mulo, bound_basis, big_sum}
use Rattle.term.specs.Trees.{Tree, node, none, ◌▹◌}
use Rattle.types.specs.Sorts.{scalar, ket, operator, Context}
use Rattle.meaning.specs.Choices.{Choice, push, an_index, a_basis, a_term, nothing}
use Rattle.meaning.specs.Meaning.{first, second, plus, total, times, product, meaning_of, meaning, dimension, declared, names, stands, position, mean}

abbrev leaf : Label → Tree
leaf l = node l none

abbrev one : Label → Tree → Tree
one l t = node l (t ▹ none)

abbrev two : Label → Tree → Tree → Tree
two l t u = node l (t ▹ u ▹ none)

-- 1:a, 3:a, 26:a
abbrev type : ℕ → Tree
type a = leaf (type_name a)

abbrev basis : ℕ → Tree
basis a = leaf (basis_name a)

abbrev var : ℕ → Tree
var a = leaf (variable a)

-- 28:a
abbrev bound : ℕ → Tree
bound a = leaf (bound_basis a)

-- an entry of a variable, 11 17 s 22 26:a 16 t
abbrev entry : Tree → ℕ → Tree → Tree
entry s a t = two dot (one basis_bra s) (two mulk (var a) (one basis_ket t))

-- bases 0 and 2 of 1:0, 1 of 1:1, 3 of 1:2; variable 0 an operator on 1:0, 1 a ket over 1:1, 2 a scalar, 3 an operator of (1:0, 1:1)
abbrev Γ : Context
Γ =
    record {
      types = 3;
      bases = type 0 ∷ type 1 ∷ type 0 ∷ type 2 ∷ [];
      variables = operator (type 0) (type 0) ∷ ket (type 1) ∷ scalar ∷ operator (type 0) (type 1) ∷ [];
      marks = [];
      bound = [];
    }

-- a + b i, where −1 is `negsuc 0`
infix 70 ◌+i◌
abbrev ◌+i◌ : ℤ → ℤ → Gaussian
a +i b = record { re = a; im = b }

-- a matrix of two rows
abbrev from_rows : ℕ → List Gaussian → List Gaussian → Matrix Gaussian
from_rows n r s = record { rows = 2; columns = n; entry = λ i j. get_or (get_or (r ∷ s ∷ []) i []) j (pos 0 +i pos 0) }

-- dimensions 2, 3 and 1; variable 0 is (1, i; 2 − i, 3), 1 is (i, 2, 1 + i), 2 is 2 + 3 i, 3 is (0, i, 2 i; 1, 1 + i, 1 + 2 i)
abbrev χ : Choice Gaussian
χ =
    record {
      dimension = λ a. get_or (2 ∷ 3 ∷ 1 ∷ []) a 0;
      position = λ a. get_or (1 ∷ 2 ∷ 0 ∷ 0 ∷ []) a 0;
      matrix = λ a. get_or (
          from_rows 2 (pos 1 +i pos 0 ∷ pos 0 +i pos 1 ∷ []) (pos 2 +i negsuc 0 ∷ pos 3 +i pos 0 ∷ [])
          ∷ record { rows = 3; columns = 1; entry = λ i j. get_or (pos 0 +i pos 1 ∷ pos 2 +i pos 0 ∷ pos 1 +i pos 1 ∷ []) i (pos 0 +i pos 0) }
          ∷ record { rows = 1; columns = 1; entry = λ i j. pos 2 +i pos 3 }
          ∷ from_rows 3 (pos 0 +i pos 0 ∷ pos 0 +i pos 1 ∷ pos 0 +i pos 2 ∷ []) (pos 1 +i pos 0 ∷ pos 1 +i pos 1 ∷ pos 1 +i pos 2 ∷ [])
          ∷ []) a (from_rows 0 [] []);
      bound = λ a. 0;
    }

-- the number at a row and a column of a term
unfoldable at : Tree → ℕ → ℕ → Gaussian
unfolding mean stands names meaning meaning_of declared dimension position first second plus total times product an_index a_basis a_term nothing
at t i j = (mean gaussian Γ χ t).entry i j

abbrev size : Tree → List ℕ
size t = (mean gaussian Γ χ t).rows ∷ (mean gaussian Γ χ t).columns ∷ []

the_examples :
    -- 2 1:0 1:1 has dimension 2 · 3, and 2 1:2 1:2 still 1
    (dimension gaussian χ (two index_product (type 0) (type 1)) ≡ 6)
    × (dimension gaussian χ (two index_product (type 2) (type 2)) ≡ 1)
    -- 4 3:0 3:1 is 1 · 3 + 2, 4 3:1 3:2 is 2 · 2 + 0, and 4 3:3 3:0, over a dimension of 1, is 0 · 2 + 1
    × (position gaussian Γ χ (two pair (basis 0) (basis 1)) ≡ 5)
    × (position gaussian Γ χ (two pair (basis 1) (basis 2)) ≡ 4)
    × (position gaussian Γ χ (two pair (basis 3) (basis 0)) ≡ 1)
    -- 21 26:0 26:3 is 4 by 6; at row 3 = 1 · 2 + 1 and column 5 = 1 · 3 + 2 it is 3 (1 + 2 i), at row 1, column 3 it is i · 1
    × (size (two tensor (var 0) (var 3)) ≡ 4 ∷ 6 ∷ [])
    × (at (two tensor (var 0) (var 3)) 3 5 ≡ pos 3 +i pos 6)
    × (at (two tensor (var 0) (var 3)) 1 3 ≡ pos 0 +i pos 1)
    -- 18 26:0 has the conjugate of 2 − i at row 0, column 1; 18 26:3 is 3 by 2
    × (at (one adjoint (var 0)) 0 1 ≡ pos 2 +i pos 1)
    × (size (one adjoint (var 3)) ≡ 3 ∷ 2 ∷ [])
    -- 10 3:0 3:0 is 1 and 10 3:0 3:2 is 0
    × (at (two delta (basis 0) (basis 0)) 0 0 ≡ pos 1 +i pos 0)
    × (at (two delta (basis 0) (basis 2)) 0 0 ≡ pos 0 +i pos 0)
    -- 15 1:2 is 1 by 1, and 1; 14 1:0 1:1 is 2 by 3
    × (size (one identity (type 2)) ≡ 1 ∷ 1 ∷ [])
    × (at (one identity (type 2)) 0 0 ≡ pos 1 +i pos 0)
    × (size (two zero_operator (type 0) (type 1)) ≡ 2 ∷ 3 ∷ [])
    -- 22 26:0 16 3:0 is the second column of 26:0; 11 17 3:2 22 26:0 16 3:0 its upper entry
    × (at (two mulk (var 0) (one basis_ket (basis 0))) 1 0 ≡ pos 3 +i pos 0)
    × (at (two dot (one basis_bra (basis 2)) (two mulk (var 0) (one basis_ket (basis 0)))) 0 0 ≡ pos 0 +i pos 1)
    -- 11 18 26:1 26:1 is 1 + 4 + 2; 24 26:1 18 26:1 at row 0, column 2 is i (1 − i)
    × (at (two dot (one adjoint (var 1)) (var 1)) 0 0 ≡ pos 7 +i pos 0)
    × (at (two outer (var 1) (one adjoint (var 1))) 0 2 ≡ pos 1 +i pos 1)
    -- 25 26:0 26:0 at row 0, column 1 is 1 · i + i · 3
    × (at (two mulo (var 0) (var 0)) 0 1 ≡ pos 0 +i pos 4)
    -- 8:2 26:2 26:2 is (2 + 3 i)², 7:2 26:2 6 is 3 + 3 i, 9 26:2 is 2 − 3 i
    × (at (two scalar_product (var 2) (var 2)) 0 0 ≡ negsuc 4 +i pos 12)
    × (at (two scalar_sum (var 2) (leaf scalar_one)) 0 0 ≡ pos 3 +i pos 3)
    × (at (one conjugate (var 2)) 0 0 ≡ pos 2 +i negsuc 2)
    -- 19 26:2 26:1 at row 0 is (2 + 3 i) i; 20:2 26:0 26:0 at row 1, column 0 is 4 − 2 i
    × (at (two scale (var 2) (var 1)) 0 0 ≡ negsuc 2 +i pos 2)
    × (at (two add (var 0) (var 0)) 1 0 ≡ pos 4 +i negsuc 1)
    -- the trace of 26:0, 27 1:0 11 17 28:0 22 26:0 16 28:0, is 1 + 3
    × (at (two big_sum (type 0) (entry (bound 0) 0 (bound 0))) 0 0 ≡ pos 4 +i pos 0)
    -- the entries of 26:3 add up to 3 i in its first row and 3 + 3 i in its second, row by row and column by column
    × (at (two big_sum (type 0) (two big_sum (type 1) (entry (bound 1) 3 (bound 0)))) 0 0 ≡ pos 3 +i pos 6)
    × (at (two big_sum (type 1) (two big_sum (type 0) (entry (bound 0) 3 (bound 1)))) 0 0 ≡ pos 3 +i pos 6)
    -- over 2 1:0 1:1, which has 6 indices, the last is that of 4 3:0 3:1: one summand is 1
    × (at (two big_sum (two index_product (type 0) (type 1)) (two dot (one basis_bra (bound 0)) (one basis_ket (two pair (basis 0) (basis 1))))) 0 0 ≡ pos 1 +i pos 0)
    -- a body that does not use its basis counts as often as there are indices: 3 (2 + 3 i), and a ket's rows stay
    × (at (two big_sum (type 1) (var 2)) 0 0 ≡ pos 6 +i pos 9)
    × (size (two big_sum (type 0) (var 1)) ≡ 3 ∷ 1 ∷ [])
unfolding at sum number kronecker_delta zeros identity-matrix unit_column unit_row scalar-matrix add-matrix scale-matrix mul adjoint-matrix kronecker sum_matrices push add-numbers multiply-numbers
    conj
the_examples = (
  refl,
  refl,
  refl,
  refl,
  refl,
  refl,
  refl,
  refl,
  refl,
  refl,
  refl,
  refl,
  refl,
  refl,
  refl,
  refl,
  refl,
  refl,
  refl,
  refl,
  refl,
  refl,
  refl,
  refl,
  refl,
  refl,
  refl,
  refl,
  refl,
  refl,
  refl,
)

-- ---- (0, i; 1, 0) is unitary, and (1, 1; 0, 1), whose product with its adjoint has 2 at row 0, column 0, is not
abbrev turned : Matrix Gaussian
turned = from_rows 2 (pos 0 +i pos 0 ∷ pos 0 +i pos 1 ∷ []) (pos 1 +i pos 0 ∷ pos 0 +i pos 0 ∷ [])

abbrev sheared : Matrix Gaussian
sheared = from_rows 2 (pos 1 +i pos 0 ∷ pos 1 +i pos 0 ∷ []) (pos 0 +i pos 0 ∷ pos 1 +i pos 0 ∷ [])

below_two : (P : ℕ → ℕ → Type 0) → P 0 0 → P 0 1 → P 1 0 → P 1 1 → (i j : ℕ) → i < 2 → j < 2 → P i j
below_two P a b c d zero zero h k = a
below_two P a b c d zero (suc zero) h k = b
below_two P a b c d zero (suc (suc j)) h k = absurd (omega arith)
below_two P a b c d (suc zero) zero h k = c
below_two P a b c d (suc zero) (suc zero) h k = d
below_two P a b c d (suc zero) (suc (suc j)) h k = absurd (omega arith)
below_two P a b c d (suc (suc i)) j h k = absurd (omega arith)

is_one : (A : Matrix Gaussian) → Matrix Gaussian → ℕ → ℕ → Type 0
is_one A B i j = (mul gaussian A B).entry i j ≡ (identity-matrix gaussian 2).entry i j

turned-unitary : Unitary gaussian turned
unfolding is_one identity-matrix mul adjoint-matrix sum kronecker_delta add-numbers multiply-numbers conj
turned-unitary =
    let other = adjoint-matrix gaussian turned in
    record {
      left = record { rows = refl; columns = refl; entries = below_two (is_one other turned) refl refl refl refl };
      right = record { rows = refl; columns = refl; entries = below_two (is_one turned other) refl refl refl refl };
    }

sheared_not : (mul gaussian sheared (adjoint-matrix gaussian sheared)).entry 0 0 ≡ pos 2 +i pos 0
unfolding mul adjoint-matrix sum add-numbers multiply-numbers conj
sheared_not = refl

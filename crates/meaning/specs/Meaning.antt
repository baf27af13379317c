-- The meaning of a part by recursion on its tree, under a choice.
use Rattle.std.proofs.Math.Option.{Option, some, none as undeclared}
use Rattle.std.specs.Prelude.{List, [], ◌∷◌, ℕ, ◌+◌, ◌*◌}
use Rattle.std.proofs.Math.ListN.{get_elem?}
use Rattle.algebra.specs.Semirings.{Arithmetic}
use Rattle.algebra.specs.Matrices.{Matrix, number, kronecker_delta, zeros, identity as identity-matrix, unit_column, unit_row, scalar, add as add-matrix, scale as scale-matrix, mul}
use Rattle.algebra.specs.Matrices.{adjoint as adjoint-matrix, kronecker, sum_matrices}
use Rattle.term.specs.Heads.{Label, type_name, basis_name, variable, index_product, pair, scalar_zero, scalar_one, scalar_sum, scalar_product, conjugate, delta, dot, zero_ket, zero_bra}
use Rattle.term.specs.Heads.{zero_operator, identity, basis_ket, basis_bra, adjoint, scale, add, tensor, mulk, mulb, outer, mulo, bound_basis, big_sum}
use Rattle.term.specs.Trees.{Tree, Forest, node, none, ◌▹◌}
use Rattle.types.specs.Sorts.{Context}
use Rattle.meaning.specs.Choices.{Choice, push, Meaning, NameMeanings, an_index, a_basis, a_term, nothing}

module _ {R : Type 0} (𝓐 : Arithmetic R) where
  -- ---- children
  unfoldable pub first : List (Meaning R) → Meaning R
  first [] = nothing 𝓐
  first (c ∷ cs) = c

  unfoldable pub second : List (Meaning R) → Meaning R
  second [] = nothing 𝓐
  second (c ∷ cs) = first cs

  -- 01: "7 and 20 add entry by entry": a matrix and the matrices of more children
  unfoldable pub plus : Matrix R → List (Meaning R) → Matrix R
  plus A [] = A
  plus A (c ∷ cs) = add-matrix 𝓐 A (plus c.matrix cs)

  unfoldable pub total : List (Meaning R) → Matrix R
  total [] = (nothing 𝓐).matrix
  total (c ∷ cs) = plus c.matrix cs

  -- 01: "8 multiplies numbers"
  unfoldable pub times : List (Meaning R) → R
  times [] = 𝓐.one
  times (c ∷ cs) = 𝓐.mul (number c.matrix) (times cs)

  -- 01: "11 and 22 to 25 are matrix products"
  unfoldable pub product : List (Meaning R) → Meaning R
  product cs = a_term (mul 𝓐 (first cs).matrix (second cs).matrix)

  -- ---- each head, in the order of document 01's table, by what its children stand for: as they are, and `b` where a basis more is bound
  unfoldable pub meaning_of : NameMeanings R → Label → (Meaning R → List (Meaning R)) → List (Meaning R) → Meaning R
  -- 01: "A type name has a dimension from 1 up; a product multiplies"
  meaning_of N (type_name a) b cs = N.types a
  meaning_of N index_product b cs = an_index 𝓐 ((first cs).dimension * (second cs).dimension)
  -- 01: "A basis name is an index from 0 below its dimension; the pair (s, t) is s × (dimension of t's index) + t"
  meaning_of N (basis_name a) b cs = N.bases a
  meaning_of N pair b cs =
      let s = first cs in
      let t = second cs in
      a_basis 𝓐 (s.dimension * t.dimension) (s.position * t.dimension + t.position)
  -- 01: "5 is 0 and 6 is 1. 7 and 20 add entry by entry, 8 multiplies numbers, 19 every entry, 9 conjugates"
  meaning_of N scalar_zero b cs = a_term (scalar 𝓐 𝓐.zero)
  meaning_of N scalar_one b cs = a_term (scalar 𝓐 𝓐.one)
  meaning_of N scalar_sum b cs = a_term (total cs)
  meaning_of N scalar_product b cs = a_term (scalar 𝓐 (times cs))
  meaning_of N conjugate b cs = a_term (scalar 𝓐 (𝓐.conj (number (first cs).matrix)))
  -- 01: "Delta is 1 where the two indices are equal, else 0"
  meaning_of N delta b cs = a_term (scalar 𝓐 (kronecker_delta 𝓐 (first cs).position (second cs).position))
  meaning_of N dot b cs = product cs
  -- 01: "12 to 14 are all 0; 15 is 1 where row equals column, 16 at the row and 17 at the column that its basis names, else 0"
  meaning_of N zero_ket b cs = a_term (zeros 𝓐 (first cs).dimension 1)
  meaning_of N zero_bra b cs = a_term (zeros 𝓐 1 (first cs).dimension)
  meaning_of N zero_operator b cs = a_term (zeros 𝓐 (first cs).dimension (second cs).dimension)
  meaning_of N identity b cs = a_term (identity-matrix 𝓐 (first cs).dimension)
  meaning_of N basis_ket b cs = a_term (unit_column 𝓐 (first cs).dimension (first cs).position)
  meaning_of N basis_bra b cs = a_term (unit_row 𝓐 (first cs).dimension (first cs).position)
  -- 01: "Adjoint is the conjugate transpose"
  meaning_of N adjoint b cs = a_term (adjoint-matrix 𝓐 (first cs).matrix)
  meaning_of N scale b cs = a_term (scale-matrix 𝓐 (number (first cs).matrix) (second cs).matrix)
  meaning_of N add b cs = a_term (total cs)
  -- 01: "Tensor is the Kronecker product, the left factor's index being the more significant"
  meaning_of N tensor b cs = a_term (kronecker 𝓐 (first cs).matrix (second cs).matrix)
  meaning_of N mulk b cs = product cs
  meaning_of N mulb b cs = product cs
  meaning_of N outer b cs = product cs
  meaning_of N mulo b cs = product cs
  meaning_of N (variable a) b cs = N.variables a
  -- 02, CR 1: "the basis bound by the a-th 27 whose body holds it"; "A 27 stands for the sum of its body over all indices of its dimension"
  meaning_of N (bound_basis a) b cs = N.bounds a
  meaning_of N big_sum b cs = let d = (first cs).dimension in a_term (sum_matrices 𝓐 d λ p. (second (b (a_basis 𝓐 d p))).matrix)

  abbrev pub under : NameMeanings R → Meaning R → NameMeanings R
  under N x = record { types = N.types; bases = N.bases; variables = N.variables; bounds = push x N.bounds }

  unfoldable mutual
    pub meaning : NameMeanings R → Tree → Meaning R
    meaning N (node l cs) = meaning_of N l (λ x. meanings (under N x) cs) (meanings N cs)

    pub meanings : NameMeanings R → Forest → List (Meaning R)
    meanings N none = []
    meanings N (t ▹ f) = meaning N t ∷ meanings N f

  -- ---- under a choice
  -- the dimension of an index, which holds type names alone
  unfoldable pub dimension : Choice R → Tree → ℕ
  dimension χ σ = (meaning (record { types = λ a. an_index 𝓐 (χ.dimension a); bases = λ a. nothing 𝓐; variables = λ a. nothing 𝓐; bounds = λ a. nothing 𝓐 }) σ).dimension

  -- the dimension of a basis's index
  unfoldable pub declared : Choice R → Option Tree → ℕ
  declared χ undeclared = 0
  declared χ (some σ) = dimension χ σ

  unfoldable pub names : Context → Choice R → NameMeanings R
  names Γ χ =
      record {
        types = λ a. an_index 𝓐 (χ.dimension a);
        bases = λ a. a_basis 𝓐 (declared χ (get_elem? Γ.bases a)) (χ.position a);
        variables = λ a. a_term (χ.matrix a);
        bounds = λ a. a_basis 𝓐 (declared χ (get_elem? Γ.bound a)) (χ.bound a);
      }

  -- what a part stands for, in a context under a choice; the position of a basis, and the matrix of a term
  unfoldable pub stands : Context → Choice R → Tree → Meaning R
  stands Γ χ t = meaning (names Γ χ) t

  abbrev pub stands* : Context → Choice R → Forest → List (Meaning R)
  stands* Γ χ f = meanings (names Γ χ) f

  unfoldable pub position : Context → Choice R → Tree → ℕ
  position Γ χ s = (stands Γ χ s).position

  unfoldable pub mean : Context → Choice R → Tree → Matrix R
  mean Γ χ t = (stands Γ χ t).matrix

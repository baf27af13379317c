-- The type of a term with the place of the first untyped part, as a function for the code to equal: the relations to believe are `◌⊢◌∶◌` of `Rules` and `FirstUntyped` of `First`.
-- `Sound`, `Complete` and `Places` of `Statements` say that the function answers as they say.
use Rattle.std.specs.Prelude.{Bool, true, cond, ◌&&◌, List, [], ◌∷◌, ℕ, ◌+◌, eqb, leb, ltb, length}
use Rattle.std.proofs.Math.Option.{Option, some, none as nothing}
use Rattle.std.proofs.Math.ListN.{get_elem?}
use Rattle.words.specs.Words.{same_words}
use Rattle.term.specs.Heads.{Label, type_name, basis_name, variable, index_product, pair, scalar_zero, scalar_one, scalar_sum, scalar_product, conjugate, delta, dot, zero_ket, zero_bra}
use Rattle.term.specs.Heads.{zero_operator, identity, basis_ket, basis_bra, adjoint, scale, add, tensor, mulk, mulb, outer, mulo, bound_basis, big_sum, head_of}
use Rattle.term.specs.Trees.{Tree, Forest, node, none, ◌▹◌, count, words}
use Rattle.term.specs.Terms.{max_index, max_bodies}
use Rattle.types.specs.Sorts.{Sort, index, basis, scalar, ket, bra, operator, Context, ◌⊠◌}
use Rattle.types.specs.Inside.{later}

-- what a rule concludes of a part from the sorts of its children
pub data Conclusion : Type 0 where
  fails : Conclusion
  gives : Sort → Conclusion

-- 01: "Indices are equal only when their words are"
unfoldable pub same : Tree → Tree → Conclusion → Conclusion
unfolding same_words
same σ τ c = cond (same_words (words σ) (words τ)) c fails

unfoldable pub short : Tree → Conclusion → Conclusion
short σ c = cond (leb (length (words σ)) max_index) c fails

-- so many children
abbrev pub nil : List Sort → Conclusion → Conclusion
nil [] c = c
nil (s ∷ ss) c = fails

abbrev pub one : List Sort → (Sort → Conclusion) → Conclusion
one [] f = fails
one (s ∷ []) f = f s
one (s ∷ t ∷ ss) f = fails

abbrev pub two : List Sort → (Sort → Sort → Conclusion) → Conclusion
two [] f = fails
two (s ∷ []) f = fails
two (s ∷ t ∷ []) f = f s t
two (s ∷ t ∷ u ∷ ss) f = fails

-- of such a sort
abbrev pub to_index : Sort → (Tree → Conclusion) → Conclusion
to_index (index σ) f = f σ
to_index (basis σ) f = fails
to_index scalar f = fails
to_index (ket σ) f = fails
to_index (bra σ) f = fails
to_index (operator σ τ) f = fails

abbrev pub to_basis : Sort → (Tree → Conclusion) → Conclusion
to_basis (index σ) f = fails
to_basis (basis σ) f = f σ
to_basis scalar f = fails
to_basis (ket σ) f = fails
to_basis (bra σ) f = fails
to_basis (operator σ τ) f = fails

abbrev pub to_scalar : Sort → Conclusion → Conclusion
to_scalar (index σ) c = fails
to_scalar (basis σ) c = fails
to_scalar scalar c = c
to_scalar (ket σ) c = fails
to_scalar (bra σ) c = fails
to_scalar (operator σ τ) c = fails

abbrev pub to_ket : Sort → (Tree → Conclusion) → Conclusion
to_ket (index σ) f = fails
to_ket (basis σ) f = fails
to_ket scalar f = fails
to_ket (ket σ) f = f σ
to_ket (bra σ) f = fails
to_ket (operator σ τ) f = fails

abbrev pub to_bra : Sort → (Tree → Conclusion) → Conclusion
to_bra (index σ) f = fails
to_bra (basis σ) f = fails
to_bra scalar f = fails
to_bra (ket σ) f = fails
to_bra (bra σ) f = f σ
to_bra (operator σ τ) f = fails

abbrev pub to_operator : Sort → (Tree → Tree → Conclusion) → Conclusion
to_operator (index σ) f = fails
to_operator (basis σ) f = fails
to_operator scalar f = fails
to_operator (ket σ) f = fails
to_operator (bra σ) f = fails
to_operator (operator σ τ) f = f σ τ

-- ---- by kind of array
-- Ket-Adj, Bra-Adj, Opt-Adj
unfoldable pub adjoint_of : Sort → Conclusion
adjoint_of (index σ) = fails
adjoint_of (basis σ) = fails
adjoint_of scalar = fails
adjoint_of (ket σ) = gives (bra σ)
adjoint_of (bra σ) = gives (ket σ)
adjoint_of (operator σ τ) = gives (operator τ σ)

-- Ket-Scr, Bra-Scr, Opt-Scr: the scaled part's own sort
unfoldable pub array_of : Sort → Conclusion
array_of (index σ) = fails
array_of (basis σ) = fails
array_of scalar = fails
array_of (ket σ) = gives (ket σ)
array_of (bra σ) = gives (bra σ)
array_of (operator σ τ) = gives (operator σ τ)

-- Ket-Tsr, Bra-Tsr, Opt-Tsr
unfoldable pub tensor_of : Sort → Sort → Conclusion
unfolding short
tensor_of (index σ) t = fails
tensor_of (basis σ) t = fails
tensor_of scalar t = fails
tensor_of (ket σ) t = to_ket t λ τ. short (σ ⊠ τ) (gives (ket (σ ⊠ τ)))
tensor_of (bra σ) t = to_bra t λ τ. short (σ ⊠ τ) (gives (bra (σ ⊠ τ)))
tensor_of (operator σ υ) t = to_operator t λ τ φ. short (σ ⊠ τ) (short (υ ⊠ φ) (gives (operator (σ ⊠ τ) (υ ⊠ φ))))

-- the same sort again: what a sum asks of each further child
unfoldable pub agree : Sort → Sort → Conclusion
unfolding same
agree (index σ) t = fails
agree (basis σ) t = fails
agree scalar t = to_scalar t (gives scalar)
agree (ket σ) t = to_ket t λ τ. same σ τ (gives (ket σ))
agree (bra σ) t = to_bra t λ τ. same σ τ (gives (bra σ))
agree (operator σ υ) t = to_operator t λ τ φ. same σ τ (same υ φ (gives (operator σ υ)))

abbrev pub and_then : Conclusion → (Sort → Conclusion) → Conclusion
and_then fails f = fails
and_then (gives S) f = f S

unfoldable pub agree_all : Sort → List Sort → Conclusion
unfolding agree
agree_all s [] = gives s
agree_all s (t ∷ ts) = and_then (agree s t) λ u. agree_all u ts

-- Sca-Add, Sca-Mul: at least one child, all scalars
unfoldable pub scalars_of : List Sort → Conclusion
unfolding agree_all
scalars_of [] = fails
scalars_of (s ∷ ss) = to_scalar s (agree_all scalar ss)

-- Ket-Add, Bra-Add, Opt-Add: at least one child, all of one sort of array
unfoldable pub sum_of : List Sort → Conclusion
unfolding agree_all array_of
sum_of [] = fails
sum_of (s ∷ ss) = and_then (array_of s) λ u. agree_all u ss

unfoldable pub listed : {A : Type 0} → Option A → (A → Sort) → Conclusion
listed nothing f = fails
listed (some a) f = gives (f a)

-- whether a tree is an index where there are so many type names
unfoldable mutual
  unfolding head_of words count

  pub index_tree : ℕ → Tree → Bool
  index_tree n (node l cs) =
      cond (eqb (head_of l 0).0 1) (ltb (head_of l 0).1 n && eqb (count cs) 0)
      (eqb (head_of l 0).0 2 && (eqb (count cs) 2 && (leb (length (words (node l cs))) max_index && index_trees n cs)))

  pub index_trees : ℕ → Forest → Bool
  index_trees n none = true
  index_trees n (t ▹ f) = index_tree n t && index_trees n f

-- a bound basis has the index of its sum, where that has one
unfoldable pub bound_of : ℕ → Option Tree → Conclusion
unfolding index_tree
bound_of n nothing = fails
bound_of n (some σ) = cond (index_tree n σ) (gives (basis σ)) fails

-- the body's sort, where it is a type
unfoldable pub body_of : Sort → Conclusion
body_of (index σ) = fails
body_of (basis σ) = fails
body_of scalar = gives scalar
body_of (ket σ) = gives (ket σ)
body_of (bra σ) = gives (bra σ)
body_of (operator σ τ) = gives (operator σ τ)

-- ---- the rules, by label
unfoldable pub conclude : Context → Label → List Sort → Conclusion
unfolding listed same short adjoint_of array_of tensor_of scalars_of sum_of bound_of body_of
conclude Γ (type_name a) ss = nil ss (cond (ltb a Γ.types) (gives (index (node (type_name a) none))) fails)
conclude Γ (basis_name a) ss = nil ss (listed (get_elem? Γ.bases a) basis)
conclude Γ (variable a) ss = nil ss (listed (get_elem? Γ.variables a) λ S. S)
conclude Γ index_product ss = two ss λ s t. to_index s λ σ. to_index t λ τ. short (σ ⊠ τ) (gives (index (σ ⊠ τ)))
conclude Γ pair ss = two ss λ s t. to_basis s λ σ. to_basis t λ τ. short (σ ⊠ τ) (gives (basis (σ ⊠ τ)))
conclude Γ scalar_zero ss = nil ss (gives scalar)
conclude Γ scalar_one ss = nil ss (gives scalar)
conclude Γ scalar_sum ss = scalars_of ss
conclude Γ scalar_product ss = scalars_of ss
conclude Γ conjugate ss = one ss λ s. to_scalar s (gives scalar)
conclude Γ delta ss = two ss λ s t. to_basis s λ σ. to_basis t λ τ. same σ τ (gives scalar)
conclude Γ dot ss = two ss λ s t. to_bra s λ σ. to_ket t λ τ. same σ τ (gives scalar)
conclude Γ zero_ket ss = one ss λ s. to_index s λ σ. gives (ket σ)
conclude Γ zero_bra ss = one ss λ s. to_index s λ σ. gives (bra σ)
conclude Γ zero_operator ss = two ss λ s t. to_index s λ σ. to_index t λ τ. gives (operator σ τ)
conclude Γ identity ss = one ss λ s. to_index s λ σ. gives (operator σ σ)
conclude Γ basis_ket ss = one ss λ s. to_basis s λ σ. gives (ket σ)
conclude Γ basis_bra ss = one ss λ s. to_basis s λ σ. gives (bra σ)
conclude Γ adjoint ss = one ss adjoint_of
conclude Γ scale ss = two ss λ s t. to_scalar s (array_of t)
conclude Γ add ss = sum_of ss
conclude Γ tensor ss = two ss tensor_of
conclude Γ mulk ss = two ss λ s t. to_operator s λ σ τ. to_ket t λ υ. same τ υ (gives (ket σ))
conclude Γ mulb ss = two ss λ s t. to_bra s λ υ. to_operator t λ σ τ. same υ σ (gives (bra τ))
conclude Γ outer ss = two ss λ s t. to_ket s λ σ. to_bra t λ τ. gives (operator σ τ)
conclude Γ mulo ss = two ss λ s t. to_operator s λ σ τ. to_operator t λ υ ρ. same τ υ (gives (operator σ ρ))
conclude Γ (bound_basis a) ss = nil ss (cond (ltb a max_bodies) (bound_of Γ.types (get_elem? Γ.bound a)) fails)
conclude Γ big_sum ss = two ss λ s t. to_index s λ σ. cond (ltb (length Γ.bound) max_bodies) (body_of t) fails

-- ---- the type of a part at an offset, or the offset of the first untyped part: that ends first, and among equal ends begins last (01, code 10).
-- Children come before their parent, from left to right: so the first that fails is that one
pub data Inferred : Type 0 where
  typed : Sort → Inferred
  untyped : ℕ → Inferred

pub data Children : Type 0 where
  sorts : List Sort → Children
  failed : ℕ → Children

unfoldable pub decide : ℕ → Conclusion → Inferred
decide at fails = untyped at
decide at (gives S) = typed S

unfoldable pub close : Context → ℕ → Label → Children → Inferred
unfolding decide
close Γ at l (failed k) = untyped k
close Γ at l (sorts ss) = decide at (conclude Γ l ss)

unfoldable pub join : Inferred → Children → Children
join (untyped k) r = failed k
join (typed s) (failed k) = failed k
join (typed s) (sorts ss) = sorts (s ∷ ss)

unfoldable mutual
  unfolding close join later

  pub type_of : Context → ℕ → Tree → Inferred
  type_of Γ at (node l cs) = close Γ at l (types_of Γ (later Γ l cs) (at + 1) cs)

  -- of a row of children, the first in one context and the others in another
  pub types_of : Context → Context → ℕ → Forest → Children
  types_of Γ Δ at none = sorts []
  types_of Γ Δ at (t ▹ f) = join (type_of Γ at t) (types_of Δ Δ (at + length (words t)) f)

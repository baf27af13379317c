-- The table of heads, and what a single word says.
use Rattle.std.specs.Prelude.{cond, List, [], ◌∷◌, ℕ, ◌+◌, ◌*◌, ◌/◌, ◌%◌, eqb, length, get_or, Option, Some, None}
use Rattle.term.specs.declared.heads.Class.{Class}
use Rattle.term.specs.declared.heads.Class.TheVariants.{Nothing, Index, Basis, Scalar, Ket, Bra, Operator, Array, Term}

-- A head with its name, if it has one: what a node of a tree carries. The number of its children is the tree's to say
pub data Label : Type 0 where
  type_name basis_name variable bound_basis : ℕ → Label
  index_product pair : Label
  scalar_zero scalar_one scalar_sum scalar_product conjugate delta dot : Label
  zero_ket zero_bra zero_operator identity basis_ket basis_bra : Label
  adjoint scale add tensor mulk mulb outer mulo big_sum : Label

-- A line of the table: the label, the sort of the result, the sorts of the children.
-- `named`: h:a, the low byte is a name. `counted`: h:n, the low byte is the number of children. `fixed`: the low byte is 0
pub data Head : Type 0 where
  unknown : Head
  named : (ℕ → Label) → Class → Head
  fixed : Label → Class → List Class → Head
  counted : Label → Class → Class → Head

-- 01: "The heads stand in one table with the sort and the number of children of each". The k-th line is head k; from 27 on they are those of 02, CR 1: "head 27 (children: an index and a body,
-- which is no index or basis) and head 28:a, the basis bound by the a-th 27 whose body holds it"
unfoldable pub heads : List Head
heads =
    unknown
    ∷ named type_name Index
    ∷ fixed index_product Index (Index ∷ Index ∷ [])
    ∷ named basis_name Basis
    ∷ fixed pair Basis (Basis ∷ Basis ∷ [])
    ∷ fixed scalar_zero Scalar []
    ∷ fixed scalar_one Scalar []
    ∷ counted scalar_sum Scalar Scalar
    ∷ counted scalar_product Scalar Scalar
    ∷ fixed conjugate Scalar (Scalar ∷ [])
    ∷ fixed delta Scalar (Basis ∷ Basis ∷ [])
    ∷ fixed dot Scalar (Bra ∷ Ket ∷ [])
    ∷ fixed zero_ket Ket (Index ∷ [])
    ∷ fixed zero_bra Bra (Index ∷ [])
    ∷ fixed zero_operator Operator (Index ∷ Index ∷ [])
    ∷ fixed identity Operator (Index ∷ [])
    ∷ fixed basis_ket Ket (Basis ∷ [])
    ∷ fixed basis_bra Bra (Basis ∷ [])
    ∷ fixed adjoint Array (Array ∷ [])
    ∷ fixed scale Array (Scalar ∷ Array ∷ [])
    ∷ counted add Array Array
    ∷ fixed tensor Array (Array ∷ Array ∷ [])
    ∷ fixed mulk Ket (Operator ∷ Ket ∷ [])
    ∷ fixed mulb Bra (Bra ∷ Operator ∷ [])
    ∷ fixed outer Operator (Ket ∷ Bra ∷ [])
    ∷ fixed mulo Operator (Operator ∷ Operator ∷ [])
    ∷ named variable Term
    ∷ fixed big_sum Term (Index ∷ Term ∷ [])
    ∷ named bound_basis Basis
    ∷ []

-- the head of a label over n children, and what it carries beside it: its name, or n where it counts its children
unfoldable pub head_of : Label → ℕ → ℕ × ℕ
head_of (type_name a) n = (1, a)
head_of index_product n = (2, 0)
head_of (basis_name a) n = (3, a)
head_of pair n = (4, 0)
head_of scalar_zero n = (5, 0)
head_of scalar_one n = (6, 0)
head_of scalar_sum n = (7, n)
head_of scalar_product n = (8, n)
head_of conjugate n = (9, 0)
head_of delta n = (10, 0)
head_of dot n = (11, 0)
head_of zero_ket n = (12, 0)
head_of zero_bra n = (13, 0)
head_of zero_operator n = (14, 0)
head_of identity n = (15, 0)
head_of basis_ket n = (16, 0)
head_of basis_bra n = (17, 0)
head_of adjoint n = (18, 0)
head_of scale n = (19, 0)
head_of add n = (20, n)
head_of tensor n = (21, 0)
head_of mulk n = (22, 0)
head_of mulb n = (23, 0)
head_of outer n = (24, 0)
head_of mulo n = (25, 0)
head_of (variable a) n = (26, a)
head_of big_sum n = (27, 0)
head_of (bound_basis a) n = (28, a)

-- 01: "A word is head × 256 + a". The word of a label over n children
unfoldable pub word : Label → ℕ → ℕ
unfolding head_of
word l n = (head_of l n).0 * 256 + (head_of l n).1

-- What a word says: a known head's label with its number of children, or nothing
pub data Reading : Type 0 where
  unread : Reading
  labelled : Label → ℕ → Reading

-- 01: "Heads without :a or :n carry a = 0; with any other a the head counts as unknown", and a part is whole only where "each n is from 1"
unfoldable pub reading : Head → ℕ → Reading
reading unknown a = unread
reading (named l c) a = labelled (l a) 0
reading (fixed l c cs) a = cond (eqb a 0) (labelled l (length cs)) unread
reading (counted l c c') a = cond (eqb a 0) unread (labelled l a)

unfoldable pub read : ℕ → Reading
unfolding reading heads
read w = reading (get_or heads (w / 256) unknown) (w % 256)

-- how many children a word wants, as the code answers it
unfoldable pub arity_in : Reading → Option ℕ
arity_in unread = None
arity_in (labelled l n) = Some n

unfoldable pub arity_of : ℕ → Option ℕ
unfolding arity_in
arity_of w = arity_in (read w)

-- the sort of the result, and that of the k-th child, in a line of the table
unfoldable pub result_in : Head → Class
result_in unknown = Nothing
result_in (named l c) = c
result_in (fixed l c cs) = c
result_in (counted l c c') = c

unfoldable pub child_in : Head → ℕ → Class
child_in unknown k = Nothing
child_in (named l c) k = Nothing
child_in (fixed l c cs) k = get_or cs k Nothing
child_in (counted l c c') k = c'

unfoldable pub result_of : ℕ → Class
unfolding result_in heads
result_of h = result_in (get_or heads h unknown)

unfoldable pub child_of : ℕ → ℕ → Class
unfolding child_in heads
child_of h k = child_in (get_or heads h unknown) k

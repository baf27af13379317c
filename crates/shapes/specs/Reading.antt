-- The class of a part and the indices of its type, read off its words by the digits of the typing rules. Nothing is typed on the way, so that this says something only
-- of a part that has a type: `Statements` says what.
use Rattle.std.specs.Prelude.{◌≡◌, ◌≢◌, Bool, true, false, cond, List, [], ◌∷◌, ◌++◌, ℕ, zero, suc, ◌+◌, ◌*◌, ◌/◌, ◌%◌, ◌≤◌, eqb, leb, length, get_or, take, drop}
use Rattle.term.specs.Heads.{result_of}
use Rattle.term.specs.declared.parts.Side.{Side}
use Rattle.term.specs.declared.parts.Side.TheVariants.{Left, Right}
use Rattle.term.specs.Trees.{Tree, words, Formed, depth}
use Rattle.term.specs.Parts.{part}
use Rattle.types.specs.Sorts.{Sort}
use Rattle.typebook.specs.Code.Shapes.{Shape, shape_of, number_of}
use Rattle.typebook.specs.Code.Lines.{rule_at, is_product}
use Rattle.declarations.specs.Declarations.{basis_at, variable_at}
use Rattle.shapes.specs.Bodies.{bound_in}

-- ---- of a declared name, by the layout of the declarations
-- the index whose words begin at an offset; how many they are stands at another
abbrev pub index_at : List ℕ → ℕ → ℕ → List ℕ
index_at ds n at = take (get_or ds n 0) (drop at ds)

unfoldable pub basis_index : List ℕ → ℕ → List ℕ
basis_index ds a = index_at ds (basis_at a) (basis_at a + 1)

-- a variable's first index (0), or its second (1), which only an operator has, on the right
unfoldable pub second_of : Bool → ℕ → ℕ
second_of right kind = cond right (cond (eqb (kind % 4) 3) 1 0) 0

unfoldable pub variable_index : List ℕ → Bool → ℕ → List ℕ
variable_index ds right a =
    let at = variable_at a in
    let k = second_of right (get_or ds at 0) in
    index_at ds (at + 1 + k) (at + 3 + k * 63)

-- the index of the name in a word; none where it has no name
unfoldable pub declared_index : List ℕ → Bool → ℕ → List ℕ
declared_index ds right w = cond (eqb (w / 256) 3) (basis_index ds (w % 256)) (cond (eqb (w / 256) 26) (variable_index ds right (w % 256)) [])

-- classes are numbered as kinds are, from the scalars' on; a mark is no part of a kind
unfoldable pub variable_class : List ℕ → ℕ → ℕ
variable_class ds a = 3 + get_or ds (variable_at a) 0 % 4

-- ---- of a part that begins at an offset
-- where its first child begins, and the second behind it. Where no first one does, the second is past the end, so that no word is read twice
unfoldable pub child_at : List ℕ → ℕ → Bool → ℕ
child_at ws at second =
    let n = length (part ws (at + 1)) in
    cond second (cond (eqb n 0) (length ws) (at + 1 + n)) (at + 1)

-- an adjoint's class: a ket's for a bra's and the other way round
unfoldable pub turned_if : Bool → ℕ → ℕ
turned_if turned n = cond turned (cond (eqb n 4) 5 (cond (eqb n 5) 4 n)) n

-- the class by the part's first word, with the classes of its first child and of its second: that of the table of heads, or a child's
unfoldable pub class_read : List ℕ → ℕ → (Bool → ℕ) → ℕ
class_read ds w child =
    let h = w / 256 in
    let k = rule_at h / 256 % 16 in
    cond (eqb h 26) (variable_class ds (w % 256)) (cond (eqb k 0) (number_of (result_of h)) (turned_if (eqb k 3) (child (eqb k 2))))

unfoldable pub class_at : List ℕ → List ℕ → ℕ → ℕ → ℕ
class_at ds ws zero at = 0
class_at ds ws (suc n) at = class_read ds (get_or ws at 0) λ second. class_at ds ws n (child_at ws at second)

-- a side as a test of whether it is the right one
abbrev pub at_right : Side → Bool
at_right Left = false
at_right Right = true

-- the digit of the left index, or of the right
abbrev pub digit : Bool → ℕ → ℕ
digit right r = cond right (r % 16) (r / 16 % 16)

-- digits 1 and 2 are the left index of the first child and the right, 3 and 4 those of the second
abbrev pub is_right : ℕ → Bool
is_right k = eqb (k % 2) 0

-- the index of a head that has it from no child, by its word: of a bound basis the index of its sum, which `outer` tells where it stands before the words, and else as declared
unfoldable pub leaf_index : List ℕ → List ℕ → (ℕ → List ℕ) → Bool → ℕ → ℕ → List ℕ
leaf_index ds ws outer right at w = cond (eqb (w / 256) 28) (bound_in ws outer at (w % 256)) (declared_index ds right w)

-- the index on a side by the first word, with those of the children: an index is its own, the digits say whose it is, and where they do not it is a leaf's
unfoldable pub side_read : ℕ → List ℕ → List ℕ → Bool → (Bool → Bool → List ℕ) → List ℕ
side_read w whole leaf right child =
    let h = w / 256 in
    let k = digit right (rule_at h) in
    cond (eqb (number_of (result_of h)) 1) whole
    (cond (is_product (rule_at h / 4096)) (512 ∷ (child right false ++ child right true))
    (cond (eqb k 0) leaf (child (is_right k) (leb 3 k))))

unfoldable pub side_at : List ℕ → List ℕ → (ℕ → List ℕ) → Bool → ℕ → ℕ → List ℕ
side_at ds ws outer right zero at = []
side_at ds ws outer right (suc n) at =
    side_read (get_or ws at 0) (part ws at) (leaf_index ds ws outer right at (get_or ws at 0)) right λ r second. side_at ds ws outer r n (child_at ws at second)

-- ---- of a typed part
-- words that begin with those of a part, which is no deeper than a budget
pub record Begins (ws : List ℕ) (budget : ℕ) (t : Tree) : Type 0 where
  pub formed : Formed t
  pub shallow : depth t ≤ budget
  pub rest : List ℕ
  pub whole : ws ≡ words t ++ rest

-- the index on a side; it is empty where the sort has none there
abbrev pub side_in : Bool → Shape → List ℕ
side_in right s = cond right s.right s.left

-- the class, and the index on each side that has one
pub record Read (ds ws : List ℕ) (outer : ℕ → List ℕ) (budget at : ℕ) (S : Sort) : Type 0 where
  pub class : class_at ds ws budget at ≡ number_of (shape_of S).class
  pub side : (right : Bool) → side_in right (shape_of S) ≢ [] → side_at ds ws outer right budget at ≡ side_in right (shape_of S)

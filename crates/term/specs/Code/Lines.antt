-- The table of heads as the code holds it: a line of four hexadecimal digits for each head.
use Rattle.std.specs.Prelude.{List, [], ◌∷◌, ℕ, ◌+◌, ◌*◌, length, get_or}
use Rattle.term.specs.declared.heads.Class.{Class}
use Rattle.term.specs.declared.heads.Class.TheVariants.{Nothing, Index, Basis, Scalar, Ket, Bra, Operator, Array, Term}
use Rattle.term.specs.Heads.{Head, unknown, named, fixed, counted, heads}

-- a class by its number, which is its digit in a line
abbrev pub number_of : Class → ℕ
number_of Nothing = 0
number_of Index = 1
number_of Basis = 2
number_of Scalar = 3
number_of Ket = 4
number_of Bra = 5
number_of Operator = 6
number_of Array = 7
number_of Term = 8

unfoldable pub line_of : Head → ℕ
line_of unknown = 0
line_of (named l c) = 1 * 4096 + number_of c * 256
line_of (fixed l c cs) = (3 + length cs) * 4096 + number_of c * 256 + number_of (get_or cs 0 Nothing) * 16 + number_of (get_or cs 1 Nothing)
line_of (counted l c c') = 2 * 4096 + number_of c * 256 + number_of c' * 16

unfoldable pub line_at : ℕ → ℕ
unfolding line_of heads
line_at h = line_of (get_or heads h unknown)

-- the classes in the order of their digits
abbrev pub classes : List Class
classes = Nothing ∷ Index ∷ Basis ∷ Scalar ∷ Ket ∷ Bra ∷ Operator ∷ Array ∷ Term ∷ []

abbrev pub class_of : ℕ → Class
class_of d = get_or classes d Nothing

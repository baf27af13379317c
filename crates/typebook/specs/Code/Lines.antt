-- The typing rules as data, on shapes: a line of four digits for each head. The rules to believe are those of `types` Rules; `Rows` of the proofs shows that a line concludes what `conclude`
-- of `types` TypeOf does.
use Rattle.std.specs.Prelude.{Bool, true, cond, ◌&&◌, List, [], ◌∷◌, ◌++◌, ℕ, ◌+◌, ◌*◌, ◌/◌, ◌%◌, eqb, leb, length, get_or}
use Rattle.std.proofs.Math.Option.{Option, some, none}
use Rattle.words.specs.Words.{same_words}
use Rattle.term.specs.declared.heads.Class.{Class}
use Rattle.term.specs.declared.heads.Class.TheVariants.{Ket, Bra}
use Rattle.term.specs.Heads.{result_of, child_of}
use Rattle.types.specs.TypeOf.{Conclusion, fails, gives}
use Rattle.typebook.specs.Code.Shapes.{Shape, shape, shape_of, number_of, fitting, given}

-- what a conclusion is as a shape
abbrev pub concluded : Conclusion → Option Shape
concluded fails = none
concluded (gives S) = some (shape_of S)

-- ---- the lines
abbrev pub line : ℕ → ℕ → ℕ → ℕ → ℕ
line test class left right = test * 4096 + class * 256 + left * 16 + right

-- the k-th line is head k's; a head without children has none. 2 and 4 multiply indices, 7, 8 and 20 are sums, 9 conjugates, 10 is delta, 12 to 15 are the zeros and the
-- identity, 16 and 17 a ket and a bra, 18 the adjoint, 19 scales, 21 is the tensor, and DOT, MULK, MULB, OUTER and MULO (11, 22 to 25) are one rule; 27, the sum over a basis,
-- has the sort of its body
unfoldable pub rules : List ℕ
rules =
    0
    ∷ 0
    ∷ line 4 0 1 2
    ∷ 0
    ∷ line 4 0 1 2
    ∷ 0
    ∷ 0
    ∷ line 3 1 1 2
    ∷ line 3 1 1 2
    ∷ line 0 0 0 0
    ∷ line 1 0 0 0
    ∷ line 2 0 1 4
    ∷ line 0 0 1 0
    ∷ line 0 0 0 1
    ∷ line 0 0 1 3
    ∷ line 0 0 1 1
    ∷ line 0 0 1 0
    ∷ line 0 0 0 1
    ∷ line 0 3 2 1
    ∷ line 0 2 3 4
    ∷ line 3 1 1 2
    ∷ line 5 1 1 2
    ∷ line 2 0 1 4
    ∷ line 2 0 1 4
    ∷ line 2 0 1 4
    ∷ line 2 0 1 4
    ∷ 0
    ∷ line 0 2 3 4
    ∷ []

unfoldable pub rule_at : ℕ → ℕ
unfolding rules
rule_at h = get_or rules h 0

-- ---- the first digit: what is asked of the children, beside their classes
-- two shapes are the same
unfoldable pub alike_to : Shape → Shape → Bool
alike_to a b = eqb (number_of a.class) (number_of b.class) && (same_words a.left b.left && same_words a.right b.right)

unfoldable pub all_alike : Shape → List Shape → Bool
unfolding alike_to
all_alike a [] = true
all_alike a (b ∷ bs) = alike_to a b && all_alike a bs

-- 1 one index; 2 the first's columns are the second's rows; 3 all alike; 5 one class
unfoldable pub met : ℕ → Shape → Shape → Bool → Bool
met t a b alike =
    cond (eqb t 1) (same_words a.left b.left)
    (cond (eqb t 2) (same_words a.right b.left)
    (cond (eqb t 3) alike
    (cond (eqb t 5) (eqb (number_of a.class) (number_of b.class)) true)))

-- 3: sums and products of many
abbrev pub is_sum : ℕ → Bool
is_sum h = eqb (rule_at h / 4096) 3

-- the classes of n children: the first's, and where there is one more, and no sum, the second's
abbrev pub second_fits : ℕ → ℕ → Class → Bool
second_fits h n d = cond (is_sum h) true (cond (eqb n 2) (fitting d (child_of h 1)) true)

unfoldable pub fitted : ℕ → ℕ → Class → Class → Bool
fitted h n c d = fitting c (child_of h 0) && second_fits h n d

-- ---- the second digit: the class of the result. 0 as in the table of heads; 1 the first's; 2 the second's; 3 the adjoint's of the first
abbrev pub turned : Class → Class
turned c = cond (eqb (number_of c) 4) Bra (cond (eqb (number_of c) 5) Ket c)

unfoldable pub class_by : ℕ → ℕ → Class → Class → Class
class_by k h c d = cond (eqb k 1) c (cond (eqb k 2) d (cond (eqb k 3) (turned c) (result_of h)))

-- ---- the third and the fourth: the two indices of the result. 0 none; 1 and 2 the first's two, 3 and 4 the second's
abbrev pub piece_of : ℕ → Shape → Shape → List ℕ
piece_of k a b = get_or ([] ∷ a.left ∷ a.right ∷ b.left ∷ b.right ∷ []) k []

-- with a first digit from 4 on they are multiplied with the second's, where there are some
abbrev pub is_product : ℕ → Bool
is_product t = leb 4 t

unfoldable pub pair_of : List ℕ → List ℕ → List ℕ
pair_of [] j = []
pair_of (x ∷ i) j = 512 ∷ ((x ∷ i) ++ j)

unfoldable pub side_of : Bool → List ℕ → List ℕ → List ℕ
unfolding pair_of
side_of p i j = cond p (pair_of i j) i

-- 01: "A type index has at most 63 words". Only products make longer ones
unfoldable pub short_both : Bool → ℕ → ℕ → Bool
short_both p n m = cond p (leb n 63 && leb m 63) true

unfoldable pub shaped : Class → Bool → List ℕ → List ℕ → Option Shape
shaped c p i j = given (short_both p (length i) (length j)) (some (shape c i j))

-- what a line concludes of children whose classes fit
unfoldable pub by_line : ℕ → ℕ → Shape → Shape → Bool → Option Shape
by_line r h a b alike =
    let p = is_product (r / 4096) in
    given (met (r / 4096) a b alike)
    (shaped (class_by (r / 256 % 16) h a.class b.class) p (side_of p (piece_of (r / 16 % 16) a b) b.left) (side_of p (piece_of (r % 16) a b) b.right))

-- ---- a head with n children, at least one: of the first, the latest, and whether all are like the first
unfoldable pub children_of : ℕ → ℕ → Shape → Shape → Bool → Option Shape
children_of h n a b alike = given (fitted h n a.class b.class) (by_line (rule_at h) h a b alike)

-- The bytes of a file. Document 01, code 3: "a byte other than LF and 32 to 126, or no LF as last byte (an empty file too)".
use Rattle.std.specs.Prelude.{Bool, true, false, cond, ◌&&◌, ◌||◌, List, [], ◌∷◌, ℕ, suc, ◌+◌, eqb, leb, Option, Some, None}
use Rattle.words.specs.Listed.{all}

abbrev pub line_feed : ℕ
line_feed = 10

unfoldable pub printable : ℕ → Bool
printable b = leb 32 b && leb b 126

-- whether no byte is a bad one
unfoldable pub fine : ℕ → Bool
unfolding printable
fine b = eqb b line_feed || printable b

abbrev pub all_fine : List ℕ → Bool
all_fine bs = all fine bs

-- The line of the first fault, if there is one. The bytes begin in line n, and `ended` says whether a LF stands straight before them. "the first bad byte comes before a
-- missing last LF, whose line is the unfinished one (1 when empty)"
unfoldable pub bad_line : ℕ → Bool → List ℕ → Option ℕ
unfolding printable
bad_line n ended [] = cond ended None (Some n)
bad_line n ended (b ∷ bs) = cond (eqb b line_feed) (bad_line (n + 1) true bs) (cond (printable b) (bad_line n false bs) (Some n))

-- how many bytes stand before the first byte b, or all where there is none
unfoldable pub index_of : ℕ → List ℕ → ℕ
index_of b [] = 0
index_of b (x ∷ xs) = cond (eqb x b) 0 (suc (index_of b xs))

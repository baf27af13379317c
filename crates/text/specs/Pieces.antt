-- Text cut at a separator: lines, the fields of a line, the two numbers of a token.
use Rattle.std.specs.Prelude.{Bool, true, false, cond, ◌&&◌, List, [], ◌∷◌, ◌++◌, ℕ, ◌+◌, eqb, leb, length, drop}
use Rattle.text.specs.Bytes.{line_feed, index_of}

abbrev pub space : ℕ
space = 32

abbrev pub colon : ℕ
colon = 58

abbrev pub Text : Type 0
Text = List ℕ

unfoldable pub push : ℕ → List Text → List Text
push x [] = (x ∷ []) ∷ []
push x (p ∷ ps) = (x ∷ p) ∷ ps

-- the pieces between the bytes b; `last` is what the end of the text leaves
unfoldable pub pieces : ℕ → List Text → Text → List Text
unfolding push
pieces b last [] = last
pieces b last (x ∷ xs) = cond (eqb x b) ([] ∷ pieces b last xs) (push x (pieces b last xs))

-- a separator stands between two pieces, so there is one piece more than separators: 01, "single spaces between"
abbrev pub parted : ℕ → Text → List Text
parted b = pieces b ([] ∷ [])

-- a LF ends each line: 01, "lines of key=value end in LF"
abbrev pub lines_of : Text → List Text
lines_of = pieces line_feed []

-- the same from lines to text
unfoldable pub ended : List Text → Text
ended [] = []
ended (l ∷ ls) = l ++ line_feed ∷ ended ls

-- where the piece from an offset on ends
unfoldable pub piece_end : Text → ℕ → ℕ → ℕ
unfolding index_of
piece_end s at b = at + index_of b (drop at s)

-- whether a text begins with a key
unfoldable pub starts : Text → Text → Bool
starts [] s = true
starts (k ∷ ks) [] = false
starts (k ∷ ks) (b ∷ bs) = eqb b k && starts ks bs

-- the fields of a line from an offset on: none from behind its end
unfoldable pub fields_from : ℕ → Text → List Text
unfolding pieces
fields_from at s = cond (leb at (length s)) (parted space (drop at s)) []

-- Tokens, read by a function for the code to equal, and written. What to believe is `token`; of known heads what is written is read, and what is read was written (`Written` of the proofs).
-- Document 01, "The file": "Tokens of heads 1, 3, 7, 8, 20, 26 are h:a, of the other known heads h; unknown heads come either way"; 02, CR 1: "In the file 27 stands bare, 28 with its
-- number".
use Rattle.std.specs.Prelude.{Bool, true, false, cond, ◌||◌, not, List, [], ◌∷◌, ◌++◌, ℕ, ◌+◌, ◌*◌, ◌/◌, ◌%◌, ltb, length, take, drop, set}
use Rattle.std.proofs.Math.Option.{Option, some, none, Option-elim}
use Rattle.text.specs.Bytes.{index_of}
use Rattle.term.specs.Heads.{Reading, unread, labelled, read}
use Rattle.text.specs.Pieces.{Text, space, colon, parted, pieces}
use Rattle.text.specs.Numbers.{decimal, at_most, number_in, limited_to}

unfoldable pub is_labelled : Reading → Bool
is_labelled unread = false
is_labelled (labelled l n) = true

-- a word of a known head
unfoldable pub known : ℕ → Bool
unfolding is_labelled
known w = is_labelled (read w)

-- the heads that are written h:a: those that are known with a = 1
unfoldable pub carries : ℕ → Bool
unfolding known
carries h = known (h * 256 + 1)

-- ---- read. With an a that a known head must not carry "the head counts as unknown"
unfoldable pub bare : Option ℕ → Option ℕ
unfolding carries
bare none = none
bare (some h) = cond (carries h) none (some (h * 256))

unfoldable pub paired : Option ℕ → Option ℕ → Option ℕ
unfolding carries known
paired none a = none
paired (some h) none = none
paired (some h) (some a) = cond (carries h || not (known (h * 256 + a))) (some (h * 256 + a)) none

-- "a token part over 255" is malformed
unfoldable pub token_in : Text → Option ℕ
unfolding bare paired number_in limited_to index_of
token_in s =
    let at = index_of colon s in
    cond (ltb at (length s)) (paired (at_most 255 (take at s)) (at_most 255 (drop (at + 1) s))) (bare (at_most 255 s))

unfoldable pub both : Option ℕ → Option (List ℕ) → Option (List ℕ)
both none ws = none
both (some w) none = none
both (some w) (some ws) = some (w ∷ ws)

unfoldable pub words_of : List Text → Option (List ℕ)
unfolding both token_in
words_of [] = some []
words_of (p ∷ ps) = both (token_in p) (words_of ps)

-- the words of a value, where every token is of the form
unfoldable pub tokens_in : Text → Option (List ℕ)
unfolding words_of pieces
tokens_in s = words_of (parted space s)

-- ---- written
unfoldable pub token : ℕ → Text
unfolding carries decimal
token w = cond (carries (w / 256)) (decimal (w / 256) ++ colon ∷ decimal (w % 256)) (decimal (w / 256))

unfoldable pub spaced : List ℕ → Text
unfolding token
spaced [] = []
spaced (w ∷ ws) = space ∷ token w ++ spaced ws

unfoldable pub tokens : List ℕ → Text
unfolding token spaced
tokens [] = []
tokens (w ∷ ws) = token w ++ spaced ws

-- a slice behind so many tokens, one word each from the k-th place on, up to the first that is malformed; words behind the slice's end are dropped
unfoldable pub stored : List Text → List ℕ → ℕ → List ℕ
unfolding token_in Option-elim
stored [] out k = out
stored (p ∷ ps) out k = Option-elim (token_in p) out λ w. stored ps (set out k w) (k + 1)

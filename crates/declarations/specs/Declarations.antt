-- Declarations as a caller lends them: one slice of 6,179 words of fixed layout, so that a name's entry is found by its number.
--     word 0             the number of type names
--     word 1             the number of basis names
--     word 2             the number of variables
--     from 3             32 entries of 64 words, one for each basis name: the length of its index, then the index's words
--     from 2051          32 entries of 129 words, one for each variable: its kind (0 scalar, 1 ket, 2 bra, 3 operator, and 4 more where it is marked as unitary), the
--                        lengths of its two indices, then 63 words for each. A scalar has no index, a ket or a bra has its index as the first, an operator its rows'
--                        and its columns'
-- Words that no entry's length takes in are not looked at.
use Rattle.std.specs.Prelude.{Bool, true, cond, ◌&&◌, List, [], ℕ, ◌+◌, ◌*◌, ◌/◌, ◌%◌, eqb, leb, ltb, length, get_or, take, drop}
use Rattle.words.specs.Listed.{up_to, all_up_to, all}
use Rattle.words.specs.Words.{same_words}
use Rattle.term.specs.declared.terms.Names.{Names}
use Rattle.term.specs.Trees.{Tree}
use Rattle.term.specs.Parts.{parse, part, tree_in}
use Rattle.term.specs.Terms.{max_index, max_names, index_word, all_index_words}
use Rattle.types.specs.Sorts.{Sort, scalar, ket, bra, operator, Context, in_bodies}

abbrev pub size : ℕ
size = 6179

abbrev pub basis_at : ℕ → ℕ
basis_at a = 3 + a * 64

abbrev pub variable_at : ℕ → ℕ
variable_at a = 2051 + a * 129

-- the tree that the first n words from an offset on make, where they do
unfoldable pub index_in : List ℕ → ℕ → ℕ → Tree
unfolding tree_in parse
index_in ds at n = tree_in (parse (take n (drop at ds)))

-- the type of a variable, by its kind; the mark is no part of it
unfoldable pub type_in : ℕ → Tree → Tree → Sort
type_in kind σ τ = let k = kind % 4 in cond (eqb k 1) (ket σ) (cond (eqb k 2) (bra σ) (cond (eqb k 3) (operator σ τ) scalar))

abbrev pub marked : ℕ → Bool
marked kind = leb 4 kind

unfoldable pub basis_in : List ℕ → ℕ → Tree
unfolding index_in
basis_in ds a = index_in ds (basis_at a + 1) (get_or ds (basis_at a) 0)

unfoldable pub variable_in : List ℕ → ℕ → Sort
unfolding index_in type_in
variable_in ds a =
    let at = variable_at a in
    type_in (get_or ds at 0) (index_in ds (at + 3) (get_or ds (at + 1) 0)) (index_in ds (at + 66) (get_or ds (at + 2) 0))

unfoldable pub mark_in : List ℕ → ℕ → Bool
mark_in ds a = marked (get_or ds (variable_at a) 0)

-- the word of a variable that is declared and marked
unfoldable pub marked_word : List ℕ → ℕ → Bool
unfolding mark_in
marked_word ds w = eqb (w / 256) 26 && (ltb (w % 256) (get_or ds 2 0) && mark_in ds (w % 256))

-- what the declarations declare
unfoldable pub context_in : List ℕ → Context
unfolding up_to basis_in variable_in mark_in
context_in ds = record {
  types = get_or ds 0 0;
  bases = up_to (get_or ds 1 0) (basis_in ds);
  variables = up_to (get_or ds 2 0) (variable_in ds);
  marks = up_to (get_or ds 2 0) (mark_in ds);
  bound = [];
}

-- the same in the bodies of sums that have these for an index, the innermost first
abbrev pub context_at : List ℕ → List Tree → Context
context_at ds bs = in_bodies bs (context_in ds)

-- ---- when they are good. 01, code 7: "a declaration is not exactly the indices wanted, or breaks a limit or a name"
-- words that are exactly one index
unfoldable pub is_index : ℕ → List ℕ → Bool
unfolding index_word all part
is_index N ws =
    ltb 0 (length ws) && (leb (length ws) max_index && (eqb (length (part ws 0)) (length ws) && all_index_words N ws))

-- 02, CR 7: "a mark on anything but an operator with two equal indices is 7"
unfoldable pub marks_square : ℕ → List ℕ → List ℕ → Bool
unfolding same_words
marks_square kind first second = cond (marked kind) (eqb kind 7 && same_words first second) true

-- exactly the indices that a kind wants, whether it is marked or not: the others are empty
abbrev pub are_wanted : ℕ → ℕ → List ℕ → List ℕ → Bool
are_wanted N kind first second =
    cond (eqb (kind % 4) 0) (eqb (length first) 0) (is_index N first)
    && cond (eqb (kind % 4) 3) (is_index N second) (eqb (length second) 0)

unfoldable pub is_variable : ℕ → ℕ → List ℕ → List ℕ → Bool
unfolding marks_square
is_variable N kind first second = marks_square kind first second && are_wanted N kind first second

-- the same of words in their places. A length word may say anything, so it is tested first
unfoldable pub good_index : ℕ → List ℕ → ℕ → ℕ → Bool
good_index N ds at n = leb n max_index && is_index N (take n (drop at ds))

unfoldable pub good_basis : List ℕ → ℕ → Bool
unfolding good_index
good_basis ds a = good_index (get_or ds 0 0) ds (basis_at a + 1) (get_or ds (basis_at a) 0)

unfoldable pub good_variable : List ℕ → ℕ → Bool
good_variable ds a =
    let at = variable_at a in
    let n = get_or ds (at + 1) 0 in
    let m = get_or ds (at + 2) 0 in
    leb n max_index
    && (leb m max_index
    && is_variable (get_or ds 0 0) (get_or ds at 0) (take n (drop (at + 3) ds)) (take m (drop (at + 66) ds)))

-- "Names are 0 to 31": no count is above 32
unfoldable pub counted : ℕ → ℕ → ℕ → Bool
counted types bases variables = leb types max_names && (leb bases max_names && leb variables max_names)

unfoldable pub good_declarations : List ℕ → Bool
unfolding counted all_up_to good_basis good_variable
good_declarations ds =
    eqb (length ds) size
    && (counted (get_or ds 0 0) (get_or ds 1 0) (get_or ds 2 0)
    && (all_up_to (get_or ds 1 0) (good_basis ds)
    && all_up_to (get_or ds 2 0) (good_variable ds)))

-- how many names of each kind are declared; none in a slice that is not of the size
unfoldable pub names_in : List ℕ → Names
names_in ds =
    cond (eqb (length ds) size) (record { types = get_or ds 0 0; bases = get_or ds 1 0; variables = get_or ds 2 0 }) (record { types = 0; bases = 0; variables = 0 })

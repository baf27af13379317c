-- Declarations computed: 02, CR 7: "in lent declarations a mark on anything but an operator with two equal indices is 7".
use mathlib.Core.Path.{◌≡◌, refl}
use mathlib.Core.Bool.{Bool, true, false}
use mathlib.Core.List.{List, [], ◌∷◌}
use Prim.Native.Nat.{ℕ}
use lib.ListN.{replicate}
use Rattle.words.specs.Words.{cleared}
use Rattle.term.specs.Heads.{word, head_of, read, type_name}
use Rattle.term.specs.Trees.{node, none, count, words, ◌⧺◌}
use Rattle.term.specs.Parts.{parse, part, tree_in}
use Rattle.types.specs.Sorts.{operator}
use Rattle.declarations.specs.Declarations.{size, context_in, is_index, is_variable, good_declarations}
use Rattle.declarations.specs.Put.{started, variable_put}

-- two types, and one variable of a kind with its indices, laid as the constructor would lay it
lent : ℕ → List ℕ → List ℕ → List ℕ
lent kind first second = variable_put (started (replicate size 0) 2) kind first second

abbrev one : List ℕ
one = 256 ∷ []

abbrev other : List ℕ
other = 257 ∷ []

is_good : ℕ → List ℕ → List ℕ → Bool
is_good kind first second = good_declarations (lent kind first second)

the-marks :
    (is_good 7 one one ≡ true)
    × (is_good 3 one other ≡ true)
    × (is_good 7 one other ≡ false)
    × (is_good 7 one [] ≡ false)
    × (is_good 4 [] [] ≡ false)
    × (is_good 5 one [] ≡ false)
    × (is_good 6 one [] ≡ false)
    × (is_good 11 one one ≡ false)
    × ((context_in (lent 7 one one)).variables ≡ operator (node (type_name 0) none) (node (type_name 0) none) ∷ [])
    × ((context_in (lent 7 one one)).marks ≡ true ∷ [])
    × ((context_in (lent 3 one one)).marks ≡ false ∷ [])
unfolding is_good lent good_declarations is_index is_variable context_in started variable_put cleared part parse tree_in read words count word head_of ◌⧺◌
the-marks = (refl, refl, refl, refl, refl, refl, refl, refl, refl, refl, refl)

-- The definitions of typing, computed at terms that document 01's examples begin with, and at one with an untyped part inside. The answers are worked out by hand from the paper.
use mathlib.Core.Path.{◌≡◌, refl}
use mathlib.Core.List.{List, [], ◌∷◌}
use mathlib.Core.Option.{Option, some, none as nothing}
use Prim.Native.Nat.{ℕ}
use Rattle.term.specs.Heads.{type_name, read, word}
use Rattle.term.specs.Parts.{parse, tree_in}
use Rattle.term.specs.Trees.{Tree, node, none, words}
use Rattle.types.specs.Sorts.{scalar, ket, bra, operator, Context, ◌⊠◌}
use Rattle.types.specs.Strays.{stray_of}
use Rattle.types.specs.TypeOf.{conclude, Inferred, typed, untyped, type_of}

-- "Declared: basis 0 and 1 of index 1:0; variables 0 ket, 1 operator, 2 scalar, 3 bra, all over 1:0"
abbrev σ : Tree
σ = node (type_name 0) none

abbrev Γ : Context
Γ = record { types = 1; bases = σ ∷ σ ∷ []; variables = ket σ ∷ operator σ σ ∷ scalar ∷ bra σ ∷ []; marks = []; bound = [] }

abbrev type_in : List ℕ → Inferred
type_in ws = type_of Γ 0 (tree_in (parse ws))

abbrev stray_in : List ℕ → Option ℕ
stray_in ws = stray_of 0 0 (tree_in (parse ws))

abbrev eight : List ℕ → List ℕ
eight ws = 6912 ∷ 256 ∷ 6912 ∷ 256 ∷ 6912 ∷ 256 ∷ 6912 ∷ 256 ∷ 6912 ∷ 256 ∷ 6912 ∷ 256 ∷ 6912 ∷ 256 ∷ 6912 ∷ 256 ∷ ws

the_examples :
    (type_in (5888 ∷ 6659 ∷ 6657 ∷ []) ≡ typed (bra σ))
    × (type_in (5632 ∷ 6144 ∷ 6656 ∷ 6659 ∷ 6656 ∷ []) ≡ typed (ket σ))
    × (type_in (5376 ∷ 4096 ∷ 768 ∷ 4096 ∷ 768 ∷ []) ≡ typed (ket (σ ⊠ σ)))
    × (type_in (4864 ∷ 1280 ∷ 6656 ∷ []) ≡ typed (ket σ))
    × (type_in (1794 ∷ 6656 ∷ 5122 ∷ 6656 ∷ 1536 ∷ []) ≡ untyped 2)
unfolding type_of conclude tree_in parse read words word
the_examples = (refl, refl, refl, refl, refl)

-- 02, CR 1. Sums over a basis: `27 1:0 24 16 28:0 17 28:0`, `27 5 16 28:0`, `27 1:0 28:0` and one sum in another, whose bases are the inner and the outer one's
sums :
    (type_in (6912 ∷ 256 ∷ 6144 ∷ 4096 ∷ 7168 ∷ 4352 ∷ 7168 ∷ []) ≡ typed (operator σ σ))
    × (type_in (6912 ∷ 1280 ∷ 4096 ∷ 7168 ∷ []) ≡ untyped 3)
    × (type_in (6912 ∷ 256 ∷ 7168 ∷ []) ≡ untyped 0)
    × (type_in (6912 ∷ 256 ∷ 6912 ∷ 512 ∷ 256 ∷ 256 ∷ 6144 ∷ 4096 ∷ 7168 ∷ 4352 ∷ 7169 ∷ []) ≡ typed (operator (σ ⊠ σ) σ))
unfolding type_of conclude tree_in parse read words word
sums = (refl, refl, refl, refl)

-- a bound basis without its sum: in no body, in the index of its sum, and one body too few; and a sum that has one
strays :
    (stray_in (4096 ∷ 7168 ∷ []) ≡ some 1)
    × (stray_in (6912 ∷ 7168 ∷ 1280 ∷ []) ≡ some 1)
    × (stray_in (6912 ∷ 256 ∷ 4096 ∷ 7169 ∷ []) ≡ some 3)
    × (stray_in (6912 ∷ 256 ∷ 4096 ∷ 7168 ∷ []) ≡ nothing)
unfolding stray_of tree_in parse read words word
strays = (refl, refl, refl, refl)

-- eight sums in each other, and nine
nested : (stray_in (eight (1280 ∷ [])) ≡ nothing) × (stray_in (eight (6912 ∷ 256 ∷ 1280 ∷ [])) ≡ some 16) × (type_in (eight (1280 ∷ [])) ≡ typed scalar)
unfolding stray_of type_of conclude tree_in parse read words word
nested = (refl, refl, refl)

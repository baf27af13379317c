-- What is proved of the typing of one term: the answer is the published rules'.
use Rattle.std.specs.Prelude.{◌≡◌, true, List, ℕ, ◌≤◌, length, take}
use Rattle.term.specs.Trees.{Tree, words, depth}
use Rattle.term.specs.Terms.{max_words, IsTerm}
use Rattle.types.specs.Sorts.{Sort}
use Rattle.types.specs.First.{HasSort, FirstUntyped}
use Rattle.types.specs.Strays.{FirstStray, NoStray}
use Rattle.types.specs.TypeOf.{typed}
use Rattle.declarations.specs.Declarations.{context_in, names_in, good_declarations}
use Rattle.typing.specs.Answers.{refuse, answer_of, typing_of, HeldTerm, TypedTerm, Verdict}

-- what is accepted is a term, and has a type by the rules
abbrev pub SoundEntry : Type 0
SoundEntry = (ds ws : List ℕ) (n : ℕ) → (typing_of ds ws n).code ≡ 0 → (t : Tree) × (S : Sort) × TypedTerm ds ws n t S

-- every such term is accepted, with its length, its depth and that type
abbrev pub Complete : Type 0
Complete = (ds ws : List ℕ) (n : ℕ) (t : Tree) (S : Sort) → TypedTerm ds ws n t S → typing_of ds ws n ≡ answer_of n (depth t) (typed S)

-- a term with a stray part is refused with 13, at the first one
abbrev pub StrayPlaces : Type 0
StrayPlaces = (ds ws : List ℕ) (n : ℕ) (t : Tree) (k : ℕ) → HeldTerm ds ws n t → FirstStray (context_in ds) t k → typing_of ds ws n ≡ refuse 13 k

-- a term that has none and no sort is refused with 10, at the part that document 01 names
abbrev pub Places : Type 0
Places =
    (ds ws : List ℕ) (n : ℕ) (t : Tree) → length ws ≡ max_words → good_declarations ds ≡ true → n ≤ length ws → words t ≡ take n ws → IsTerm (names_in ds) t
    → NoStray (context_in ds) t → (HasSort (context_in ds) t → ⊥) → (k : ℕ) × FirstUntyped (context_in ds) t k × (typing_of ds ws n ≡ refuse 10 k)

-- every answer says what it means
abbrev pub Decided : Type 0
Decided = (ds ws : List ℕ) (n : ℕ) → Verdict ds ws n (typing_of ds ws n)

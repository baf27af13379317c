-- What is proved of the reading: of a typed part it is the part's type, also inside the bodies of sums.
use Rattle.std.specs.Prelude.{◌≡◌, true, List, [], ◌++◌, ℕ, ◌<◌, length, drop}
use Rattle.term.specs.Trees.{Tree, words, Formed}
use Rattle.types.specs.Sorts.{Sort, Context}
use Rattle.types.specs.Rules.{◌⊢◌∶◌}
use Rattle.types.specs.Inside.{inside}
use Rattle.declarations.specs.Declarations.{context_at, good_declarations}
use Rattle.shapes.specs.Bodies.{Bound, nowhere}
use Rattle.shapes.specs.Reading.{Begins, Read}

-- of a part that is typed with these indices bound around it, where the walk back from it finds them, or `outer` tells them
abbrev pub Reads : Type 0
Reads =
    (ds ws : List ℕ) (outer : ℕ → List ℕ) (budget at : ℕ) (bs : List Tree) (t : Tree) (S : Sort)
    → good_declarations ds ≡ true
    → Begins (drop at ws) budget t
    → context_at ds bs ⊢ t ∶ S
    → Bound ws outer at bs
    → Read ds ws outer budget at S

-- the walk back finds them at every place of a term with nothing bound around it, in words that begin with the term's
abbrev pub BoundInside : Type 0
BoundInside =
    (Γ : Context)
    → Γ.bound ≡ []
    → (t : Tree) (k : ℕ) (ws rest : List ℕ)
    → Formed t
    → k < length (words t)
    → ws ≡ words t ++ rest
    → Bound ws nowhere k (inside Γ t k).bound

-- Building on words: the words of a right side, each for itself or for a run of others.
use Rattle.std.specs.Prelude.{◌≡◌, Bool, true, false, cond, ◌&&◌, ◌||◌, List, [], ◌∷◌, ◌++◌, ℕ, ◌/◌, ◌%◌, ◌<◌, eqb, ltb, length, drop}
use Rattle.term.specs.Trees.{Tree, words}
use Rattle.term.specs.Terms.{max_depth}
use Rattle.types.specs.Sorts.{Sort, Context}
use Rattle.types.specs.Rules.{◌⊢◌∶◌}
use Rattle.declarations.specs.Declarations.{context_at, good_declarations}
use Rattle.rules.specs.Patterns.{first_index, second_index}
use Rattle.rules.specs.Rewrite.{sort_of, holes}
use Rattle.matcher.specs.declared.Match.{Match}
use Rattle.matcher.specs.Matching.{start_of, Holds}
use Rattle.shapes.specs.Bodies.{Bound}
use Rattle.shapes.specs.Reading.{Begins}

-- ---- a typed part, with such trees for the indices of the sums around it
module _ (ds : List ℕ) (bodies : List Tree) where
  abbrev pub Sorted : Tree → Type 0
  Sorted t = (S : Sort) × (context_at ds bodies ⊢ t ∶ S)

  -- words that begin with one, under good declarations; `outer` tells the words of each index around
  pub record HasSort (outer : ℕ → List ℕ) (ws : List ℕ) : Type 0 where
    pub good : good_declarations ds ≡ true
    pub bound : Bound ws outer 0 bodies
    pub tree : Tree
    pub begins : Begins ws max_depth tree
    pub sorted : Sorted tree

-- ---- the words of a right side
-- the first or the second index of a sort
abbrev pub chosen_index : Bool → Sort → Tree
chosen_index true S = second_index S
chosen_index false S = first_index S

-- what a word of a right side stands for: a hole (255:k) for what it holds, 254:k and 253:k for the first and the second index of its type, any other for itself
unfoldable pub piece : Context → List Tree → ℕ → List ℕ
piece Γ c w =
    cond (ltb (w / 256) 253) (w ∷ [])
    (cond (eqb (w / 256) 255) (words (holes c (w % 256)))
    (words (chosen_index (eqb (w / 256) 253) (sort_of Γ (holes c (w % 256))))))

unfoldable pub pieces : Context → List Tree → List ℕ → List ℕ
unfolding piece
pieces Γ c [] = []
pieces Γ c (w ∷ ws) = piece Γ c w ++ pieces Γ c ws

-- a word asks for none but the first n holes
unfoldable pub asks : ℕ → ℕ → Bool
asks n w = ltb (w / 256) 253 || ltb (w % 256) n

unfoldable pub all_ask : ℕ → List ℕ → Bool
unfolding asks
all_ask n [] = true
all_ask n (w ∷ ws) = asks n w && all_ask n ws

-- a word that asks for no index, and so for no type
unfoldable pub indexless : List ℕ → Bool
indexless [] = true
indexless (w ∷ ws) = (ltb (w / 256) 253 || eqb (w / 256) 255) && indexless ws

-- the trees that the holes hold, of words that begin with a part: each is found where the match says
pub record Caught (ds ws : List ℕ) (m : Match) : Type 0 where
  pub good : good_declarations ds ≡ true
  pub bodies : List Tree
  pub outer : ℕ → List ℕ
  pub bound : Bound [] outer 0 bodies
  pub trees : List Tree
  pub holds : Holds ws m trees
  pub begins : (k : ℕ) → k < length trees → Begins (drop (start_of m k) ws) max_depth (holes trees k)

-- and all of them are typed where the part stands
abbrev pub AllSorted : {ds ws : List ℕ} {m : Match} → Caught ds ws m → Type 0
AllSorted {ds} x = (k : ℕ) → k < length x.trees → Sorted ds x.bodies (holes x.trees k)

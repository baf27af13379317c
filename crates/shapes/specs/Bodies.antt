-- Where a bound basis is bound. 02, CR 1: "the basis bound by the a-th 27 whose body holds it, the innermost being 0".
use Rattle.std.specs.Prelude.{◌≡◌, cond, ◌&&◌, List, [], ℕ, zero, suc, ◌+◌, ◌-◌, eqb, ltb, get_or, Result, Ok, Err}
use Rattle.std.proofs.Math.Option.{some}
use Rattle.std.proofs.Math.ListN.{get_elem?}
use Rattle.term.specs.Heads.{Reading, unread, labelled, read}
use Rattle.term.specs.Trees.{Tree, words, Formed}
use Rattle.term.specs.Parts.{part}
use Rattle.types.specs.Inside.{binds}

-- what the walk back comes to: the offset of the 27 that it looks for, or the front of the words, with so many more to be passed
pub data Walk : Type 0 where
  found : ℕ → Walk
  outside : ℕ → Walk

-- A walk back from a place, one word after the other: `parts` whole parts stand between here and the nearest head above, and `left` more 27 are to be passed in whose body the place is. A head that
-- wants more parts than stand behind it has the place below it, a 27 in its body where one part, its index, stands between; any other is a whole part with those that it wants. `at` is the offset of
-- the word read, and `on` goes on before it
unfoldable pub step_back : Reading → ℕ → ℕ → ℕ → (ℕ → ℕ → Walk) → Walk
step_back unread at parts left on = on parts left
step_back (labelled l n) at parts left on =
    cond (ltb parts n)
    (cond (eqb parts 1 && binds l) (cond (eqb left 0) (found at) (on 0 (left - 1))) (on 0 left))
    (on (parts - n + 1) left)

unfoldable pub back : List ℕ → ℕ → ℕ → ℕ → Walk
back ws zero parts left = outside left
back ws (suc i) parts left = step_back (read (get_or ws i 0)) i parts left λ p n. back ws i p n

-- as the code says it
unfoldable pub walked : Walk → Result ℕ ℕ
walked (found i) = Ok i
walked (outside n) = Err n

-- the index of a sum stands behind its 27; where the walk comes to the front of the words, `outer` tells it
unfoldable pub index_by : List ℕ → (ℕ → List ℕ) → Walk → List ℕ
index_by ws outer (found at) = part ws (at + 1)
index_by ws outer (outside n) = outer n

unfoldable pub bound_in : List ℕ → (ℕ → List ℕ) → ℕ → ℕ → List ℕ
bound_in ws outer at a = index_by ws outer (back ws at 0 a)

-- what the sums around a place have for an index, the innermost first
abbrev pub Bound : List ℕ → (ℕ → List ℕ) → ℕ → List Tree → Type 0
Bound ws outer at bs = (a : ℕ) (σ : Tree) → get_elem? bs a ≡ some σ → Formed σ × (bound_in ws outer at a ≡ words σ)

-- nothing is bound outside a whole term; and outside the words from a place of it on, what is bound at the place
abbrev pub nowhere : ℕ → List ℕ
nowhere a = []

unfoldable pub outer_at : List ℕ → ℕ → ℕ → List ℕ
outer_at term place a = bound_in term nowhere place a

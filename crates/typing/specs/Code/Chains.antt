-- The sums over a basis around a part, as the stack has them: a record each, two words behind those of the sum's index. The first says how many words the index has, 0 where there is none,
-- and the second where the record of the next outer sum stands.
use Rattle.std.specs.Prelude.{◌≡◌, Bool, cond, not, ◌&&◌, List, [], ◌∷◌, ℕ, zero, suc, ◌+◌, ◌-◌, ◌/◌, ◌%◌, ◌≤◌, ◌<◌, eqb, ltb, leb, length, get_or}
use Rattle.words.specs.Words.{laid}
use Rattle.term.specs.Trees.{Tree, words}
use Rattle.term.specs.Terms.{max_bodies}
use Rattle.types.specs.TypeOf.{index_tree}
use Rattle.typebook.specs.Code.Shapes.{number_of}
use Rattle.typing.specs.declared.sorts.Sorted as S
use Rattle.typing.specs.Code.Shapes.{run, Small}

-- ---- what a part is typed within, in one number: a struct would go through memory at each call
-- how much deeper the call may go
unfoldable pub budget_of : ℕ → ℕ
budget_of within = within % 128

-- how many bodies there are around the part, and where the record of the innermost sum stands
pub record Around : Type 0 where
  pub bodies : ℕ
  pub inner : ℕ

unfoldable pub around_of : ℕ → Around
around_of within = record { bodies = within / 128 % 128; inner = within / 16384 }

-- ---- the records
-- the record of the a-th sum, from the innermost on
unfoldable pub link_at : List ℕ → ℕ → ℕ → ℕ
link_at st at zero = at
link_at st at (suc a) = link_at st (get_or st (at + 1) 0) a

-- the words of a tree that is an index
unfoldable pub index_words : ℕ → Tree → List ℕ
unfolding index_tree words
index_words types σ = cond (index_tree types σ) (words σ) []

-- the record of a sum over a tree, below an offset
pub record Sum (types : ℕ) (st : List ℕ) (top at : ℕ) (σ : Tree) : Type 0 where
  pub low : at + 2 ≤ top
  pub back : get_or st at 0 ≤ at
  pub few : get_or st at 0 ≤ 63
  pub is : run st (at - get_or st at 0) (get_or st at 0) ≡ index_words types σ

-- those of sums over these trees, the innermost first
pub data Chained (types : ℕ) (st : List ℕ) : ℕ → ℕ → List Tree → Type 0 where
  unbound : {top inner : ℕ} → inner ≤ top → Chained types st top inner []
  bound : {top inner : ℕ} {σ : Tree} {bs : List Tree} → Sum types st top inner σ → Chained types st inner (get_or st (inner + 1) 0) bs → Chained types st top inner (σ ∷ bs)

-- the trees of so many sums
pub record Held (types : ℕ) (st : List ℕ) (top : ℕ) (a : Around) : Type 0 where
  pub trees : List Tree
  pub chain : Chained types st top a.inner trees
  pub long : length trees ≡ a.bodies

-- ---- a record is written before the second child
unfoldable pub index_len : S.Sorted → ℕ
index_len s = cond (eqb (number_of s.class) 1) s.left 0

unfoldable pub enters_at : ℕ → ℕ → Bool
enters_at h k = eqb h 27 && not (eqb k 0)

abbrev pub record_at : ℕ → S.Sorted → ℕ
record_at top first = top + first.left + first.right

unfoldable pub entered : ℕ → ℕ → ℕ → S.Sorted → Around → Around
unfolding enters_at
entered h k top first a = cond (enters_at h k) (record { bodies = a.bodies + 1; inner = record_at top first }) a

unfoldable pub entered_on : ℕ → ℕ → ℕ → S.Sorted → Around → List ℕ → List ℕ
unfolding enters_at index_len
entered_on h k top first a st = cond (enters_at h k) (laid st (record_at top first) (index_len first ∷ a.inner ∷ [])) st

-- what is asked before a child is entered, and what holds then of what it is typed within
pub record Enterable (st : List ℕ) (top budget : ℕ) (first : S.Sorted) (a : Around) : Type 0 where
  pub room : top + 128 ≤ length st
  pub long : length st ≤ 8320
  pub small : Small first
  pub low : a.inner ≤ 8320
  pub few : a.bodies + budget ≤ 64
  pub some : 0 < budget

pub record Entered (h k top budget : ℕ) (first : S.Sorted) (a a' : Around) (left : ℕ) (st st' : List ℕ) : Type 0 where
  pub around_is : a' ≡ entered h k top first a
  pub budget_is : left ≡ budget - 1
  pub stack_is : st' ≡ entered_on h k top first a st

-- whether so many bodies have a sum of this number that a bound basis may be of
unfoldable pub in_reach : ℕ → ℕ → Bool
in_reach n a = ltb a max_bodies && ltb a n

-- a sum over a basis in as many bodies as there may be
unfoldable pub ninth : ℕ → ℕ → Bool
ninth h n = eqb h 27 && leb max_bodies n

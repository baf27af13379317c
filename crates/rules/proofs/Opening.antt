-- Child i of a forest, with those before and behind it.
use mathlib.Core.Path.{◌≡◌, refl, ap}
use Prim.Native.Nat.{ℕ, zero, suc, ◌≤◌}
use native.Mathlib.Omega.{arith}
use Rattle.term.specs.Trees.{Tree, Forest, none, ◌▹◌, count, ◌⧺◌}
use Rattle.rules.specs.Rewrite.{Opened, outside, opened, behind, open_at}

-- the two answers of `open_at`: there are too few, or this child stands behind i others
pub data At (f : Forest) (i : ℕ) : Opened → Type 0 where
  too_far : count f ≤ i → At f i outside
  there : (b : Forest) (t : Tree) (a : Forest) → f ≡ b ⧺ t ▹ a → i ≡ count b → At f i (opened b t a)

at_more : {f : Forest} {i : ℕ} {o : Opened} (t : Tree) → At f i o → At (t ▹ f) (suc i) (behind t o)
unfolding behind count ◌⧺◌
at_more t (too_far h) = too_far (omega arith)
at_more t (there b u a e h) = there (t ▹ b) u a (rw e) (rw h)

pub at : (f : Forest) (i : ℕ) → At f i (open_at f i)
unfolding open_at count ◌⧺◌
at none i = too_far (omega arith)
at (t ▹ f) zero = there none t f refl refl
at (t ▹ f) (suc i) = at_more t (at f i)

-- the child behind b is opened at the number of b
pub open-⧺ : (b : Forest) (t : Tree) (a : Forest) → open_at (b ⧺ t ▹ a) (count b) ≡ opened b t a
unfolding open_at behind count ◌⧺◌
open-⧺ none t a = refl
open-⧺ (u ▹ b) t a = ap (behind u) (open-⧺ b t a)

-- where there are too few, it is the first answer
pub open_past : (f : Forest) (i : ℕ) → count f ≤ i → open_at f i ≡ outside
unfolding open_at behind count
open_past none i h = refl
open_past (t ▹ f) zero h = absurd (omega arith)
open_past (t ▹ f) (suc i) h = ap (behind t) (open_past f i (omega arith))

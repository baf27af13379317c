-- A variable that is declared unitary, as the function tests it and as the rule asks for it.
use mathlib.Core.Path.{◌≡◌, sym, ap}
use mathlib.Core.Bool.{true, false, and-eq-true_iff}
use Prim.Native.Nat.{ℕ}
use native.Mathlib.Omega.{arith}
use borrow.Author.Tests.{eqb-true}
use lib.Dec.{eqb}
use lib.ListN.{get_or}
use Rattle.term.specs.Heads.{Label, variable, heads, head_of}
use Rattle.term.specs.Trees.{Tree, node, none, ◌▹◌}
use Rattle.term.proofs.Readings.{label_line}
use Rattle.types.specs.Sorts.{Context, Marked}
use Rattle.rules.specs.Rewrite.{is_marked}

pub is-marked : (Γ : Context) (a : ℕ) → Marked Γ a → is_marked Γ (node (variable a) none) ≡ true
unfolding is_marked
is-marked Γ a m = m

-- the label of head 26 is a variable's
variable_is : (l : Label) → (head_of l 0).0 ≡ 26 → l ≡ variable (head_of l 0).1
unfolding heads
variable_is l e = sym (rw e at (label_line l 0))

pub marked_variable : (Γ : Context) (t : Tree) → is_marked Γ t ≡ true → (a : ℕ) × (t ≡ node (variable a) none) × Marked Γ a
unfolding is_marked
marked_variable Γ (node l none) e =
    let p = (and-eq-true_iff (eqb (head_of l 0).0 26) (get_or Γ.marks (head_of l 0).1 false)).0 e in
    ((head_of l 0).1, ap (λ m. node m none) (variable_is l (eqb-true _ _ p.0)), p.1)
marked_variable Γ (node l (t ▹ f)) e = absurd (let z : ◌≡◌ {A = ℕ} 0 1 = cc in omega arith)

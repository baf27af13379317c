-- Removing, absorbing, merging and exchanging leave a part no deeper, and exchanging leaves it as deep.
use mathlib.Core.Path.{◌≡◌, refl, sym, ◌∙◌, ap}
use mathlib.Core.Bool.{Bool, true, false, cond, ◌&&◌}
use mathlib.Core.Option.{Option, some, none as refused}
use Prim.Native.Nat.{ℕ, suc, ◌≤◌}
use native.Mathlib.Omega.{arith}
use lib.Dec.{eqb, ltb}
use Rattle.term.specs.Heads.{Label, scalar_zero, scalar_product}
use Rattle.term.specs.Trees.{Tree, Forest, node, none, ◌▹◌, ◌⧺◌, count, depth, depth*}
use Rattle.term.proofs.Extents.{depth*-⧺}
use Rattle.types.specs.Sorts.{Context}
use Rattle.rules.specs.Table.{Rule, ◌⇒◌▷◌, spreading, removing, absorbing, merging, collecting, swapping, distributing, rule_of}
use Rattle.rules.specs.Rewrite.{is_head, is_chain, is_loose, Opened, outside, opened, remove_at, absorb_at, merge_at, swap_at, rewrite}
use Rattle.rules.specs.Instances.{Instance, swaps}
use Rattle.rules.proofs.Opening.{At, too_far, there, at}
use Rattle.rules.proofs.Matching.{no_answer, cond-some}
use Rattle.rulebook.specs.declared.Row.{Row}
use Rattle.rulebook.specs.declared.Family.{Family}
use Rattle.rulebook.specs.declared.Family.TheVariants.{NoRule, Equation, Spread, Remove, Absorb, Merge, Collect, Swap, Distribute}
use Rattle.rulebook.specs.Code.Rows.{row_of}
use Rattle.families.specs.Writing.{family_in, deepens_in, may_deepen, keeps_in, keeps_depth}
use Rattle.families.proofs.Lines.{family_is}

true_false : {A : Type 0} → true ≡ false → A
true_false e = absurd (let z : ◌≡◌ {A = ℕ} 0 1 = cc in omega arith)

-- a node that a test lets through, over children no deeper than g
shallow : {u : Tree} (c : Bool) (l : Label) (f g : Forest) → depth* f ≤ depth* g → cond c (some (node l f)) refused ≡ some u → depth u ≤ suc (depth* g)
unfolding depth
shallow {u} c l f g h e = let z : node l f ≡ u = cc (cond-some c (some (node l f)) e).1 in rw (← z) (omega arith)

-- the same behind children that stay
behind-same : {u : Tree} (c : Bool) (l : Label) (b f g : Forest) → depth* f ≤ depth* g → cond c (some (node l (b ⧺ f))) refused ≡ some u → depth u ≤ suc (depth* (b ⧺ g))
behind-same c l b f g h = shallow c l (b ⧺ f) (b ⧺ g) (omega (arith, depth*-⧺ b f, depth*-⧺ b g))

-- what is made of an opened parent is no deeper than it
abbrev NoDeeper : (Opened → Option Tree) → Type 0
NoDeeper make = (b : Forest) (t : Tree) (a : Forest) (u : Tree) → make (opened b t a) ≡ some u → depth u ≤ suc (depth* (b ⧺ t ▹ a))

-- the child goes
removed : (l c : Label) → NoDeeper (remove_at l c)
unfolding remove_at depth
removed l c b (node m f) a u = behind-same (is_head c m (count f) && ltb 0 (count (b ⧺ a))) l b a (node m f ▹ a) (omega arith)

-- a leaf takes the place of all
absorbed : NoDeeper absorb_at
unfolding absorb_at depth
absorbed b (node m f) a u = shallow (is_head scalar_zero m (count f)) scalar_zero none (b ⧺ node m f ▹ a) (omega arith)

-- its children take the child's place, one level up
merged : (l : Label) → NoDeeper (merge_at l)
unfolding merge_at depth
merged l b (node m f) a u = behind-same (is_head l m (count f)) l b (f ⧺ a) (node m f ▹ a) (omega (arith, depth*-⧺ f a))

-- the child and the next change places
swapped : (l : Label) → NoDeeper (swap_at l)
unfolding swap_at depth
swapped l b t none u e = no_answer e
swapped l b t (s ▹ a) u e = behind-same true l b (s ▹ t ▹ a) (t ▹ s ▹ a) (omega arith) e

-- what is made where child i is opened, if a test lets it through, is no deeper
at-child : {f : Forest} {i : ℕ} {o : Opened} {u : Tree} (c : Bool) (make : Opened → Option Tree) → make outside ≡ refused → NoDeeper make → At f i o
    → cond c (make o) refused ≡ some u → depth u ≤ suc (depth* f)
at-child c make z k (too_far h) e = no_answer (sym z ∙ (cond-some c (make outside) e).1)
at-child {u} c make z k (there b t a q n) e = rw q (k b t a u (cond-some c (make (opened b t a)) e).1)

-- what is removed, absorbed, merged or exchanged leaves the part no deeper
pub no_deeper : (rule : Rule) → may_deepen (some rule) ≡ false → (Γ : Context) (i j : ℕ) (t u : Tree) → rewrite Γ rule i j t ≡ some u → depth u ≤ depth t
unfolding may_deepen family_in rewrite remove_at absorb_at merge_at swap_at depth
no_deeper (k ⇒ l ▷ r) h Γ i j t u e = true_false h
no_deeper (spreading l w s r) h Γ i j t u e = true_false h
no_deeper (removing l c) h Γ i j (node m f) u e = at-child (eqb j 0 && is_head l m (count f)) (remove_at l c) refl (removed l c) (at f i) e
no_deeper absorbing h Γ i j (node m f) u e = at-child (eqb j 0 && is_head scalar_product m (count f)) absorb_at refl absorbed (at f i) e
no_deeper merging h Γ i j (node m f) u e = at-child (eqb j 0 && is_chain m (count f)) (merge_at m) refl (merged m) (at f i) e
no_deeper (collecting x y) h Γ i j t u e = true_false h
no_deeper swapping h Γ i j (node m f) u e = at-child (eqb j 0 && is_loose m (count f)) (swap_at m) refl (swapped m) (at f i) e
no_deeper distributing h Γ i j t u e = true_false h

-- an exchange leaves it as deep as it was
pub same-depth : (rule : Rule) → keeps_depth (some rule) ≡ true → {Γ : Context} {i j : ℕ} {t u : Tree} → Instance Γ rule i j t u → depth u ≡ depth t
unfolding keeps_depth family_in depth
same-depth swapping h (swaps b a t u l) = omega (arith, depth*-⧺ b (t ▹ u ▹ a), depth*-⧺ b (u ▹ t ▹ a))
same-depth (k ⇒ l ▷ r) h x = true_false (sym h)
same-depth (spreading l w s r) h x = true_false (sym h)
same-depth (removing l c) h x = true_false (sym h)
same-depth absorbing h x = true_false (sym h)
same-depth merging h x = true_false (sym h)
same-depth (collecting u v) h x = true_false (sym h)
same-depth distributing h x = true_false (sym h)

-- ---- by the family of a row
pub row-deepens : (n : ℕ) (row : Row) → row ≡ row_of n → deepens_in row.family ≡ may_deepen (rule_of n)
unfolding may_deepen
row-deepens n row e = ap deepens_in (family_is n row e)

pub row_keeps : (n : ℕ) (row : Row) → row ≡ row_of n → keeps_in row.family ≡ keeps_depth (rule_of n)
unfolding keeps_depth
row_keeps n row e = ap keeps_in (family_is n row e)

pub swaps_kept : (f : Family) → f ≡ Swap → true ≡ keeps_in f
swaps_kept f e = rw e

pub others_kept : (f : Family) → (f ≡ Swap → ⊥) → false ≡ keeps_in f
others_kept NoRule h = refl
others_kept Equation h = refl
others_kept Spread h = refl
others_kept Remove h = refl
others_kept Absorb h = refl
others_kept Merge h = refl
others_kept Collect h = refl
others_kept Swap h = absurd (h refl)
others_kept Distribute h = refl

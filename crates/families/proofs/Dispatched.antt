-- Each family's promise is that of the rule which the row is of.
use mathlib.Core.Path.{◌≡◌, refl, sym}
use mathlib.Core.Logic.{◌≢◌}
use mathlib.Core.List.{List}
use mathlib.Core.Option.{none}
use Prim.Native.Nat.{ℕ, ◌<◌}
use native.Mathlib.Omega.{arith}
use lib.Dec.{eqb}
use borrow.Author.Tests.{ne_eqb, eq-eqb}
use Rattle.term.specs.Heads.{Label, word}
use Rattle.term.specs.Trees.{Tree, node}
use Rattle.types.specs.Sorts.{Context}
use Rattle.rules.specs.Table.{child, child_i, Summand, plain, scaled, Rule, absorbing, merging, swapping, distributing}
use Rattle.rules.specs.Instances.{ACSymbol, scalar_sums, scalar_products, sums}
use Rattle.rules.specs.Rewrite.{place, usable, rewrite}
use Rattle.rulebook.specs.declared.Row.{Row}
use Rattle.rulebook.specs.declared.Family.{Family}
use Rattle.rulebook.specs.declared.Family.TheVariants.{Equation, Spread, Remove, Absorb, Merge, Collect, Swap, Distribute}
use Rattle.rulebook.specs.Code.Rows.{head_number, summand_number}
use Rattle.std.specs.Prelude.{Result}
use Rattle.families.specs.declared.writing.Refusal.{Refusal}
use Rattle.families.specs.Code.Families.{summand_of, Does, Removes, Spreads, Collects, Lined, an_equation, a_spreading, a_removing, an_absorbing, a_merging, a_collecting, a_swapping, a_distributing}

chain-small : {l : Label} → ACSymbol l → head_number l < 256
unfolding word
chain-small scalar_sums = omega arith
chain-small scalar_products = omega arith
chain-small sums = omega arith

form_of : (u : Summand) → summand_of (eqb (summand_number u) 1) ≡ u
form_of plain = refl
form_of scaled = refl

module _ (ws out out' : List ℕ) (r : Result ℕ Refusal) (i : ℕ) {row : Row} where
  pub removes : {rule : Rule} → Lined row Remove rule → Removes ws out out' r row.a row.b i → Does ws out out' r rule i 0
  removes (a_removing a b) h = h _ _ a b

  pub absorbs : {rule : Rule} → Lined row Absorb rule → Does ws out out' r absorbing i 0 → Does ws out out' r rule i 0
  absorbs an_absorbing h = h

  pub merges : {rule : Rule} → Lined row Merge rule → Does ws out out' r merging i 0 → Does ws out out' r rule i 0
  merges a_merging h = h

  pub swaps : {rule : Rule} → Lined row Swap rule → Does ws out out' r swapping i 0 → Does ws out out' r rule i 0
  swaps a_swapping h = h

  pub collects : (j : ℕ) {rule : Rule} → Lined row Collect rule → Collects ws out out' r (eqb row.a 1) (eqb row.b 1) i j → Does ws out out' r rule i j
  collects j (a_collecting {u} {v} a b) h = rw (a, b, form_of u, form_of v) at h

  pub distributes : {rule : Rule} → Lined row Distribute rule → Does ws out out' r distributing i 0 → Does ws out out' r rule i 0
  distributes a_distributing h = h

  -- spreading over child i
  pub spreads-any : {rule : Rule} → Lined row Spread rule → row.b ≡ 2 → Spreads ws out out' r row.a i row.c row.d → Does ws out out' r rule i 0
  unfolding usable place
  spreads-any (a_spreading {w = child k} a b c d e) y h = absurd (omega (arith, b, y, c))
  spreads-any (a_spreading {w = child_i} a b c d e) y h = h _ _ _ child_i i a d e refl refl

  -- over the child that the row names
  pub spreads-fixed : {rule : Rule} → Lined row Spread rule → row.b ≢ 2 → i ≡ 0 → Spreads ws out out' r row.a row.b row.c row.d → Does ws out out' r rule i 0
  unfolding usable place
  spreads-fixed (a_spreading {w = child k} a b c d e) y x h = h _ _ _ (child k) i a d e (eq-eqb i 0 x) (sym b)
  spreads-fixed (a_spreading {w = child_i} a b c d e) y x h = absurd (y b)

pub spreads-none : {row : Row} {rule : Rule} (Γ : Context) (i : ℕ) (t : Tree) → Lined row Spread rule → row.b ≢ 2 → i ≢ 0 → rewrite Γ rule i 0 t ≡ none
unfolding rewrite usable
spreads-none Γ i (node m f) (a_spreading {w = child k} a b c d e) y x = rw (ne_eqb i 0 x)
spreads-none Γ i t (a_spreading {w = child_i} a b c d e) y x = absurd (y b)

-- the result's head of a spreading is a byte
pub result-small : {row : Row} {rule : Rule} → Lined row Spread rule → row.d < 256
result-small (a_spreading a b c d e) = rw e.number (chain-small e.chain)

-- "Unused indices are 0": j is used by collecting only
pub second_unused : {row : Row} {f : Family} {rule : Rule} (Γ : Context) (i j : ℕ) (t : Tree) → Lined row f rule → (f ≡ Equation → ⊥) → (f ≡ Collect → ⊥) → j ≢ 0 → rewrite Γ rule i j t ≡ none
unfolding rewrite
second_unused Γ i j t an_equation a b h = absurd (a refl)
second_unused Γ i j (node m f) (a_spreading c d e g k) a b h = rw (ne_eqb j 0 h)
second_unused Γ i j (node m f) (a_removing c d) a b h = rw (ne_eqb j 0 h)
second_unused Γ i j (node m f) an_absorbing a b h = rw (ne_eqb j 0 h)
second_unused Γ i j (node m f) a_merging a b h = rw (ne_eqb j 0 h)
second_unused Γ i j t (a_collecting c d) a b h = absurd (b refl)
second_unused Γ i j (node m f) a_swapping a b h = rw (ne_eqb j 0 h)
second_unused Γ i j (node m f) a_distributing a b h = rw (ne_eqb j 0 h)

-- Absorbing into a 0: what `rewrite` answers, by the tests of the code.
use mathlib.Core.Path.{◌≡◌, refl}
use mathlib.Core.Bool.{true}
use mathlib.Core.List.{List, [], ◌∷◌}
use Rattle.std.specs.Prelude.{Some, None}
use mathlib.Core.Option.{some, none as refused}
use Prim.Native.Nat.{ℕ}
use Rattle.term.specs.Heads.{scalar_zero, scalar_product, word}
use Rattle.term.specs.Trees.{node, none, count, words}
use Rattle.term.specs.Parts.{Whole, parse, tree_in}
use Rattle.types.specs.Sorts.{Context}
use Rattle.rules.specs.Table.{absorbing}
use Rattle.rules.specs.Rewrite.{absorb_at, rewrite}
use Rattle.rules.specs.Steps.{few}
use Rattle.rules.proofs.Known.{is_head_lem}
use Rattle.families.specs.Code.Children.{Under}
use Rattle.families.specs.declared.children.Child.{Child}
use Rattle.families.specs.Code.Families.{Named}
use Rattle.families.proofs.Tested.{found, under, none-under}

-- 8 is the number of a product, and 5 that of 0
product : Named 8 scalar_product
unfolding word
product = record { number = refl; nameless = refl }

zero : Named 5 scalar_zero
unfolding word
zero = record { number = refl; nameless = refl }

module _ (Γ : Context) {ws : List ℕ} {i : ℕ} (w : Whole ws) where
  pub absorbs-none : Under ws 8 i 5 None → rewrite Γ absorbing i 0 (tree_in (parse ws)) ≡ refused
  unfolding rewrite absorb_at
  absorbs-none e = none-under w e product zero absorb_at refl (λ b m f a z. rw z) (rewrite Γ absorbing i 0) (λ m f z. refl)

  pub absorbs-child : {r : Child} → Under ws 8 i 5 (Some r) → rewrite Γ absorbing i 0 (tree_in (parse ws)) ≡ some (node scalar_zero none)
  unfolding rewrite absorb_at
  absorbs-child e = let s = found w e in let u = under w e product zero s in rw (s.tree, s.child, ← u.parent, ← u.child, is_head_lem scalar_product, is_head_lem scalar_zero)

pub zero-few : few (node scalar_zero none) ≡ true
unfolding few count
zero-few = refl

pub zero-words : 1280 ∷ [] ≡ words (node scalar_zero none)
unfolding words word
zero-words = refl

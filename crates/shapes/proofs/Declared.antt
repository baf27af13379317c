-- What is read of a declared name is what is declared of it.
use mathlib.Core.Path.{◌≡◌, refl, sym, ◌∙◌}
use mathlib.Core.Logic.{◌≢◌}
use mathlib.Core.Bool.{Bool, true, false}
use mathlib.Core.List.{List, []}
use Prim.Native.Nat.{ℕ, zero, suc, ◌+◌, ◌*◌, ◌<◌}
use native.Mathlib.Omega.{arith}
use lib.ListN.{get_or}
use Rattle.term.specs.Trees.{words}
use Rattle.typebook.specs.Code.Shapes.{shape_of, number_of}
use Rattle.declarations.specs.Declarations.{variable_at, basis_in, variable_in, good_declarations}
use Rattle.declarations.proofs.Entries.{kind_word, kind, first_words, second_words, kind_0, kind_1, kind_2, kind_3, GoodVariable, basis_good, variable_good}
use Rattle.shapes.specs.Reading.{basis_index, second_of, variable_index, variable_class, side_in}

pub basis_declared : (ds : List ℕ) (a : ℕ) → (good_declarations ds ≡ true) × (a < get_or ds 1 0) → basis_index ds a ≡ words (basis_in ds a)
unfolding basis_index basis_in
basis_declared ds a h = sym (basis_good ds a h).same

module _ (ds : List ℕ) (a : ℕ) (h : (good_declarations ds ≡ true) × (a < get_or ds 2 0)) where
  good : GoodVariable ds a
  good = variable_good ds a h

  first : (right : Bool) → second_of right (kind_word ds a) ≡ 0 → variable_index ds right a ≡ first_words ds a
  unfolding variable_index
  first right e =
      let x : variable_at a + 1 + 0 ≡ variable_at a + 1 = omega arith in
      let y : variable_at a + 3 + 0 * 63 ≡ variable_at a + 3 = omega arith in
      rw (e, x, y)

  second : second_of true (kind_word ds a) ≡ 1 → variable_index ds true a ≡ second_words ds a
  unfolding variable_index
  second e =
      let x : variable_at a + 1 + 1 ≡ variable_at a + 2 = omega arith in
      let y : variable_at a + 3 + 1 * 63 ≡ variable_at a + 66 = omega arith in
      rw (e, x, y)

  class_by_lem : (k : ℕ) → kind ds a ≡ k → variable_class ds a ≡ number_of (shape_of (variable_in ds a)).class
  unfolding variable_class
  class_by_lem zero k = rw (k, kind_0 ds a k)
  class_by_lem (suc zero) k = rw (k, kind_1 ds a k)
  class_by_lem (suc (suc zero)) k = rw (k, kind_2 ds a k)
  class_by_lem (suc (suc (suc zero))) k = rw (k, kind_3 ds a k)
  class_by_lem (suc (suc (suc (suc j)))) k = absurd (omega arith)

  pub class-declared : variable_class ds a ≡ number_of (shape_of (variable_in ds a)).class
  class-declared = class_by_lem (kind ds a) refl

  side_by : (k : ℕ) → kind ds a ≡ k → (right : Bool) → side_in right (shape_of (variable_in ds a)) ≢ [] → variable_index ds right a ≡ side_in right (shape_of (variable_in ds a))
  unfolding second_of
  side_by zero k true n = absurd (n (rw (kind_0 ds a k)))
  side_by zero k false n = absurd (n (rw (kind_0 ds a k)))
  side_by (suc zero) k true n = absurd (n (rw (kind_1 ds a k)))
  side_by (suc zero) k false n = rw (kind_1 ds a k) (first false refl ∙ sym (good.rows-good (omega arith)).same)
  side_by (suc (suc zero)) k true n = rw (kind_2 ds a k) (first true (rw k) ∙ sym (good.rows-good (omega arith)).same)
  side_by (suc (suc zero)) k false n = absurd (n (rw (kind_2 ds a k)))
  side_by (suc (suc (suc zero))) k true n = rw (kind_3 ds a k) (second (rw k) ∙ sym (good.columns-good k).same)
  side_by (suc (suc (suc zero))) k false n = rw (kind_3 ds a k) (first false refl ∙ sym (good.rows-good (omega arith)).same)
  side_by (suc (suc (suc (suc j)))) k right n = absurd (omega arith)

  pub side-declared : (right : Bool) → side_in right (shape_of (variable_in ds a)) ≢ [] → variable_index ds right a ≡ side_in right (shape_of (variable_in ds a))
  side-declared = side_by (kind ds a) refl

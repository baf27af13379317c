-- What follows for any commutative operation, so for sums and products alike.
use mathlib.Core.Path.{◌≡◌, sym, ◌∙◌, ap}

module _ {R : Type 0} (◌∗◌ : R → R → R) (comm : (x y : R) → x ∗ y ≡ y ∗ x) where
  infixl 65 ◌∗◌
  module _ (assoc : (x y z : R) → (x ∗ y) ∗ z ≡ x ∗ (y ∗ z)) where
    pub left_comm : (x y z : R) → x ∗ (y ∗ z) ≡ y ∗ (x ∗ z)
    left_comm x y z = sym (assoc x y z) ∙ ap (λ w. w ∗ z) (comm x y) ∙ assoc y x z

    pub exchange : (x y z w : R) → (x ∗ y) ∗ (z ∗ w) ≡ (x ∗ z) ∗ (y ∗ w)
    exchange x y z w = simp (assoc, left_comm)

  module _ (e : R) (unit : (x : R) → x ∗ e ≡ x) where
    pub unit_left : (x : R) → e ∗ x ≡ x
    unit_left x = comm e x ∙ unit x

    -- f e = e ∗ f e = f (f e ∗ e) = f (f e) = e
    pub keeps_unit : (f : R → R) → ((x : R) → f (f x) ≡ x) → ((x y : R) → f (x ∗ y) ≡ f x ∗ f y) → f e ≡ e
    keeps_unit f back hom =
        sym (unit_left (f e)) ∙ ap (λ x. x ∗ f e) (sym (back e)) ∙ sym (hom (f e) e) ∙ ap f (unit (f e)) ∙ back e

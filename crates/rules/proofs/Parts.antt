-- What a rule rewrites is a term: no rule's left side is an index or a basis.
use mathlib.Core.Path.{◌≡◌, refl}
use mathlib.Core.Bool.{Bool, true, false, not, ◌&&◌}
use mathlib.Core.Option.{some}
use Prim.Native.Nat.{ℕ}
use lib.Dec.{eqb, ltb}
use Rattle.term.specs.Heads.{Label, head_of}
use Rattle.term.specs.Trees.{Tree, Forest, node}
use Rattle.types.specs.Sorts.{Sort, index, basis, scalar, ket, bra, operator, IsType, Context}
use Rattle.types.specs.Rules.{◌⊢◌∶◌, type_var, basis_var, term_var, base_prod, pair_base, bound_var, sum_over, WellFormed}
use Rattle.rules.specs.Patterns.{Pattern, #◌, first, second, ◌⟨⟩, ◌⟨◌⟩, ◌⟨◌∣◌⟩}
use Rattle.rules.specs.Table.{Rule, ◌⇒◌▷◌, spreading, removing, absorbing, merging, collecting, swapping, distributing, rule_of}
use Rattle.rules.specs.Instances.{ACSymbol, scalar_sums, scalar_products, sums, Loose, loose_chain, loose_delta, Filled, hole, first_of, second_of, over_none, over_one, over_two}
use Rattle.rules.specs.Instances.{Instance, equals, spreads, removes, absorbs, merges, collects, swaps, distributes}
use Rattle.rules.proofs.Every.{rule_passes}
use Rattle.rules.proofs.Lines.{not_so}

-- 1 to 4 are heads of indices and bases, and so is 28
unfoldable term_head : Label → Bool
unfolding head_of
term_head l = let h = (head_of l 0).0 in ltb 4 h && not (eqb h 28)

abbrev left_head : Pattern → Bool
left_head (# k) = false
left_head (first k) = false
left_head (second k) = false
left_head (l ⟨⟩) = term_head l
left_head (l ⟨ p ⟩) = term_head l
left_head (l ⟨ p ∣ q ⟩) = term_head l

abbrev rewrites_terms : Rule → Bool
rewrites_terms (k ⇒ l ▷ r) = left_head l
rewrites_terms (spreading l w s r) = term_head l
rewrites_terms (removing l c) = term_head l
rewrites_terms absorbing = true
rewrites_terms merging = true
rewrites_terms (collecting u v) = true
rewrites_terms swapping = true
rewrites_terms distributing = true

abbrev Terms : Rule → Type 0
Terms r = rewrites_terms r ≡ true

-- a part of a term's head is no index and no basis
type_of_lem : {Γ : Context} (W : WellFormed Γ) {l : Label} {f : Forest} (S : Sort) → term_head l ≡ true → Γ ⊢ node l f ∶ S → IsType S
unfolding term_head
type_of_lem W (index σ) h (type_var x) = not_so h
type_of_lem W (index σ) h (term_var e) = (W.variable_type _ _ e).0
type_of_lem W (index σ) h (base_prod a b x) = not_so h
type_of_lem W (index σ) h (sum_over a b t n) = t
type_of_lem W (basis σ) h (basis_var e) = not_so h
type_of_lem W (basis σ) h (term_var e) = (W.variable_type _ _ e).0
type_of_lem W (basis σ) h (pair_base a b x) = not_so h
type_of_lem W (basis σ) h (bound_var b e d) = not_so h
type_of_lem W (basis σ) h (sum_over a b t n) = t
type_of_lem W scalar h d = tt
type_of_lem W (ket σ) h d = tt
type_of_lem W (bra σ) h d = tt
type_of_lem W (operator σ τ) h d = tt

chain_head_lem : {l : Label} → ACSymbol l → term_head l ≡ true
unfolding term_head
chain_head_lem scalar_sums = refl
chain_head_lem scalar_products = refl
chain_head_lem sums = refl

loose_head : {l : Label} → Loose l → term_head l ≡ true
unfolding term_head
loose_head (loose_chain c) = chain_head_lem c
loose_head loose_delta = refl

module _ {Γ : Context} (W : WellFormed Γ) {S : Sort} where
  left-type : {θ : ℕ → Tree} {l : Pattern} {p : Tree} → left_head l ≡ true → Filled Γ θ l p → Γ ⊢ p ∶ S → IsType S
  left-type h hole d = absurd (not_so h)
  left-type h (first_of a) d = absurd (not_so h)
  left-type h (second_of a) d = absurd (not_so h)
  left-type h over_none d = type_of_lem W S h d
  left-type h (over_one a) d = type_of_lem W S h d
  left-type h (over_two a b) d = type_of_lem W S h d

  instance_type : {r : Rule} {i j : ℕ} {p q : Tree} → Terms r → Instance Γ r i j p q → Γ ⊢ p ∶ S → IsType S
  unfolding term_head
  instance_type h (equals θ a b w) d = left-type h a d
  instance_type h (spreads b f a x) d = type_of_lem W S h d
  instance_type h (removes b f a x) d = type_of_lem W S h d
  instance_type h (absorbs b a) d = type_of_lem W S refl d
  instance_type h (merges b f a c) d = type_of_lem W S (chain_head_lem c) d
  instance_type h (collects b m e c k x) d = type_of_lem W S refl d
  instance_type h (swaps b a t u c) d = type_of_lem W S (loose_head c) d
  instance_type h (distributes s f x) d = type_of_lem W S refl d

  pub rewritten_type : (n : ℕ) {r : Rule} {i j : ℕ} {p q : Tree} → rule_of n ≡ some r → Instance Γ r i j p q → Γ ⊢ p ∶ S → IsType S
  unfolding term_head
  rewritten_type n {r} e x d = instance_type (rule_passes rewrites_terms refl n r e) x d

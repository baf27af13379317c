-- When a part is an instance of a rule's left side with indices i and j, and what it becomes. Document 01, "The rules by number", from "Rules go left to right only" on.
use Rattle.std.specs.Prelude.{◌≡◌, Bool, true, ℕ, ◌+◌, ◌<◌}
use Rattle.words.specs.Listed.{lacks}
use Rattle.term.specs.Heads.{Label, variable, scalar_zero, scalar_one, scalar_sum, scalar_product, delta, scale, add, big_sum, bound_basis, word}
use Rattle.term.specs.Trees.{Tree, Forest, node, none, ◌▹◌, ◌⧺◌, count, words}
use Rattle.types.specs.Sorts.{Sort, ket, bra, operator, Context, Marked}
use Rattle.types.specs.Rules.{◌⊢◌∶◌}
use Rattle.rules.specs.Patterns.{Pattern, #◌, first, second, ◌⟨⟩, ◌⟨◌⟩, ◌⟨◌∣◌⟩, first_index, second_index}
use Rattle.rules.specs.Table.{Condition, any, a_ket, a_bra, an_operator, unused, marked, Which, child, child_i, Summand, plain, scaled, Rule, ◌⇒◌▷◌, spreading, removing, absorbing, merging}
use Rattle.rules.specs.Table.{collecting, swapping, distributing}

-- A side of an equation with the parts θ in its holes. Where it names an index of what hole k holds, that part has a type, and the index is the type's: 002's
-- "K : K(τ) ⇒"
pub data Filled (Γ : Context) (θ : ℕ → Tree) : Pattern → Tree → Type 0 where
  hole : {k : ℕ} → Filled Γ θ (# k) (θ k)
  first_of : {k : ℕ} {S : Sort} → Γ ⊢ θ k ∶ S → Filled Γ θ (first k) (first_index S)
  second_of : {k : ℕ} {S : Sort} → Γ ⊢ θ k ∶ S → Filled Γ θ (second k) (second_index S)
  over_none : {l : Label} → Filled Γ θ (l ⟨⟩) (node l none)
  over_one : {l : Label} {p : Pattern} {t : Tree} → Filled Γ θ p t → Filled Γ θ (l ⟨ p ⟩) (node l (t ▹ none))
  over_two : {l : Label} {p q : Pattern} {t u : Tree} → Filled Γ θ p t → Filled Γ θ q u → Filled Γ θ (l ⟨ p ∣ q ⟩) (node l (t ▹ u ▹ none))

-- no word of a part is 28:0, so that it does not use the basis that is bound last
unfoldable pub is_unused : Tree → Bool
unfolding lacks words word
is_unused s = lacks (word (bound_basis 0) 0) (words s)

-- what the rule asks of the parts in its holes: that in hole 0 is of a kind, 002's "K : K(σ) ⇒"; that in hole 1 is without this sum's basis, 02, CR 1, "where s does not use this 27's own
-- basis"; that in hole 0 is a marked variable, CR 7, "for such a only"
abbrev pub Holds : Context → Condition → (ℕ → Tree) → Type 0
Holds Γ any θ = Unit {0}
Holds Γ a_ket θ = (σ : Tree) × (Γ ⊢ θ 0 ∶ ket σ)
Holds Γ a_bra θ = (σ : Tree) × (Γ ⊢ θ 0 ∶ bra σ)
Holds Γ an_operator θ = (σ : Tree) × (τ : Tree) × (Γ ⊢ θ 0 ∶ operator σ τ)
Holds Γ unused θ = is_unused (θ 1) ≡ true
Holds Γ marked θ = (a : ℕ) × (θ 0 ≡ node (variable a) none) × Marked Γ a

-- "of a 7, 8 or 20"
pub data ACSymbol : Label → Type 0 where
  scalar_sums : ACSymbol scalar_sum
  scalar_products : ACSymbol scalar_product
  sums : ACSymbol add

-- the heads whose children may change places: these, and 02, CR 2: "Delta is no longer ordered"
pub data Loose : Label → Type 0 where
  loose_chain : {l : Label} → ACSymbol l → Loose l
  loose_delta : Loose delta

-- 02, CR 1: "a body that is a sum (7 or 20)"
pub data Sum : Label → Type 0 where
  of_scalars : Sum scalar_sum
  of_arrays : Sum add

-- "Unused indices are 0": the sum stands at a fixed child, or at child i
abbrev pub Picks : Which → ℕ → ℕ → Type 0
Picks (child k) i n = (i ≡ 0) × (n ≡ k)
Picks child_i i n = i ≡ n

-- "Sums from distributing have as many children as the sum they came from": the head l over each tree of f, between the other children
unfoldable pub spread : Label → Forest → Forest → Forest → Forest
spread l before none after = none
spread l before (t ▹ f) after = node l (before ⧺ t ▹ after) ▹ spread l before f after

-- a summand X or a.X, and its factor
abbrev pub summand : Summand → Tree → Tree → Tree
summand plain a x = x
summand scaled a x = node scale (a ▹ x ▹ none)

abbrev pub factor : Summand → Tree → Tree
factor plain a = node scalar_one none
factor scaled a = a

pub data Instance (Γ : Context) : Rule → ℕ → ℕ → Tree → Tree → Type 0 where
  -- the left side with parts in its holes becomes the right side with the same
  equals : {k : Condition} {l r : Pattern} {p q : Tree} (θ : ℕ → Tree) → Filled Γ θ l p → Filled Γ θ r q → Holds Γ k θ
      → Instance Γ (k ⇒ l ▷ r) 0 0 p q
  -- "7 spreads child i, a sum"; the others a fixed child
  spreads : {l s r : Label} {w : Which} {i : ℕ} (before f after : Forest) → Picks w i (count before)
      → Instance Γ (spreading l w s r) i 0 (node l (before ⧺ node s f ▹ after)) (node r (spread l before f after))
  -- "4, 6, 55–57 remove child i, the fitting zero or one, only from two or more children"
  removes : {l c : Label} (before f after : Forest) → 0 < count (before ⧺ after)
      → Instance Γ (removing l c) (count before) 0 (node l (before ⧺ node c f ▹ after)) (node l (before ⧺ after))
  -- "5 needs child i to be 0"
  absorbs : (before after : Forest)
      → Instance Γ absorbing (count before) 0 (node scalar_product (before ⧺ node scalar_zero none ▹ after)) (node scalar_zero none)
  -- "1 merges child i, of the parent's own head (7, 8 or 20), into the parent"
  merges : {l : Label} (before f after : Forest) → ACSymbol l
      → Instance Γ merging (count before) 0 (node l (before ⧺ node l f ▹ after)) (node l (before ⧺ f ⧺ after))
  -- "51–54 need i < j. .. must equal the other word by word; the new summand goes last"
  collects : {u v : Summand} (before between after : Forest) (a b x : Tree)
      → Instance Γ (collecting u v) (count before) (count before + 1 + count between)
      (node add (before ⧺ summand u a x ▹ between ⧺ summand v b x ▹ after))
      (node add (before ⧺ between ⧺ after ⧺ node scale (node scalar_sum (factor u a ▹ factor v b ▹ none) ▹ x ▹ none) ▹ none))
  -- "170 exchanges children i and i + 1 of a 7, 8 or 20"; 02, CR 2: "rule 170 with i = 0 now also exchanges the two children of a delta"
  swaps : {l : Label} (before after : Forest) (t u : Tree) → Loose l
      → Instance Γ swapping (count before) 0 (node l (before ⧺ t ▹ u ▹ after)) (node l (before ⧺ u ▹ t ▹ after))
  -- 02, CR 1: "182 spreads over a body that is a sum (7 or 20)"
  distributes : {l : Label} (s : Tree) (f : Forest) → Sum l → Instance Γ distributing 0 0 (node big_sum (s ▹ node l f ▹ none)) (node l (spread big_sum (s ▹ none) f none))

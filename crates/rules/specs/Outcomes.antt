-- When a step is taken, and which code it has: the relation that `step_of` of `Steps` answers.
use Rattle.std.specs.Prelude.{◌≡◌, true, false, ℕ, ◌≤◌, length}
use Rattle.std.proofs.Math.Option.{some, none}
use Rattle.term.specs.Trees.{Tree, words, found, subtree, replace}
use Rattle.types.specs.Sorts.{Context}
use Rattle.types.specs.Inside.{inside}
use Rattle.rules.specs.Table.{Rule, rule_of}
use Rattle.rules.specs.Instances.{Instance}
use Rattle.rules.specs.Steps.{Step, within}

-- a step is taken: an instance of its rule at its place, in the context there, within the limits
pub record Taken (Γ : Context) (t : Tree) (s : Step) (u : Tree) : Type 0 where
  pub r : Rule
  pub rule : rule_of s.rule ≡ some r
  pub part : Tree
  pub there : subtree t s.place ≡ found part
  pub new : Tree
  pub is : Instance (inside Γ t s.place) r s.i s.j part new
  pub result : u ≡ replace t s.place new
  pub limits : within u ≡ true

-- the codes, each told apart from those before it. 01: "20 no such rule. 21 place not below the length. 22 with these indices the part is no instance of the
-- rule's left side. 23 the result would pass 255 children, 4,096 words or 64 deep. Tested in this order"
pub data Outcome (Γ : Context) (t : Tree) (s : Step) : ℕ → Tree → Type 0 where
  good : (u : Tree) → Taken Γ t s u → Outcome Γ t s 0 u
  no_rule : rule_of s.rule ≡ none → Outcome Γ t s 20 t
  no_place : {r : Rule} → rule_of s.rule ≡ some r → length (words t) ≤ s.place → Outcome Γ t s 21 t
  no_instance : {r : Rule} {p : Tree} → rule_of s.rule ≡ some r → subtree t s.place ≡ found p → ((q : Tree) → Instance (inside Γ t s.place) r s.i s.j p q → ⊥)
      → Outcome Γ t s 22 t
  too_big : {r : Rule} {p q : Tree} → rule_of s.rule ≡ some r → subtree t s.place ≡ found p → Instance (inside Γ t s.place) r s.i s.j p q
      → within (replace t s.place q) ≡ false → Outcome Γ t s 23 t

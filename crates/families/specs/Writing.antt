-- What a rule of a family makes of the part with which words begin, as the code equals it: what to believe is `Instance` of `rules` Instances, by way of `rewrite`.
use Rattle.std.specs.Prelude.{◌≡◌, Bool, true, false, cond, Option as Found, Some, None, Result, IsOkAnd, IsErrAnd, List, ℕ, length}
use Rattle.std.proofs.Math.Option.{Option, some, none}
use Rattle.words.specs.Words.{Added}
use Rattle.term.specs.Trees.{Tree, Forest, none as no-tree, ◌▹◌, words}
use Rattle.term.specs.Parts.{parse, part, part_depth}
use Rattle.types.specs.Sorts.{Context}
use Rattle.rules.specs.Table.{Rule, ◌⇒◌▷◌, spreading, removing, absorbing, merging, collecting, swapping, distributing, rule_of}
use Rattle.rules.specs.Rewrite.{rewrite}
use Rattle.rules.specs.Steps.{few}
use Rattle.rulebook.specs.declared.Family.{Family}
use Rattle.rulebook.specs.declared.Family.TheVariants.{NoRule, Equation, Spread, Remove, Absorb, Merge, Collect, Swap, Distribute}
use Rattle.families.specs.declared.writing.Refusal.{Refusal}
use Rattle.families.specs.declared.writing.Refusal.TheVariants as Why

-- the family of a rule
unfoldable pub family_in : Option Rule → Family
family_in none = NoRule
family_in (some (k ⇒ l ▷ r)) = Equation
family_in (some (spreading l w s r)) = Spread
family_in (some (removing l c)) = Remove
family_in (some absorbing) = Absorb
family_in (some merging) = Merge
family_in (some (collecting u v)) = Collect
family_in (some swapping) = Swap
family_in (some distributing) = Distribute

-- every rule but an equation is a family's
unfoldable pub is_family : Rule → Bool
is_family (k ⇒ l ▷ r) = false
is_family (spreading l w s r) = true
is_family (removing l c) = true
is_family absorbing = true
is_family merging = true
is_family (collecting u v) = true
is_family swapping = true
is_family distributing = true

-- a rule of a family at the first of a row of parts
unfoldable pub at_first : Context → Option Rule → ℕ → ℕ → Forest → Option Tree
at_first Γ none i j f = none
at_first Γ (some rule) i j no-tree = none
at_first Γ (some rule) i j (t ▹ f) = cond (is_family rule) (rewrite Γ rule i j t) none

-- the rule of a number at the part with which words begin: no family asks for a type, so the entry promises this in every context
unfoldable pub family_of : Context → ℕ → ℕ → ℕ → List ℕ → Option Tree
family_of Γ n i j ws = at_first Γ (rule_of n) i j (parse ws)

-- the number that each refusal has in every answer
abbrev pub code_of : Refusal → ℕ
code_of Why.NoRule = 20
code_of Why.NoPart = 21
code_of Why.NoInstance = 22
code_of Why.TooBig = 23

-- what is written: a result whose nodes have few children, from the first word on up to the end that is told; one that has a node of over 255 is refused with 23
abbrev pub Wrote : Bool → List ℕ → List ℕ → List ℕ → Result ℕ Refusal → Type 0
Wrote true ws out out' r = IsOkAnd r (λ end. Added out 0 ws out' end)
Wrote false ws out out' r = IsErrAnd r (λ e. code_of e ≡ 23) × (out' ≡ out)

-- Whether a rule may leave a part deeper, by its family: one that removes, absorbs, merges or exchanges does not
abbrev pub deepens_in : Family → Bool
deepens_in NoRule = true
deepens_in Equation = true
deepens_in Spread = true
deepens_in Remove = false
deepens_in Absorb = false
deepens_in Merge = false
deepens_in Collect = true
deepens_in Swap = false
deepens_in Distribute = true

unfoldable pub may_deepen : Option Rule → Bool
may_deepen o = deepens_in (family_in o)

-- and whether it leaves the part as deep as it was: one that exchanges does
abbrev pub keeps_in : Family → Bool
keeps_in NoRule = false
keeps_in Equation = false
keeps_in Spread = false
keeps_in Remove = false
keeps_in Absorb = false
keeps_in Merge = false
keeps_in Collect = false
keeps_in Swap = true
keeps_in Distribute = false

unfoldable pub keeps_depth : Option Rule → Bool
keeps_depth o = keeps_in (family_in o)

-- what is told of the part, refused or not: how many words it has and, where the rule of the number may leave it deeper, how deep it is
pub record Measures (n : ℕ) (ws : List ℕ) (many : ℕ) (deep : Found ℕ) : Type 0 where
  pub size : many ≡ length (part ws 0)
  pub depth : deep ≡ cond (may_deepen (rule_of n)) (Some (part_depth ws 0)) None

-- 22 where the part is no instance; what is refused writes nothing
unfoldable pub Writes : Option Tree → List ℕ → List ℕ → Result ℕ Refusal → Type 0
Writes none out out' r = IsErrAnd r (λ e. code_of e ≡ 22) × (out' ≡ out)
Writes (some q) out out' r = Wrote (few q) (words q) out out' r

-- What the functions of the families promise: what `rewrite` says, for the labels that their numbers stand for.
use Rattle.std.specs.Prelude.{◌≡◌, Bool, true, false, ◌||◌, Result, List, ℕ, ◌/◌, ◌<◌, eqb}
use Rattle.term.specs.Heads.{Label}
use Rattle.term.specs.Parts.{parse, tree_in}
use Rattle.types.specs.Sorts.{Context}
use Rattle.rules.specs.Patterns.{Pattern}
use Rattle.rules.specs.Table.{Condition, Rule, Which, child, child_i, Summand, plain, scaled, ◌⇒◌▷◌, spreading, removing, absorbing, merging, collecting, swapping, distributing}
use Rattle.rules.specs.Instances.{ACSymbol}
use Rattle.rules.specs.Rewrite.{nameless, place, usable, rewrite}
use Rattle.rulebook.specs.declared.Row.{Row}
use Rattle.rulebook.specs.declared.Family.{Family}
use Rattle.rulebook.specs.declared.Family.TheVariants.{Equation, Spread, Remove, Absorb, Merge, Collect, Swap, Distribute}
use Rattle.rulebook.specs.Code.Rows.{head_number, which_number, summand_number}
use Rattle.families.specs.declared.writing.Refusal.{Refusal}
use Rattle.families.specs.Writing.{Writes}

-- a head without a name, and one with any number of children, by their numbers
pub record Named (h : ℕ) (l : Label) : Type 0 where
  pub number : h ≡ head_number l
  pub nameless : nameless l ≡ true

pub record Counted (h : ℕ) (l : Label) : Type 0 where
  pub number : h ≡ head_number l
  pub chain : ACSymbol l

-- 01, of 170: "of a 7, 8 or 20"; 02, CR 2: "the two children of a delta"
abbrev pub chain_word : ℕ → Bool
chain_word w = eqb (w / 256) 7 || (eqb (w / 256) 8 || eqb (w / 256) 20)

abbrev pub loose_word : ℕ → Bool
loose_word w = eqb (w / 256) 10 || chain_word w

-- whether a summand is to be scaled
abbrev pub summand_of : Bool → Summand
summand_of false = plain
summand_of true = scaled

module _ (ws out out' : List ℕ) (r : Result ℕ Refusal) where
  -- what a rule with indices makes of the part is written, in every context
  abbrev pub Does : Rule → ℕ → ℕ → Type 0
  Does rule i j = (Γ : Context) → Writes (rewrite Γ rule i j (tree_in (parse ws))) out out' r

  abbrev pub Removes : ℕ → ℕ → ℕ → Type 0
  Removes parent gone i = (l c : Label) → Counted parent l → Named gone c → Does (removing l c) i 0

  -- over the k-th child, which is the one that the rule wants
  abbrev pub Spreads : ℕ → ℕ → ℕ → ℕ → Type 0
  Spreads parent k sum result =
      (l s r : Label) (w : Which) (i : ℕ) → Named parent l → Counted sum s → Counted result r → usable w i ≡ true → place w i ≡ k → Does (spreading l w s r) i 0

  abbrev pub Collects : Bool → Bool → ℕ → ℕ → Type 0
  Collects u v i j = Does (collecting (summand_of u) (summand_of v)) i j

-- the child that is spread over by its number, so that 2 can stand for child i
abbrev pub Fixed : Which → Type 0
Fixed (child k) = k < 2
Fixed child_i = Unit {0}

-- What a row says of its rule, by its family: the heads or the summands that it asks for
pub data Lined (row : Row) : Family → Rule → Type 0 where
  an_equation : {k : Condition} {l r : Pattern} → Lined row Equation (k ⇒ l ▷ r)
  a_spreading : {l s r : Label} {w : Which} → Named row.a l → row.b ≡ which_number w → Fixed w → Counted row.c s → Counted row.d r → Lined row Spread (spreading l w s r)
  a_removing : {l c : Label} → Counted row.a l → Named row.b c → Lined row Remove (removing l c)
  an_absorbing : Lined row Absorb absorbing
  a_merging : Lined row Merge merging
  a_collecting : {u v : Summand} → row.a ≡ summand_number u → row.b ≡ summand_number v → Lined row Collect (collecting u v)
  a_swapping : Lined row Swap swapping
  a_distributing : Lined row Distribute distributing

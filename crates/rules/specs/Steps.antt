-- A step, a list of steps on one term, and the run of a derivation's steps on two sides, as functions for the code to equal. The relation to believe of a step is
-- `Outcome` of `Outcomes`; `StepDecided` of `Statements` says that `step_of` answers as it says. Document 01, codes 20 to 23.
use Rattle.std.specs.Prelude.{Bool, true, cond, ◌&&◌, List, [], ◌∷◌, ℕ, ◌+◌, eqb, leb, length}
use Rattle.std.proofs.Math.Option.{Option, some, none}
use Rattle.term.specs.declared.parts.Side.{Side}
use Rattle.term.specs.declared.parts.Side.TheVariants.{Left, Right}
use Rattle.term.specs.Trees.{Tree, Forest, node, ◌▹◌, none as no-tree, count, words, depth, Subtree, outside, found, subtree, replace}
use Rattle.term.specs.Terms.{max_words, max_depth, max_children}
use Rattle.types.specs.Sorts.{Context}
use Rattle.types.specs.Inside.{inside}
use Rattle.rules.specs.Table.{Rule, rule_of}
use Rattle.rules.specs.Rewrite.{rewrite}

-- 01: "step=SIDE RULE PLACE I J", without its side
pub record Step : Type 0 where
  pub rule : ℕ
  pub place : ℕ
  pub i : ℕ
  pub j : ℕ

-- the code, and the term that the step leaves
pub record Stepped : Type 0 where
  pub code : ℕ
  pub tree : Tree

-- ---- "23 the result would pass 255 children, 4,096 words or 64 deep"
unfoldable mutual
  pub few : Tree → Bool
  few (node l cs) = leb (count cs) max_children && few* cs

  pub few* : Forest → Bool
  few* no-tree = true
  few* (t ▹ f) = few t && few* f

unfoldable pub within : Tree → Bool
unfolding few words depth
within t = few t && (leb (length (words t)) max_words && leb (depth t) max_depth)

-- ---- "Tested in this order": 20, 21, 22, 23
abbrev pub refuse : ℕ → Tree → Stepped
refuse code t = record { code = code; tree = t }

unfoldable pub limited : Tree → Tree → Stepped
unfolding within
limited t new = cond (within new) (record { code = 0; tree = new }) (refuse 23 t)

unfoldable pub at_part : Context → Tree → Step → Option Tree → Stepped
unfolding limited
at_part Γ t s none = refuse 22 t
at_part Γ t s (some new) = limited t (replace t s.place new)

unfoldable pub at_place : Context → Tree → Step → Rule → Subtree → Stepped
unfolding at_part inside
at_place Γ t s r outside = refuse 21 t
at_place Γ t s r (found part) = at_part Γ t s (rewrite (inside Γ t s.place) r s.i s.j part)

unfoldable pub by_rule : Context → Tree → Step → Option Rule → Stepped
unfolding at_place
by_rule Γ t s none = refuse 20 t
by_rule Γ t s (some r) = at_place Γ t s r (subtree t s.place)

unfoldable pub step_of : Context → Tree → Step → Stepped
unfolding by_rule
step_of Γ t s = by_rule Γ t s (rule_of s.rule)

-- ---- a list of single steps, refused ones included: each gets what the one before it left
unfoldable pub steps_of : Context → Tree → List Step → Tree
unfolding step_of
steps_of Γ t [] = t
steps_of Γ t (s ∷ ss) = steps_of Γ (step_of Γ t s).tree ss

-- ---- the steps of a derivation on its two sides, up to the first bad one
pub record Move : Type 0 where
  pub side : Side
  pub step : Step

pub record Sides : Type 0 where
  pub left : Tree
  pub right : Tree

abbrev pub side_number : Side → ℕ
side_number Left = 1
side_number Right = 2

abbrev pub chosen : Side → Sides → Tree
chosen Left p = p.left
chosen Right p = p.right

abbrev pub put : Side → Tree → Sides → Sides
put Left t p = record { left = t; right = p.right }
put Right t p = record { left = p.left; right = t }

-- 01: "step is from 1, at its place, side its side, the slices hold the terms before it". With code 0 all steps were good, and `step` is their number
pub record Run : Type 0 where
  pub code : ℕ
  pub side : ℕ
  pub step : ℕ
  pub at : ℕ
  pub sides : Sides

-- n steps were good before these
unfoldable pub run_of : Context → ℕ → Sides → List Move → Run
unfolding step_of
run_of Γ n p [] = record { code = 0; side = 0; step = n; at = 0; sides = p }
run_of Γ n p (m ∷ ms) =
    let s = step_of Γ (chosen m.side p) m.step in
    cond (eqb s.code 0) (run_of Γ (n + 1) (put m.side s.tree p) ms)
    (record { code = s.code; side = side_number m.side; step = n + 1; at = m.step.place; sides = p })

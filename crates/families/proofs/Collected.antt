-- Collecting summands i and j: what `rewrite` answers, by the tests of the code.
use mathlib.Core.Path.{◌≡◌, refl, ◌∙◌}
use mathlib.Core.Logic.{◌≢◌}
use mathlib.Core.Bool.{Bool, true, false}
use mathlib.Core.List.{List}
use mathlib.Core.Option.{some, none as refused}
use Rattle.std.specs.Prelude.{Some, None}
use lib.ListN.{length}
use Prim.Native.Nat.{ℕ, ◌/◌, ◌≤◌, ◌<◌}
use native.Mathlib.Omega.{arith}
use lib.ListN.{get_or}
use Rattle.term.specs.Heads.{word, add}
use Rattle.term.specs.Trees.{Forest, node, none, ◌▹◌, ◌⧺◌}
use Rattle.term.specs.Parts.{Whole, parse, tree_in}
use Rattle.types.specs.Sorts.{Context}
use Rattle.rules.specs.Table.{Summand, collecting}
use Rattle.rules.specs.Instances.{sums}
use Rattle.rules.specs.Rewrite.{Opened, outside, open_at, multiple_of, collected, collect_before, collect_at, rewrite}
use Rattle.rules.proofs.Known.{is_head_lem}
use Rattle.families.specs.Code.Children.{kids, x_in, child_in}
use Rattle.families.specs.Code.Families.{Counted, summand_of}
use Rattle.rules.proofs.Opening.{At, too_far, there, at, open_past}
use Rattle.families.proofs.Split.{root}
use Rattle.families.proofs.Tested.{cond_same, named, root_other, root_outside, parent_is}
use Rattle.families.proofs.Pairs.{Pair, pair, pair-bounds}
use Rattle.families.proofs.Multiples.{Sought, locate, located_bounds}
use Rattle.families.specs.declared.children.Child.{Child}
use Rattle.families.proofs.Matched.{same_x, gathered, Matched, matched, unmatched, no_first, no_second}

-- 20 is the number of a sum
pub sum : Counted 20 add
unfolding word
sum = record { number = refl; chain = sums }

-- ---- the part is no sum, or has no child i before its child j
order_by : {f : Forest} {i j : ℕ} {o : Opened} (u v : Summand) → At f j o → j ≤ i → collect_at u v i o ≡ refused
unfolding collect_at collect_before
order_by u v (too_far h) l = refl
order_by {i} u v (there b t a e n) l = rw (open_past b i (omega arith))

-- a row that has no child i has none behind it
none-behind : {f : Forest} {i j : ℕ} {o : Opened} → At f i o → o ≡ outside → i ≤ j → open_at f j ≡ outside
none-behind {f} {i} {j} (too_far h) e l = open_past f j (omega arith)
none-behind (there b t a k n) e l = cc

module _ (Γ : Context) (u v : Summand) (i j : ℕ) {ws : List ℕ} (w : Whole ws) where
  pub collects_other : get_or ws 0 0 / 256 ≢ 20 → rewrite Γ (collecting u v) i j (tree_in (parse ws)) ≡ refused
  unfolding rewrite
  collects_other n = let r = root w in rw (r.tree, root_other r (named sum) n)

  pub collects-order : j ≤ i → rewrite Γ (collecting u v) i j (tree_in (parse ws)) ≡ refused
  unfolding rewrite
  collects-order l = let r = root w in rw (r.tree, order_by u v (at r.children j) l, cond_same)

  pub collects-outside : open_at (kids (tree_in (parse ws))) j ≡ outside → rewrite Γ (collecting u v) i j (tree_in (parse ws)) ≡ refused
  unfolding rewrite collect_at
  collects-outside = root_outside w j (rewrite Γ (collecting u v) i j) (λ m f o. rw (o, cond_same))

  pub collects-none : i ≤ j → open_at (kids (tree_in (parse ws))) i ≡ outside → rewrite Γ (collecting u v) i j (tree_in (parse ws)) ≡ refused
  collects-none l e = collects-outside (none-behind (at (kids (tree_in (parse ws))) i) e l)

-- ---- the two are there, and have an X
pub record Placed (ws : List ℕ) (first second : Child) (x y : ℕ) : Type 0 where
  pub front : (1 ≤ first.start) × (first.start ≤ x) × (x ≤ first.end) × (first.end ≤ length ws)
  pub back : (first.start < first.end) × (first.end ≤ second.start) × (second.start ≤ y) × (y ≤ second.end) × (second.end ≤ length ws)

pub placed : {ws : List ℕ} {i j : ℕ} {f s : Child} (n m : Bool) {x y : ℕ} → Whole ws → i < j → Some f ≡ child_in ws i → Some s ≡ child_in ws j
    → Some x ≡ x_in ws f.start n → Some y ≡ x_in ws s.start m → Placed ws f s x y
placed n m w l e e' h k =
    let p = pair w l e e' in
    let b = pair-bounds p in
    let x-there = located_bounds (locate p.first n h) in
    let y-there = located_bounds (locate p.second m k) in
    record { front = omega arith; back = omega arith }

-- the answer is that of their factors and their X
module _ {ws : List ℕ} {i j a b c d : ℕ} (p : Pair ws i j a b c d) where
  -- the children in the forms that the numbers n and m ask for, with the same X
  abbrev pub Both : Bool → Bool → ℕ → ℕ → Type 0
  Both n m x y =
      Matched ws a b c d x y p.first.before p.between p.second.after
      (multiple_of (summand_of n) (node p.first.label p.first.below)) (multiple_of (summand_of m) (node p.second.label p.second.below))

  pub both-same : (n m : Bool) {x y : ℕ} {r : Bool} → Sought p.first n (Some x) → Sought p.second m (Some y) → r ≡ same_x ws x b y d → r ≡ true → Both n m x y
  both-same n m f s e t = matched p.first.before p.between p.second.after f s e t

  module _ (Γ : Context) (n m : Bool) (h : get_or ws 0 0 / 256 ≡ 20) where
    collects-pair : rewrite Γ (collecting (summand_of n) (summand_of m)) i j (tree_in (parse ws))
        ≡ collected p.first.before p.between p.second.after
        (multiple_of (summand_of n) (node p.first.label p.first.below)) (multiple_of (summand_of m) (node p.second.label p.second.below))
    unfolding rewrite collect_at collect_before
    collects-pair = let s = p.second in rw (s.tree, s.child, p.opens, ← parent_is s (named sum) h, is_head_lem add)

    -- one is not of its form, or their X differ
    pub collects-no_first : Sought p.first n None → rewrite Γ (collecting (summand_of n) (summand_of m)) i j (tree_in (parse ws)) ≡ refused
    collects-no_first f = collects-pair ∙ no_first p.first.before p.between p.second.after _ f

    pub collects-no_second : Sought p.second m None → rewrite Γ (collecting (summand_of n) (summand_of m)) i j (tree_in (parse ws)) ≡ refused
    collects-no_second f = collects-pair ∙ no_second p.first.before p.between p.second.after _ f

    pub collects-unlike : {x y : ℕ} {r : Bool} → Sought p.first n (Some x) → Sought p.second m (Some y) → r ≡ same_x ws x b y d → r ≡ false
        → rewrite Γ (collecting (summand_of n) (summand_of m)) i j (tree_in (parse ws)) ≡ refused
    collects-unlike f s w t = collects-pair ∙ unmatched p.first.before p.between p.second.after f s w t

    -- they become one
    pub collects-both : {x y : ℕ} (q : Both n m x y)
        → rewrite Γ (collecting (summand_of n) (summand_of m)) i j (tree_in (parse ws))
        ≡ some (node add (p.first.before ⧺ p.between ⧺ p.second.after ⧺ gathered q.one q.two q.body ▹ none))
    collects-both q = collects-pair ∙ q.answer

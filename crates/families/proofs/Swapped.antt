-- Exchanging children i and i + 1: what `rewrite` answers, by the tests of the code.
use mathlib.Core.Path.{◌≡◌, ◌∙◌}
use mathlib.Core.Bool.{true, false}
use mathlib.Core.List.{List, ◌++◌}
use mathlib.Core.Option.{some, none as refused}
use Prim.Native.Nat.{ℕ, ◌-◌}
use native.Mathlib.Omega.{arith}
use lib.ListN.{length, take, drop, get_or}
use Rattle.words.specs.Words.{Added}
use Rattle.words.proofs.Runs.{added_both, to_end, added_as}
use Rattle.term.specs.Trees.{node, ◌▹◌, ◌⧺◌, count, words, Formed, Formed*}
use Rattle.term.specs.Parts.{Whole, parse, tree_in}
use Rattle.term.proofs.Parsing.{count-⧺, words*-⧺}
use Rattle.types.specs.Sorts.{Context}
use Rattle.rules.specs.Table.{swapping}
use Rattle.rules.specs.Rewrite.{outside, open_at, swap_at, rewrite}
use Rattle.rules.specs.Steps.{few}
use Rattle.rules.proofs.Formed.{formed-few, formed-few*}
use Rattle.families.specs.Code.Children.{kids}
use Rattle.families.specs.Code.Families.{loose_word}
use Rattle.families.proofs.Split.{root, Split, up_to-child, child-run, before-formed, child-formed, after-formed}
use Rattle.families.proofs.Next.{Next, last_child}
use Rattle.families.proofs.Tested.{cond_same, root_loose, root_outside, parent_is_loose}
use Rattle.families.proofs.Few.{few*-⧺, few*-▹, formed-count, few-node}

-- ---- the part's children may not change places, or there is no such child
module _ (Γ : Context) {ws : List ℕ} (i : ℕ) (w : Whole ws) where
  pub swaps_other : loose_word (get_or ws 0 0) ≡ false → rewrite Γ swapping i 0 (tree_in (parse ws)) ≡ refused
  unfolding rewrite
  swaps_other e = let r = root w in rw (r.tree, root_loose r ∙ e)

  pub swaps-outside : open_at (kids (tree_in (parse ws))) i ≡ outside → rewrite Γ swapping i 0 (tree_in (parse ws)) ≡ refused
  unfolding rewrite swap_at
  swaps-outside = root_outside w i (rewrite Γ swapping i 0) (λ m f o. rw (o, cond_same))

module _ {ws : List ℕ} {i start end : ℕ} (s : Split ws i start end) where
  -- the child is the last
  pub swaps_last : (Γ : Context) → end ≡ length ws → rewrite Γ swapping i 0 (tree_in (parse ws)) ≡ refused
  unfolding rewrite swap_at
  swaps_last Γ e = rw (s.tree, s.child, last_child s e, cond_same)

  module _ {next : ℕ} (n : Next s next) where
    -- the two change places
    pub swaps_children : (Γ : Context) → loose_word (get_or ws 0 0) ≡ true
        → rewrite Γ swapping i 0 (tree_in (parse ws)) ≡ some (node s.parent (s.before ⧺ n.sibling ▹ node s.label s.below ▹ n.others))
    unfolding rewrite swap_at
    swaps_children Γ k = rw (s.tree, parent_is_loose s k, s.child, n.after)

    same_count : count (s.before ⧺ n.sibling ▹ node s.label s.below ▹ n.others) ≡ count (s.before ⧺ node s.label s.below ▹ s.after)
    unfolding count
    same_count = rw (n.after, count-⧺, count-⧺)

    pub swapped_few : few (node s.parent (s.before ⧺ n.sibling ▹ node s.label s.below ▹ n.others)) ≡ true
    unfolding Formed
    swapped_few =
        let a : Formed n.sibling × Formed* n.others = rw n.after at (after-formed s) in
        few-node s.parent (s.before ⧺ n.sibling ▹ node s.label s.below ▹ n.others) (rw same_count (formed-count s.parent _ s.formed))
        (few*-⧺ s.before (n.sibling ▹ node s.label s.below ▹ n.others) (formed-few* s.before (before-formed s))
        (few*-▹ n.sibling (node s.label s.below ▹ n.others) (formed-few n.sibling a.0)
        (few*-▹ (node s.label s.below) n.others (formed-few (node s.label s.below) (child-formed s)) (formed-few* n.others a.1))))

    swapped_words : take (start - 0) ws ++ (take (next - end) (drop end ws) ++ (take (end - start) (drop start ws) ++ drop next ws))
        ≡ words (node s.parent (s.before ⧺ n.sibling ▹ node s.label s.below ▹ n.others))
    unfolding words
    swapped_words =
        let z : start - 0 ≡ start = omega arith in
        rw (z, up_to-child s, n.run, child-run s, n.rest, same_count, words*-⧺ s.before)

    pub swapped_written : {out at_head at_next at-child out' : List ℕ} {at a b c e : ℕ}
        → Added out at (take (start - 0) ws) at_head a
        → Added at_head a (take (next - end) (drop end ws)) at_next b
        → Added at_next b (take (end - start) (drop start ws)) at-child c
        → Added at-child c (take (length ws - next) (drop next ws)) out' e
        → Added out at (words (node s.parent (s.before ⧺ n.sibling ▹ node s.label s.below ▹ n.others))) out' e
    swapped_written p q r t = added_as swapped_words (added_both p (added_both q (added_both r (added_as (to_end ws next) t))))

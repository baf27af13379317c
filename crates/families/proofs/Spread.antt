-- Spreading over child k, a sum: what `rewrite` answers, by the tests of the code.
use mathlib.Core.Path.{◌≡◌, refl}
use mathlib.Core.Bool.{true, and-eq-true_iff}
use mathlib.Core.List.{List, ◌∷◌, ◌++◌, append_assoc, append-nil}
use Rattle.std.specs.Prelude.{Some, None}
use mathlib.Core.Option.{some, none as refused}
use Prim.Native.Nat.{ℕ, ◌+◌, ◌*◌, ◌%◌, ◌≤◌}
use native.Mathlib.Omega.{arith}
use lib.ListN.{get_or}
use Rattle.term.specs.Heads.{Label, word}
use Rattle.term.specs.Trees.{Tree, Forest, node, none, ◌▹◌, count, ◌⧺◌, words, words*, Formed}
use Rattle.term.specs.Parts.{Whole, parse, tree_in}
use Rattle.term.proofs.Parsing.{count-⧺}
use Rattle.types.specs.Sorts.{Context}
use Rattle.rules.specs.Table.{Which, spreading}
use Rattle.rules.specs.Instances.{spread}
use Rattle.rules.specs.Rewrite.{spread_at, place, usable, rewrite}
use Rattle.rules.specs.Steps.{few, few*}
use Rattle.rules.proofs.Known.{is_head_lem}
use Rattle.rules.proofs.FamilyTypes.{count-spread}
use Rattle.rules.proofs.Formed.{formed-few*}
use Rattle.families.specs.Code.Children.{Under}
use Rattle.families.specs.declared.children.Child.{Child}
use Rattle.families.specs.Code.Families.{Named, Counted}
use Rattle.families.proofs.Split.{Split, before-formed, child-formed, after-formed}
use Rattle.families.proofs.Heads.{chain-word}
use Rattle.families.proofs.Tested.{named, chain-child, siblings_few, Fit, under, none-under}
use Rattle.families.proofs.Few.{few*-⧺, few*-▹, formed-count, few-node}

-- ---- the row of nodes that spreading makes
module _ (l : Label) (b a : Forest) where
  -- one tree more, and the words of the node over it
  pub spread-more : (f : Forest) (t : Tree) → words* (spread l b (f ⧺ t ▹ none) a) ≡ words* (spread l b f a) ++ words (node l (b ⧺ t ▹ a))
  unfolding spread ◌⧺◌ words*
  spread-more none t = append-nil (words (node l (b ⧺ t ▹ a)))
  spread-more (u ▹ f) t = rw (spread-more f t, append_assoc)

  -- each node has as many children as the one that is spread
  spread-few : (f : Forest) → count b + count a + 1 ≤ 255 → few* b ≡ true → few* f ≡ true → few* a ≡ true → few* (spread l b f a) ≡ true
  unfolding spread few count
  spread-few none h p q r = refl
  spread-few (t ▹ f) h p q r =
      let x = (and-eq-true_iff (few t) (few* f)).0 q in
      let n : count (b ⧺ t ▹ a) ≤ 255 = omega (arith, count-⧺ b (t ▹ a)) in
      few*-▹ (node l (b ⧺ t ▹ a)) (spread l b f a) (few-node l (b ⧺ t ▹ a) n (few*-⧺ b (t ▹ a) p (few*-▹ t a x.0 r))) (spread-few f h p x.1 r)

module _ {l s : Label} {k parent sum : ℕ} (P : Named parent l) (S : Counted sum s) {ws : List ℕ} (v : Whole ws) where
  -- the part has another head, no such child, or one that is no such sum
  pub spreads-none : (Γ : Context) (r : Label) (w : Which) (i : ℕ) → usable w i ≡ true → place w i ≡ k → Under ws parent k sum None → rewrite Γ (spreading l w s r) i 0 (tree_in (parse ws)) ≡ refused
  unfolding rewrite spread_at
  spreads-none Γ r w i u e z = none-under v z P (named S) (spread_at l s r) refl (λ b m f a n. rw n) (rewrite Γ (spreading l w s r) i 0) (λ m f n. rw (u, e))

  module _ {c : Child} (z : Under ws parent k sum (Some c)) (p : Split ws k c.start c.end) where
    x : Fit p l s
    x = under v z P (named S) p

    -- it is, and the part becomes the sum of the nodes over each summand: each with the summand in the child's place
    abbrev pub nodes : Forest
    nodes = spread p.parent p.before p.below p.after

    pub spreads-child : (Γ : Context) (r : Label) (w : Which) (i : ℕ) → usable w i ≡ true → place w i ≡ k → rewrite Γ (spreading l w s r) i 0 (tree_in (parse ws)) ≡ some (node r nodes)
    unfolding rewrite spread_at
    spreads-child Γ r w i u e = rw (p.tree, u, e, p.child, ← x.parent, ← x.child, is_head_lem l, is_head_lem s)

    -- ---- what is written: a word that counts the summands, and the words of the nodes over them
    as_many : (count nodes ≡ count p.below) × (count nodes ≤ 255)
    as_many =
        let same = count-spread p.parent p.before p.below p.after in
        omega (arith, formed-count p.label p.below (child-formed p))

    pub spread-words : {r : Label} {result : ℕ} → Counted result r → (result * 256 + get_or ws c.start 0 % 256) ∷ words* nodes ≡ words (node r nodes)
    unfolding words
    spread-words {r} {result} R =
        let w : result * 256 + get_or ws c.start 0 % 256 ≡ word r (count nodes) = omega (arith, as_many, R.number, chain-child p S.chain x.child, chain-word R.chain (count nodes)) in rw w

    pub spread_nodes_few : (r : Label) → few (node r nodes) ≡ true
    unfolding Formed
    spread_nodes_few r =
        few-node r nodes as_many.1
        (spread-few p.parent p.before p.after p.below (omega (arith, siblings_few p, count-⧺ p.before p.after))
        (formed-few* p.before (before-formed p)) (formed-few* p.below (child-formed p).1) (formed-few* p.after (after-formed p)))

-- Merging child i into its parent: what `rewrite` answers, by the tests of the code.
use mathlib.Core.Path.{◌≡◌, refl, sym, ◌∙◌}
use mathlib.Core.Bool.{true, false, cond}
use mathlib.Core.List.{List, ◌∷◌, ◌++◌}
use mathlib.Core.Option.{some, none as refused}
use Prim.Native.Nat.{ℕ, ◌+◌, ◌-◌, ◌/◌, ◌%◌, ◌≤◌, ◌<◌}
use native.Mathlib.Omega.{arith}
use lib.ListN.{length, take, drop, get_or}
use Rattle.term.specs.Heads.{Label, word}
use Rattle.term.specs.Trees.{Forest, node, ◌⧺◌, count, words, Formed}
use Rattle.term.specs.Parts.{Whole, parse, tree_in}
use Rattle.term.proofs.Parsing.{count-⧺, words*-⧺}
use Rattle.types.specs.Sorts.{Context}
use Rattle.rules.specs.Table.{merging}
use Rattle.rules.specs.Instances.{ACSymbol}
use Rattle.rules.specs.Rewrite.{merge_at, rewrite}
use Rattle.rules.specs.Steps.{few}
use Rattle.rules.proofs.Known.{is_head_lem}
use Rattle.rules.proofs.Formed.{formed-few*}
use Rattle.families.specs.Code.Children.{Under, fits, child_in}
use Rattle.std.specs.Prelude.{Some, None, Err}
use Rattle.families.specs.declared.writing.Refusal.TheVariants.{TooBig}
use Rattle.families.specs.declared.children.Child.{Child}
use Rattle.families.specs.Writing.{Writes}
use Rattle.families.specs.Code.Families.{chain_word, Named}
use Rattle.families.proofs.Whole.{whole}
use Rattle.families.proofs.Split.{root, first_word, Split, child-bounds, before-run, inside-child, before-formed, child-formed, after-formed}
use Rattle.rules.proofs.Decided.{chain-nameless}
use Rattle.families.proofs.Heads.{head_number_lem, chain_of, chain-word}
use Rattle.families.proofs.Tested.{root_chain, parent_is_chain, chain_parent, chain-child, siblings_few, Fit, found, under, none-under}
use Rattle.families.proofs.Few.{few*-⧺, formed-count, few-node, many-node}
use Rattle.families.proofs.Written.{exceeds}

-- ---- the part is no chain
pub merges_other : (Γ : Context) {ws : List ℕ} (i : ℕ) (w : Whole ws) → chain_word (get_or ws 0 0) ≡ false → rewrite Γ merging i 0 (tree_in (parse ws)) ≡ refused
unfolding rewrite
merges_other Γ i w e = let r = root w in rw (r.tree, root_chain r ∙ e)

-- ---- or it is, and the child's head is compared with its own
module _ {ws : List ℕ} (w : Whole ws) (k : chain_word (get_or ws 0 0) ≡ true) where
  abbrev l : Label
  l = (root w).label

  chain : ACSymbol l
  chain = chain_of l (root w).children (root w).formed (rw (first_word (root w)) at k)

  pub own : Named (get_or ws 0 0 / 256) l
  own = record { number = rw (first_word (root w)) (head_number_lem l _ (chain-nameless chain) (formed-count l _ (root w).formed)); nameless = chain-nameless chain }

  pub merges-none : (Γ : Context) {i : ℕ} → Under ws (get_or ws 0 0 / 256) i (get_or ws 0 0 / 256) None → rewrite Γ merging i 0 (tree_in (parse ws)) ≡ refused
  unfolding rewrite merge_at
  merges-none Γ {i} e =
      none-under w e own own (merge_at l) refl (λ b c f a z. rw z) (rewrite Γ merging i 0)
      (λ c f z.
      let t : node l (root w).children ≡ node c f = sym (root w).tree ∙ z in
      let x : c ≡ l = cc in
      let y : f ≡ (root w).children = cc in
      rw (x, y, root_chain (root w) ∙ k, is_head_lem l))

  module _ {i : ℕ} {r : Child} (e : Under ws (get_or ws 0 0 / 256) i (get_or ws 0 0 / 256) (Some r)) where
    abbrev s : Split ws i r.start r.end
    s = found w e

    u : Fit s l l
    u = under w e own own s

    abbrev all : Forest
    all = s.before ⧺ s.below ⧺ s.after

    pub merges-child : (Γ : Context) → rewrite Γ merging i 0 (tree_in (parse ws)) ≡ some (node l all)
    unfolding rewrite merge_at
    merges-child Γ = rw (s.tree, parent_is_chain s k, s.child, ← u.child, ← u.parent, is_head_lem l)

    pub child-inside : (1 ≤ r.start) × (r.start < r.end) × (r.end ≤ length ws)
    child-inside = child-bounds s

    -- ---- the number of children: the parent's others and the child's
    merged_count : count all ≡ count (s.before ⧺ s.after) + count s.below
    merged_count =
        omega (arith, count-⧺ s.before (s.below ⧺ s.after), count-⧺ s.below s.after, count-⧺ s.before s.after)

    pub low_bytes : (get_or ws 0 0 % 256 ≡ count (s.before ⧺ s.after) + 1) × (get_or ws r.start 0 % 256 ≡ count s.below)
    low_bytes =
        let p = chain_parent s chain u.parent in
        let c = chain-child s chain u.child in
        omega (arith, siblings_few s, formed-count s.label s.below (child-formed s))

    -- too many
    pub merged_many : 256 < get_or ws 0 0 % 256 + get_or ws r.start 0 % 256 → few (node l all) ≡ false
    merged_many h = many-node l all (omega (arith, low_bytes, merged_count))

    -- or few enough
    pub merged_few : get_or ws 0 0 % 256 + get_or ws r.start 0 % 256 ≤ 256 → few (node l all) ≡ true
    unfolding Formed
    merged_few h =
        few-node l all (omega (arith, low_bytes, merged_count))
        (few*-⧺ s.before (s.below ⧺ s.after) (formed-few* s.before (before-formed s))
        (few*-⧺ s.below s.after (formed-few* s.below (child-formed s).1) (formed-few* s.after (after-formed s))))

    pub merged_words : (get_or ws 0 0 - 1 + get_or ws r.start 0 % 256) ∷ (take (r.start - 1) (drop 1 ws) ++ drop (r.start + 1) ws) ≡ words (node l all)
    unfolding words
    merged_words =
        let p = chain_parent s chain u.parent in
        let more : get_or ws 0 0 - 1 + get_or ws r.start 0 % 256 ≡ word l (count all) = omega (arith, chain-word chain (count all), low_bytes, merged_count) in
        rw (before-run s, inside-child s, words*-⧺ s.before, words*-⧺ s.below, more)

-- the refusal of too many, by what the code is told of the child
pub too_many : (Γ : Context) (ws out : List ℕ) (i : ℕ) (r : Child) → ∥ Whole ws ∥₁ → chain_word (get_or ws 0 0) ≡ true
    → let k = get_or ws 0 0 / 256 in
    Some r ≡ cond (fits ws k k (child_in ws i)) (child_in ws i) None → 256 < get_or ws 0 0 % 256 + get_or ws r.start 0 % 256
    → Writes (rewrite Γ merging i 0 (tree_in (parse ws))) out out (Err TooBig)
too_many Γ ws out i r w k is h = let e : Under ws (get_or ws 0 0 / 256) i (get_or ws 0 0 / 256) (Some r) = record { is = is } in exceeds _ _ (merges-child (whole w) k e Γ) (merged_many (whole w) k e h)

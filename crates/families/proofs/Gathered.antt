-- What collecting writes: a word that counts one child less, the children that stay, and the new one.
use mathlib.Core.Path.{◌≡◌, ◌∙◌, ap}
use mathlib.Core.Bool.{true}
use mathlib.Core.List.{List, ◌∷◌, ◌++◌, append_assoc, append-nil}
use Prim.Native.Nat.{ℕ, ◌-◌, ◌/◌}
use native.Mathlib.Omega.{arith}
use lib.ListN.{take, drop, get_or}
use Rattle.words.specs.Words.{Added}
use Rattle.words.proofs.Runs.{added_both, added_as}
use Rattle.term.specs.Heads.{word, add}
use Rattle.term.specs.Trees.{Tree, Forest, node, none, ◌▹◌, count, ◌⧺◌, words, words*}
use Rattle.term.proofs.Parsing.{count-⧺, words*-⧺}
use Rattle.rules.specs.Instances.{sums}
use Rattle.rules.specs.Rewrite.{Multiple}
use Rattle.rules.specs.Steps.{few, few*}
use Rattle.rules.proofs.Formed.{formed-few*}
use Rattle.families.proofs.Split.{before-run, behind-child, before-formed, after-formed}
use Rattle.families.proofs.Heads.{chain-word}
use Rattle.families.proofs.Tested.{named, parent_is, chain_parent, siblings_few}
use Rattle.families.proofs.Few.{few*-⧺, few-node}
use Rattle.families.proofs.Pairs.{Pair, between_run, between_formed}
use Rattle.families.proofs.Multiples.{factor_run}
use Rattle.families.proofs.Matched.{gathered, Matched}
use Rattle.families.proofs.Collected.{sum}

-- ---- the new summand
gathered_words : (f g t : Tree) → 4864 ∷ (1794 ∷ (words f ++ (words g ++ words t))) ≡ words* (gathered f g t ▹ none)
unfolding words word count
gathered_words f g t = simp (append-nil, append_assoc)

gathered_few : (f g t : Tree) → (few f ≡ true) × (few g ≡ true) × (few t ≡ true) → few* (gathered f g t ▹ none) ≡ true
unfolding few count
gathered_few f g t h = rw (h.0, h.1, h.2)

-- ---- the result for any factors and any X
module _ {ws : List ℕ} {i j a b c d : ℕ} (p : Pair ws i j a b c d) (f g t : Tree) where
  new-count : count (p.first.before ⧺ p.between ⧺ p.second.after ⧺ gathered f g t ▹ none) ≡ count (p.second.before ⧺ p.second.after)
  unfolding count
  new-count =
      let s = p.second in
      let f₁ = node p.first.label p.first.below in
      let l = ap count p.front in
      omega (
        arith,
        count-⧺ p.first.before (f₁ ▹ p.between),
        count-⧺ s.before s.after,
        count-⧺ p.first.before (p.between ⧺ s.after ⧺ gathered f g t ▹ none),
        count-⧺ p.between (s.after ⧺ gathered f g t ▹ none),
        count-⧺ s.after (gathered f g t ▹ none),
      )

  -- the runs of the factors and of X are their words
  collected-words : {xs ys zs : List ℕ} → xs ≡ words f → ys ≡ words g → zs ≡ words t → get_or ws 0 0 / 256 ≡ 20
      → (get_or ws 0 0 - 1) ∷ ((take (a - 1) (drop 1 ws) ++ (take (c - b) (drop b ws) ++ drop d ws)) ++ (4864 ∷ (1794 ∷ (xs ++ (ys ++ zs)))))
      ≡ words (node add (p.first.before ⧺ p.between ⧺ p.second.after ⧺ gathered f g t ▹ none))
  unfolding words
  collected-words x y z h =
      let s = p.second in
      let n = count (p.first.before ⧺ p.between ⧺ s.after ⧺ gathered f g t ▹ none) in
      let w = chain_parent s sums (parent_is s (named sum) h) in
      let less : get_or ws 0 0 - 1 ≡ word add n = omega (arith, chain-word sums n, new-count) in
      rw (less, before-run p.first, between_run p, behind-child s, x, y, z, gathered_words f g t, words*-⧺, words*-⧺, words*-⧺) (simp append_assoc)

  collected-few : (few f ≡ true) × (few g ≡ true) × (few t ≡ true) → few (node add (p.first.before ⧺ p.between ⧺ p.second.after ⧺ gathered f g t ▹ none)) ≡ true
  collected-few h =
      let s = p.second in
      few-node add (p.first.before ⧺ p.between ⧺ s.after ⧺ gathered f g t ▹ none) (omega (arith, new-count, siblings_few s))
      (few*-⧺ p.first.before (p.between ⧺ s.after ⧺ gathered f g t ▹ none) (formed-few* p.first.before (before-formed p.first))
      (few*-⧺ p.between (s.after ⧺ gathered f g t ▹ none) (formed-few* p.between (between_formed p))
      (few*-⧺ s.after (gathered f g t ▹ none) (formed-few* s.after (after-formed s)) (gathered_few f g t h))))

-- ---- and for those that were found, written in two runs: the children that stay, and the new one
module _ {ws : List ℕ} {i j a b c d : ℕ} (p : Pair ws i j a b c d) {x y : ℕ} {before between after : Forest} {f g : Multiple} (q : Matched ws a b c d x y before between after f g) where
  pub both-few : few (node add (p.first.before ⧺ p.between ⧺ p.second.after ⧺ gathered q.one q.two q.body ▹ none)) ≡ true
  both-few = collected-few p q.one q.two q.body q.few-parts

  pub both_added : {xs ys out mid out' : List ℕ} {at k e : ℕ} → get_or ws 0 0 / 256 ≡ 20 → xs ≡ factor_run ws a x → ys ≡ factor_run ws c y
      → Added out at ((get_or ws 0 0 - 1) ∷ (take (a - 1) (drop 1 ws) ++ (take (c - b) (drop b ws) ++ drop d ws))) mid k
      → Added mid k (4864 ∷ (1794 ∷ (xs ++ (ys ++ take (b - x) (drop x ws))))) out' e
      → Added out at (words (node add (p.first.before ⧺ p.between ⧺ p.second.after ⧺ gathered q.one q.two q.body ▹ none))) out' e
  both_added h s t stay new =
      added_as (collected-words p q.one q.two q.body (s ∙ q.first-factor) (t ∙ q.second-factor) q.run h) (added_both stay new)

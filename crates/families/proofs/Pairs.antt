-- Two children of a part, i and j with i < j, and the children between them.
use mathlib.Core.Path.{◌≡◌, refl, sym, ◌∙◌, ap}
use mathlib.Core.List.{List}
use Rattle.std.specs.Prelude.{Some}
use Prim.Native.Nat.{ℕ, zero, suc, ◌+◌, ◌-◌, ◌≤◌, ◌<◌}
use native.Mathlib.Omega.{arith}
use lib.ListN.{length, take, drop, length-append}
use lib.Seq.{take_at}
use Rattle.term.specs.Trees.{Tree, Forest, node, none, ◌▹◌, count, ◌⧺◌, words, words*, Formed*}
use Rattle.term.specs.Parts.{Whole}
use Rattle.term.proofs.Parsing.{words*-⧺, Formed*-⧺}
use Rattle.rules.specs.Rewrite.{opened, behind, open_at}
use Rattle.families.specs.declared.children.Child.{Child}
use Rattle.families.specs.Code.Children.{child_in}
use Rattle.families.proofs.Split.{Split, split, behind-child, child-bounds, after-formed}

-- ---- a child of the first of two rows, in that row and in both
record Within (f g : Forest) (i : ℕ) : Type 0 where
  before : Forest
  tree : Tree
  after : Forest
  row : f ≡ before ⧺ tree ▹ after
  here : open_at f i ≡ opened before tree after
  both : open_at (f ⧺ g) i ≡ opened before tree (after ⧺ g)

within : (f g : Forest) (i : ℕ) → i < count f → Within f g i
unfolding open_at behind count ◌⧺◌
within none g i h = absurd (omega arith)
within (t ▹ f) g zero h = record { before = none; tree = t; after = f; row = refl; here = refl; both = refl }
within (t ▹ f) g (suc i) h =
    let r = within f g i (omega arith) in
    record { before = t ▹ r.before; tree = r.tree; after = r.after; row = ap (λ (h : Forest). t ▹ h) r.row; here = ap (behind t) r.here; both = ap (behind t) r.both }

-- ---- the part at child i, from a up to b, and at child j, from c up to d
pub record Pair (ws : List ℕ) (i j a b c d : ℕ) : Type 0 where
  pub first : Split ws i a b
  pub second : Split ws j c d
  pub between : Forest
  pub opens : open_at second.before i ≡ opened first.before (node first.label first.below) between
  pub front : second.before ≡ first.before ⧺ node first.label first.below ▹ between
  back : first.after ≡ between ⧺ node second.label second.below ▹ second.after

-- both see the same row
paired : {ws : List ℕ} {i j a b c d : ℕ} (f : Split ws i a b) (s : Split ws j c d) → Within s.before (node s.label s.below ▹ s.after) i → Pair ws i j a b c d
paired {i} f s o =
    let row : f.before ⧺ node f.label f.below ▹ f.after ≡ s.before ⧺ node s.label s.below ▹ s.after = cc (f.tree, s.tree) in
    let same : opened f.before (node f.label f.below) f.after ≡ opened o.before o.tree (o.after ⧺ node s.label s.below ▹ s.after) =
    sym f.child ∙ ap (λ (g : Forest). open_at g i) row ∙ o.both in
    record { first = f; second = s; between = o.after; opens = cc o.here; front = cc o.row; back = cc }

-- what `child_at` answers for both
pub pair : {ws : List ℕ} {i j : ℕ} {p q : Child} → Whole ws → i < j → Some p ≡ child_in ws i → Some q ≡ child_in ws j → Pair ws i j p.start p.end q.start q.end
pair {i} w l e e' =
    let s = split w e' in
    let o = within s.before (node s.label s.below ▹ s.after) i (omega (arith, s.number)) in
    paired (split w e) s o

module _ {ws : List ℕ} {i j a b c d : ℕ} (p : Pair ws i j a b c d) where
  -- the children between stand from b up to c
  between_length : c ≡ b + length (words* p.between)
  unfolding words
  between_length =
      let f = p.first in
      let l = ap (λ (g : Forest). length (words* g)) p.front in
      let m = ap length (words*-⧺ f.before (node f.label f.below ▹ p.between)) in
      let n = length-append (words* f.before) (words* (node f.label f.below ▹ p.between)) in
      let o = length-append (words* f.below) (words* p.between) in
      omega (arith, f.begins, f.ends, p.second.begins)

  pub pair-bounds : (1 ≤ a) × (a < b) × (b ≤ c) × (c < d) × (d ≤ length ws)
  pair-bounds = omega (arith, child-bounds p.first, between_length, child-bounds p.second)

  pub between_run : take (c - b) (drop b ws) ≡ words* p.between
  between_run = rw (behind-child p.first, p.back, words*-⧺) (take_at (words* p.between) _ (c - b) (omega (arith, between_length)))

  pub between_formed : Formed* p.between
  between_formed = (Formed*-⧺ p.between _ (rw p.back at (after-formed p.first))).0

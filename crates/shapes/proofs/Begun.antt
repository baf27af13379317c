-- Words that begin with a part: its first word, and its children.
use mathlib.Core.Path.{◌≡◌, refl, sym, ◌∙◌}
use mathlib.Core.Bool.{true, false}
use mathlib.Core.List.{List, [], ◌∷◌, ◌++◌, append_assoc, head-eq_of_cons-eq, tail-eq_of_cons-eq}
use Prim.Native.Nat.{ℕ, zero, suc, ◌+◌}
use native.Mathlib.Numerals.{add-one}
use native.Mathlib.Omega.{arith}
use borrow.Author.Tests.{ne_eqb}
use lib.ListN.{length, drop, get_or}
use lib.Seq.{drop-nil, drop-drop, drop_at}
use Rattle.term.specs.Heads.{Label, word}
use Rattle.term.specs.Trees.{Tree, Forest, node, ◌▹◌, count, words, words*, Formed, depth}
use Rattle.term.specs.Parts.{parse, first, part, tree_in}
use Rattle.term.proofs.Parsing.{some_words, parse-words}
use Rattle.shapes.specs.Reading.{Begins, child_at}

pub at_front : (ws : List ℕ) (at : ℕ) (x : ℕ) (ys : List ℕ) → drop at ws ≡ x ∷ ys → (get_or ws at 0 ≡ x) × (drop (suc at) ws ≡ ys)
at_front [] at x ys e = absurd (let z : [] ≡ x ∷ ys = sym (drop-nil at) ∙ e in let y : ◌≡◌ {A = ℕ} 0 1 = cc in omega arith)
at_front (w ∷ ws) zero x ys e = (head-eq_of_cons-eq e, tail-eq_of_cons-eq e)
at_front (w ∷ ws) (suc at) x ys e = at_front ws at x ys e

pub part_of : (ws : List ℕ) (at : ℕ) (t : Tree) (rest : List ℕ) → Formed t → drop at ws ≡ words t ++ rest → part ws at ≡ words t
unfolding part first
part_of ws at t rest f e = rw (e, parse-words t f rest)

-- the part with which they begin
pub begins-tree : {ws : List ℕ} {budget : ℕ} {t : Tree} → Begins ws budget t → tree_in (parse ws) ≡ t
unfolding tree_in
begins-tree {t = t} b = rw (b.whole, parse-words t b.formed b.rest)

module _ (ws : List ℕ) (at : ℕ) {n : ℕ} {l : Label} where
  pub first_word : {cs : Forest} → Begins (drop at ws) n (node l cs) → get_or ws at 0 ≡ word l (count cs)
  unfolding words
  first_word b = (at_front ws at _ _ b.whole).0

  children : {t : Tree} {f : Forest} (b : Begins (drop at ws) n (node l (t ▹ f))) → drop (at + 1) ws ≡ words t ++ (words* f ++ b.rest)
  unfolding words
  children {t} {f} b = rw add-one ((at_front ws at _ _ b.whole).1 ∙ append_assoc (words t) (words* f) b.rest)

module _ (ws : List ℕ) (at : ℕ) {n : ℕ} {l : Label} {t : Tree} where
  pub begins-first : {f : Forest} → Begins (drop at ws) (suc n) (node l (t ▹ f)) → Begins (drop (child_at ws at false) ws) n t
  unfolding child_at Formed depth
  begins-first {f} b = record { formed = b.formed.1.0; shallow = omega (arith, b.shallow); rest = words* f ++ b.rest; whole = children ws at b }

  pub second_at : {u : Tree} {f : Forest} → Begins (drop at ws) (suc n) (node l (t ▹ u ▹ f)) → child_at ws at true ≡ at + 1 + length (words t)
  unfolding child_at Formed
  second_at b = rw (part_of ws (at + 1) t _ b.formed.1.0 (children ws at b), ne_eqb (length (words t)) 0 (λ z. omega (arith, some_words t)))

  pub begins-second : {u : Tree} {f : Forest} → Begins (drop at ws) (suc n) (node l (t ▹ u ▹ f)) → Begins (drop (child_at ws at true) ws) n u
  unfolding Formed depth words
  begins-second {u} {f} b =
      let e = children ws at b in
      let k : drop (length (words t)) (drop (at + 1) ws) ≡ (words u ++ words* f) ++ b.rest = rw e (drop_at (words t) ((words u ++ words* f) ++ b.rest) (length (words t)) refl) in
      record {
        formed = b.formed.1.1.0;
        shallow = omega (arith, b.shallow);
        rest = words* f ++ b.rest;
        whole = rw (second_at b, ← drop-drop (length (words t)) (at + 1) ws) (k ∙ append_assoc (words u) (words* f) b.rest);
      }

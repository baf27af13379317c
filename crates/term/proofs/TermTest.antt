-- The test of a term, one condition after the other, and what it tells: the words are those of a tree that is a term.
use mathlib.Core.Path.{◌≡◌, refl, sym, ◌∙◌, ap}
use mathlib.Core.Bool.{Bool, true, false, ◌&&◌, and-eq-true_iff}
use mathlib.Core.Logic.{◌≢◌}
use mathlib.Core.List.{List}
use Prim.Native.Nat.{ℕ, ◌≤◌, ◌<◌}
use native.Mathlib.Omega.{arith}
use borrow.Author.Tests.{lt-ltb, le-ltb, le-leb, lt-leb, eq-eqb, ne_eqb, ltb-true, leb-true, eqb-true}
use lib.Dec.{ltb, leb, eqb}
use lib.ListN.{length, take}
use lib.Seq.{take-length}
use Rattle.term.specs.declared.terms.Names.{Names}
use Rattle.term.specs.Trees.{Tree, Forest, none, ◌▹◌, words, Formed, Formed*, depth}
use Rattle.term.specs.Parts.{parse, first, first_depth, part, part_depth}
use Rattle.term.specs.Terms.{max_words, max_depth, all_declared, IsTerm, term_words, is_term}
use Rattle.term.proofs.Parsing.{accepted, some_words, parse-tree}
use Rattle.term.proofs.Scan.{part-front}

-- ---- a slice that holds so many words is tested by those words
pub term_in : (N : Names) (ws : List ℕ) (n : ℕ) → n ≤ length ws → is_term N ws n ≡ term_words N (take n ws)
unfolding is_term
term_in N ws n h = rw (le-leb n (length ws) h)

pub term-past : (N : Names) (ws : List ℕ) (n : ℕ) → length ws < n → is_term N ws n ≡ false
unfolding is_term
term-past N ws n h = rw (lt-leb n (length ws) h)

-- ---- the conditions in their order: the first that fails decides
module _ (N : Names) (ws : List ℕ) where
  pub term_empty : length ws ≡ 0 → term_words N ws ≡ false
  unfolding term_words
  term_empty e = rw (le-ltb 0 (length ws) (omega arith))

  module _ (some : 0 < length ws) where
    pub term-long : max_words < length ws → term_words N ws ≡ false
    unfolding term_words
    term-long h = rw (lt-ltb 0 (length ws) some, lt-leb (length ws) max_words h)

    module _ (short : length ws ≤ max_words) where
      pub term-end : length (part ws 0) ≢ length ws → term_words N ws ≡ false
      unfolding term_words
      term-end h = rw (lt-ltb 0 (length ws) some, le-leb (length ws) max_words short, ne_eqb _ _ h)

      module _ (ends : length (part ws 0) ≡ length ws) where
        pub term_deep : max_depth < part_depth ws 0 → term_words N ws ≡ false
        unfolding term_words
        term_deep h = rw (lt-ltb 0 (length ws) some, le-leb (length ws) max_words short, eq-eqb _ _ ends, lt-leb (part_depth ws 0) max_depth h)

        pub term-names : part_depth ws 0 ≤ max_depth → term_words N ws ≡ all_declared N ws
        unfolding term_words
        term-names h = rw (lt-ltb 0 (length ws) some, le-leb (length ws) max_words short, eq-eqb _ _ ends, le-leb (part_depth ws 0) max_depth h)

-- ---- the test against the declarative reading
-- the words of a term pass
pub tree-term : (N : Names) (t : Tree) → IsTerm N t → term_words N (words t) ≡ true
unfolding part part_depth first first_depth
tree-term N t h =
    let e = parse-tree t h.formed in
    term-names N (words t) (some_words t) h.short (rw e) (rw e h.shallow) ∙ h.named

-- what passes is the words of a term
whole-tree : (ws : List ℕ) (f : Forest) → parse ws ≡ f → 0 < length ws → length (part ws 0) ≡ length ws
    → (t : Tree) × (words t ≡ ws) × Formed t × (depth t ≡ part_depth ws 0)
unfolding part part_depth first first_depth Formed
whole-tree ws none e some ends = absurd (let z = ap (λ (g : Forest). length (first g)) e in omega arith)
whole-tree ws (t ▹ f) e some ends =
    let k : Formed* (t ▹ f) = rw e at (accepted ws).formed in
    let w : part ws 0 ≡ ws = part-front ws 0 ∙ rw ends (take-length ws) in
    (t, sym (ap first e) ∙ w, k.0, rw e)

all_five : (a b c d e : Bool) → (a && (b && (c && (d && e)))) ≡ true → (a ≡ true) × (b ≡ true) × (c ≡ true) × (d ≡ true) × (e ≡ true)
all_five a b c d e h =
    let p = (and-eq-true_iff a _).0 h in
    let q = (and-eq-true_iff b _).0 p.1 in
    let r = (and-eq-true_iff c _).0 q.1 in
    let s = (and-eq-true_iff d e).0 r.1 in
    (p.0, q.0, r.0, s.0, s.1)

pub term-tree : (N : Names) (ws : List ℕ) → term_words N ws ≡ true → (t : Tree) × (words t ≡ ws) × IsTerm N t
unfolding term_words
term-tree N ws e =
    let a =
    all_five (ltb 0 (length ws)) (leb (length ws) max_words) (eqb (length (part ws 0)) (length ws)) (leb (part_depth ws 0) max_depth)
    (all_declared N ws) e in
    let t = whole-tree ws (parse ws) refl (ltb-true _ _ a.0) (eqb-true _ _ a.2) in (
      t.0,
      t.1,
      record {
        formed = t.2;
        short = rw t.1 (leb-true _ _ a.1);
        shallow = rw t.3 (leb-true _ _ a.3);
        named = rw t.1 a.4;
      },
    )

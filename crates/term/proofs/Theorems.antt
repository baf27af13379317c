-- The witnesses of what `specs/Statements` says of terms as words.
use mathlib.Core.Path.{◌≡◌, refl, sym, ◌∙◌, ap}
use mathlib.Core.Bool.{and-eq-true_iff}
use mathlib.Core.List.{List, [], ◌++◌}
use Prim.Native.Nat.{ℕ, ◌<◌}
use native.Mathlib.Decide.{dec_lt}
use native.Mathlib.Omega.{arith}
use borrow.Author.Tests.{leb-true}
use lib.Dec.{leb}
use lib.ListN.{length, take, drop, take-append-drop}
use Rattle.term.specs.Trees.{Tree, Forest, none as no-tree, ◌▹◌, words, Formed, Formed*, depth}
use Rattle.term.specs.Parts.{Whole, parse, first, first_depth, part, part_depth}
use Rattle.term.specs.Terms.{is_term}
use Rattle.term.specs.Statements.{WordRead, LabelRead, TreeRead, RowRead, OneReading, WholePart, EmptyPart, DepthHanded, EveryOffset, Replaces, TermTest}
use Rattle.term.proofs.Readings.{word_read, named-read, fixed-read, counted-read}
use Rattle.term.proofs.Parsing.{some_words, parse-words, accepted, prefix_free}
use Rattle.term.proofs.Scan.{part-front, part_none, part-whole, whole_part}
use Rattle.term.proofs.Extents.{depth_missing}
use Rattle.term.proofs.Places.{place, subtree-formed, part-there, words-replace}
use Rattle.term.proofs.TermTest.{term_in, tree-term, term-tree}

pub reads_word : WordRead
reads_word = word_read

pub reads_label : LabelRead
reads_label = (named-read, fixed-read, counted-read)

pub reads_tree : TreeRead
reads_tree = parse-words

pub reads_row : RowRead
reads_row ws = let a = accepted ws in (a.formed, a.rest, a.whole, a.stops)

pub one-reading : OneReading
one-reading t u f g e = prefix_free t u f g [] [] (ap (λ (ws : List ℕ). ws ++ []) e)

pub whole_parts : WholePart
whole_parts ws at p some = (
  λ e.
      let f : p ≡ take (length p) (drop at ws) = rw e at (part-front ws at) in
      let w : Whole p = rw e at (part-whole ws at (rw e some)) in
      (w, drop (length p) (drop at ws), sym (take-append-drop (length p) (drop at ws)) ∙ ap (λ (q : List ℕ). q ++ drop (length p) (drop at ws)) (sym f)),
  λ r. whole_part ws at p r.1 r.0 r.2,
)

-- the first tree of a row is told by its words
first-depth : (f : Forest) → Formed* f → (t : Tree) → Formed t → first f ≡ words t → first_depth f ≡ depth t
unfolding first first_depth Formed
first-depth no-tree k t g e = absurd (let l = ap length e in omega (arith, some_words t))
first-depth (u ▹ f) k t g e = ap depth (one-reading u t k.0 g e)

pub depth-handed : DepthHanded
unfolding part part_depth
depth-handed = (λ ws at. first-depth (parse (drop at ws)) (accepted (drop at ws)).formed, λ ws at e. depth_missing ws at (ap length e))

-- a whole part has words
whole-some : {p : List ℕ} → Whole p → 0 < length p
whole-some w = rw (← w.2) (some_words w.0)

no_part : (ws : List ℕ) (at : ℕ) (p rest : List ℕ) → part ws at ≡ [] → Whole p → drop at ws ≡ p ++ rest → ⊥
no_part ws at p rest e w d = let z : [] ≡ p = sym e ∙ whole_part ws at p rest w d in let l = ap length z in omega (arith, whole-some w)

part_empty : (ws : List ℕ) (at : ℕ) → ((p rest : List ℕ) → Whole p → drop at ws ≡ p ++ rest → ⊥) → part ws at ≡ []
part_empty ws at h =
    elim (dec_lt 0 (length (part ws at))) [
      | yes some ↦ let r = (whole_parts ws at (part ws at) some).0 refl in absurd (h (part ws at) r.1 r.0 r.2)
      | no none ↦ (part_none ws at (omega arith)).1
    ]

pub empty_part : EmptyPart
empty_part ws at = (λ e p rest w d. no_part ws at p rest e w d, part_empty ws at)

pub every_offset : EveryOffset
unfolding part first
every_offset t k f h =
    let p = place t k h in
    let there = part-there t k p.here f p.is in
    (p.here, subtree-formed t k p.here f p.is, p.is, rw there.1)

pub replaces : Replaces
replaces = words-replace

pub term_test : TermTest
unfolding is_term
term_test N ws n = (
  λ e.
      let p = (and-eq-true_iff (leb n (length ws)) _).0 e in
      let t = term-tree N (take n ws) p.1 in
      (leb-true n (length ws) p.0, t.0, t.1, t.2),
  λ r. term_in N ws n r.0 ∙ rw (← r.2) (tree-term N r.1 r.3),
)

-- The words of terms and of indices are known, so that their tokens are read as them and nothing else is.
use mathlib.Core.Path.{◌≡◌, refl, ◌∙◌}
use mathlib.Core.Bool.{true, and-eq-true_iff}
use mathlib.Core.List.{List, [], ◌∷◌, ◌++◌}
use mathlib.Core.Option.{some}
use Prim.Native.Nat.{ℕ, ◌<◌}
use native.Mathlib.Omega.{arith}
use lib.ListN.{length}
use lib.Seq.{take-length}
use Rattle.term.specs.declared.terms.Names.{Names}
use Rattle.term.specs.Trees.{Tree, Forest, node, none, ◌▹◌, words, words*, Formed, Formed*}
use Rattle.term.specs.Parts.{parse, first, part}
use Rattle.term.specs.Terms.{term_words}
use Rattle.term.proofs.Parsing.{accepted, some_words}
use Rattle.term.proofs.Scan.{part-front}
use Rattle.term.proofs.TermTest.{term-tree}
use Rattle.declarations.specs.Declarations.{is_index}
use Rattle.declarations.proofs.Entries.{index_tests}
use Rattle.text.specs.Pieces.{Text}
use Rattle.text.specs.Tokens.{is_labelled, known, tokens, tokens_in}
use Rattle.text.proofs.Written.{all_known, tokens-read, tokens-written}

pub known-append : (vs ws : List ℕ) → all_known vs ≡ true → all_known ws ≡ true → all_known (vs ++ ws) ≡ true
unfolding all_known
known-append [] ws h k = k
known-append (v ∷ vs) ws h k = let p = (and-eq-true_iff (known v) (all_known vs)).0 h in (and-eq-true_iff (known v) _).1 (p.0, known-append vs ws p.1 k)

-- ---- each word of a formed tree reads as its label
mutual
  unfolding words Formed all_known known is_labelled

  tree-known : (t : Tree) → Formed t → all_known (words t) ≡ true
  tree-known (node l cs) h = rw h.0 (forest_known cs h.1)

  forest_known : (f : Forest) → Formed* f → all_known (words* f) ≡ true
  forest_known none h = refl
  forest_known (t ▹ f) h = known-append (words t) (words* f) (tree-known t h.0) (forest_known f h.1)

first-known : (f : Forest) → Formed* f → all_known (first f) ≡ true
unfolding first all_known Formed
first-known none h = refl
first-known (t ▹ f) h = tree-known t h.0

-- ---- words that are one whole part
module _ (ws : List ℕ) (ends : length (part ws 0) ≡ length ws) where
  pub part-whole : part ws 0 ≡ ws
  part-whole = part-front ws 0 ∙ rw ends (take-length ws)

  part-known : all_known ws ≡ true
  unfolding part
  part-known = rw part-whole at (first-known (parse ws) (accepted ws).formed)

-- what the tests say of the words of a row
pub record Told (ws : List ℕ) : Type 0 where
  pub some_words : 0 < length ws
  pub all_known_lem : all_known ws ≡ true

pub term_told : (N : Names) (ws : List ℕ) → term_words N ws ≡ true → Told ws
term_told N ws e = let t = term-tree N ws e in record { some_words = rw t.1 at (some_words t.0); all_known_lem = rw t.1 at (tree-known t.0 t.2.formed) }

pub index_told : (N : ℕ) (ws : List ℕ) → is_index N ws ≡ true → Told ws
index_told N ws e = let i = index_tests N ws e in record { some_words = i.0; all_known_lem = part-known ws i.2 }

-- ---- their tokens
pub told-read : (ws : List ℕ) → Told ws → tokens_in (tokens ws) ≡ some ws
told-read [] h = absurd (let l = h.some_words in omega arith)
told-read (w ∷ ws) h = tokens-read w ws h.all_known_lem

pub told-written : (s : Text) (ws : List ℕ) → tokens_in s ≡ some ws → Told ws → s ≡ tokens ws
told-written s ws e h = tokens-written s ws e h.all_known_lem

-- The pieces of a right side, and what a match holds for them.
use mathlib.Core.Path.{◌≡◌, sym, ◌∙◌, ap}
use mathlib.Core.Logic.{◌≢◌, ◌⊎◌, inl, inr}
use mathlib.Core.Bool.{true, ◌||◌, and-eq-true_iff}
use mathlib.Core.List.{List, [], ◌∷◌, ◌++◌, append_assoc, append-nil}
use Prim.Native.Nat.{ℕ, zero, suc, ◌+◌, ◌-◌, ◌/◌, ◌%◌, ◌≤◌, ◌<◌}
use native.Mathlib.Numerals.{add-one}
use native.Mathlib.Omega.{arith}
use borrow.Author.Tests.{lt-ltb, le-ltb, eq-eqb, ne_eqb, ltb-true}
use lib.Dec.{eqb, ltb}
use lib.ListN.{length, take, drop, get_or}
use Rattle.words.proofs.Runs.{to_end}
use Rattle.term.specs.Trees.{Tree, words}
use Rattle.term.specs.Parts.{parse, tree_in}
use Rattle.term.specs.Terms.{max_depth}
use Rattle.types.specs.Sorts.{Context}
use Rattle.rules.specs.Rewrite.{sort_of, holes}
use Rattle.matcher.specs.declared.Match.{Match}
use Rattle.matcher.specs.Matching.{start_of, end_of}
use Rattle.shapes.specs.Bodies.{index_by, back, bound_in, Bound}
use Rattle.shapes.specs.Reading.{Begins}
use Rattle.shapes.proofs.Begun.{begins-tree}
use Rattle.step.specs.Code.Building.{HasSort, chosen_index, piece, pieces, asks, all_ask, indexless, Caught, AllSorted}

-- ---- one word
module _ (Γ : Context) (c : List Tree) (w : ℕ) where
  pub piece-word : w / 256 < 253 → w ∷ [] ≡ piece Γ c w
  unfolding piece
  piece-word h = rw (lt-ltb (w / 256) 253 h)

  module _ (special : 253 ≤ w / 256) where
    pub piece-hole : w / 256 ≡ 255 → words (holes c (w % 256)) ≡ piece Γ c w
    unfolding piece
    piece-hole h = rw (le-ltb (w / 256) 253 special, eq-eqb (w / 256) 255 h)

    pub piece_index : w / 256 ≢ 255 → words (chosen_index (eqb (w / 256) 253) (sort_of Γ (holes c (w % 256)))) ≡ piece Γ c w
    unfolding piece
    piece_index h = rw (le-ltb (w / 256) 253 special, ne_eqb (w / 256) 255 h)

-- a word that is no head's asks for a hole that was met
pub asked-hole : (n w : ℕ) → asks n w ≡ true → 253 ≤ w / 256 → w % 256 < n
unfolding asks
asked-hole n w e h = ltb-true (w % 256) n (rw (le-ltb (w / 256) 253 h) at e)

-- an index asks for a type
pub index_asks : (w : ℕ) {A : Type 0} → 253 ≤ w / 256 → w / 256 ≢ 255 → (indexless (w ∷ []) ≡ true) ⊎ A → A
unfolding indexless
index_asks w h n (inl e) = absurd (let z = rw (le-ltb (w / 256) 253 h, ne_eqb (w / 256) 255 n) at e in let q : ◌≡◌ {A = ℕ} 0 1 = cc in omega arith)
index_asks w h n (inr a) = a

-- at the front of words nothing stands before, so that what is bound there is bound around
pub bound-front : (ws vs : List ℕ) (outer : ℕ → List ℕ) (bodies : List Tree) → Bound ws outer 0 bodies → Bound vs outer 0 bodies
unfolding bound_in index_by back
bound-front ws vs outer bodies b = λ a σ e. b a σ e

-- ---- what a match holds
module _ {ds ws : List ℕ} {m : Match} (h : Caught ds ws m) (k : ℕ) (met : k < m.held) where
  pub met-tree : k < length h.trees
  met-tree = omega (arith, h.holds.many)

  pub caught_bounds : (k < 5) × (start_of m k ≤ end_of m k) × (end_of m k ≤ length ws)
  caught_bounds =
      let l : k < 5 = omega (arith, h.holds.few, met-tree) in
      let b = h.holds.standing.spans k l in
      (l, b.0, omega (arith, b.1, h.holds.standing.inside))

  pub caught_run : take (end_of m k - start_of m k) (drop (start_of m k) ws) ≡ words (holes h.trees k)
  caught_run = h.holds.are k met-tree

  -- it stands at the front of the words from there on
  pub caught_begins : Begins (take (length ws - start_of m k) (drop (start_of m k) ws)) max_depth (holes h.trees k)
  caught_begins = rw (to_end ws (start_of m k)) (h.begins k met-tree)

  pub caught_tree : tree_in (parse (take (length ws - start_of m k) (drop (start_of m k) ws))) ≡ holes h.trees k
  caught_tree = begins-tree caught_begins

  abbrev pub caught_sort : AllSorted h → HasSort ds h.bodies h.outer (take (length ws - start_of m k) (drop (start_of m k) ws))
  caught_sort all = record { good = h.good; bound = bound-front [] _ h.outer h.bodies h.bound; tree = holes h.trees k; begins = caught_begins; sorted = all k met-tree }

-- ---- the whole walk: what was written are the pieces of the words that were passed
pieces_more : (Γ : Context) (c : List Tree) (ws : List ℕ) (k : ℕ) → k < length ws → pieces Γ c (take k ws) ++ piece Γ c (get_or ws k 0) ≡ pieces Γ c (take (suc k) ws)
unfolding pieces
pieces_more Γ c [] k h = absurd (omega arith)
pieces_more Γ c (w ∷ ws) zero h = sym (append-nil (piece Γ c w))
pieces_more Γ c (w ∷ ws) (suc k) h =
    append_assoc (piece Γ c w) (pieces Γ c (take k ws)) (piece Γ c (get_or ws k 0)) ∙ ap (λ (vs : List ℕ). piece Γ c w ++ vs) (pieces_more Γ c ws k (omega arith))

-- every word asks for holes that were met
all_ask_lem : (n : ℕ) (ws : List ℕ) → all_ask n ws ≡ true → (k : ℕ) → k < length ws → asks n (get_or ws k 0) ≡ true
unfolding all_ask
all_ask_lem n [] e k h = absurd (omega arith)
all_ask_lem n (w ∷ ws) e zero h = ((and-eq-true_iff (asks n w) _).0 e).0
all_ask_lem n (w ∷ ws) e (suc k) h = all_ask_lem n ws ((and-eq-true_iff (asks n w) _).0 e).1 k (omega arith)

-- and for an index only where all may
all-indexless : (ws : List ℕ) → indexless ws ≡ true → (k : ℕ) → k < length ws → indexless (get_or ws k 0 ∷ []) ≡ true
unfolding indexless
all-indexless [] e k h = absurd (omega arith)
all-indexless (w ∷ ws) e zero h = rw ((and-eq-true_iff (ltb (w / 256) 253 || eqb (w / 256) 255) _).0 e).0
all-indexless (w ∷ ws) e (suc k) h = all-indexless ws ((and-eq-true_iff (ltb (w / 256) 253 || eqb (w / 256) 255) _).0 e).1 k (omega arith)

-- ---- the words of a side, one by one
module _ (side : List ℕ) (k : ℕ) (more : k < length side) where
  pub side-asks : (held : ℕ) → all_ask held side ≡ true → asks held (get_or side k 0) ≡ true
  side-asks held e = all_ask_lem held side e k more

  pub side-more : (Γ : Context) (c : List Tree) → pieces Γ c (take k side) ++ piece Γ c (get_or side k 0) ≡ pieces Γ c (take (k + 1) side)
  side-more Γ c = rw add-one (pieces_more Γ c side k more)

  pub side-typed : {A : Type 0} → (indexless side ≡ true) ⊎ A → (indexless (get_or side k 0 ∷ []) ≡ true) ⊎ A
  side-typed (inl e) = inl (all-indexless side e k more)
  side-typed (inr a) = inr a

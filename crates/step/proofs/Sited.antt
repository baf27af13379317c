-- A match of the part with which words begin: what its holes hold.
use mathlib.Core.Path.{◌≡◌, sym, ◌∙◌, ap}
use mathlib.Core.List.{List, ◌++◌, append_assoc}
use Prim.Native.Nat.{ℕ, ◌-◌, ◌≤◌, ◌<◌}
use native.Mathlib.Omega.{arith}
use lib.ListN.{length, take, drop, length-append, length-drop, take-append-drop}
use lib.Seq.{drop_at, take-append-le, drop-append-le}
use Rattle.term.specs.Trees.{Tree, words, Formed, found, subtree}
use Rattle.term.specs.Terms.{max_depth}
use Rattle.term.proofs.Parsing.{some_words, prefix_free}
use Rattle.term.proofs.Places.{place as place_of, subtree-formed, subtree-depth}
use Rattle.rules.specs.Rewrite.{holes}
use Rattle.rules.proofs.Matching.{AllFormed}
use Rattle.matcher.specs.declared.Match.{Match}
use Rattle.matcher.specs.Matching.{start_of, end_of, Holds}
use Rattle.shapes.specs.Bodies.{outer_at}
use Rattle.shapes.specs.Reading.{Begins}
use Rattle.step.specs.Code.Building.{Caught}
use Rattle.step.specs.Code.Site.{Site}

-- a formed tree whose words stand at an offset of a formed tree's is the subtree there
subtree-there : (t u : Tree) (k : ℕ) (rest : List ℕ) → Formed t → Formed u → drop k (words t) ≡ words u ++ rest → subtree t k ≡ found u
subtree-there t u k rest f g e =
    let l = ap length e in
    let p = place_of t k (omega (arith, length-drop k (words t), length-append (words u) rest, some_words u)) in
    let d : drop k (words t) ≡ words p.here ++ p.after = ap (drop k) p.whole ∙ drop_at p.before _ k p.offset in
    let same : p.here ≡ u = prefix_free p.here u (subtree-formed t k p.here f p.is) g p.after rest (sym d ∙ e) in
    p.is ∙ ap found same

-- ---- what the holes hold, where the match came to the part's end
module _ {ds term : List ℕ} {place : ℕ} {ws : List ℕ} (s : Site ds term place ws) {m : Match} {d : List Tree} (h : Holds ws m d) (ends : m.at ≡ length (words s.tree)) (f : AllFormed d) where
  module _ (k : ℕ) (met : k < length d) where
    inside : (start_of m k ≤ end_of m k) × (end_of m k ≤ length (words s.tree))
    inside = let b = h.standing.spans k (omega (arith, h.few)) in (b.0, omega (arith, b.1, ends))

    -- the words from the hole on: those of the part, and what stands behind it
    from_there : drop (start_of m k) ws ≡ drop (start_of m k) (words s.tree) ++ s.after
    from_there = rw s.whole (drop-append-le (start_of m k) (words s.tree) s.after (omega (arith, inside)))

    abbrev behind : List ℕ
    behind = drop (end_of m k - start_of m k) (drop (start_of m k) (words s.tree))

    run : take (end_of m k - start_of m k) (drop (start_of m k) (words s.tree)) ≡ words (holes d k)
    run =
        sym (take-append-le (end_of m k - start_of m k) (drop (start_of m k) (words s.tree)) s.after (omega (arith, length-drop (start_of m k) (words s.tree), inside)))
        ∙ sym (ap (take (end_of m k - start_of m k)) from_there) ∙ h.are k met

    here_run : drop (start_of m k) (words s.tree) ≡ words (holes d k) ++ behind
    here_run = sym (take-append-drop (end_of m k - start_of m k) (drop (start_of m k) (words s.tree))) ∙ rw run

    there-run : drop (start_of m k) ws ≡ words (holes d k) ++ (behind ++ s.after)
    there-run = from_there ∙ ap (λ (l : List ℕ). l ++ s.after) here_run ∙ append_assoc (words (holes d k)) behind s.after

    hole-there : subtree s.tree (start_of m k) ≡ found (holes d k)
    hole-there = subtree-there s.tree (holes d k) (start_of m k) _ s.formed (f k) here_run

    pub hole-begins : Begins (drop (start_of m k) ws) max_depth (holes d k)
    hole-begins = record { formed = f k; shallow = omega (arith, s.shallow, subtree-depth s.tree (start_of m k) (holes d k) hole-there); rest = _; whole = there-run }

  abbrev pub caught : Caught ds ws m
  caught = record { good = s.good; bodies = s.bodies; outer = outer_at term place; bound = s.bound; trees = d; holds = h; begins = λ k l. hole-begins k l }

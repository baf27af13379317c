-- A summand X or a.X in the words of its part: where its X begins, and that its factor stands before it.
use mathlib.Core.Path.{◌≡◌, refl, sym, ◌∙◌, ap}
use mathlib.Core.Logic.{◌≢◌}
use mathlib.Core.Bool.{Bool, true, false, cond}
use Rattle.std.specs.Prelude.{Option as Found, Some, None}
use mathlib.Core.List.{List, [], ◌∷◌, ◌++◌, append_assoc, append-nil}
use Prim.Native.Nat.{ℕ, ◌+◌, ◌-◌, ◌≤◌}
use native.Mathlib.Omega.{arith}
use borrow.Author.Tests.{eqb-true, eqb-false, eq-eqb, ne_eqb}
use lib.Dec.{eqb}
use lib.ListN.{length, take, drop, get_or, length-append}
use lib.Seq.{take_at, drop-append_seam, drop-drop}
use Rattle.term.specs.Heads.{Label, scalar_one, scale, word, heads, labelled, reading, read}
use Rattle.term.specs.Trees.{Tree, Forest, node, none, ◌▹◌, count, words, words*, Formed, Formed*}
use Rattle.term.specs.Parts.{part}
use Rattle.term.proofs.Scan.{whole_part}
use Rattle.rules.specs.Table.{plain, scaled}
use Rattle.rules.specs.Rewrite.{is_head, Multiple, no_multiple, multiple, multiple_of}
use Rattle.rules.specs.Steps.{few}
use Rattle.rules.proofs.Known.{is_head_lem}
use Rattle.rules.proofs.Formed.{formed-few}
use Rattle.families.specs.Code.Children.{x_in}
use Rattle.families.specs.Code.Families.{summand_of}
use Rattle.families.proofs.Split.{Split, child-word, child-run, inside-child, child-bounds, child-formed}

-- the words of the factor, where X begins at x: those between, or 1
abbrev pub factor_run : List ℕ → ℕ → ℕ → List ℕ
factor_run ws start x = cond (eqb x start) (1536 ∷ []) (take (x - (start + 1)) (drop (start + 1) ws))

-- where the code says that X begins: nowhere, and the summand is not of the form that is wanted; or at x, and these are its factor and its X
pub data Located (ws : List ℕ) (start end : ℕ) : Found ℕ → Multiple → Type 0 where
  missing : Located ws start end None no_multiple
  located : {x : ℕ} (f t : Tree) → few f ≡ true → few t ≡ true → (start ≤ x) × (x ≤ end) → factor_run ws start x ≡ words f → take (end - x) (drop x ws) ≡ words t
      → Located ws start end (Some x) (multiple f t)

pub located_bounds : {ws : List ℕ} {start end x : ℕ} {m : Multiple} → Located ws start end (Some x) m → (start ≤ x) × (x ≤ end)
located_bounds (located f t p q b r o) = b

-- ---- a summand a.X is known by its word, which is 19:0
two-trees : (f : Forest) → count f ≡ 2 → (a : Tree) × (x : Tree) × (f ≡ a ▹ x ▹ none)
unfolding count
two-trees none e = absurd (omega arith)
two-trees (a ▹ none) e = absurd (omega arith)
two-trees (a ▹ x ▹ none) e = (a, x, refl)
two-trees (a ▹ x ▹ t ▹ f) e = absurd (omega arith)

scale-word : (m : Label) (f : Forest) → Formed (node m f) → word m (count f) ≡ 4864 → labelled m (count f) ≡ labelled scale 2
unfolding Formed read heads reading
scale-word m f h e = sym h.0 ∙ rw e

no_scale : (m : Label) (f : Forest) → word m (count f) ≢ 4864 → multiple_of scaled (node m f) ≡ no_multiple
unfolding multiple_of is_head word count
no_scale m none n = refl
no_scale m (a ▹ none) n = refl
no_scale m (a ▹ x ▹ none) n = rw (ne_eqb 4864 (word m 2) (λ e. n (sym e)))
no_scale m (a ▹ x ▹ t ▹ f) n = refl

a_scale : (a x : Tree) → multiple_of scaled (node scale (a ▹ x ▹ none)) ≡ multiple a x
unfolding multiple_of
a_scale a x = rw (is_head_lem scale 2)

one-few : few (node scalar_one none) ≡ true
unfolding few count
one-few = refl

one-words : 1536 ∷ [] ≡ words (node scalar_one none)
unfolding words word
one-words = refl

module _ {ws : List ℕ} {i start end : ℕ} (s : Split ws i start end) where
  -- a child in the form that is asked for
  abbrev pub Sought : Bool → Found ℕ → Type 0
  Sought b x = Located ws start end x (multiple_of (summand_of b) (node s.label s.below))

  -- ---- X itself
  located_plain : Located ws start end (Some start) (multiple_of plain (node s.label s.below))
  unfolding multiple_of
  located_plain =
      let b = child-bounds s in
      located (node scalar_one none) (node s.label s.below) one-few (formed-few _ (child-formed s)) (omega arith)
      (rw (eq-eqb start start refl) one-words) (child-run s)

  -- ---- a.X: the part behind its word is a, and what is left is X
  module _ (a x : Tree) (e : s.below ≡ a ▹ x ▹ none) where
    both-formed : Formed a × Formed x
    unfolding Formed
    both-formed = let h : Formed* (a ▹ x ▹ none) = rw e at (child-formed s).1 in (h.0, h.1.0)

    factor_on : drop (start + 1) ws ≡ words a ++ (words x ++ words* s.after)
    unfolding words
    factor_on = inside-child s ∙ rw (e, append-nil, append_assoc)

    factor-part : part ws (start + 1) ≡ words a
    factor-part = whole_part ws (start + 1) (words a) (words x ++ words* s.after) (a, both-formed.0, refl) factor_on

    x_on : drop (start + 1 + length (words a)) ws ≡ words x ++ words* s.after
    x_on = sym (drop-drop (length (words a)) (start + 1) ws) ∙ rw (factor_on, drop-append_seam)

    x_ends : end ≡ start + 1 + length (words a) + length (words x)
    unfolding words
    x_ends =
        let l = ap (λ (f : Forest). length (words* f)) e in
        let m = ap length (append-nil (words x)) in
        omega (arith, s.ends, length-append (words a) (words x ++ []))

    located_x : Located ws start end (Some (start + 1 + length (words a))) (multiple a x)
    located_x =
        let p = start + 1 + length (words a) in
        let between : take (p - (start + 1)) (drop (start + 1) ws) ≡ words a = rw factor_on (take_at (words a) _ (p - (start + 1)) (omega arith)) in
        let rest : take (end - p) (drop p ws) ≡ words x = rw x_on (take_at (words x) _ (end - p) (omega (arith, x_ends))) in
        located a x (formed-few a both-formed.0) (formed-few x both-formed.1) (omega (arith, x_ends)) (rw (ne_eqb p start (omega arith)) between) rest

    located_by : s.label ≡ scale → Located ws start end (Some (start + 1 + length (part ws (start + 1)))) (multiple_of scaled (node s.label s.below))
    located_by l = rw (factor-part, l, e, a_scale a x) located_x

  located_scaled : get_or ws start 0 ≡ 4864 → Located ws start end (Some (start + 1 + length (part ws (start + 1)))) (multiple_of scaled (node s.label s.below))
  located_scaled e =
      let z = scale-word s.label s.below (child-formed s) (sym (child-word s) ∙ e) in
      let two = two-trees s.below (cc) in located_by two.0 two.1 two.2 (cc)

  -- ---- what `x_of` answers
  by_word : (b : Bool) → eqb (get_or ws start 0) 4864 ≡ b → Located ws start end (cond b (Some (start + 1 + length (part ws (start + 1)))) None) (multiple_of scaled (node s.label s.below))
  by_word true e = located_scaled (eqb-true _ _ e)
  by_word false e = rw (no_scale s.label s.below (λ w. eqb-false _ _ e (child-word s ∙ w))) missing

  by_form : (b : Bool) → Sought b (x_in ws start b)
  by_form false = located_plain
  by_form true = by_word (eqb (get_or ws start 0) 4864) refl

  pub locate : (b : Bool) {x : Found ℕ} → x ≡ x_in ws start b → Sought b x
  locate b h = rw h (by_form b)

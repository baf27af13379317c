-- Removing child i: what `rewrite` answers, by the tests of the code.
use mathlib.Core.Path.{◌≡◌, refl}
use mathlib.Core.Bool.{true, cond, and-false}
use mathlib.Core.List.{List, ◌∷◌, ◌++◌}
use mathlib.Core.Option.{some, none as refused}
use Prim.Native.Nat.{ℕ, ◌+◌, ◌-◌, ◌*◌, ◌%◌, ◌≤◌, ◌<◌}
use native.Mathlib.Omega.{arith}
use borrow.Author.Tests.{lt-ltb, le-ltb}
use lib.ListN.{take, drop, get_or}
use Rattle.term.specs.Heads.{Label, word}
use Rattle.term.specs.Trees.{Forest, node, count, ◌⧺◌, words}
use Rattle.term.specs.Parts.{Whole, parse, tree_in}
use Rattle.term.proofs.Parsing.{words*-⧺}
use Rattle.types.specs.Sorts.{Context}
use Rattle.rules.specs.Table.{removing}
use Rattle.rules.specs.Rewrite.{remove_at, rewrite}
use Rattle.rules.specs.Steps.{few}
use Rattle.rules.proofs.Known.{is_head_lem}
use Rattle.rules.proofs.Formed.{formed-few*}
use Rattle.families.specs.Code.Children.{Under, fits, child_in}
use Rattle.std.specs.Prelude.{Some, None, Err}
use Rattle.families.specs.declared.writing.Refusal.TheVariants.{NoInstance}
use Rattle.families.specs.declared.children.Child.{Child}
use Rattle.rulebook.specs.Code.Rows.{head_number}
use Rattle.families.specs.Writing.{Writes}
use Rattle.families.specs.Code.Families.{Counted, Named}
use Rattle.families.proofs.Whole.{whole}
use Rattle.families.proofs.Split.{Split, before-run, behind-child, before-formed, after-formed}
use Rattle.families.proofs.Heads.{chain-word}
use Rattle.families.proofs.Tested.{cond_same, named, chain_parent, siblings_few, Fit, found, under, none-under}
use Rattle.families.proofs.Few.{few*-⧺, few-node}
use Rattle.families.proofs.Written.{refuses}

module _ (Γ : Context) {l c : Label} {parent child : ℕ} (P : Counted parent l) (N : Named child c) {ws : List ℕ} {i : ℕ} (w : Whole ws) where
  -- the part has another head, no such child, or one with another head
  pub removes-none : Under ws parent i child None → rewrite Γ (removing l c) i 0 (tree_in (parse ws)) ≡ refused
  unfolding rewrite remove_at
  removes-none e = none-under w e (named P) N (remove_at l c) refl (λ b m f a z. rw z) (rewrite Γ (removing l c) i 0) (λ m f z. refl)

  module _ {r : Child} (e : Under ws parent i child (Some r)) where
    abbrev s : Split ws i r.start r.end
    s = found w e

    u : Fit s l c
    u = under w e (named P) N s

    abbrev others : Forest
    others = s.before ⧺ s.after

    -- the part's word counts the child and the others
    counted : get_or ws 0 0 ≡ head_number l * 256 + (count others + 1)
    counted = chain_parent s P.chain u.parent

    -- it is the only child
    pub removes_only : get_or ws 0 0 % 256 < 2 → rewrite Γ (removing l c) i 0 (tree_in (parse ws)) ≡ refused
    unfolding rewrite remove_at
    removes_only h =
        let z = le-ltb 0 (count others) (omega (arith, counted, siblings_few s)) in
        rw (s.tree, s.child, z, and-false, cond_same)

    -- it goes
    pub removes-child : 2 ≤ get_or ws 0 0 % 256 → rewrite Γ (removing l c) i 0 (tree_in (parse ws)) ≡ some (node l others)
    unfolding rewrite remove_at
    removes-child h =
        let z = lt-ltb 0 (count others) (omega (arith, counted, siblings_few s)) in
        rw (s.tree, s.child, z, ← u.parent, ← u.child, is_head_lem l, is_head_lem c)

    -- and what is left is written: a word that counts one child less, and the words of the others
    pub removed_words : (get_or ws 0 0 - 1) ∷ (take (r.start - 1) (drop 1 ws) ++ drop r.end ws) ≡ words (node l others)
    unfolding words
    removed_words =
        let less : get_or ws 0 0 - 1 ≡ word l (count others) = omega (arith, counted, chain-word P.chain (count others)) in
        rw (before-run s, behind-child s, words*-⧺, less)

    pub removed_few : few (node l others) ≡ true
    removed_few =
        few-node l others (omega (arith, siblings_few s)) (few*-⧺ s.before s.after (formed-few* s.before (before-formed s)) (formed-few* s.after (after-formed s)))

-- the refusal at the only child, by what the code is told of it
pub only_child : (Γ : Context) (l c : Label) (ws out : List ℕ) (i : ℕ) (r : Child) → Counted (head_number l) l → Named (head_number c) c → ∥ Whole ws ∥₁
    → Some r ≡ cond (fits ws (head_number l) (head_number c) (child_in ws i)) (child_in ws i) None → get_or ws 0 0 % 256 < 2
    → Writes (rewrite Γ (removing l c) i 0 (tree_in (parse ws))) out out (Err NoInstance)
only_child Γ l c ws out i r P N w e h = refuses _ (removes_only Γ P N (whole w) {r = r} (record { is = e }) h)

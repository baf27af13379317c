-- What the entry answers at the part with which words begin.
use mathlib.Core.Path.{◌≡◌, refl, sym, ◌∙◌, ap}
use mathlib.Core.Logic.{◌≢◌}
use mathlib.Core.Bool.{true, false}
use mathlib.Core.List.{List, [], ◌∷◌, ◌++◌, append-nil}
use mathlib.Core.Option.{Option, some, none}
use Prim.Native.Nat.{ℕ, ◌≤◌}
use native.Mathlib.Omega.{arith}
use lib.ListN.{length, take}
use Rattle.term.specs.Trees.{Tree, Forest, none as no-tree, ◌▹◌, words, Formed, Formed*}
use Rattle.term.specs.Parts.{Whole, parse, tree_in, first, part}
use Rattle.term.proofs.Parsing.{parse-words, accepted, parse-tree}
use Rattle.term.proofs.Scan.{part-front, part_length, part-whole}
use Rattle.types.specs.Sorts.{Context}
use Rattle.rules.specs.Table.{Rule, rule_of}
use Rattle.rules.specs.Rewrite.{rewrite}
use Rattle.rulebook.specs.declared.Row.{Row}
use Rattle.rulebook.specs.declared.Family.{Family}
use Rattle.rulebook.specs.declared.Family.TheVariants.{NoRule, Equation, Spread, Remove, Absorb, Merge, Collect, Swap, Distribute}
use Rattle.rulebook.specs.Code.Rows.{row_of}
use Rattle.std.specs.Prelude.{Result}
use Rattle.families.specs.declared.writing.Refusal.{Refusal}
use Rattle.families.specs.Code.Families.{Does, Lined}
use Rattle.families.specs.Writing.{is_family, at_first, family_of, Writes}
use Rattle.families.proofs.Lines.{Ruled, ruled, unruled, an_equation's, a_family}
use Rattle.families.proofs.Dispatched.{second_unused}

-- a rule of a family, at words that begin with a part
pub at_part_lem : (Γ : Context) (n i j : ℕ) {rule : Rule} → rule_of n ≡ some rule → is_family rule ≡ true → (t : Tree) → Formed t → (ws rest : List ℕ) → ws ≡ words t ++ rest
    → family_of Γ n i j ws ≡ rewrite Γ rule i j t
unfolding family_of at_first
at_part_lem Γ n i j is h t f ws rest e = rw (is, e, parse-words t f rest, h)

-- ---- no part
none_by : (Γ : Context) (o : Option Rule) (i j : ℕ) → at_first Γ o i j no-tree ≡ none
unfolding at_first
none_by Γ none i j = refl
none_by Γ (some r) i j = refl

no_part : (Γ : Context) (n i j : ℕ) (ws : List ℕ) → length ws ≡ 0 → family_of Γ n i j ws ≡ none
unfolding family_of parse
no_part Γ n i j [] h = none_by Γ (rule_of n) i j
no_part Γ n i j (w ∷ ws) h = absurd (omega arith)

-- ---- the number is no family's
other_rule : (Γ : Context) (r : Rule) (i j : ℕ) (f : Forest) → is_family r ≡ false → at_first Γ (some r) i j f ≡ none
unfolding at_first
other_rule Γ r i j no-tree h = refl
other_rule Γ r i j (t ▹ f) h = rw h

pub no_rule : (Γ : Context) (n i j : ℕ) (ws : List ℕ) (row : Row) → row ≡ row_of n → row.family ≡ NoRule → family_of Γ n i j ws ≡ none
unfolding family_of at_first
no_rule Γ n i j ws row e h = rw (unruled n row e h)

equation_by : (Γ : Context) (n i j : ℕ) (row : Row) → row ≡ row_of n → row.family ≡ Equation → (f : Forest) (o : Option Rule) → rule_of n ≡ o → at_first Γ o i j f ≡ none
unfolding at_first
equation_by Γ n i j row e h f none is = refl
equation_by Γ n i j row e h f (some r) is = other_rule Γ r i j f (an_equation's n row e is h)

pub no_equation : (Γ : Context) (n i j : ℕ) (ws : List ℕ) (row : Row) → row ≡ row_of n → row.family ≡ Equation → family_of Γ n i j ws ≡ none
unfolding family_of
no_equation Γ n i j ws row e h = equation_by Γ n i j row e h (parse ws) (rule_of n) refl

-- ---- the part with which words begin
own_by : (Γ : Context) (o : Option Rule) (i j : ℕ) (f : Forest) → Formed* f → at_first Γ o i j (parse (first f)) ≡ at_first Γ o i j f
unfolding at_first first parse Formed
own_by Γ none i j f h = refl
own_by Γ (some r) i j no-tree h = refl
own_by Γ (some r) i j (t ▹ f) h = rw (parse-tree t h.0)

pub own_family : (Γ : Context) (n i j : ℕ) (ws : List ℕ) → family_of Γ n i j (part ws 0) ≡ family_of Γ n i j ws
unfolding family_of part
own_family Γ n i j ws = own_by Γ (rule_of n) i j (parse ws) (accepted ws).formed

pub own_none : (Γ : Context) (n i j : ℕ) (ws : List ℕ) (end : ℕ) → end ≡ length (part ws 0) → end ≡ 0 → family_of Γ n i j ws ≡ none
own_none Γ n i j ws end ends h = sym (own_family Γ n i j ws) ∙ no_part Γ n i j (part ws 0) (sym ends ∙ h)

module _ (ws : List ℕ) (end : ℕ) (ends : end ≡ length (part ws 0)) where
  pub own_size : end ≤ length ws
  own_size = omega (arith, ends, part_length ws 0)

  pub own : take end ws ≡ part ws 0
  own = let h : length (part ws 0) ≡ end = omega (arith, ends) in sym (part-front ws 0 ∙ ap (λ (n : ℕ). take n ws) h)

  pub own_whole : end ≢ 0 → ∥ Whole (take end ws) ∥₁
  own_whole h = ∣ rw own (part-whole ws 0 (omega (arith, h, ends))) ∣₁

-- ---- a rule of a family at a whole part
module _ (n : ℕ) (row : Row) (e : row ≡ row_of n) (k : Ruled row n) (other : row.family ≡ Equation → ⊥) {ws : List ℕ} (w : Whole ws) where
  at-whole : (Γ : Context) (i j : ℕ) → family_of Γ n i j ws ≡ rewrite Γ k.rule i j w.0
  at-whole Γ i j = at_part_lem Γ n i j k.is (a_family n row e k.is other) w.0 w.1 ws [] (sym (append-nil (words w.0) ∙ w.2))

  pub no_second : (Γ : Context) (i j : ℕ) → (row.family ≡ Collect → ⊥) → j ≢ 0 → family_of Γ n i j ws ≡ none
  no_second Γ i j h z = at-whole Γ i j ∙ second_unused Γ i j w.0 k.lines other h z

  own_tree : tree_in (parse ws) ≡ w.0
  unfolding tree_in
  own_tree = rw (← w.2, parse-tree w.0 w.1)

  -- what a family does to it
  pub does_whole : (Γ : Context) (i j k' : ℕ) (out out' : List ℕ) (r : Result ℕ Refusal) → k' ≡ j → Does ws out out' r k.rule i j → Writes (family_of Γ n i k' ws) out out' r
  does_whole Γ i j k' out out' r z h = rw (z, at-whole Γ i j, ← own_tree) (h Γ)

-- by the family of a row: its promise for the row's rule, and no second index but for collecting
module _ (n : ℕ) (row : Row) (e : row ≡ row_of n) (ws : List ℕ) (w : Whole ws) where
  pub does_row : (row.family ≡ NoRule → ⊥) → (row.family ≡ Equation → ⊥) → (i j k : ℕ) (out out' : List ℕ) (r : Result ℕ Refusal) → k ≡ j
      → ((rule : Rule) → Lined row row.family rule → Does ws out out' r rule i j) → (Γ : Context) → Writes (family_of Γ n i k ws) out out' r
  does_row h other i j k out out' r z p Γ =
      let rule = ruled n row e h in does_whole n row e rule other w Γ i j k out out' r z (p rule.rule rule.lines)

  second_by : (Γ : Context) (i j : ℕ) → j ≢ 0 → (f : Family) → row.family ≡ f → (f ≡ Collect → ⊥) → family_of Γ n i j ws ≡ none
  second_by Γ i j z NoRule h c = no_rule Γ n i j ws row e h
  second_by Γ i j z Equation h c = no_equation Γ n i j ws row e h
  second_by Γ i j z Spread h c = no_second n row e (ruled n row e (λ y. cc)) (λ y. cc) w Γ i j (λ y. cc) z
  second_by Γ i j z Remove h c = no_second n row e (ruled n row e (λ y. cc)) (λ y. cc) w Γ i j (λ y. cc) z
  second_by Γ i j z Absorb h c = no_second n row e (ruled n row e (λ y. cc)) (λ y. cc) w Γ i j (λ y. cc) z
  second_by Γ i j z Merge h c = no_second n row e (ruled n row e (λ y. cc)) (λ y. cc) w Γ i j (λ y. cc) z
  second_by Γ i j z Collect h c = absurd (c refl)
  second_by Γ i j z Swap h c = no_second n row e (ruled n row e (λ y. cc)) (λ y. cc) w Γ i j (λ y. cc) z
  second_by Γ i j z Distribute h c = no_second n row e (ruled n row e (λ y. cc)) (λ y. cc) w Γ i j (λ y. cc) z

  pub second_none : (Γ : Context) (i j : ℕ) → j ≢ 0 → (row.family ≡ Collect → ⊥) → family_of Γ n i j ws ≡ none
  second_none Γ i j z c = second_by Γ i j z row.family refl c

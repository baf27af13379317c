-- The row of a rule's number, and what it says of the rule.
use mathlib.Core.Path.{◌≡◌, refl, sym, ◌∙◌, ap}
use mathlib.Core.Bool.{Bool, true, false, ◌&&◌}
use mathlib.Core.Option.{Option, some, none}
use Prim.Native.Nat.{ℕ, ◌/◌}
use borrow.Author.Tests.{eqb-true, ltb-true}
use lib.Dec.{eqb, ltb}
use Rattle.term.specs.Heads.{Label, scalar_zero, scalar_sum, scalar_product, add, word, read}
use Rattle.term.specs.Trees.{Forest, node, none as no-tree, ◌▹◌, count, Formed}
use Rattle.rules.specs.Table.{Which, child, child_i, Rule, ◌⇒◌▷◌, spreading, removing, absorbing, merging, collecting, swapping, distributing, table, rule_of}
use Rattle.rules.specs.Instances.{ACSymbol, scalar_sums, scalar_products, sums}
use Rattle.rules.specs.Rewrite.{nameless}
use Rattle.rules.proofs.Known.{either}
use Rattle.rules.proofs.Every.{rule_passes}
use Rattle.rules.proofs.Good.{good, both, every_good}
use Rattle.rulebook.specs.declared.Row.{Row}
use Rattle.rulebook.specs.declared.Family.{Family}
use Rattle.rulebook.specs.declared.Family.TheVariants.{NoRule, Equation}
use Rattle.rulebook.specs.Code.Rows.{head_number, start_in, row_for, row_of}
use Rattle.families.specs.Code.Families.{chain_word, Fixed, Lined, an_equation, a_spreading, a_removing, an_absorbing, a_merging, a_collecting, a_swapping, a_distributing}
use Rattle.families.specs.Writing.{family_in, is_family}
use Rattle.families.proofs.Heads.{same_head}

-- ---- what the families ask of their heads, as a test of every line of the table
chain_head : Label → Bool
chain_head l = nameless l && chain_word (word l 0)

leaf : Forest
leaf = node scalar_zero no-tree ▹ no-tree

chain_label : (l : Label) → chain_head l ≡ true → ACSymbol l
unfolding chain_head leaf Formed read word count
chain_label l e =
    let b = both (nameless l) (chain_word (word l 0)) e in
    let is : (m : Label) → Formed (node m leaf) → eqb (head_number l) (word m 1 / 256) ≡ true → l ≡ m = λ m f h. same_head l m leaf b.0 f (sym (eqb-true _ _ h)) in
    either (eqb (head_number l) 7) _ (λ h. rw (is scalar_sum (refl, ((refl, tt), tt)) h) scalar_sums)
    (either (eqb (head_number l) 8) _ (λ h. rw (is scalar_product (refl, ((refl, tt), tt)) h) scalar_products) (λ h. rw (is add (refl, ((refl, tt), tt)) h) sums)) b.1

fixed_child : Which → Bool
fixed_child (child k) = ltb k 2
fixed_child child_i = true

fixed-child : (w : Which) → fixed_child w ≡ true → Fixed w
unfolding fixed_child
fixed-child (child k) e = ltb-true k 2 e
fixed-child child_i e = tt

familiar : Rule → Bool
familiar (k ⇒ l ▷ r) = true
familiar (spreading l w s r) = fixed_child w && (chain_head s && chain_head r)
familiar (removing l c) = chain_head l
familiar absorbing = true
familiar merging = true
familiar (collecting u v) = true
familiar swapping = true
familiar distributing = true

every_familiar : (n : ℕ) (r : Rule) → rule_of n ≡ some r → familiar r ≡ true
unfolding familiar fixed_child chain_head word
every_familiar = rule_passes familiar refl

-- ---- the row of a rule
lined_by : (at : ℕ) (r : Rule) → good r ≡ true → familiar r ≡ true → Lined (row_for at (some r)) (row_for at (some r)).family r
unfolding row_for familiar good
lined_by at (k ⇒ l ▷ r) g f = an_equation
lined_by at (spreading l w s r) g f =
    let x = both (fixed_child w) _ f in
    let c = both (chain_head s) (chain_head r) x.1 in
    a_spreading (record { number = refl; nameless = (both (nameless l) (nameless s) g).0 }) refl (fixed-child w x.0)
    (record { number = refl; chain = chain_label s c.0 }) (record { number = refl; chain = chain_label r c.1 })
lined_by at (removing l c) g f =
    a_removing (record { number = refl; chain = chain_label l f }) (record { number = refl; nameless = (both (nameless l) (nameless c) g).1 })
lined_by at absorbing g f = an_absorbing
lined_by at merging g f = a_merging
lined_by at (collecting u v) g f = a_collecting refl refl
lined_by at swapping g f = a_swapping
lined_by at distributing g f = a_distributing

pub lined : (n : ℕ) (r : Rule) (row : Row) → rule_of n ≡ some r → row ≡ row_of n → Lined row row.family r
unfolding row_of
lined n r row e h = rw (h, e) (lined_by (start_in n table) r (every_good n r e) (every_familiar n r e))

-- ---- the family of a row is its rule's; of a number that is no rule's it is `NoRule`
number_by : (at : ℕ) (o : Option Rule) → (row_for at o).family ≡ family_in o
unfolding row_for family_in
number_by at none = refl
number_by at (some (k ⇒ l ▷ r)) = refl
number_by at (some (spreading l w s r)) = refl
number_by at (some (removing l c)) = refl
number_by at (some absorbing) = refl
number_by at (some merging) = refl
number_by at (some (collecting u v)) = refl
number_by at (some swapping) = refl
number_by at (some distributing) = refl

pub family_is : (n : ℕ) (row : Row) → row ≡ row_of n → row.family ≡ family_in (rule_of n)
unfolding row_of
family_is n row e = rw e (number_by (start_in n table) (rule_of n))

-- what a row says of its rule, by the family that it was found to have
pub numbered : {row : Row} {f g : Family} {r : Rule} → f ≡ g → Lined row f r → Lined row g r
numbered e l = rw e at l

no_family : {row : Row} {r : Rule} → Lined row NoRule r → ⊥
no_family l = elim l [ ]

-- ---- the rule of a row
pub record Ruled (row : Row) (n : ℕ) : Type 0 where
  pub rule : Rule
  pub is : rule_of n ≡ some rule
  pub lines : Lined row row.family rule

-- a rule that is no equation is a family's
family_by : {row : Row} {f : Family} {r : Rule} → Lined row f r → (f ≡ Equation → ⊥) → is_family r ≡ true
unfolding is_family
family_by an_equation h = absurd (h refl)
family_by (a_spreading a b c d e) h = refl
family_by (a_removing a b) h = refl
family_by an_absorbing h = refl
family_by a_merging h = refl
family_by (a_collecting a b) h = refl
family_by a_swapping h = refl
family_by a_distributing h = refl

equation_only : {row : Row} {r : Rule} → Lined row Equation r → is_family r ≡ false
unfolding is_family
equation_only an_equation = refl

module _ (n : ℕ) (row : Row) (e : row ≡ row_of n) where
  ruled_by : (row.family ≡ NoRule → ⊥) → (o : Option Rule) → rule_of n ≡ o → Ruled row n
  unfolding family_in
  ruled_by h none f = absurd (h (family_is n row e ∙ ap family_in f))
  ruled_by h (some r) f = record { rule = r; is = f; lines = lined n r row f e }

  pub ruled : (row.family ≡ NoRule → ⊥) → Ruled row n
  ruled h = ruled_by h (rule_of n) refl

  unruled_by : row.family ≡ NoRule → (o : Option Rule) → rule_of n ≡ o → rule_of n ≡ none
  unruled_by h none f = f
  unruled_by h (some r) f = absurd (no_family (numbered h (lined n r row f e)))

  pub unruled : row.family ≡ NoRule → rule_of n ≡ none
  unruled h = unruled_by h (rule_of n) refl

  -- ---- all but an equation
  pub an_equation's : {r : Rule} → rule_of n ≡ some r → row.family ≡ Equation → is_family r ≡ false
  an_equation's {r} f h = equation_only (numbered h (lined n r row f e))

  pub a_family : {r : Rule} → rule_of n ≡ some r → (row.family ≡ Equation → ⊥) → is_family r ≡ true
  a_family {r} f h = family_by (lined n r row f e) h

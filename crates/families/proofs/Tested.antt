-- What the code's tests of a part's first word, and of its child's, say of their heads and of the number of their children.
use mathlib.Core.Path.{◌≡◌, refl, sym, ◌∙◌}
use mathlib.Core.Logic.{◌≢◌}
use mathlib.Core.Bool.{Bool, true, false, cond, ◌&&◌, and-false, and-eq-true_iff}
use Rattle.std.specs.Prelude.{Option as Found, Some, None}
use mathlib.Core.List.{List}
use mathlib.Core.Option.{Option, none as refused}
use Prim.Native.Nat.{ℕ, ◌+◌, ◌*◌, ◌/◌, ◌≤◌}
use native.Mathlib.Omega.{arith}
use borrow.Author.Tests.{eqb-true, eq-eqb, ne_eqb}
use lib.Dec.{eqb}
use lib.ListN.{get_or}
use Rattle.term.specs.Heads.{Label}
use Rattle.term.specs.Trees.{Tree, Forest, node, ◌▹◌, count, ◌⧺◌}
use Rattle.term.specs.Parts.{Whole, parse, tree_in}
use Rattle.term.proofs.Parsing.{count-⧺}
use Rattle.rules.specs.Instances.{ACSymbol}
use Rattle.rules.specs.Rewrite.{is_head, is_chain, is_loose, Opened, outside, opened, open_at}
use Rattle.families.specs.Code.Children.{kids, child_in, fits, Under}
use Rattle.rulebook.specs.Code.Rows.{head_number}
use Rattle.families.specs.Code.Families.{chain_word, loose_word, Named, Counted}
use Rattle.families.specs.declared.children.Child.{Child}
use Rattle.families.proofs.Split.{Root, root, first_word, no_child, Split, split, parent_word, child-word, child-formed}
use Rattle.families.proofs.Few.{formed-count}
use Rattle.rules.proofs.Decided.{chain-nameless}
use Rattle.families.proofs.Heads.{same_head, head_test, other_head, chain_test, loose_test, chain-word}

-- a test that makes no difference
pub cond_same : {A : Type 0} {x : A} (b : Bool) → cond b x x ≡ x
cond_same true = refl
cond_same false = refl

-- a chain is a head without a name
pub named : {h : ℕ} {l : Label} → Counted h l → Named h l
named p = record { number = p.number; nameless = chain-nameless p.chain }

-- ---- the part's own head
pub root_other : {ws : List ℕ} {h : ℕ} {l : Label} (r : Root ws) → Named h l → get_or ws 0 0 / 256 ≢ h → is_head l r.label (count r.children) ≡ false
root_other {l} r p n = other_head l r.label r.children p.nameless r.formed (λ e. n (cc (first_word r, p.number)))

pub root_chain : {ws : List ℕ} (r : Root ws) → is_chain r.label (count r.children) ≡ chain_word (get_or ws 0 0)
root_chain r = rw (first_word r) (sym (chain_test r.label r.children r.formed))

pub root_loose : {ws : List ℕ} (r : Root ws) → is_loose r.label (count r.children) ≡ loose_word (get_or ws 0 0)
root_loose r = rw (first_word r) (sym (loose_test r.label r.children r.formed))

-- ---- a part without child i is no instance of a rule that asks for it
pub root_outside : {ws : List ℕ} → Whole ws → (i : ℕ) (g : Tree → Option Tree) → ((m : Label) (f : Forest) → open_at f i ≡ outside → g (node m f) ≡ refused)
    → open_at (kids (tree_in (parse ws))) i ≡ outside → g (tree_in (parse ws)) ≡ refused
unfolding kids
root_outside w i g h e = let r = root w in rw r.tree (h r.label r.children (rw r.tree at e))

-- ---- a part split at its child i
module _ {ws : List ℕ} {i start end : ℕ} (s : Split ws i start end) where
  pub parent_is : {h : ℕ} {l : Label} → Named h l → get_or ws 0 0 / 256 ≡ h → l ≡ s.parent
  parent_is {l} p e = same_head l s.parent _ p.nameless s.formed (cc (parent_word s, p.number))

  pub parent_is_chain : chain_word (get_or ws 0 0) ≡ true → is_chain s.parent (count (s.before ⧺ node s.label s.below ▹ s.after)) ≡ true
  parent_is_chain e = sym (chain_test s.parent _ s.formed) ∙ (rw (parent_word s) at e)

  pub parent_is_loose : loose_word (get_or ws 0 0) ≡ true → is_loose s.parent (count (s.before ⧺ node s.label s.below ▹ s.after)) ≡ true
  parent_is_loose e = sym (loose_test s.parent _ s.formed) ∙ (rw (parent_word s) at e)

  -- the child's head
  child-is : {h : ℕ} {l : Label} → Named h l → get_or ws start 0 / 256 ≡ h → l ≡ s.label
  child-is {l} p e = same_head l s.label s.below p.nameless (child-formed s) (cc (child-word s, p.number))

  -- both tests, as `rewrite` has them
  both_tests : {h k : ℕ} {l c : Label} → Named h l → Named k c
      → (eqb (get_or ws 0 0 / 256) h ≡ is_head l s.parent (count (s.before ⧺ node s.label s.below ▹ s.after))) × (eqb (get_or ws start 0 / 256) k ≡ is_head c s.label (count s.below))
  both_tests {l} {c} p q =
      (rw (parent_word s, p.number) (head_test l s.parent _ p.nameless s.formed), rw (child-word s, q.number) (head_test c s.label s.below q.nameless (child-formed s)))

  -- the number of the part's children, which a chain has in its word
  children_count : count (s.before ⧺ node s.label s.below ▹ s.after) ≡ count (s.before ⧺ s.after) + 1
  unfolding count
  children_count = omega (arith, count-⧺ s.before (node s.label s.below ▹ s.after), count-⧺ s.before s.after)

  pub chain_parent : {l : Label} → ACSymbol l → l ≡ s.parent → get_or ws 0 0 ≡ head_number l * 256 + (count (s.before ⧺ s.after) + 1)
  chain_parent {l} k e = parent_word s ∙ rw (← e, children_count) (chain-word k (count (s.before ⧺ s.after) + 1))

  pub siblings_few : count (s.before ⧺ s.after) + 1 ≤ 255
  siblings_few = omega (arith, children_count, formed-count s.parent _ s.formed)

  pub chain-child : {l : Label} → ACSymbol l → l ≡ s.label → get_or ws start 0 ≡ head_number l * 256 + count s.below
  chain-child k e = child-word s ∙ rw (← e) (chain-word k (count s.below))

-- ---- what `child_under` answers: the part is split at a child, and both have the heads that were asked for
pub record Fit {ws : List ℕ} {i start end : ℕ} (s : Split ws i start end) (l c : Label) : Type 0 where
  pub parent : l ≡ s.parent
  pub child : c ≡ s.label

taken : (b : Bool) (o : Found Child) {c : Child} → Some c ≡ cond b o None → (b ≡ true) × (Some c ≡ o)
taken true o e = (refl, e)
taken false o e = cc

not_taken : (b : Bool) (c : Child) → None ≡ cond b (Some c) None → b ≡ false
not_taken true c e = cc
not_taken false c e = refl

-- of two tests one fails
one-fails : (a b : Bool) {x : Option Tree} → a && b ≡ false → (b ≡ false → x ≡ refused) → cond a x refused ≡ refused
one-fails true b e h = h e
one-fails false b e h = refl

-- by the tests, one after the other
other_by : (ws : List ℕ) (parent child : ℕ) (o : Found Child) → eqb (get_or ws 0 0 / 256) parent ≡ false → None ≡ cond (fits ws parent child o) o None
other_by ws parent child None h = refl
other_by ws parent child (Some c) h = rw h

pub other_parent : {ws : List ℕ} {parent i child : ℕ} → get_or ws 0 0 / 256 ≢ parent → Under ws parent i child None
other_parent {ws} {parent} {i} {child} h = record { is = other_by ws parent child (child_in ws i) (ne_eqb (get_or ws 0 0 / 256) parent h) }

pub no_such : {ws : List ℕ} {parent i child : ℕ} → None ≡ child_in ws i → Under ws parent i child None
no_such e = record { is = rw (← e) }

module _ {ws : List ℕ} {parent i child : ℕ} {c : Child} (e : Some c ≡ child_in ws i) where
  pub other_child : get_or ws c.start 0 / 256 ≢ child → Under ws parent i child None
  other_child h = record { is = rw (← e, ne_eqb (get_or ws c.start 0 / 256) child h, and-false) }

  pub both_fit : get_or ws 0 0 / 256 ≡ parent → get_or ws c.start 0 / 256 ≡ child → Under ws parent i child (Some c)
  both_fit p h =
      let f : fits ws parent child (Some c) ≡ true = rw (eq-eqb (get_or ws 0 0 / 256) parent p, eq-eqb (get_or ws c.start 0 / 256) child h) in
      record { is = rw (← e, f) }

module _ {ws : List ℕ} {parent i child : ℕ} {r : Child} (w : Whole ws) (e : Under ws parent i child (Some r)) where
  as_found : (fits ws parent child (child_in ws i) ≡ true) × (Some r ≡ child_in ws i)
  as_found = taken (fits ws parent child (child_in ws i)) (child_in ws i) e.is

  pub found : Split ws i r.start r.end
  found = split w as_found.1

  pub under : {l c : Label} → Named parent l → Named child c → (s : Split ws i r.start r.end) → Fit s l c
  under P N s =
      let x : fits ws parent child (Some r) ≡ true = rw (← as_found.1) at as_found.0 in
      let y = (and-eq-true_iff (eqb (get_or ws 0 0 / 256) parent) (eqb (get_or ws r.start 0 / 256) child)).0 x in
      record { parent = parent_is s P (eqb-true (get_or ws 0 0 / 256) parent y.0); child = child-is s N (eqb-true (get_or ws r.start 0 / 256) child y.1) }

module _ {ws : List ℕ} {parent i child : ℕ} (w : Whole ws) (e : Under ws parent i child None) {l c : Label} (P : Named parent l) (N : Named child c) where
  -- or a rule that asks for such a child refuses
  module _ (make : Opened → Option Tree) (out : make outside ≡ refused) (other : (b : Forest) (m : Label) (f a : Forest) → is_head c m (count f) ≡ false → make (opened b (node m f) a) ≡ refused)
      (g : Tree → Option Tree) (is : (m : Label) (f : Forest) → tree_in (parse ws) ≡ node m f → g (node m f) ≡ cond (is_head l m (count f)) (make (open_at f i)) refused) where
    none_by : (o : Found Child) → o ≡ child_in ws i → g (tree_in (parse ws)) ≡ refused
    unfolding kids
    none_by None z =
        let t = root w in
        let o : open_at t.children i ≡ outside = rw t.tree at (no_child (kids (tree_in (parse ws))) i z) in
        rw (t.tree, is t.label t.children t.tree, o, out, cond_same)
    none_by (Some d) z =
        let s = split w z in
        let f = not_taken (fits ws parent child (Some d)) d (rw (← z) at e.is) in
        let x = both_tests s P N in
        let all = s.before ⧺ node s.label s.below ▹ s.after in
        rw (s.tree, is s.parent all s.tree, s.child) (one-fails (is_head l s.parent (count all)) (is_head c s.label (count s.below)) (rw (x.0, x.1) at f)
        (other s.before s.label s.below s.after))

    pub none-under : g (tree_in (parse ws)) ≡ refused
    none-under = none_by (child_in ws i) refl

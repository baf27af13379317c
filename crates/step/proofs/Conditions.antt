-- The condition of a rule, by its number: of what kind the part in hole 0 is, as it is read off it, or that the part in hole 1 has no such word.
use mathlib.Core.Path.{◌≡◌, refl, sym, ◌∙◌, ap}
use mathlib.Core.Logic.{◌≢◌, ◌⊎◌, ⊎_elim}
use mathlib.Core.Bool.{Bool, true, false, not, ◌&&◌, ◌||◌}
use Rattle.std.specs.List.{list_any}
use mathlib.Core.List.{List, [], ◌∷◌}
use Prim.Native.Nat.{ℕ, suc, ◌+◌, ◌-◌, ◌/◌, ◌%◌, ◌≤◌, ◌<◌}
use native.Mathlib.Omega.{arith}
use borrow.Author.Tests.{ltb-true, ne_eqb}
use lib.Dec.{eqb}
use lib.ListN.{length, take, drop, get_or}
use lib.Seq.{get_or-drop}
use Rattle.words.specs.Listed.{lacks}
use Rattle.words.proofs.Listed.{up_to_mark}
use Rattle.term.specs.Heads.{Label, variable, heads, labelled, reading, read, word}
use Rattle.term.proofs.Readings.{head_read}
use Rattle.term.specs.Trees.{Tree, node, none, ◌▹◌, count, words, Formed}
use Rattle.types.specs.Sorts.{Sort, index, basis, scalar, ket, bra, operator, Context}
use Rattle.types.proofs.Indices.{bodies_well}
use Rattle.declarations.proofs.Entries.{well_formed}
use Rattle.declarations.specs.Declarations.{context_in, context_at, marked_word}
use Rattle.rules.specs.Table.{Condition, any, a_ket, a_bra, an_operator, unused, marked}
use Rattle.rules.specs.Instances.{is_unused}
use Rattle.rules.specs.Rewrite.{sort_of, wanted, is_marked, satisfied, holes}
use Rattle.rules.proofs.Lines.{not_so, sort-is}
use Rattle.rules.specs.Code.Conditions.{asked, of_words}
use Rattle.typebook.specs.Code.Shapes.{shape_of, number_of}
use Rattle.rulebook.specs.Code.Rows.{condition_number}
use Rattle.matcher.specs.declared.Match.{Match}
use Rattle.matcher.specs.Matching.{start_of, end_of}
use Rattle.term.specs.Terms.{max_depth}
use Rattle.shapes.specs.Reading.{class_at, Begins}
use Rattle.step.specs.Code.Building.{Caught, AllSorted}
use Rattle.step.proofs.Indices.{class-is}
use Rattle.step.proofs.Pieces.{met-tree, caught_run, caught_sort}

-- the classes that the kinds have, from 4 on
classes : (S : Sort) → let n = number_of (shape_of S).class in (eqb n 4 ≡ wanted a_ket S) × (eqb n 5 ≡ wanted a_bra S) × (eqb n 6 ≡ wanted an_operator S)
classes (index σ) = (refl, refl, refl)
classes (basis σ) = (refl, refl, refl)
classes scalar = (refl, refl, refl)
classes (ket σ) = (refl, refl, refl)
classes (bra σ) = (refl, refl, refl)
classes (operator σ τ) = (refl, refl, refl)

-- a condition is told by its number
condition_at : ℕ → Condition
condition_at n = get_or (any ∷ a_ket ∷ a_bra ∷ an_operator ∷ unused ∷ marked ∷ []) n any

condition-at : (k : Condition) → condition_at (condition_number k) ≡ k
unfolding condition_at
condition-at any = refl
condition-at a_ket = refl
condition-at a_bra = refl
condition-at an_operator = refl
condition-at unused = refl
condition-at marked = refl

numbered : (k : Condition) {n : ℕ} → condition_number k ≡ n → k ≡ condition_at n
numbered k e = sym (condition-at k) ∙ ap condition_at e

-- a kind is asked of the part in hole 0, which is typed
record OfKind (k : Condition) : Type 0 where
  class : (S : Sort) → eqb (number_of (shape_of S).class) (3 + condition_number k) ≡ wanted k S
  first : (Γ : Context) (θ : ℕ → Tree) → wanted k (sort_of Γ (θ 0)) ≡ satisfied Γ k θ
  types : of_words k ≡ true → ⊥

of_kind : (k : Condition) → condition_number k ≢ 0 → condition_number k ≢ 4 → condition_number k ≢ 5 → OfKind k
unfolding satisfied of_words
of_kind any h o m = absurd (h refl)
of_kind a_ket h o m = record { class = λ S. (classes S).0; first = λ Γ θ. refl; types = λ e. not_so e }
of_kind a_bra h o m = record { class = λ S. (classes S).1; first = λ Γ θ. refl; types = λ e. not_so e }
of_kind an_operator h o m = record { class = λ S. (classes S).2; first = λ Γ θ. refl; types = λ e. not_so e }
of_kind unused h o m = absurd (o refl)
of_kind marked h o m = absurd (m refl)

-- any but `any` is asked of a hole that was met
pub first-asks : (k : Condition) → condition_number k ≢ 0 → (n : ℕ) → asked k n ≡ true → 0 < n
unfolding asked
first-asks any h n e = absurd (h refl)
first-asks a_ket h n e = ltb-true 0 n e
first-asks a_bra h n e = ltb-true 0 n e
first-asks an_operator h n e = ltb-true 0 n e
first-asks unused h n e = let l = ltb-true 1 n e in omega arith
first-asks marked h n e = ltb-true 0 n e

pub condition-few : {n : ℕ} (k : Condition) → n ≡ condition_number k → n ≤ 5
condition-few any e = rw e (omega arith)
condition-few a_ket e = rw e (omega arith)
condition-few a_bra e = rw e (omega arith)
condition-few an_operator e = rw e (omega arith)
condition-few unused e = rw e (omega arith)
condition-few marked e = rw e (omega arith)

pub any_met : (Γ : Context) (k : Condition) (θ : ℕ → Tree) → condition_number k ≡ 0 → true ≡ satisfied Γ k θ
unfolding satisfied condition_at
any_met Γ k θ e = rw (numbered k e)

-- ---- a word that is none of a row's
pub lacks_lem : (w : ℕ) (ws : List ℕ) → not (list_any (λ y. eqb y w) ws) ≡ lacks w ws
unfolding lacks
lacks_lem w [] = refl
lacks_lem w (v ∷ ws) = by_test (eqb v w) (lacks_lem w ws)
  where
    by_test : (b : Bool) → not (list_any (λ y. eqb y w) ws) ≡ lacks w ws → not (b || list_any (λ y. eqb y w) ws) ≡ not b && lacks w ws
    by_test true e = refl
    by_test false e = e

-- the part in hole 1 has no such word
pub own_asks : (k : Condition) (n : ℕ) → condition_number k ≡ 4 → asked k n ≡ true → 1 < n
unfolding asked condition_at
own_asks k n e a = ltb-true 1 n (rw (numbered k e) at a)

own_satisfied : (Γ : Context) (k : Condition) (θ : ℕ → Tree) → condition_number k ≡ 4 → lacks 7168 (words (θ 1)) ≡ satisfied Γ k θ
unfolding satisfied is_unused word condition_at
own_satisfied Γ k θ e = rw (numbered k e)

-- ---- a part is a marked variable by its first word: a head of names has no children
no_variable : (w : ℕ) (l : Label) (n : ℕ) → read w ≡ labelled l (suc n) → w / 256 ≢ 26
unfolding read heads reading
no_variable w l n e h = let v : labelled (variable (w % 256)) 0 ≡ labelled l (suc n) = rw h at e in let z : 0 ≡ suc n = cc in omega arith

first-marked : (ds : List ℕ) (bs : List Tree) (t : Tree) → Formed t → marked_word ds (get_or (words t) 0 0) ≡ is_marked (context_at ds bs) t
unfolding marked_word is_marked Formed words count context_in
first-marked ds bs (node l none) h = rw ((head_read (word l 0) l 0 h.0).0, up_to_mark)
first-marked ds bs (node l (t ▹ f)) h = rw (ne_eqb _ _ (no_variable (word l (suc (count f))) l (count f) h.0))

mark_satisfied : (Γ : Context) (k : Condition) (θ : ℕ → Tree) → condition_number k ≡ 5 → is_marked Γ (θ 0) ≡ satisfied Γ k θ
unfolding satisfied condition_at
mark_satisfied Γ k θ e = rw (numbered k e)

-- the first word of words that begin with a part
first_word : (ws : List ℕ) (i : ℕ) {budget : ℕ} (t : Tree) → Begins (drop i ws) budget t → get_or ws i 0 ≡ get_or (words t) 0 0
unfolding words
first_word ws i (node l f) b = let z : i + 0 ≡ i = omega arith in sym (rw z at (get_or-drop i ws 0 0)) ∙ ap (λ (vs : List ℕ). get_or vs 0 0) b.whole

module _ {ds ws : List ℕ} {m : Match} (x : Caught ds ws m) (k : Condition) (n : ℕ) (number : n ≡ condition_number k) where
  pub own_met : 1 < m.held → n ≡ 4 → lacks 7168 (take (end_of m 1 - start_of m 1) (drop (start_of m 1) ws)) ≡ satisfied (context_at ds x.bodies) k (holes x.trees)
  own_met met e = rw (caught_run x 1 met) (own_satisfied (context_at ds x.bodies) k (holes x.trees) (sym number ∙ e))

  pub mark_met : 0 < m.held → n ≡ 5 → {w : ℕ} → w ≡ get_or ws (start_of m 0) 0 → marked_word ds w ≡ satisfied (context_at ds x.bodies) k (holes x.trees)
  mark_met met e h =
      let t = holes x.trees 0 in
      let b = x.begins 0 (met-tree x 0 met) in
      rw (h, first_word ws (start_of m 0) t b) (first-marked ds x.bodies t b.formed ∙ mark_satisfied (context_at ds x.bodies) k (holes x.trees) (sym number ∙ e))

  pub kind-met : n ≢ 0 → n ≢ 4 → n ≢ 5 → (of_words k ≡ true) ⊎ AllSorted x → 0 < m.held → {c : ℕ} → c ≡ class_at ds (take (length ws - start_of m 0) (drop (start_of m 0) ws)) max_depth 0
      → eqb c (3 + n) ≡ satisfied (context_at ds x.bodies) k (holes x.trees)
  kind-met kind other unmarked typed met {c} e =
      let o = of_kind k (λ z. kind (number ∙ z)) (λ z. other (number ∙ z)) (λ z. unmarked (number ∙ z)) in
      let h = caught_sort x 0 met (⊎_elim (λ w. absurd (o.types w)) (λ a. a) typed) in
      let W = bodies_well (well_formed ds x.good) x.bodies in
      ap (λ (i : ℕ). eqb i (3 + n)) (class-is ds x.bodies x.outer _ h c e) ∙ ap (λ (i : ℕ). eqb (number_of (shape_of h.sorted.0).class) (3 + i)) number
      ∙ (o.class h.sorted.0 ∙ sym (ap (wanted k) (sort-is W h.sorted.1)) ∙ o.first (context_at ds x.bodies) (holes x.trees))

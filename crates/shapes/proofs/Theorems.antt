-- The reading of a typed part is its type, by induction on the budget; and at every place of a term the walk back finds what is bound there.
use mathlib.Core.Path.{◌≡◌, refl, sym, ◌∙◌, ap}
use mathlib.Core.Logic.{◌≢◌}
use mathlib.Core.Bool.{Bool, true, false, ◌&&◌}
use mathlib.Core.List.{List, [], ◌∷◌, append-nil}
use Prim.Native.Nat.{ℕ, zero, suc, ◌+◌, ◌*◌, ◌/◌, ◌%◌}
use native.Mathlib.Omega.{arith}
use lib.ListN.{length, drop, get_or}
use Rattle.words.proofs.Listed.{up_to-some}
use Rattle.term.specs.Heads.{Label, heads, labelled, word, read, result_of}
use Rattle.term.specs.Trees.{Tree, Forest, node, none, ◌▹◌, count, ◌⧺◌, words, Formed, depth}
use Rattle.term.specs.Parts.{part}
use Rattle.types.specs.Sorts.{Sort, index, basis, scalar, ket, bra, operator, Context}
use Rattle.types.specs.Rules.{◌⊢◌∶◌, type_var, basis_var, term_var, bound_var, sca_0, sca_1, WellFormed}
use Rattle.types.specs.Inside.{later}
use Rattle.types.specs.TypeOf.{gives, conclude}
use Rattle.types.proofs.Indices.{index_is, bodies_well, later-bodies}
use Rattle.types.proofs.Sound.{Row, each_none, each_more, node_of}
use Rattle.types.proofs.Walk.{next_in}
use Rattle.typebook.specs.Code.Shapes.{shape_of, number_of}
use Rattle.typebook.specs.Code.Lines.{rules, rule_at, concluded, is_sum, all_alike}
use Rattle.typebook.proofs.OnShapes.{shapes}
use Rattle.typebook.proofs.Rows.{last_of, Roomy, children_law}
use Rattle.declarations.specs.Declarations.{basis_in, variable_in, context_in, context_at, good_declarations}
use Rattle.declarations.proofs.Entries.{declarations, well_formed}
use Rattle.shapes.specs.Bodies.{Bound}
use Rattle.shapes.specs.Reading.{declared_index, child_at, class_read, class_at, digit, leaf_index, side_read, side_at, Begins, side_in, Read}
use Rattle.shapes.specs.Statements.{Reads, BoundInside}
use Rattle.shapes.proofs.Begun.{part_of, first_word, second_at, begins-first, begins-second}
use Rattle.shapes.proofs.Bodies as Bodies
use Rattle.shapes.proofs.Bodies.{binds-is, roomy, down}
use Rattle.shapes.proofs.Declared.{basis_declared, class-declared, side-declared}
use Rattle.shapes.proofs.Digits.{row_at, no_variable}
use Rattle.shapes.proofs.Nodes.{some_index, told, node-class, node-side}

each_count : {Γ Δ : Context} {f : Forest} {ss : List Sort} → Row f ss Γ Δ → count f ≡ length ss
unfolding count
each_count each_none = refl
each_count (each_more a r) = ap suc (each_count r)

module _ (ds ws : List ℕ) (outer : ℕ → List ℕ) (good : good_declarations ds ≡ true) where
  -- with these bound around
  abbrev Γ : List Tree → Context
  Γ bs = context_at ds bs

  W : (bs : List Tree) → WellFormed (Γ bs)
  W bs = bodies_well (well_formed ds good) bs

  -- an index is its own
  own_index : (at : ℕ) (bs : List Tree) {t : Tree} (S : Sort) → Γ bs ⊢ t ∶ S → part ws at ≡ words t → number_of (shape_of S).class ≡ 1 → (right : Bool) → side_in right (shape_of S) ≢ []
      → part ws at ≡ side_in right (shape_of S)
  own_index at bs (index σ) d p e true n = absurd (n refl)
  own_index at bs (index σ) d p e false n = p ∙ ap words (index_is (W bs) d)
  own_index at bs (basis σ) d p e right n = absurd (omega arith)
  own_index at bs scalar d p e right n = absurd (omega arith)
  own_index at bs (ket σ) d p e right n = absurd (omega arith)
  own_index at bs (bra σ) d p e right n = absurd (omega arith)
  own_index at bs (operator σ τ) d p e right n = absurd (omega arith)

  -- ---- a head without children
  basis_side : (σ : Tree) {xs : List ℕ} → xs ≡ words σ → (right : Bool) → side_in right (shape_of (basis σ)) ≢ [] → xs ≡ side_in right (shape_of (basis σ))
  basis_side σ e true n = absurd (n refl)
  basis_side σ e false n = e

  no_digit : (right : Bool) → digit right 0 ≡ 0
  no_digit true = refl
  no_digit false = refl

  no_side : {A : Type 0} (right : Bool) → side_in right (shape_of scalar) ≢ [] → A
  no_side true n = absurd (n refl)
  no_side false n = absurd (n refl)

  leaf : (n at : ℕ) (bs : List Tree) {l : Label} {S : Sort} → get_or ws at 0 ≡ word l 0 → part ws at ≡ words (node l none) → Γ bs ⊢ node l none ∶ S → Bound ws outer at bs → Read ds ws outer (suc n) at S
  unfolding class_at class_read side_at side_read leaf_index declared_index rule_at rules result_of heads word context_in
  leaf n at bs e p (type_var {a} h) b =
      let q : (1 * 256 + a) / 256 ≡ 1 = omega (arith, (W bs).types) in
      record { class = rw (e, q); side = λ right m. rw (e, q) (own_index at bs _ (type_var h) p refl right m) }
  leaf n at bs e p (basis_var {a} {σ} i) b =
      let u = up_to-some (get_or ds 1 0) (basis_in ds) a σ i in
      let few = (declarations ds good).bases in
      let q : (3 * 256 + a) / 256 ≡ 3 = omega arith in
      let r : (3 * 256 + a) % 256 ≡ a = omega arith in
      record { class = rw (e, q); side = λ right m. rw (e, q, no_digit right, r) (basis_side σ (basis_declared ds a (good, u.0) ∙ ap words u.1) right m) }
  leaf n at bs {S = S} e p (term_var {a} i) b =
      let u = up_to-some (get_or ds 2 0) (variable_in ds) a S i in
      let few = (declarations ds good).variables in
      let q : (26 * 256 + a) / 256 ≡ 26 = omega arith in
      let r : (26 * 256 + a) % 256 ≡ a = omega arith in
      record {
        class = rw (e, q, r) (class-declared ds a (good, u.0) ∙ ap (λ (T : Sort). number_of (shape_of T).class) u.1);
        side = λ right m. rw (e, q, no_digit right, r) (side-declared ds a (good, u.0) right (λ z. m (ap (λ (T : Sort). side_in right (shape_of T)) (sym u.1) ∙ z)) ∙ ap
            (λ (T : Sort). side_in right (shape_of T)) u.1);
      }
  leaf n at bs e p (bound_var {a} {σ} h i d) b =
      let x = b a σ i in
      let q : (28 * 256 + a) / 256 ≡ 28 = omega arith in
      let r : (28 * 256 + a) % 256 ≡ a = omega arith in
      record { class = rw (e, q); side = λ right m. rw (e, q, no_digit right, r) (basis_side σ x.1 right m) }
  leaf n at bs e p sca_0 b = record { class = rw e; side = λ right m. no_side right m }
  leaf n at bs e p sca_1 b = record { class = rw e; side = λ right m. no_side right m }

  -- ---- a head with children
  abbrev Below : ℕ → Type 0
  Below n = (at : ℕ) (bs : List Tree) (t : Tree) (S : Sort) → Begins (drop at ws) n t → Γ bs ⊢ t ∶ S → Bound ws outer at bs → Read ds ws outer n at S

  module _ (n at : ℕ) (bs : List Tree) (below : Below n) (around : Bound ws outer at bs) {l : Label} {t : Tree} where
    first_around : {f : Forest} → Begins (drop at ws) (suc n) (node l (t ▹ f)) → Bound ws outer (child_at ws at false) bs
    unfolding child_at next_in words ◌⧺◌
    first_around {f} b =
        let z : at + 1 + 0 ≡ at + 1 = omega arith in
        rw z at (down ws outer at l (t ▹ f) b.rest b.formed b.whole (Γ bs) around none t f refl)

    second_around : {u : Tree} {f : Forest} → Begins (drop at ws) (suc n) (node l (t ▹ u ▹ f)) → Bound ws outer (child_at ws at true) (later (Γ bs) l (t ▹ u ▹ f)).bound
    unfolding next_in words ◌⧺◌
    second_around {u} {f} b =
        rw (second_at ws at b) (rw append-nil at (down ws outer at l (t ▹ u ▹ f) b.rest b.formed b.whole (Γ bs) around (t ▹ none) u f refl))

    second : (s : Sort) {f : Forest} {ss : List Sort} {Δ : Context} → Δ ≡ later (Γ bs) l (t ▹ f) → Begins (drop at ws) (suc n) (node l (t ▹ f)) → Row f ss Δ Δ → suc (length ss) ≡ 2
        → Read ds ws outer n (child_at ws at true) (last_of s ss)
    second s z b each_none e = absurd (omega arith)
    second s z b (each_more {t = u} {S = T} d each_none) e =
        below _ (later (Γ bs) l (t ▹ u ▹ none)).bound u T (begins-second ws at b) (rw (z ∙ later-bodies (Γ bs) l (t ▹ u ▹ none)) at d) (second_around b)
    second s z b (each_more d (each_more d' r)) e = absurd (omega arith)

    parent : (s : Sort) {f : Forest} {ss : List Sort} (S : Sort) → Begins (drop at ws) (suc n) (node l (t ▹ f)) → Γ bs ⊢ t ∶ s → Row f ss (later (Γ bs) l (t ▹ f)) (later (Γ bs) l (t ▹ f))
        → conclude (Γ bs) l (s ∷ ss) ≡ gives S → Γ bs ⊢ node l (t ▹ f) ∶ S → Read ds ws outer (suc n) at S
    unfolding Formed count
    parent s {f} {ss} S b a r c d =
        let w = first_word ws at b in
        let k : read (get_or ws at 0) ≡ labelled l (suc (length ss)) = rw (w, ← each_count r) b.formed.0 in
        let alike = is_sum (get_or ws at 0 / 256) && all_alike (shape_of s) (shapes ss) in
        let room : Roomy (Γ bs) l = λ z. roomy (W bs) l (t ▹ f) S d (binds-is (get_or ws at 0) l (suc (length ss)) k z).0 in
        let x = told _ _ _ _ alike (shape_of S) (sym (children_law (get_or ws at 0) l s ss k (Γ bs) room) ∙ ap concluded c) in
        let row = row_at (get_or ws at 0) l (length ss) k in
        let unnamed = no_variable (get_or ws at 0) l (length ss) k in
        let one = below _ bs t s (begins-first ws at b) a (first_around b) in
        record {
          class = node-class ds ws outer n at _ S s (last_of s ss) alike row x unnamed one (second s refl b r);
          side = node-side ds ws outer n at _ S s (last_of s ss) alike row x unnamed one (second s refl b r) (own_index at bs S d (part_of ws at _ b.rest b.formed b.whole));
        }

    by_children : {f : Forest} {ss : List Sort} {Δ : Context} (S : Sort) → Δ ≡ later (Γ bs) l (t ▹ f) → Begins (drop at ws) (suc n) (node l (t ▹ f)) → Row (t ▹ f) ss (Γ bs) Δ
        → conclude (Γ bs) l ss ≡ gives S → Γ bs ⊢ node l (t ▹ f) ∶ S → Read ds ws outer (suc n) at S
    by_children S z b (each_more {S = s} a r) c d = parent s S b a (rw z at r) c d

  by_budget : (n : ℕ) → Below n
  unfolding depth count
  by_budget zero at bs (node l cs) S b d around = absurd (omega (arith, b.shallow))
  by_budget (suc n) at bs (node l none) S b d around = leaf n at bs (first_word ws at b) (part_of ws at _ b.rest b.formed b.whole) d around
  by_budget (suc n) at bs (node l (t ▹ f)) S b d around =
      let k = node_of (W bs) d in
      by_children n at bs (λ at' bs' t' S' b' d' a'. by_budget n at' bs' t' S' b' d' a') around S refl b k.each k.concludes d

pub reads : Reads
reads ds ws outer budget at bs t S good b d around = by_budget ds ws outer good budget at bs t S b d around

pub bound-inside : BoundInside
bound-inside = Bodies.bound-inside

-- an index that a sort has on a side is read there
pub index_read : {ds ws : List ℕ} {outer : ℕ → List ℕ} {budget at : ℕ} {S : Sort} → Read ds ws outer budget at S → (right : Bool) (σ : Tree) → side_in right (shape_of S) ≡ words σ
    → side_at ds ws outer right budget at ≡ words σ
index_read r right σ e = r.side right (λ z. some_index σ (sym e ∙ z)) ∙ e

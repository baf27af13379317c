-- The tests before the first step, one after the other.
use mathlib.Core.Path.{◌≡◌, refl, sym, ◌∙◌, ap}
use mathlib.Core.Logic.{◌≢◌}
use mathlib.Core.Bool.{Bool, true, false, cond, ◌&&◌, ◌||◌, and-eq-true_iff}
use mathlib.Core.List.{List, ◌++◌}
use Prim.Native.Nat.{ℕ, ◌≤◌}
use native.Mathlib.Omega.{arith}
use borrow.Author.Tests.{eq-eqb, ne_eqb, eqb-true, eqb-false, leb-true, le-leb}
use lib.Dec.{eqb, leb}
use lib.ListN.{length, take, replicate}
use lib.Seq.{take-take, take-append_seam}
use Rattle.words.specs.Words.{same_words}
use Rattle.words.specs.Listed.{all_up_to}
use Rattle.words.proofs.Runs.{same-words, same_words_eq}
use Rattle.term.specs.Parts.{parse, tree_in}
use Rattle.term.specs.Trees.{Tree, words}
use Rattle.term.proofs.Parsing.{parse-tree}
use Rattle.types.specs.Sorts.{Sort, index, basis, scalar, ket, bra, operator, IsType, Context}
use Rattle.types.specs.Rules.{◌⊢◌∶◌, WellFormed, Proper}
use Rattle.types.specs.TypeOf as T
use Rattle.types.proofs.Proper.{index_short, same_index}
use Rattle.typing.specs.declared.terms.TermType.{TermType}
use Rattle.typing.specs.declared.terms.Typing.{Typing}
use Rattle.typing.specs.Answers.{sizes_of, pad, type_record, refuse, typing, answer_of, typing_of, TypedTerm}
use Rattle.lent.specs.declared.faults.Fault.{Fault}
use Rattle.lent.specs.declared.steps.StepsFault.{StepsFault}
use Rattle.lent.specs.declared.steps.StepsFault.TheVariants.{TooMany, Missing, NoSide}
use Rattle.lent.specs.Lent.{Derivation, max_steps, step_at, sided, in_order, out_of_order, fault_number, steps_order, steps_fault}
use Rattle.lent.specs.Faults.{same_sizes, same_type, fault, no_fault, at_fault, told, types_fault, early_code, fault_of, fault_in}
use Rattle.lent.specs.Refusals.{InOrder}

-- ---- the first fault, from what each test tells
early_then : (l r s : ℕ) → early_code l r s ≡ cond (eqb (early_code l r 0) 0) s (early_code l r 0)
unfolding early_code
early_then l r s = go (eqb l 1 || eqb r 1) (eqb l 7) (eqb l 8 || eqb r 8)
  where
    go : (a b c : Bool) → cond a 1 (cond b 7 (cond c 8 s)) ≡ cond (eqb (cond a 1 (cond b 7 (cond c 8 0))) 0) s (cond a 1 (cond b 7 (cond c 8 0)))
    go true b c = refl
    go false true c = refl
    go false false true = refl
    go false false false = refl

-- a test without a fault has code 0, and one with a fault tells it
pub told_none : (f : Fault) → told f ≡ no_fault → f.code ≡ 0
told_none f h = go (eqb f.code 0) refl h
  where
    go : (b : Bool) → eqb f.code 0 ≡ b → cond b no_fault (at_fault f) ≡ no_fault → f.code ≡ 0
    go true e k = eqb-true _ _ e
    go false e k = cc

pub told_some : (f g : Fault) → told f ≡ at_fault g → (g ≡ f) × (g.code ≢ 0)
told_some f g h = go (eqb f.code 0) refl h
  where
    go : (b : Bool) → eqb f.code 0 ≡ b → cond b no_fault (at_fault f) ≡ at_fault g → (g ≡ f) × (g.code ≢ 0)
    go true e k = cc
    go false e k = let z : g ≡ f = cc in (z, rw z (eqb-false _ _ e))

module _ (d : Derivation) (l r : Typing) (e : l ≡ typing_of d.ds d.left d.n) (f : r ≡ typing_of d.ds d.right d.m) where
  abbrev early : ℕ
  early = early_code l.code r.code 0

  fault_by : fault_in d ≡ fault_of l r (steps_fault d.steps d.count)
  unfolding fault_in
  fault_by = rw (← e, ← f)

  pub early_fault : {x : Fault} → told (fault early 0 0) ≡ at_fault x → at_fault x ≡ told (fault_in d)
  unfolding fault_of
  early_fault {x} h =
      let p = told_some (fault early 0 0) x h in
      let z : early ≢ 0 = λ z. p.1 (rw p.0 z) in
      let k : fault_in d ≡ fault early 0 0 = rw (fault_by, early_then l.code r.code (steps_fault d.steps d.count), ne_eqb early 0 z, ne_eqb early 0 z) in
      rw k (sym h)

  module _ (h : told (fault early 0 0) ≡ no_fault) where
    late : fault_in d ≡ cond (eqb (steps_fault d.steps d.count) 0) (types_fault l r) (fault (steps_fault d.steps d.count) 0 0)
    unfolding fault_of
    late = rw (fault_by, early_then l.code r.code (steps_fault d.steps d.count), told_none (fault early 0 0) h)

    pub order_fault : {y : StepsFault} → steps_order d.steps d.count ≡ out_of_order y → at_fault (fault (fault_number y) 0 0) ≡ told (fault_in d)
    unfolding steps_fault
    order_fault {y = TooMany} k = rw (late, k)
    order_fault {y = Missing} k = rw (late, k)
    order_fault {y = NoSide} k = rw (late, k)

    pub late_fault : steps_order d.steps d.count ≡ in_order → told (types_fault l r) ≡ told (fault_in d)
    unfolding steps_fault
    late_fault k = rw (late, k)

-- ---- steps without a fault fit
fitting_by : (a b c : Bool) (ws : List ℕ) (n : ℕ) → leb n max_steps ≡ a → leb (step_at n) (length ws) ≡ b → all_up_to n (sided ws) ≡ c → steps_fault ws n ≡ 0 → InOrder ws n
unfolding steps_fault steps_order
fitting_by false b c ws n e f g h = absurd (omega (arith, rw e at h))
fitting_by true false c ws n e f g h = absurd (omega (arith, rw (e, f) at h))
fitting_by true true false ws n e f g h = absurd (omega (arith, rw (e, f, g) at h))
fitting_by true true true ws n e f g h = record { few = leb-true n max_steps e; inside = leb-true (step_at n) (length ws) f; sides = g }

pub in_order_lem : (ws : List ℕ) (n : ℕ) → InOrder ws n → steps_fault ws n ≡ 0
unfolding steps_fault steps_order
in_order_lem ws n o = rw (le-leb n max_steps o.few, le-leb (step_at n) (length ws) o.inside, o.sides)

pub fitting : (ws : List ℕ) (n : ℕ) → steps_fault ws n ≡ 0 → InOrder ws n
fitting ws n = fitting_by _ _ _ ws n refl refl refl

-- ---- types that compare as the same are the same
front : (ws : List ℕ) → length ws ≤ 63 → take (length ws) (pad ws) ≡ ws
unfolding pad
front ws h = take-take (length ws) 63 (ws ++ replicate 63 0) h ∙ take-append_seam ws (replicate 63 0)

padded-same : (a b : List ℕ) → length a ≤ 63 → length b ≤ 63 → length a ≡ length b → same_words (pad a) (pad b) ≡ true → a ≡ b
padded-same a b h k l e = sym (front a h) ∙ ap (take (length a)) (same_words_eq (pad a) (pad b) e) ∙ rw l (front b k)

parts_same : (a b : TermType) → same_type a b ≡ true
    → let x = sizes_of a.kind in
    let y = sizes_of b.kind in
    (x.number ≡ y.number) × (x.rows ≡ y.rows) × (x.columns ≡ y.columns) × (same_words a.rows b.rows ≡ true) × (same_words a.columns b.columns ≡ true)
unfolding same_type same_sizes
parts_same a b e =
    let x = sizes_of a.kind in
    let y = sizes_of b.kind in
    let whole = (and-eq-true_iff (same_sizes x y) (same_words a.rows b.rows && same_words a.columns b.columns)).0 e in
    let sizes = (and-eq-true_iff (eqb x.number y.number) (eqb x.rows y.rows && eqb x.columns y.columns)).0 whole.0 in
    let lengths = (and-eq-true_iff (eqb x.rows y.rows) (eqb x.columns y.columns)).0 sizes.1 in
    let indices = (and-eq-true_iff (same_words a.rows b.rows) (same_words a.columns b.columns)).0 whole.1 in
    (eqb-true _ _ sizes.0, eqb-true _ _ lengths.0, eqb-true _ _ lengths.1, indices.0, indices.1)

pub type-same : (a : TermType) → same_type a a ≡ true
unfolding same_type same_sizes
type-same a =
    let x = sizes_of a.kind in
    rw (eq-eqb x.number x.number refl, eq-eqb x.rows x.rows refl, eq-eqb x.columns x.columns refl, same-words a.rows) (same-words a.columns)

pub of_type_lem : (n d : ℕ) (S : Sort) → (answer_of n d (T.typed S)).of ≡ (answer_of 0 0 (T.typed S)).of
unfolding answer_of refuse typing
of_type_lem n d (index σ) = refl
of_type_lem n d (basis σ) = refl
of_type_lem n d scalar = refl
of_type_lem n d (ket σ) = refl
of_type_lem n d (bra σ) = refl
of_type_lem n d (operator σ τ) = refl

pub answers_same : (a b : Typing) (n d m e : ℕ) (S R : Sort) → a ≡ answer_of n d (T.typed S) → b ≡ answer_of m e (T.typed R) → same_type a.of b.of ≡ true
    → same_type (answer_of 0 0 (T.typed S)).of (answer_of 0 0 (T.typed R)).of ≡ true
answers_same a b n d m e S R f g h = rw (f, g, of_type_lem n d S, of_type_lem m e R) at h

module _ {Γ : Context} (W : WellFormed Γ) where
  abbrev of_type : Sort → TermType
  of_type S = (answer_of 0 0 (T.typed S)).of

  indices_same : (σ τ : Tree) → Γ ⊢ σ ∶ index σ → Γ ⊢ τ ∶ index τ → length (words σ) ≡ length (words τ) → same_words (pad (words σ)) (pad (words τ)) ≡ true → σ ≡ τ
  indices_same σ τ a b l e = same_index W a b (padded-same (words σ) (words τ) (index_short W a) (index_short W b) l e)

  pub sorts-same : (S R : Sort) → IsType S → IsType R → Proper Γ S → Proper Γ R → same_type (of_type S) (of_type R) ≡ true → S ≡ R
  unfolding answer_of typing type_record
  sorts-same (index σ) R h k p q e = absurd h
  sorts-same (basis σ) R h k p q e = absurd h
  sorts-same scalar (index τ) h k p q e = absurd k
  sorts-same scalar (basis τ) h k p q e = absurd k
  sorts-same scalar scalar h k p q e = refl
  sorts-same scalar (ket τ) h k p q e = absurd (omega (arith, (parts_same _ _ e).0))
  sorts-same scalar (bra τ) h k p q e = absurd (omega (arith, (parts_same _ _ e).0))
  sorts-same scalar (operator τ φ) h k p q e = absurd (omega (arith, (parts_same _ _ e).0))
  sorts-same (ket σ) (index τ) h k p q e = absurd k
  sorts-same (ket σ) (basis τ) h k p q e = absurd k
  sorts-same (ket σ) scalar h k p q e = absurd (omega (arith, (parts_same _ _ e).0))
  sorts-same (ket σ) (ket τ) h k p q e = let s = parts_same _ _ e in ap ket (indices_same σ τ p q s.1 s.3)
  sorts-same (ket σ) (bra τ) h k p q e = absurd (omega (arith, (parts_same _ _ e).0))
  sorts-same (ket σ) (operator τ φ) h k p q e = absurd (omega (arith, (parts_same _ _ e).0))
  sorts-same (bra σ) (index τ) h k p q e = absurd k
  sorts-same (bra σ) (basis τ) h k p q e = absurd k
  sorts-same (bra σ) scalar h k p q e = absurd (omega (arith, (parts_same _ _ e).0))
  sorts-same (bra σ) (ket τ) h k p q e = absurd (omega (arith, (parts_same _ _ e).0))
  sorts-same (bra σ) (bra τ) h k p q e = let s = parts_same _ _ e in ap bra (indices_same σ τ p q s.2 s.4)
  sorts-same (bra σ) (operator τ φ) h k p q e = absurd (omega (arith, (parts_same _ _ e).0))
  sorts-same (operator σ υ) (index τ) h k p q e = absurd k
  sorts-same (operator σ υ) (basis τ) h k p q e = absurd k
  sorts-same (operator σ υ) scalar h k p q e = absurd (omega (arith, (parts_same _ _ e).0))
  sorts-same (operator σ υ) (ket τ) h k p q e = absurd (omega (arith, (parts_same _ _ e).0))
  sorts-same (operator σ υ) (bra τ) h k p q e = absurd (omega (arith, (parts_same _ _ e).0))
  sorts-same (operator σ υ) (operator τ φ) h k p q e =
      let s = parts_same _ _ e in rw (indices_same σ τ p.0 q.0 s.1 s.3, indices_same υ φ p.1 q.1 s.2 s.4)

-- ---- the trees of the terms that are lent
pub its_tree : {ds ws : List ℕ} {n : ℕ} {t : Tree} {S : Sort} → TypedTerm ds ws n t S → tree_in (parse (take n ws)) ≡ t
unfolding tree_in
its_tree {t} h = rw (← h.is, parse-tree t h.term.formed)

pub in_place : {ds ws : List ℕ} {n : ℕ} {t : Tree} {S R : Sort} → TypedTerm ds ws n t S → R ≡ S → TypedTerm ds ws n (tree_in (parse (take n ws))) R
in_place h e = rw (its_tree h, e) h

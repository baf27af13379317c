-- The first fault, from what typing says of the two sides.
use mathlib.Core.Path.{◌≡◌, refl, sym, ◌∙◌}
use mathlib.Core.Logic.{◌≢◌}
use mathlib.Core.Bool.{Bool, true, false, cond}
use mathlib.Core.List.{List}
use Prim.Native.Nat.{ℕ, ◌≤◌}
use native.Mathlib.Omega.{arith}
use borrow.Author.Tests.{ne_eqb, eqb-true, eqb-false}
use lib.Dec.{eqb}
use lib.ListN.{length}
use Rattle.term.specs.Terms.{max_words}
use Rattle.term.specs.Trees.{Tree, depth}
use Rattle.types.specs.Sorts.{Sort, index, basis, scalar, ket, bra, operator, IsType}
use Rattle.types.specs.Rules.{◌⊢◌∶◌}
use Rattle.types.specs.First.{HasSort, FirstUntyped}
use Rattle.types.specs.Strays.{FirstStray, NoStray}
use Rattle.types.specs.TypeOf as T
use Rattle.types.proofs.Proper.{proper}
use Rattle.declarations.specs.Declarations.{context_in, good_declarations}
use Rattle.declarations.proofs.Entries.{well_formed}
use Rattle.typing.specs.declared.terms.Typing.{Typing}
use Rattle.typing.specs.Answers.{refuse, typing, answer_of, typing_of, sizes_of, HeldTerm, TypedTerm}
use Rattle.typing.specs.Answers as Said
use Rattle.typing.proofs.Theorems.{complete_entry, decided}
use Rattle.lent.specs.declared.faults.Fault.{Fault}
use Rattle.lent.specs.Lent.{Derivation, steps_fault}
use Rattle.lent.specs.Faults.{same_type, fault, types_fault, early_code, fault_of, fault_in}
use Rattle.lent.specs.Refusals.{LeftTyped, RightTyped, Ordered, Refused, wrong_size, bad_declarations, no_term, bad_steps, left_stray, left_untyped, left_no_type, right_stray}
use Rattle.lent.specs.Refusals.{right_untyped, right_no_type, types_differ, Judged, found, none}
use Rattle.lent.specs.Statements.{Judges}
use Rattle.lent.proofs.Tests.{fitting, in_order_lem, type-same, of_type_lem, answers_same, sorts-same}

-- ---- one side: what typing says, by its code and place
data Late (ds ws : List ℕ) (n : ℕ) (t : Tree) : ℕ → ℕ → Type 0 where
  stray : {k : ℕ} → FirstStray (context_in ds) t k → Late ds ws n t 13 k
  unsorted : {k : ℕ} → NoStray (context_in ds) t → (HasSort (context_in ds) t → ⊥) → FirstUntyped (context_in ds) t k → Late ds ws n t 10 k
  untyped : {S : Sort} → context_in ds ⊢ t ∶ S → (IsType S → ⊥) → Late ds ws n t 11 0
  typed : {S : Sort} → TypedTerm ds ws n t S → Late ds ws n t 0 0

data Side (ds ws : List ℕ) (n : ℕ) : ℕ → ℕ → Type 0 where
  of_size_lem : length ws ≢ max_words → Side ds ws n 1 0
  of_declarations : length ws ≡ max_words → good_declarations ds ≡ false → Side ds ws n 7 0
  of_term : length ws ≡ max_words → good_declarations ds ≡ true → ((t : Tree) → HeldTerm ds ws n t → ⊥) → Side ds ws n 8 0
  late : {t : Tree} {c k : ℕ} → HeldTerm ds ws n t → Late ds ws n t c k → Side ds ws n c k

-- a type is accepted, with the length and the depth
pub type-told : (n d : ℕ) (S : Sort) → IsType S → let a = answer_of n d (T.typed S) in (a.code ≡ 0) × (a.at ≡ 0) × (a.length ≡ n) × (a.depth ≡ d)
unfolding answer_of typing
type-told n d (index σ) h = absurd h
type-told n d (basis σ) h = absurd h
type-told n d scalar h = (refl, refl, refl, refl)
type-told n d (ket σ) h = (refl, refl, refl, refl)
type-told n d (bra σ) h = (refl, refl, refl, refl)
type-told n d (operator σ τ) h = (refl, refl, refl, refl)

pub held_of : {ds ws : List ℕ} {n : ℕ} {t : Tree} {S : Sort} → TypedTerm ds ws n t S → HeldTerm ds ws n t
held_of h = record { size = h.size; good = h.good; inside = h.inside; is = h.is; term = h.term }

side_of_lem : {ds ws : List ℕ} {n : ℕ} {r : Typing} → Said.Verdict ds ws n r → Side ds ws n r.code r.at
unfolding refuse
side_of_lem (Said.wrong_size h) = of_size_lem h
side_of_lem (Said.bad_declarations h g) = of_declarations h g
side_of_lem (Said.no_term h g x) = of_term h g x
side_of_lem (Said.stray h f) = late h (stray f)
side_of_lem (Said.no_sort h s x f) = late h (unsorted s x f)
side_of_lem (Said.no_type h d x) = late h (untyped d x)
side_of_lem {n} (Said.a_type {t} {S} h) = let told = type-told n (depth t) S h.is_type in rw (told.0, told.1) (late (held_of h) (typed h))

late_size : {ds ws : List ℕ} {n : ℕ} {t : Tree} {c k : ℕ} → Late ds ws n t c k → (c ≢ 1) × (c ≢ 7) × (c ≢ 8)
late_size (stray f) = (λ e. omega arith, λ e. omega arith, λ e. omega arith)
late_size (unsorted s x f) = (λ e. omega arith, λ e. omega arith, λ e. omega arith)
late_size (untyped d x) = (λ e. omega arith, λ e. omega arith, λ e. omega arith)
late_size (typed h) = (λ e. omega arith, λ e. omega arith, λ e. omega arith)

-- ---- both sides
pub not-both : {b : Bool} → b ≡ false → b ≡ true → ⊥
not-both e f = let z : ◌≡◌ {A = ℕ} 0 1 = cc in omega arith

-- No code is 0; where both slices hold terms under good declarations, and the steps are in order, it is one of types
pub refused-codes : {d : Derivation} {c s k : ℕ} → Refused d c s k
    → (c ≢ 0) × ((t u : Tree) → HeldTerm d.ds d.left d.n t → HeldTerm d.ds d.right d.m u → Ordered d → (10 ≤ c) × (c ≤ 13))
refused-codes (wrong_size x) = (omega arith, λ t u h k o. absurd (x (h.size, k.size)))
refused-codes (bad_declarations x e) = (omega arith, λ t u h k o. absurd (not-both e h.good))
refused-codes (no_term x g n) = (omega arith, λ t u h k o. absurd (n _ _ (h, k)))
refused-codes (bad_steps x n) = (λ e. n (fitting _ _ e), λ t u h k o. absurd (n o))
refused-codes (left_stray x o f) = (omega arith, λ t u h k o. omega arith)
refused-codes (left_untyped x o n h f) = (omega arith, λ t u h k o. omega arith)
refused-codes (left_no_type x o e h) = (omega arith, λ t u h k o. omega arith)
refused-codes (right_stray x o t f) = (omega arith, λ t u h k o. omega arith)
refused-codes (right_untyped x o t n h f) = (omega arith, λ t u h k o. omega arith)
refused-codes (right_no_type x o t e h) = (omega arith, λ t u h k o. omega arith)
refused-codes (types_differ o h k x) = (omega arith, λ t u h k o. omega arith)

module _ (d : Derivation) where
  abbrev Says : ℕ → ℕ → ℕ → Type 0
  Says = Refused d

  abbrev View : Fault → Type 0
  View = Judged d

  -- the two types agree where the answers' do
  abbrev Agree : Bool → Type 0
  Agree same = (t u : Tree) (S R : Sort) → LeftTyped d t S → RightTyped d u R → (same ≡ true → S ≡ R) × (S ≡ R → same ≡ true)

  abbrev late_fault : ℕ → ℕ → ℕ → ℕ → Bool → Fault
  late_fault lc lk rc rk same = cond (eqb lc 0) (cond (eqb rc 0) (cond same (fault 0 0 0) (fault 12 0 0)) (fault rc 2 rk)) (fault lc 1 lk)

  same_by : (same : Bool) → Agree same → Ordered d → (t u : Tree) (S R : Sort) → LeftTyped d t S → RightTyped d u R → View (cond same (fault 0 0 0) (fault 12 0 0))
  same_by true agree o t u S R h k = none {p = record { left = t; right = u }} (record { left_term = h; right_term = rw ((agree t u S R h k).0 refl) k; order = o })
  same_by false agree o t u S R h k =
      found (types_differ o h k (λ e. let z = (agree t u S R h k).1 e in let x : ◌≡◌ {A = ℕ} 0 1 = cc in omega arith)) (omega arith)

  types_by : {t u : Tree} {lc lk rc rk : ℕ} (same : Bool) → Agree same → Ordered d → HeldTerm d.ds d.left d.n t → HeldTerm d.ds d.right d.m u
      → Late d.ds d.left d.n t lc lk → Late d.ds d.right d.m u rc rk → View (late_fault lc lk rc rk same)
  types_by same agree o h k (stray f) r = found (left_stray (h, k) o f) (omega arith)
  types_by same agree o h k (unsorted s x f) r = found (left_untyped (h, k) o s x f) (omega arith)
  types_by same agree o h k (untyped e x) r = found (left_no_type (h, k) o e x) (omega arith)
  types_by same agree o h k (typed a) (stray f) = found (right_stray (h, k) o a f) (omega arith)
  types_by same agree o h k (typed a) (unsorted s x f) = found (right_untyped (h, k) o a s x f) (omega arith)
  types_by same agree o h k (typed a) (untyped e x) = found (right_no_type (h, k) o a e x) (omega arith)
  types_by same agree o h k (typed a) (typed b) = same_by same agree o _ _ _ _ a b

  abbrev whole : ℕ → ℕ → ℕ → ℕ → Bool → ℕ → Fault
  whole lc lk rc rk same early = cond (eqb early 0) (late_fault lc lk rc rk same) (fault early 0 0)

  -- the steps' own fault, behind the terms
  steps_by : {t u : Tree} {lc lk rc rk : ℕ} (same : Bool) → Agree same → HeldTerm d.ds d.left d.n t → HeldTerm d.ds d.right d.m u → Late d.ds d.left
      d.n t lc lk → Late d.ds d.right d.m u rc rk
      → (b : Bool) (s : ℕ) → s ≡ steps_fault d.steps d.count → eqb s 0 ≡ b → View (whole lc lk rc rk same s)
  steps_by same agree h k l r true s e z = rw z (types_by same agree (fitting d.steps d.count (sym e ∙ eqb-true s 0 z)) h k l r)
  steps_by same agree h k l r false s e z = rw z (found {c = s} {s = 0} {k = 0} (rw e (bad_steps (h, k) (λ o. eqb-false s 0 z (e ∙ in_order_lem d.steps d.count o)))) (eqb-false s 0 z))

  early_late : {t u : Tree} {lc lk rc rk s : ℕ} → Late d.ds d.left d.n t lc lk → Late d.ds d.right d.m u rc rk → early_code lc rc s ≡ s
  unfolding early_code
  early_late l r =
      let a = late_size l in
      let b = late_size r in
      rw (ne_eqb _ 1 a.0, ne_eqb _ 1 b.0, ne_eqb _ 7 a.1, ne_eqb _ 8 a.2, ne_eqb _ 8 b.2)

  view_by : {lc lk rc rk : ℕ} (same : Bool) → Agree same → Side d.ds d.left d.n lc lk → Side d.ds d.right d.m rc rk → (s : ℕ) → s ≡ steps_fault d.steps d.count
      → View (whole lc lk rc rk same (early_code lc rc s))
  unfolding early_code
  view_by same agree (of_size_lem h) r s e = found (wrong_size (λ z. h z.0)) (omega arith)
  view_by same agree (of_declarations h g) (of_size_lem k) s e = found (wrong_size (λ z. k z.1)) (omega arith)
  view_by same agree (of_declarations h g) (of_declarations k b) s e = found (bad_declarations (h, k) g) (omega arith)
  view_by same agree (of_declarations h g) (of_term k b x) s e = absurd (not-both g b)
  view_by same agree (of_declarations h g) (late k r) s e = absurd (not-both g k.good)
  view_by same agree (of_term h g x) (of_size_lem k) s e = found (wrong_size (λ z. k z.1)) (omega arith)
  view_by same agree (of_term h g x) (of_declarations k b) s e = absurd (not-both b g)
  view_by same agree (of_term h g x) (of_term k b y) s e = found (no_term (h, k) g (λ t u z. x t z.0)) (omega arith)
  view_by same agree (of_term h g x) (late k r) s e = rw (ne_eqb _ 1 (late_size r).0) (found (no_term (h, k.size) g (λ t u z. x t z.0)) (omega arith))
  view_by same agree (late h l) (of_size_lem k) s e = rw (ne_eqb _ 1 (late_size l).0) (found (wrong_size (λ z. k z.1)) (omega arith))
  view_by same agree (late h l) (of_declarations k b) s e = absurd (not-both b h.good)
  view_by same agree (late h l) (of_term k b x) s e =
      let a = late_size l in
      rw (ne_eqb _ 1 a.0, ne_eqb _ 7 a.1, ne_eqb _ 8 a.2) (found (no_term (h.size, k) b (λ t u z. x u z.1)) (omega arith))
  view_by same agree (late h l) (late k r) s e = rw (early_late l r) (steps_by same agree h k l r _ s e refl)

  agree_of : Agree (same_type (typing_of d.ds d.left d.n).of (typing_of d.ds d.right d.m).of)
  agree_of t u S R h k =
      let W = well_formed d.ds h.good in
      let a = complete_entry d.ds d.left d.n t S h in
      let b = complete_entry d.ds d.right d.m u R k in (
        λ e. sorts-same W S R h.is_type k.is_type (proper W h.rules) (proper W k.rules) (answers_same _ _ d.n (depth t) d.m (depth u) S R a b e),
        λ e. rw (a, b, of_type_lem d.n (depth t) S, of_type_lem d.m (depth u) R, e) (type-same (answer_of 0 0 (T.typed R)).of),
      )

pub judges : Judges
unfolding fault_in fault_of types_fault
judges d =
    view_by d _ (agree_of d) (side_of_lem (decided d.ds d.left d.n)) (side_of_lem (decided d.ds d.right d.m)) (steps_fault d.steps d.count) refl

-- What is declared of a name: where the words of its sort stand, and the sort that they make on the stack.
use mathlib.Core.Path.{◌≡◌, refl, ◌∙◌, ap}
use mathlib.Core.Bool.{Bool, true, false, cond}
use mathlib.Core.Logic.{◌≢◌}
use mathlib.Core.List.{List, [], ◌∷◌, ◌++◌}
use mathlib.Core.Option.{Option, some, none as nothing}
use Rattle.std.specs.Prelude.{Option as CodeOption, Some, None}
use Prim.Native.Nat.{ℕ, zero, suc, ◌+◌, ◌/◌, ◌%◌, ◌≤◌, ◌<◌, min}
use native.Mathlib.Omega.{arith}
use borrow.Author.Tests.{eq-eqb, ne_eqb, ltb-true, lt-ltb, le-ltb}
use lib.Dec.{eqb, ltb}
use lib.ListN.{length, get_or, set, length-append}
use Rattle.words.specs.Words.{laid}
use Rattle.term.specs.declared.heads.Class.TheVariants.{Index, Scalar, Ket, Bra, Operator}
use Rattle.term.specs.Trees.{Tree}
use Rattle.types.specs.Sorts.{basis}
use Rattle.declarations.specs.Declarations.{size, basis_at, variable_at, basis_in, variable_in, good_declarations}
use Rattle.declarations.proofs.Entries.{declarations, basis_len, kind, first_len, second_len, basis_good, basis_room, variable_good, variable_room, kind_0, kind_1, kind_2, kind_3}
use Rattle.typing.specs.declared.sorts.Run as R
use Rattle.typing.specs.declared.sorts.Sorted as S
use Rattle.typing.specs.declared.lookup.Entry as E
use Rattle.typebook.specs.Code.Shapes.{Shape, shape, shape_of, given}
use Rattle.typing.specs.Code.Shapes.{shape_at, run_at, Inside, Small, Room, plain, Answers}
use Rattle.typing.specs.Code.Conclude.{run_of}
use Rattle.typing.specs.Code.Verdicts.{bound_shape, sorted_by, bare_entry, basis_entry, variable_entry, entry_of, leaf_of}
use Rattle.typing.proofs.Lying.{run_length, above-laid, answers_none, laid_both, shape-laid, set-laid}

-- ---- where an entry lies, and that its indices are short
pub good-size : (ds : List ℕ) → good_declarations ds ≡ true → length ds ≡ size
good-size ds good = (declarations ds good).long

pub basis_entry_lem : (ds : List ℕ) (a : ℕ) → (good_declarations ds ≡ true) × (a < get_or ds 1 0) → (length ds ≡ size) × (a < 32) × (basis_len ds a ≤ 63)
basis_entry_lem ds a h = let r = basis_room ds a h in (r.0, r.1, (basis_good ds a h).few)

pub variable_entry_lem : (ds : List ℕ) (a : ℕ) → (good_declarations ds ≡ true) × (a < get_or ds 2 0) → (length ds ≡ size) × (a < 32) × (first_len ds a ≤ 63) × (second_len ds a ≤ 63)
variable_entry_lem ds a h = let r = variable_room ds a h in let g = variable_good ds a h in (r.0, r.1, g.first-few, g.second-few)

-- ---- two runs of the declarations, one behind the other
abbrev pub Two : List ℕ → R.Run → R.Run → Type 0
Two ds l r = Inside l ds × Inside r ds × (l.len ≤ 63) × (r.len ≤ 63)

module _ (ds : List ℕ) (l r : R.Run) (h : Two ds l r) (top : ℕ) (st : List ℕ) (room : Room top st) where
  bound : top + length (run_at ds l) + length (run_at ds r) ≤ length st
  bound = omega (arith, run_length ds l.at l.len h.0, run_length ds r.at r.len h.1)

  pub both-put : {mid st' xs ys : List ℕ} {e : ℕ} → xs ≡ run_at ds l → ys ≡ run_at ds r → (e ≡ min (top + length xs) (length st + 1)) × (mid ≡ laid st top xs) → st' ≡ laid mid e ys
      → st' ≡ laid st top (run_at ds l ++ run_at ds r)
  both-put {e} x y a f =
      let q = rw x at a.0 in
      let z : e ≡ top + length (run_at ds l) = omega (arith, bound) in
      f ∙ rw (a.1, z, x, y) (laid_both st top (run_at ds l) (run_at ds r) bound)

  fits : top + length (run_at ds l ++ run_at ds r) ≤ length st
  fits = omega (arith, bound, length-append (run_at ds l) (run_at ds r))

  both-there : shape_at (laid st top (run_at ds l ++ run_at ds r)) top (record { class = Operator; left = l.len; right = r.len }) ≡ shape Operator (run_at ds l) (run_at ds r)
  both-there = rw (run_length ds l.at l.len h.0, run_length ds r.at r.len h.1) at (shape-laid Operator st top (run_at ds l) (run_at ds r) fits)

-- ---- what an entry says
pub record Holds (ds : List ℕ) (o : Option Shape) (e : E.Entry) : Type 0 where
  pub two : Two ds e.left e.right
  pub small : Small e.sorted
  pub is : (top : ℕ) (st : List ℕ) → Room top st → some (shape_at (laid st top (run_at ds e.left ++ run_at ds e.right)) top e.sorted) ≡ o

abbrev pub Holding : List ℕ → Option Shape → CodeOption E.Entry → Type 0
Holding ds o None = o ≡ nothing
Holding ds o (Some e) = Holds ds o e

bare-holds : (ds : List ℕ) → Holds ds (some (shape Scalar [] [])) bare_entry
bare-holds ds = record { two = (omega arith, omega arith, omega arith, omega arith); small = (omega arith, omega arith); is = λ top st h. refl }

basis_holds : (ds : List ℕ) (a : ℕ) → (good_declarations ds ≡ true) × (a < get_or ds 1 0) → Holds ds (some (shape_of (basis (basis_in ds a)))) (basis_entry ds a)
unfolding basis_entry basis_in
basis_holds ds a h =
    let b = basis_entry_lem ds a h in
    let t : Two ds (run_of (basis_at a + 1) (basis_len ds a)) (run_of 0 0) = (omega arith, omega arith, b.2, omega arith) in
    record {
      two = t;
      small = (b.2, omega arith);
      is = λ top st r. rw (ap (λ (s : Shape). s.left) (both-there ds (run_of (basis_at a + 1) (basis_len ds a)) (run_of 0 0) t top st r), (basis_good ds a h).same);
    }

-- a variable, by its kind
module _ (ds : List ℕ) (a : ℕ) (h : (good_declarations ds ≡ true) × (a < get_or ds 2 0)) where
  abbrev rows_at : R.Run
  rows_at = run_of (variable_at a + 3) (first_len ds a)

  abbrev columns_at : R.Run
  columns_at = run_of (variable_at a + 66) (second_len ds a)

  both : Two ds rows_at columns_at
  both = let b = variable_entry_lem ds a h in (omega arith, omega arith, b.2, b.3)

  small_by : (k : ℕ) → Small (sorted_by k (first_len ds a) (second_len ds a))
  small_by k = go (eqb k 0) (eqb k 1) (eqb k 2) both.2 both.3
    where
      go : {n m : ℕ} (x y z : Bool) → n ≤ 63 → m ≤ 63
          → Small (cond x plain (cond y (record { class = Ket; left = n; right = 0 }) (cond z (record { class = Bra; left = 0; right = n }) (record { class = Operator; left = n; right = m }))))
      go true y z i j = (omega arith, omega arith)
      go false true z i j = (i, omega arith)
      go false false true i j = (omega arith, i)
      go false false false i j = (i, j)

  shape_by : (k : ℕ) → kind ds a ≡ k → (top : ℕ) (st : List ℕ) → Room top st
      → shape_at (laid st top (run_at ds rows_at ++ run_at ds columns_at)) top (sorted_by k (first_len ds a) (second_len ds a)) ≡ shape_of (variable_in ds a)
  shape_by zero e top st r = rw (kind_0 ds a e)
  shape_by (suc zero) e top st r = rw (kind_1 ds a e, ap (λ (s : Shape). s.left) (both-there ds rows_at columns_at both top st r), ((variable_good ds a h).rows-good (λ z. omega arith)).same)
  shape_by (suc (suc zero)) e top st r =
      let z : top + 0 ≡ top = omega arith in
      rw (kind_2 ds a e, z, ap (λ (s : Shape). s.left) (both-there ds rows_at columns_at both top st r), ((variable_good ds a h).rows-good (λ z. omega arith)).same)
  shape_by (suc (suc (suc zero))) e top st r =
      rw (kind_3 ds a e) (both-there ds rows_at columns_at both top st r ∙ rw (((variable_good ds a h).rows-good (λ z. omega arith)).same, ((variable_good ds a h).columns-good e).same))
  shape_by (suc (suc (suc (suc k)))) e top st r = absurd (omega arith)

  variable_holds : Holds ds (some (shape_of (variable_in ds a))) (variable_entry ds a)
  unfolding variable_entry
  variable_holds = record { two = both; small = small_by (kind ds a); is = λ top st r. ap some (shape_by (kind ds a) refl top st r) }

-- by the word
pub entry-holds : (ds : List ℕ) (bs : List Tree) (w : ℕ) → good_declarations ds ≡ true → w / 256 ≢ 1 → w / 256 ≢ 28 → Holding ds (leaf_of ds bs w) (entry_of ds w)
unfolding entry_of leaf_of
entry-holds ds bs w g n m = rw (ne_eqb (w / 256) 1 n, ne_eqb (w / 256) 28 m) (go (eqb (w / 256) 3) (ltb (w % 256) (get_or ds 1 0)) (eqb (w / 256) 26) (ltb (w % 256) (get_or ds 2 0)) refl refl)
  where
    go : (b c d e : Bool) → ltb (w % 256) (get_or ds 1 0) ≡ c → ltb (w % 256) (get_or ds 2 0) ≡ e
        → Holding ds (cond b (given c (some (shape_of (basis (basis_in ds (w % 256)))))) (cond d (given e (some (shape_of (variable_in ds (w % 256))))) (some (shape Scalar [] []))))
        (cond b (cond c (Some (basis_entry ds (w % 256))) None) (cond d (cond e (Some (variable_entry ds (w % 256))) None) (Some bare_entry)))
    go true true d e p q = basis_holds ds (w % 256) (g, ltb-true _ _ p)
    go true false d e p q = refl
    go false c true true p q = variable_holds ds (w % 256) (g, ltb-true _ _ q)
    go false c true false p q = refl
    go false c false e p q = bare-holds ds

-- ---- answers
pub leaf_put : (ds : List ℕ) {o : Option Shape} (e : E.Entry) {top : ℕ} {st st' : List ℕ} → Holds ds o e → Room top st → st' ≡ laid st top (run_at ds e.left ++ run_at ds e.right)
    → Answers o (Some e.sorted) top st st'
leaf_put ds e {top} {st} h r l =
    rw l (record { told = h.is top st r; small = h.small; kept = above-laid st top (run_at ds e.left ++ run_at ds e.right) (fits ds e.left e.right h.two top st r) })

-- one word: a type's name is an index, where it is declared
pub word-none : (ds : List ℕ) (bs : List Tree) (w : ℕ) (st : List ℕ) (top : ℕ) → w / 256 ≡ 1 → get_or ds 0 0 ≤ w % 256 → Answers (leaf_of ds bs w) None top st st
unfolding leaf_of
word-none ds bs w st top e h = rw (eq-eqb (w / 256) 1 e, le-ltb _ _ h) (answers_none refl)

pub word-put : (ds : List ℕ) (bs : List Tree) (w : ℕ) (st : List ℕ) (top : ℕ) → w / 256 ≡ 1 → w % 256 < get_or ds 0 0 → Room top st
    → Answers (leaf_of ds bs w) (Some (record { class = Index; left = 1; right = 0 })) top st (set st top w)
unfolding leaf_of
word-put ds bs w st top e h r =
    let b : top + 1 ≤ length st = omega arith in
    rw (eq-eqb (w / 256) 1 e, lt-ltb _ _ h, set-laid st top w (omega arith)) (record {
      told = ap some (shape-laid Index st top (w ∷ []) [] b);
      small = (omega arith, omega arith);
      kept = above-laid st top (w ∷ []) b;
    })

-- a bound basis: its sum stands for as many words as its record says
pub bound-put : (ds : List ℕ) (bs : List Tree) (w : ℕ) {r : CodeOption S.Sorted} {top : ℕ} {st st' : List ℕ} → w / 256 ≡ 28 → Answers (bound_shape (get_or ds 0 0) (w % 256) bs) r top st st'
    → Answers (leaf_of ds bs w) r top st st'
unfolding leaf_of
bound-put ds bs w e a = rw (e) a

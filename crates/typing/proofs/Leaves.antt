-- A head without children on shapes: one line for each line of the table of heads.
use mathlib.Core.Path.{◌≡◌, refl, ◌∙◌, ap}
use mathlib.Core.Bool.{Bool, true, false, cond}
use mathlib.Core.List.{List, [], ◌∷◌}
use mathlib.Core.Option.{Option, some, none as nothing}
use Prim.Native.Nat.{ℕ, zero, suc, ◌+◌, ◌*◌, ◌/◌, ◌%◌, ◌<◌}
use native.Mathlib.Nat.{zero-add, div-add-mod'}
use native.Mathlib.Omega.{arith}
use borrow.Author.Tests.{ltb-true, ltb-false}
use lib.Dec.{ltb, eqb-suc-zero}
use lib.ListN.{get_or, get_elem?}
use Rattle.term.specs.declared.heads.Class.TheVariants.{Index, Basis, Term}
use Rattle.term.specs.Heads.{Label, type_name, basis_name, variable, bound_basis, Head, unknown, named, fixed, counted, heads, unread, labelled, reading, read, word}
use Rattle.term.specs.Terms.{max_bodies}
use Rattle.term.specs.Trees.{Tree, words, count}
use Rattle.term.proofs.Readings.{Every, every_at, ◌⨾◌}
use Rattle.typebook.specs.Code.Shapes.{shape_of, given}
use Rattle.typebook.specs.Code.Lines.{concluded}
use Rattle.typing.specs.Code.Verdicts.{index_shape, bound_shape, leaf_of}
use Rattle.declarations.specs.Declarations.{context_in, basis_in, variable_in, context_at}
use Rattle.types.specs.Sorts.{Sort, basis}
use Rattle.types.specs.TypeOf.{listed, index_tree, bound_of, fails, conclude}
use Rattle.words.specs.Listed.{up_to}
use Rattle.words.proofs.Listed.{up_to-at, up_to-past}
use Rattle.typebook.proofs.OnShapes.{on_cond}

-- a declared name's entry
on_listed : {A : Type 0} (n : ℕ) (f : ℕ → A) (F : A → Sort) (a : ℕ) → concluded (listed (get_elem? (up_to n f) a) F) ≡ given (ltb a n) (some (shape_of (F (f a))))
unfolding listed
on_listed n f F a = go (ltb a n) refl
  where
    go : (b : Bool) → ltb a n ≡ b → concluded (listed (get_elem? (up_to n f) a) F) ≡ given b (some (shape_of (F (f a))))
    go true e = rw (up_to-at n f a (ltb-true a n e))
    go false e = rw (up_to-past n f a (ltb-false a n e))

-- a bound basis
on_index : (n : ℕ) (o : Option Tree) → concluded (bound_of n o) ≡ index_shape n o
unfolding bound_of index_shape
on_index n nothing = refl
on_index n (some σ) = on_cond (index_tree n σ) _

on_bound : (n a : ℕ) (bs : List Tree) → concluded (cond (ltb a max_bodies) (bound_of n (get_elem? bs a)) fails) ≡ bound_shape n a bs
unfolding bound_shape
on_bound n a bs = go (ltb a max_bodies)
  where
    go : (b : Bool) → concluded (cond b (bound_of n (get_elem? bs a)) fails) ≡ given b (index_shape n (get_elem? bs a))
    go true = on_index n (get_elem? bs a)
    go false = refl

module _ (ds : List ℕ) (bs : List Tree) where
  abbrev Law : Label → ℕ → Type 0
  Law l w = concluded (conclude (context_at ds bs) l []) ≡ leaf_of ds bs w

  abbrev RowLaw : ℕ → Head → Type 0
  RowLaw k unknown = Unit {0}
  RowLaw k (named f c) = (a : ℕ) → a < 256 → Law (f a) (k * 256 + a)
  RowLaw k (fixed l c []) = Law l (k * 256 + 0)
  RowLaw k (fixed l c (x ∷ xs)) = Unit {0}
  RowLaw k (counted l c c') = Unit {0}

  high : (k a : ℕ) → a < 256 → (k * 256 + a) / 256 ≡ k
  high k a h = omega arith

  low : (k a : ℕ) → a < 256 → (k * 256 + a) % 256 ≡ a
  low k a h = omega arith

  type_row : RowLaw 1 (named type_name Index)
  unfolding conclude leaf_of context_in words word count
  type_row a h = rw (high 1 a h, low 1 a h) (on_cond (ltb a (get_or ds 0 0)) _)

  basis_row : RowLaw 3 (named basis_name Basis)
  unfolding conclude leaf_of context_in
  basis_row a h = rw (high 3 a h, low 3 a h) (on_listed (get_or ds 1 0) (basis_in ds) basis a)

  variable_row : RowLaw 26 (named variable Term)
  unfolding conclude leaf_of context_in
  variable_row a h = rw (high 26 a h, low 26 a h) (on_listed (get_or ds 2 0) (variable_in ds) (λ S. S) a)

  bound-row : RowLaw 28 (named bound_basis Basis)
  unfolding conclude leaf_of context_in
  bound-row a h = rw (high 28 a h, low 28 a h) (on_bound (get_or ds 0 0) a bs)

  rows : Every RowLaw 0 heads
  unfolding heads conclude leaf_of
  rows =
      tt ⨾ type_row ⨾ tt ⨾ basis_row ⨾ tt ⨾ refl ⨾ refl ⨾ tt ⨾ tt ⨾ tt ⨾ tt ⨾ tt ⨾ tt ⨾ tt ⨾ tt ⨾ tt ⨾ tt ⨾ tt ⨾ tt ⨾ tt ⨾ tt ⨾ tt ⨾ tt ⨾ tt ⨾ tt ⨾ tt ⨾ variable_row
      ⨾ tt ⨾ bound-row ⨾ tt

  row_law : (k : ℕ) (h : Head) → RowLaw k h → (a : ℕ) → a < 256 → (l : Label) → reading h a ≡ labelled l 0 → Law l (k * 256 + a)
  unfolding reading
  row_law k unknown x a b l e = cc
  row_law k (named f c) x a b l e = cc (x a b)
  row_law k (fixed m c []) x zero b l e = cc x
  row_law k (fixed m c (y ∷ ys)) x zero b l e = cc
  row_law k (fixed m c cs) x (suc a) b l e = let e' : unread ≡ labelled l 0 = rw eqb-suc-zero at e in cc
  row_law k (counted m c c') x zero b l e = cc
  row_law k (counted m c c') x (suc a) b l e = let e' : labelled m (suc a) ≡ labelled l 0 = rw eqb-suc-zero at e in cc

  -- what a word's head concludes where it has no children
  pub leaf_law : (w : ℕ) (l : Label) → read w ≡ labelled l 0 → concluded (conclude (context_at ds bs) l []) ≡ leaf_of ds bs w
  unfolding read
  leaf_law w l e =
      row_law (w / 256) (get_or heads (w / 256) unknown) (rw zero-add at (every_at RowLaw (λ k. tt) heads 0 rows (w / 256))) (w % 256) (omega arith) l e
      ∙ ap (leaf_of ds bs) (div-add-mod' w 256)

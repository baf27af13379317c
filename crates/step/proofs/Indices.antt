-- The indices of a part's type: they are short, and which side of the part each is.
use mathlib.Core.Path.{◌≡◌, refl, ◌∙◌, ap}
use mathlib.Core.Logic.{◌≢◌, ◌⊎◌, inl, inr, ⊎_elim}
use mathlib.Core.Bool.{Bool, true, false}
use mathlib.Core.List.{List, [], ◌∷◌}
use Prim.Native.Nat.{ℕ, ◌≤◌}
use native.Mathlib.Omega.{arith}
use lib.ListN.{length}
use Rattle.term.specs.declared.heads.Class.{Class}
use Rattle.term.specs.declared.heads.Class.TheVariants.{Nothing, Index, Basis, Scalar, Ket, Bra, Operator, Array, Term}
use Rattle.term.specs.Heads.{word}
use Rattle.term.specs.Terms.{max_depth, max_index}
use Rattle.term.specs.Trees.{Tree, words}
use Rattle.term.specs.Parts.{parse, tree_in}
use Rattle.types.specs.Sorts.{Sort, index, basis, scalar, ket, bra, operator, Context}
use Rattle.types.specs.Rules.{Proper, WellFormed}
use Rattle.types.specs.TypeOf.{Inferred, typed, untyped, type_of}
use Rattle.types.proofs.Indices.{bodies_well}
use Rattle.types.proofs.Complete.{complete}
use Rattle.types.proofs.Proper.{proper, index_short}
use Rattle.types.proofs.Sound.{sound}
use Rattle.declarations.specs.Declarations.{context_at}
use Rattle.rules.specs.Patterns.{no_index, first_index, second_index}
use Rattle.rules.specs.Rewrite.{sort_in, sort_of}
use Rattle.typebook.specs.Code.Shapes.{shape_of, number_of}
use Rattle.declarations.proofs.Entries.{well_formed}
use Rattle.shapes.specs.Reading.{side_in, Read, class_at, side_at}
use Rattle.shapes.proofs.Begun.{begins-tree}
use Rattle.shapes.proofs.Theorems.{reads, index_read}
use Rattle.step.specs.Code.Building.{HasSort, chosen_index}

-- ---- an index of a type is short, and so is what stands for none
none-short : length (words no_index) ≤ max_index
unfolding words
none-short = omega arith

module _ {Γ : Context} (W : WellFormed Γ) where
  sort-short : (b : Bool) (S : Sort) → Proper Γ S → length (words (chosen_index b S)) ≤ max_index
  sort-short true (index σ) p = none-short
  sort-short true (basis σ) p = none-short
  sort-short true scalar p = none-short
  sort-short true (ket σ) p = none-short
  sort-short true (bra σ) p = none-short
  sort-short true (operator σ τ) p = index_short W p.1
  sort-short false (index σ) p = none-short
  sort-short false (basis σ) p = none-short
  sort-short false scalar p = none-short
  sort-short false (ket σ) p = index_short W p
  sort-short false (bra σ) p = index_short W p
  sort-short false (operator σ τ) p = index_short W p.0

  pub chosen-short : (b : Bool) (t : Tree) (T : Inferred) → type_of Γ 0 t ≡ T → length (words (chosen_index b (sort_in T))) ≤ max_index
  chosen-short b t (typed S) e = sort-short b S (proper W (sound W 0 t e))
  chosen-short b t (untyped k) e = sort-short b scalar tt

-- ---- a class by its number
ket-is : (c : Class) → number_of c ≡ 4 → c ≡ Ket
ket-is Nothing e = absurd (omega arith)
ket-is Index e = absurd (omega arith)
ket-is Basis e = absurd (omega arith)
ket-is Scalar e = absurd (omega arith)
ket-is Ket e = refl
ket-is Bra e = absurd (omega arith)
ket-is Operator e = absurd (omega arith)
ket-is Array e = absurd (omega arith)
ket-is Term e = absurd (omega arith)

bra-is : (c : Class) → number_of c ≡ 5 → c ≡ Bra
bra-is Nothing e = absurd (omega arith)
bra-is Index e = absurd (omega arith)
bra-is Basis e = absurd (omega arith)
bra-is Scalar e = absurd (omega arith)
bra-is Ket e = absurd (omega arith)
bra-is Bra e = refl
bra-is Operator e = absurd (omega arith)
bra-is Array e = absurd (omega arith)
bra-is Term e = absurd (omega arith)

operator-is : (c : Class) → number_of c ≡ 6 → c ≡ Operator
operator-is Nothing e = absurd (omega arith)
operator-is Index e = absurd (omega arith)
operator-is Basis e = absurd (omega arith)
operator-is Scalar e = absurd (omega arith)
operator-is Ket e = absurd (omega arith)
operator-is Bra e = absurd (omega arith)
operator-is Operator e = refl
operator-is Array e = absurd (omega arith)
operator-is Term e = absurd (omega arith)

-- ---- the code's choice, by the number of the class that was read off: the index is on a side, or there is none
module _ (n : ℕ) where
  second-there : (S : Sort) → n ≡ number_of (shape_of S).class → n ≡ 6 → side_in true (shape_of S) ≡ words (second_index S)
  second-there (index σ) e h = absurd (omega arith)
  second-there (basis σ) e h = absurd (omega arith)
  second-there scalar e h = absurd (omega arith)
  second-there (ket σ) e h = absurd (omega arith)
  second-there (bra σ) e h = absurd (omega arith)
  second-there (operator σ τ) e h = refl

  second_missing : (S : Sort) → n ≡ number_of (shape_of S).class → n ≢ 6 → 1280 ∷ [] ≡ words (second_index S)
  unfolding words word
  second_missing (index σ) e h = refl
  second_missing (basis σ) e h = refl
  second_missing scalar e h = refl
  second_missing (ket σ) e h = refl
  second_missing (bra σ) e h = refl
  second_missing (operator σ τ) e h = absurd (h e)

  rows-there : (S : Sort) → n ≡ number_of (shape_of S).class → (n ≡ 4) ⊎ (n ≡ 6) → side_in false (shape_of S) ≡ words (first_index S)
  rows-there (index σ) e h = absurd (omega arith)
  rows-there (basis σ) e h = absurd (omega arith)
  rows-there scalar e h = absurd (omega arith)
  rows-there (ket σ) e h = refl
  rows-there (bra σ) e h = absurd (omega arith)
  rows-there (operator σ τ) e h = refl

  columns-there : (S : Sort) → n ≡ number_of (shape_of S).class → n ≡ 5 → side_in true (shape_of S) ≡ words (first_index S)
  columns-there (index σ) e h = absurd (omega arith)
  columns-there (basis σ) e h = absurd (omega arith)
  columns-there scalar e h = absurd (omega arith)
  columns-there (ket σ) e h = absurd (omega arith)
  columns-there (bra σ) e h = refl
  columns-there (operator σ τ) e h = absurd (omega arith)

  first_missing : (S : Sort) → n ≡ number_of (shape_of S).class → n ≢ 4 → n ≢ 5 → n ≢ 6 → 1280 ∷ [] ≡ words (first_index S)
  unfolding words word
  first_missing (index σ) e h i j = refl
  first_missing (basis σ) e h i j = refl
  first_missing scalar e h i j = refl
  first_missing (ket σ) e h i j = absurd (h e)
  first_missing (bra σ) e h i j = absurd (i e)
  first_missing (operator σ τ) e h i j = absurd (j e)

-- ---- what is read off a typed part at the front of the words
module _ (ds : List ℕ) (bodies : List Tree) (outer : ℕ → List ℕ) (ws : List ℕ) (h : HasSort ds bodies outer ws) where
  abbrev sort : Sort
  sort = h.sorted.0

  reading : Read ds ws outer max_depth 0 sort
  reading = reads ds ws outer max_depth 0 bodies h.tree sort h.good h.begins h.sorted.1 h.bound

  -- the index that typing finds
  abbrev pub index_of : Bool → List ℕ
  index_of second = words (chosen_index second (sort_of (context_at ds bodies) (tree_in (parse ws))))

  index_is : (b second : Bool) → second ≡ b → {vs : List ℕ} → vs ≡ words (chosen_index b sort) → vs ≡ index_of second
  index_is b second e x = rw (begins-tree h.begins, complete (bodies_well (well_formed ds h.good) bodies) h.sorted.1 0, e) x

  module _ (n : ℕ) (class : n ≡ class_at ds ws max_depth 0) where
    pub class-is : n ≡ number_of (shape_of sort).class
    class-is = class ∙ reading.class

  module _ (c : Class) (class : number_of c ≡ class_at ds ws max_depth 0) where
    is : number_of c ≡ number_of (shape_of sort).class
    is = class-is (number_of c) class

    module _ (second : Bool) (b : second ≡ true) where
      pub second-read : c ≡ Operator → side_at ds ws outer true max_depth 0 ≡ index_of second
      second-read e = index_is true second b (index_read reading true (second_index sort) (second-there (number_of c) sort is (ap number_of e)))

      pub no_second : c ≢ Operator → 1280 ∷ [] ≡ index_of second
      no_second e = index_is true second b (second_missing (number_of c) sort is (λ z. e (operator-is c z)))

    module _ (second : Bool) (b : second ≡ false) where
      pub rows_read : (c ≡ Ket) ⊎ (c ≡ Operator) → side_at ds ws outer false max_depth 0 ≡ index_of second
      rows_read e = index_is false second b (index_read reading false (first_index sort) (rows-there (number_of c) sort is (⊎_elim (λ k. inl (ap number_of k)) (λ o. inr (ap number_of o)) e)))

      pub columns_read : c ≡ Bra → side_at ds ws outer true max_depth 0 ≡ index_of second
      columns_read e = index_is false second b (index_read reading true (first_index sort) (columns-there (number_of c) sort is (ap number_of e)))

      pub no_first : c ≢ Ket → c ≢ Bra → c ≢ Operator → 1280 ∷ [] ≡ index_of second
      no_first h i j = index_is false second b (first_missing (number_of c) sort is (λ z. h (ket-is c z)) (λ z. i (bra-is c z)) (λ z. j (operator-is c z)))

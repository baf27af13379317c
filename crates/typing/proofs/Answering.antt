-- The tests of the typing of one term, one after the other, and what its answer says by the published rules.
use mathlib.Core.Path.{◌≡◌, refl, sym, ◌∙◌, ap}
use mathlib.Core.Bool.{true, false, and-eq-true_iff}
use mathlib.Core.Logic.{◌≢◌}
use mathlib.Core.List.{List, [], ◌∷◌, ◌++◌}
use mathlib.Core.Option.{some, none as nothing}
use Prim.Native.Nat.{ℕ, zero, suc, ◌+◌, ◌-◌, ◌≤◌, ◌<◌}
use native.Mathlib.Nat.{add-sub_cancel_left}
use native.Mathlib.Omega.{arith}
use borrow.Author.Tests.{eq-eqb, ne_eqb, leb-true}
use lib.Dec.{leb}
use lib.ListN.{length, take, drop, replicate}
use Rattle.words.specs.Words.{overlaid}
use Rattle.term.specs.declared.terms.Names.{Names}
use Rattle.term.specs.Parts.{parse, tree_in, first, first_depth, part, part_depth}
use Rattle.term.specs.Terms.{max_words, max_depth, IsTerm, is_term}
use Rattle.term.specs.Trees.{Tree, none, ◌▹◌, words}
use Rattle.term.proofs.Parsing.{parse-tree, some_words}
use Rattle.term.proofs.TermTest.{term-tree}
use Rattle.typing.specs.declared.sorts.Sorted as S
use Rattle.typing.specs.declared.terms.Kind as K
use Rattle.typing.specs.declared.terms.Kind.TheVariants as Kinds
use Rattle.std.specs.Prelude.{Some, None}
use Rattle.typing.specs.declared.terms.Typing as A
use Rattle.typing.specs.Answers.{pad, type_record, refuse, typing, strayed, answer_of, typing_of}
use Rattle.declarations.specs.Declarations.{context_in, names_in, good_declarations}
use Rattle.types.specs.Sorts.{Sort, index, basis, scalar, ket, bra, operator}
use Rattle.types.specs.Rules.{◌⊢◌∶◌}
use Rattle.types.specs.Strays.{FirstStray, NoStray, stray_of}
use Rattle.types.specs.TypeOf.{typed, type_of}
use Rattle.types.proofs.Strays.{strays, typed_no_stray}
use Rattle.declarations.proofs.Entries.{well_formed}
use Rattle.typebook.specs.Code.Shapes.{Shape, shape_of}
use Rattle.typing.specs.Code.Shapes.{shape_at, Small}
use Rattle.typing.specs.Code.Verdicts.{kind_of}
use Rattle.typing.proofs.Lying.{run_length}

-- the words that pass test 8 are those of a term
pub record Here (N : Names) (ws : List ℕ) (n : ℕ) : Type 0 where
  pub tree : Tree
  pub is : words tree ≡ take n ws
  pub term : IsTerm N tree
  pub inside : n ≤ length ws
  pub parsed : parse (take n ws) ≡ tree ▹ none

pub here : (N : Names) (ws : List ℕ) (n : ℕ) → is_term N ws n ≡ true → Here N ws n
unfolding is_term
here N ws n e =
    let p = (and-eq-true_iff (leb n (length ws)) _).0 e in
    let t = term-tree N (take n ws) p.1 in
    record {
      tree = t.0;
      is = t.1;
      term = t.2;
      inside = leb-true _ _ p.0;
      parsed = sym (ap parse t.1) ∙ parse-tree t.0 t.2.formed;
    }

module _ {N : Names} {ws : List ℕ} {n : ℕ} (h : Here N ws n) where
  pub here_part : 0 < length (part (take n ws) 0)
  unfolding part first
  here_part = rw h.parsed (some_words h.tree)

  pub here_shallow : part_depth (take n ws) 0 ≤ max_depth
  unfolding part_depth first_depth
  here_shallow = rw h.parsed h.term.shallow

-- ---- the tests in their order: the first that fails decides
module _ (ds ws : List ℕ) (n : ℕ) where
  pub wrong_size : length ws ≢ max_words → typing_of ds ws n ≡ refuse 1 0
  unfolding typing_of
  wrong_size h = rw (ne_eqb _ _ h)

  module _ (size : length ws ≡ max_words) where
    pub bad_declarations : good_declarations ds ≡ false → typing_of ds ws n ≡ refuse 7 0
    unfolding typing_of
    bad_declarations h = rw (eq-eqb _ _ size, h)

    module _ (good : good_declarations ds ≡ true) where
      pub no_term : is_term (names_in ds) ws n ≡ false → typing_of ds ws n ≡ refuse 8 0
      unfolding typing_of
      no_term h = rw (eq-eqb _ _ size, good, h)

      pub the_term : is_term (names_in ds) ws n ≡ true
          → typing_of ds ws n ≡ strayed (stray_of 0 0 (tree_in (parse (take n ws)))) (answer_of n (part_depth (take n ws) 0) (type_of (context_in ds) 0 (tree_in (parse (take n ws)))))
      unfolding typing_of
      the_term h = rw (eq-eqb _ _ size, good, h)

-- ---- the first stray part of a term, and that there is none where it has a sort
module _ (ds : List ℕ) (t : Tree) where
  pub first-stray : {k : ℕ} → stray_of 0 0 t ≡ some k → FirstStray (context_in ds) t k
  unfolding context_in
  first-stray e = ((strays (context_in ds) t).0 _).0 e

  pub stray-first : {k : ℕ} → FirstStray (context_in ds) t k → stray_of 0 0 t ≡ some k
  unfolding context_in
  stray-first f = ((strays (context_in ds) t).0 _).1 f

  pub no_stray : stray_of 0 0 t ≡ nothing → NoStray (context_in ds) t
  unfolding context_in
  no_stray e = (strays (context_in ds) t).1.0 e

  pub stray-none : NoStray (context_in ds) t → stray_of 0 0 t ≡ nothing
  unfolding context_in
  stray-none n = (strays (context_in ds) t).1.1 n

  pub sort-none : good_declarations ds ≡ true → {S : Sort} → context_in ds ⊢ t ∶ S → stray_of 0 0 t ≡ nothing
  sort-none good d = stray-none (typed_no_stray (context_in ds) (well_formed ds good) t _ d)

-- ---- words laid over zeros are the words with zeros behind
zeros : (m k : ℕ) → m ≤ k → replicate {A = ℕ} m 0 ≡ take m (replicate k 0)
zeros zero k h = refl
zeros (suc m) zero h = absurd (omega arith)
zeros (suc m) (suc k) h = rw (zeros m k (omega arith))

over_zeros : (ws : List ℕ) (m k : ℕ) → length ws ≤ m → m ≤ k → take m ws ++ drop (length ws) (replicate m 0) ≡ take m (ws ++ replicate k 0)
over_zeros [] zero k h l = refl
over_zeros [] (suc m) k h l = zeros (suc m) k l
over_zeros (w ∷ ws) zero k h l = absurd (omega arith)
over_zeros (w ∷ ws) (suc m) k h l = rw (over_zeros ws m k (omega arith) (omega arith))

padded : (src : List ℕ) → length src ≤ 63 → overlaid (replicate 63 0) src ≡ pad src
unfolding overlaid pad
padded src h = over_zeros src 63 63 h (omega arith)

-- ---- the answer by the kind
-- a sort is a type unless it is an index or a basis
low : (n d : ℕ) (T : Sort) (k l : ℕ) → None ≡ kind_of (shape_of T).class k l → refuse 11 0 ≡ answer_of n d (typed T)
unfolding answer_of
low n d (index σ) k l e = refl
low n d (basis σ) k l e = refl
low n d scalar k l e = cc
low n d (ket σ) k l e = cc
low n d (bra σ) k l e = cc
low n d (operator σ τ) k l e = cc

high : (n d : ℕ) (T : Sort) {kind : K.Kind} → Some kind ≡ kind_of (shape_of T).class (length (shape_of T).left) (length (shape_of T).right)
    → typing n d kind (shape_of T).left (shape_of T).right ≡ answer_of n d (typed T)
unfolding answer_of
high n d (index σ) e = cc
high n d (basis σ) e = cc
high n d scalar {kind} e = let z : kind ≡ Kinds.Scalar = cc in rw z
high n d (ket σ) {kind} e = let z : kind ≡ Kinds.Ket (length (words σ)) = cc in rw z
high n d (bra σ) {kind} e = let z : kind ≡ Kinds.Bra (length (words σ)) = cc in rw z
high n d (operator σ τ) {kind} e = let z : kind ≡ Kinds.Operator (length (words σ)) (length (words τ)) = cc in rw z

-- with the words at the bottom of the stack
module _ (n d : ℕ) (s : S.Sorted) (st : List ℕ) (pre : Small s × (126 ≤ length st)) where
  pub no_type : None ≡ kind_of s.class s.left s.right → (T : Sort) → shape_at st 0 s ≡ shape_of T → refuse 11 0 ≡ answer_of n d (typed T)
  no_type h T is = low n d T s.left s.right (rw (← ap (λ (x : Shape). x.class) is) h)

  pub a_type : {kind : K.Kind} {rows columns : List ℕ} → Some kind ≡ kind_of s.class s.left s.right → rows ≡ overlaid (replicate 63 0) (take s.left st)
      → columns ≡ overlaid (replicate 63 0) (take (s.left + s.right - s.left) (drop s.left st)) → (T : Sort) → shape_at st 0 s ≡ shape_of T
      → ◌≡◌ {A = A.Typing} (record { code = 0; side = 0; step = 0; at = 0; length = n; depth = d; of = record { kind = kind; rows = rows; columns = columns } }) (answer_of n d (typed T))
  unfolding typing type_record
  a_type {kind} h x y T is =
      let z : 0 + s.left ≡ s.left = omega arith in
      let c : s.class ≡ (shape_of T).class = ap (λ (x : Shape). x.class) is in
      let i : take s.left st ≡ (shape_of T).left = ap (λ (x : Shape). x.left) is in
      let j : take s.right (drop s.left st) ≡ (shape_of T).right = rw z at (ap (λ (x : Shape). x.right) is) in
      let l : s.left ≡ length (shape_of T).left = sym (run_length st 0 s.left (omega arith)) ∙ ap length i in
      let m : s.right ≡ length (shape_of T).right = sym (run_length st s.left s.right (omega arith)) ∙ ap length j in
      rw (x, y, add-sub_cancel_left, i, j, padded (shape_of T).left (omega arith), padded (shape_of T).right (omega arith)) (high n d T (rw (← c, ← l, ← m) h))

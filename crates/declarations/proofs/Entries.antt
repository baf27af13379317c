-- Good declarations: what the test tells of each entry, and that the context they make is well-formed.
use mathlib.Core.Path.{◌≡◌, refl, sym, ◌∙◌, ap}
use mathlib.Core.Logic.{◌≢◌}
use mathlib.Core.Bool.{Bool, true, false, cond, ◌&&◌, not, and-true, and-false, and-eq-true_iff}
use mathlib.Core.List.{List, [], ◌∷◌}
use mathlib.Core.Option.{some}
use Prim.Native.Nat.{ℕ, zero, suc, ◌+◌, ◌/◌, ◌%◌, ◌≤◌, ◌<◌}
use native.Mathlib.Omega.{arith}
use borrow.Author.Tests.{eq-eqb, ne_eqb, ltb-true, leb-true, eqb-true}
use lib.Dec.{ltb, leb, eqb}
use lib.ListN.{length, take, drop, get_or, length-append}
use lib.Seq.{take-length}
use Rattle.words.specs.Listed.{up_to, all_up_to, all}
use Rattle.words.proofs.Listed.{up_to-at, up_to-some, up_to_mark, length-up_to, all_up_to-at, all-++}
use Rattle.words.specs.Words.{same_words}
use Rattle.words.proofs.Runs.{same_words_eq}
use Rattle.term.specs.Heads.{Label, type_name, index_product, labelled, word, heads, reading, read}
use Rattle.term.specs.Trees.{Tree, Forest, node, none, ◌▹◌, count, ◌⧺◌, words, words*, Formed, Formed*}
use Rattle.term.specs.Parts.{parse, first, part, tree_in}
use Rattle.term.specs.Terms.{max_index, max_names, index_word, all_index_words}
use Rattle.term.proofs.Parsing.{accepted, parse-node}
use Rattle.term.proofs.Scan.{part-front}
use Rattle.types.specs.Sorts.{scalar, ket, bra, operator, index, IsType, Context, counts_of, Short}
use Rattle.types.specs.Rules.{◌⊢◌∶◌, type_var, base_prod, Index, Proper, WellFormed}
use Rattle.declarations.specs.Declarations.{size, counted, index_in, type_in, basis_at, variable_at, basis_in, variable_in, context_in, names_in, good_index, is_index}
use Rattle.declarations.specs.Declarations.{marked, mark_in, marks_square, is_variable, good_basis, good_variable, good_declarations}

-- ---- the words of an index
-- one word is an index where it may stand in one and is no product, which wants more
name_part : (w : ℕ) → w / 256 ≡ 1 → length (part (w ∷ []) 0) ≡ 1
unfolding part first words read heads reading count parse ◌⧺◌
name_part w h = rw (parse-node w (type_name (w % 256)) none (rw h) [] none refl)

product-part : length (part (512 ∷ []) 0) ≡ 0
unfolding part first parse read heads reading
product-part = refl

one_word : (N w : ℕ) → is_index N (w ∷ []) ≡ cond (eqb w 512) false (index_word N w)
unfolding is_index all index_word
one_word N w = go (eqb w 512) refl (eqb (w / 256) 1) refl
  where
    go : (b : Bool) → eqb w 512 ≡ b → (c : Bool) → eqb (w / 256) 1 ≡ c → is_index N (w ∷ []) ≡ cond b false (index_word N w)
    go true e c f = let h : w ≡ 512 = eqb-true _ _ e in rw (h, product-part)
    go false e true f = rw (name_part w (eqb-true _ _ f), f, and-true (ltb (w % 256) N))
    go false e false f = rw (e, f) (and-false (eqb (length (part (w ∷ []) 0)) 1))

pub one_index : (N : ℕ) (ws : List ℕ) → length ws ≡ 1 → is_index N ws ≡ cond (eqb (get_or ws 0 0) 512) false (index_word N (get_or ws 0 0))
one_index N [] e = absurd (omega arith)
one_index N (w ∷ []) e = one_word N w
one_index N (v ∷ w ∷ ws) e = absurd (omega arith)

pub plain_index : (N : ℕ) (ws : List ℕ) → length ws ≡ 1 → get_or ws 0 0 ≢ 512 → is_index N ws ≡ index_word N (get_or ws 0 0)
plain_index N ws e h = one_index N ws e ∙ rw (ne_eqb (get_or ws 0 0) 512 h)

-- ---- what the tests of an index and of a variable tell
all_three : (a b c : Bool) → (a && (b && c)) ≡ true → (a ≡ true) × (b ≡ true) × (c ≡ true)
all_three a b c h =
    let p = (and-eq-true_iff a _).0 h in
    let q = (and-eq-true_iff b c).0 p.1 in
    (p.0, q.0, q.1)

all_four : (a b c d : Bool) → (a && (b && (c && d))) ≡ true → (a ≡ true) × (b ≡ true) × (c ≡ true) × (d ≡ true)
all_four a b c d h =
    let p = (and-eq-true_iff a _).0 h in
    let q = all_three b c d p.1 in
    (p.0, q.0, q.1, q.2)

pub index_tests : (N : ℕ) (ws : List ℕ) → is_index N ws ≡ true → (0 < length ws) × (length ws ≤ max_index) × (length (part ws 0) ≡ length ws) × (all_index_words N ws ≡ true)
unfolding is_index
index_tests N ws e =
    let a = all_four (ltb 0 (length ws)) (leb (length ws) max_index) (eqb (length (part ws 0)) (length ws)) (all_index_words N ws) e in
    (ltb-true _ _ a.0, leb-true _ _ a.1, eqb-true _ _ a.2, a.3)

module _ (N kind : ℕ) (xs ys : List ℕ) where
  abbrev first_wanted : Bool
  first_wanted = cond (eqb (kind % 4) 0) (eqb (length xs) 0) (is_index N xs)

  abbrev second_wanted : Bool
  second_wanted = cond (eqb (kind % 4) 3) (is_index N ys) (eqb (length ys) 0)

  pub variable_tests : is_variable N kind xs ys ≡ true → (marks_square kind xs ys ≡ true) × (first_wanted ≡ true) × (second_wanted ≡ true)
  unfolding is_variable
  variable_tests e = all_three (marks_square kind xs ys) first_wanted second_wanted e

pub square_told : (kind : ℕ) (xs ys : List ℕ) → marks_square kind xs ys ≡ true → marked kind ≡ true → (kind ≡ 7) × (xs ≡ ys)
unfolding marks_square
square_told kind xs ys e m = let p = (and-eq-true_iff (eqb kind 7) (same_words xs ys)).0 (rw m at e) in (eqb-true _ _ p.0, same_words_eq xs ys p.1)

-- the code asks whether an index is to be absent
pub turned : (b x y : Bool) → cond b x y ≡ cond (not b) y x
turned true x y = refl
turned false x y = refl

-- ---- an entry: the words that its lengths take in
module _ (ds : List ℕ) (a : ℕ) where
  abbrev pub basis_len : ℕ
  basis_len = get_or ds (basis_at a) 0

  abbrev pub basis_words : List ℕ
  basis_words = take basis_len (drop (basis_at a + 1) ds)

  -- with its mark, and without
  abbrev pub kind_word : ℕ
  kind_word = get_or ds (variable_at a) 0

  abbrev pub kind : ℕ
  kind = kind_word % 4

  abbrev pub first_len : ℕ
  first_len = get_or ds (variable_at a + 1) 0

  abbrev pub second_len : ℕ
  second_len = get_or ds (variable_at a + 2) 0

  abbrev pub first_words : List ℕ
  first_words = take first_len (drop (variable_at a + 3) ds)

  abbrev pub second_words : List ℕ
  second_words = take second_len (drop (variable_at a + 66) ds)

-- ---- what the test of an index tells: its words are those of a formed tree, short, and each a word of an index
pub record GoodIndex (N : ℕ) (ds : List ℕ) (at n : ℕ) : Type 0 where
  pub few : n ≤ max_index
  pub same : words (index_in ds at n) ≡ take n (drop at ds)
  pub short : Short (index_in ds at n)
  pub formed : Formed (index_in ds at n)
  pub all : all_index_words N (words (index_in ds at n)) ≡ true

first-tree : (f : Forest) → Formed* f → 0 < length (first f) → (words (tree_in f) ≡ first f) × Formed (tree_in f)
unfolding first tree_in Formed
first-tree none k h = absurd (omega arith)
first-tree (t ▹ f) k h = (refl, k.0)

module _ (N : ℕ) (ds : List ℕ) (at n : ℕ) where
  told : n ≤ max_index → is_index N (take n (drop at ds)) ≡ true → GoodIndex N ds at n
  unfolding index_in part
  told h e =
      let ws = take n (drop at ds) in
      let i = index_tests N ws e in
      let t = first-tree (parse ws) (accepted ws).formed (omega arith) in
      let s : words (tree_in (parse ws)) ≡ ws = t.0 ∙ part-front ws 0 ∙ rw i.2 (take-length ws) in
      record { few = h; same = s; short = rw s i.1; formed = t.1; all = rw s i.3 }

  pub good : good_index N ds at n ≡ true → GoodIndex N ds at n
  unfolding good_index
  good e = let p = (and-eq-true_iff (leb n max_index) _).0 e in told (leb-true _ _ p.0) p.1

-- ---- such a tree is an index of the context: by its word each node is a declared type name, or a product of two
data IndexNode (N : ℕ) : Label → ℕ → Type 0 where
  is-type : {a : ℕ} → a < N → IndexNode N (type_name a) 0
  is-product : IndexNode N index_product 2

data Indices (Γ : Context) : ℕ → Forest → Type 0 where
  no_more : Indices Γ 0 none
  one_more_lem : {t : Tree} {n : ℕ} {f : Forest} → Γ ⊢ t ∶ index t → Indices Γ n f → Indices Γ (suc n) (t ▹ f)

node_at : {N : ℕ} {l : Label} {n : ℕ} (w : ℕ) (b : Bool) → eqb (w / 256) 1 ≡ b → cond b (ltb (w % 256) N) (eqb w 512) ≡ true → read w ≡ labelled l n → IndexNode N l n
unfolding read heads reading
node_at {N} {l} {n} w true h e r =
    let q : w / 256 ≡ 1 = eqb-true _ _ h in
    let v : labelled (type_name (w % 256)) 0 ≡ labelled l n = rw q at r in
    let x : l ≡ type_name (w % 256) = cc in
    let y : n ≡ 0 = cc in
    rw (x, y) (is-type (ltb-true _ _ e))
node_at {N} {l} {n} w false h e r =
    let q : w ≡ 512 = eqb-true _ _ e in
    let v : labelled index_product 2 ≡ labelled l n = rw q at r in
    let x : l ≡ index_product = cc in
    let y : n ≡ 2 = cc in
    rw (x, y) is-product

index_node : (Γ : Context) {l : Label} {n : ℕ} {cs : Forest} → IndexNode Γ.types l n → Indices Γ n cs → Short (node l cs) → Γ ⊢ node l cs ∶ index (node l cs)
index_node Γ (is-type h) no_more s = type_var h
index_node Γ is-product (one_more_lem a (one_more_lem b no_more)) s = base_prod a b s

module _ (Γ : Context) where
  mutual
    unfolding words count Formed all index_word

    index_tree_lem : (t : Tree) → Formed t → Short t → all_index_words Γ.types (words t) ≡ true → Γ ⊢ t ∶ index t
    index_tree_lem (node l cs) h s e =
        let p = (and-eq-true_iff (index_word Γ.types (word l (count cs))) _).0 e in
        index_node Γ (node_at (word l (count cs)) _ refl p.0 h.0) (index_forest cs h.1 (omega arith) p.1) s

    index_forest : (f : Forest) → Formed* f → length (words* f) ≤ max_index → all_index_words Γ.types (words* f) ≡ true → Indices Γ (count f) f
    index_forest none h s e = no_more
    index_forest (t ▹ f) h s e =
        let p = (and-eq-true_iff (all_index_words Γ.types (words t)) _).0 (rw all-++ at e) in
        let l = length-append (words t) (words* f) in
        one_more_lem (index_tree_lem t h.0 (omega arith) p.0) (index_forest f h.1 (omega arith) p.1)

  pub typed : {ds : List ℕ} {at n : ℕ} → GoodIndex Γ.types ds at n → Index Γ (index_in ds at n)
  typed g = index_tree_lem _ g.formed g.short g.all

-- ---- what the test of declarations tells
pub record GoodDeclarations (ds : List ℕ) : Type 0 where
  pub long : length ds ≡ size
  pub types : get_or ds 0 0 ≤ max_names
  pub bases : get_or ds 1 0 ≤ max_names
  pub variables : get_or ds 2 0 ≤ max_names
  pub basis : (a : ℕ) → a < get_or ds 1 0 → good_basis ds a ≡ true
  pub variable : (a : ℕ) → a < get_or ds 2 0 → good_variable ds a ≡ true

pub counts : (a b c : ℕ) → counted a b c ≡ true → (a ≤ max_names) × (b ≤ max_names) × (c ≤ max_names)
unfolding counted
counts a b c e =
    let p = all_three (leb a max_names) (leb b max_names) (leb c max_names) e in
    (leb-true _ _ p.0, leb-true _ _ p.1, leb-true _ _ p.2)

pub declarations : (ds : List ℕ) → good_declarations ds ≡ true → GoodDeclarations ds
unfolding good_declarations
declarations ds e =
    let p = all_four (eqb (length ds) size) (counted (get_or ds 0 0) (get_or ds 1 0) (get_or ds 2 0)) (all_up_to (get_or ds 1 0) (good_basis ds)) _ e in
    let q = counts (get_or ds 0 0) (get_or ds 1 0) (get_or ds 2 0) p.1 in
    record { long = eqb-true _ _ p.0; types = q.0; bases = q.1; variables = q.2; basis = all_up_to-at _ _ p.2; variable = all_up_to-at _ _ p.3 }

-- what the tests of declarations tell, one after the other, in a view of them as an array
module _ {ds view : List ℕ} (long : length ds ≡ size) (same : view ≡ ds) where
  abbrev counts_here : Bool
  counts_here = counted (get_or view 0 0) (get_or view 1 0) (get_or view 2 0)

  pub too_many_names : counts_here ≡ false → false ≡ good_declarations ds
  unfolding good_declarations
  too_many_names h = rw (eq-eqb _ _ long, ← same, h)

  module _ (few : counts_here ≡ true) {b : Bool} (bases : b ≡ all_up_to (get_or view 1 0) (good_basis view)) where
    pub a_basis_bad : b ≡ false → b ≡ good_declarations ds
    unfolding good_declarations
    a_basis_bad h = rw (eq-eqb _ _ long, ← same, few, ← bases, h)

    pub bases_good : b ≡ true → {v : Bool} → v ≡ all_up_to (get_or view 2 0) (good_variable view) → v ≡ good_declarations ds
    unfolding good_declarations
    bases_good h {v} variables = rw (eq-eqb _ _ long, ← same, few, ← bases, h) variables

-- both lengths are short, the indices that a variable's kind wants are good, and where it is marked they are equal
pub record GoodVariable (ds : List ℕ) (a : ℕ) : Type 0 where
  pub first-few : first_len ds a ≤ max_index
  pub second-few : second_len ds a ≤ max_index
  pub rows-good : kind ds a ≢ 0 → GoodIndex (get_or ds 0 0) ds (variable_at a + 3) (first_len ds a)
  pub columns-good : kind ds a ≡ 3 → GoodIndex (get_or ds 0 0) ds (variable_at a + 66) (second_len ds a)
  pub square : mark_in ds a ≡ true → (kind_word ds a ≡ 7) × (first_words ds a ≡ second_words ds a)

module _ (ds : List ℕ) (a : ℕ) where
  abbrev BasisOf : Type 0
  BasisOf = (good_declarations ds ≡ true) × (a < get_or ds 1 0)

  abbrev VariableOf : Type 0
  VariableOf = (good_declarations ds ≡ true) × (a < get_or ds 2 0)

  pub basis_good : BasisOf → GoodIndex (get_or ds 0 0) ds (basis_at a + 1) (basis_len ds a)
  unfolding good_basis
  basis_good h = good (get_or ds 0 0) ds (basis_at a + 1) (basis_len ds a) ((declarations ds h.0).basis a h.1)

  pub variable_good : VariableOf → GoodVariable ds a
  unfolding good_variable mark_in
  variable_good h =
      let N = get_or ds 0 0 in
      let p = all_three (leb (first_len ds a) max_index) (leb (second_len ds a) max_index) _ ((declarations ds h.0).variable a h.1) in
      let q = variable_tests N (kind_word ds a) (first_words ds a) (second_words ds a) p.2 in
      record {
        first-few = leb-true _ _ p.0;
        second-few = leb-true _ _ p.1;
        rows-good = λ k. told N ds _ _ (leb-true _ _ p.0) (rw (ne_eqb _ _ k) at q.1);
        columns-good = λ k. told N ds _ _ (leb-true _ _ p.1) (rw (eq-eqb _ _ k) at q.2);
        square = square_told (kind_word ds a) (first_words ds a) (second_words ds a) q.0;
      }

  -- where the entries of a basis name and of a variable lie
  pub basis_room : BasisOf → (length ds ≡ size) × (a < max_names)
  basis_room h = let g = declarations ds h.0 in (g.long, omega arith)

  pub variable_room : VariableOf → (length ds ≡ size) × (a < max_names)
  variable_room h = let g = declarations ds h.0 in (g.long, omega arith)

-- ---- the type of a variable, by its kind
module _ (ds : List ℕ) (a : ℕ) where
  abbrev rows : Tree
  rows = index_in ds (variable_at a + 3) (first_len ds a)

  abbrev columns : Tree
  columns = index_in ds (variable_at a + 66) (second_len ds a)

  pub kind_0 : kind ds a ≡ 0 → variable_in ds a ≡ scalar
  unfolding variable_in type_in
  kind_0 e = rw e

  pub kind_1 : kind ds a ≡ 1 → variable_in ds a ≡ ket rows
  unfolding variable_in type_in
  kind_1 e = rw e

  pub kind_2 : kind ds a ≡ 2 → variable_in ds a ≡ bra rows
  unfolding variable_in type_in
  kind_2 e = rw e

  pub kind_3 : kind ds a ≡ 3 → variable_in ds a ≡ operator rows columns
  unfolding variable_in type_in
  kind_3 e = rw e

  square_type : kind_word ds a ≡ 7 → first_words ds a ≡ second_words ds a → variable_in ds a ≡ operator rows rows
  unfolding variable_in type_in index_in
  square_type e s = rw (e, s)

marked-told : (n : ℕ) (f : ℕ → Bool) (a : ℕ) → get_or (up_to n f) a false ≡ true → (a < n) × (f a ≡ true)
marked-told n f a m = let p = (and-eq-true_iff (ltb a n) (f a)).0 (sym (up_to_mark n f a) ∙ m) in (ltb-true a n p.0, p.1)

-- ---- good declarations make a well-formed context
module _ (ds : List ℕ) where
  abbrev Γ : Context
  Γ = context_in ds

  proper_by : (a k : ℕ) → kind ds a ≡ k → GoodVariable ds a → IsType (variable_in ds a) × Proper Γ (variable_in ds a)
  unfolding context_in
  proper_by a zero e g = rw (kind_0 ds a e) (tt, tt)
  proper_by a (suc zero) e g = rw (kind_1 ds a e) (tt, typed Γ (g.rows-good (omega arith)))
  proper_by a (suc (suc zero)) e g = rw (kind_2 ds a e) (tt, typed Γ (g.rows-good (omega arith)))
  proper_by a (suc (suc (suc zero))) e g = rw (kind_3 ds a e) (tt, (typed Γ (g.rows-good (omega arith)), typed Γ (g.columns-good e)))
  proper_by a (suc (suc (suc (suc k)))) e g = absurd (omega arith)

  pub well_formed : good_declarations ds ≡ true → WellFormed (context_in ds)
  unfolding context_in basis_in
  well_formed e =
      let g = declarations ds e in
      record {
        types = g.types;
        bases = rw length-up_to g.bases;
        variables = rw length-up_to g.variables;
        basis_index_lem = λ a σ h. let p = up_to-some _ _ a σ h in rw (← p.1) (typed Γ (basis_good ds a (e, p.0)));
        variable_type = λ a S h. let p = up_to-some _ _ a S h in rw (← p.1) (proper_by a _ refl (variable_good ds a (e, p.0)));
        marked_square = λ a m.
            let p = marked-told (get_or ds 2 0) (mark_in ds) a m in
            let s = (variable_good ds a (e, p.0)).square p.1 in
            (rows ds a, up_to-at _ _ a p.0 ∙ ap some (square_type ds a s.0 s.1));
      }

-- good declarations name as many as the context that they make
pub counts_in : (ds : List ℕ) → good_declarations ds ≡ true → names_in ds ≡ counts_of (context_in ds)
unfolding names_in context_in
counts_in ds e = rw (eq-eqb _ _ (declarations ds e).long, length-up_to (get_or ds 1 0) (basis_in ds), length-up_to (get_or ds 2 0) (variable_in ds))

-- What the constructor makes is good: the entries that were there are kept, and the new one is what was put.
use mathlib.Core.Path.{◌≡◌, refl, ◌∙◌}
use mathlib.Core.Logic.{◌≢◌}
use mathlib.Core.Bool.{true, ◌&&◌}
use mathlib.Core.List.{List, [], ◌∷◌}
use Prim.Native.Nat.{ℕ, ◌+◌, ◌-◌, ◌≤◌, ◌<◌}
use native.Mathlib.Omega.{arith}
use borrow.Author.Count.{below_none, below_more}
use borrow.Author.Tests.{eq-eqb, le-leb}
use lib.Dec.{leb}
use lib.ListN.{length, take, drop, get_or, set, replicate, length-set, get_or-replicate}
use lib.Seq.{take-length, get_or-set_same, get_or-set_other, sets, length-sets}
use Rattle.term.specs.Parts.{parse, tree_in}
use Rattle.term.specs.Terms.{max_index, max_names}
use Rattle.words.specs.Words.{cleared}
use Rattle.words.proofs.Runs.{length-cleared}
use Rattle.words.proofs.Listed.{all_up_to-all}
use Rattle.declarations.specs.Declarations.{size, basis_at, variable_at, type_in, marked, basis_in, variable_in, mark_in, good_index, is_index, is_variable, good_basis, good_variable, good_declarations}
use Rattle.declarations.specs.Put.{done, started, room, basis_put, variable_put}
use Rattle.declarations.proofs.Entries.{index_tests, basis_len, basis_words, kind_word, first_len, second_len, first_words, second_words, GoodDeclarations, declarations, basis_good, variable_good}
use Rattle.declarations.proofs.Put.{room-done, variable_few}
use Rattle.declarations.proofs.Stores.{Same, same_then, same-part, same_word, same_first, Apart, before, behind, sets_before, sets_apart, sets_inside}

-- ---- what an entry holds decides whether it is good, and what it declares
pub record BasisHas (ds : List ℕ) (a n : ℕ) (ws : List ℕ) : Type 0 where
  pub len : basis_len ds a ≡ n
  pub index : take n (drop (basis_at a + 1) ds) ≡ ws

pub record VariableHas (ds : List ℕ) (a k n m : ℕ) (xs ys : List ℕ) : Type 0 where
  pub kind-is : kind_word ds a ≡ k
  pub first_len_lem : first_len ds a ≡ n
  pub second_len_lem : second_len ds a ≡ m
  pub first : take n (drop (variable_at a + 3) ds) ≡ xs
  pub second : take m (drop (variable_at a + 66) ds) ≡ ys

module _ {ds : List ℕ} {a n : ℕ} {ws : List ℕ} (h : BasisHas ds a n ws) where
  basis_test : good_basis ds a ≡ (leb n max_index && is_index (get_or ds 0 0) ws)
  unfolding good_basis good_index
  basis_test = rw (h.len, h.index)

  pub basis_tree : basis_in ds a ≡ tree_in (parse ws)
  unfolding basis_in
  basis_tree = rw (h.len, h.index)

module _ {ds : List ℕ} {a k n m : ℕ} {xs ys : List ℕ} (h : VariableHas ds a k n m xs ys) where
  variable_test : good_variable ds a ≡ (leb n max_index && (leb m max_index && is_variable (get_or ds 0 0) k xs ys))
  unfolding good_variable
  variable_test = rw (h.kind-is, h.first_len_lem, h.second_len_lem, h.first, h.second)

  pub variable_type : variable_in ds a ≡ type_in k (tree_in (parse xs)) (tree_in (parse ys))
  unfolding variable_in
  variable_type = rw (h.kind-is, h.first_len_lem, h.second_len_lem, h.first, h.second)

  pub variable_mark : mark_in ds a ≡ marked k
  unfolding mark_in
  variable_mark = rw h.kind-is

-- ---- an entry whose words are those of another run
basis_same : {out : List ℕ} {a : ℕ} {r : List ℕ} {j m : ℕ} (n : ℕ) → Same out (basis_at a) r j m → get_or r j 0 ≡ n → n < m → BasisHas out a n (take n (drop (j + 1) r))
basis_same n s l h = record { len = same_first s (omega arith) ∙ l; index = (same-part s 1 n (omega arith)).both }

variable_same : {out : List ℕ} {a : ℕ} {r : List ℕ} {j c : ℕ} {q : List ℕ} {p : ℕ} (n m : ℕ) → Same out (variable_at a) r j c → Same out (variable_at a + 66) q p m
    → get_or r (j + 1) 0 ≡ n → get_or r (j + 2) 0 ≡ m → 3 + n ≤ c → VariableHas out a (get_or r j 0) n m (take n (drop (j + 3) r)) (take m (drop p q))
variable_same n m s t x y h = record {
  kind-is = same_first s (omega arith);
  first_len_lem = same_word s 1 (omega arith) ∙ x;
  second_len_lem = same_word s 2 (omega arith) ∙ y;
  first = (same-part s 3 n (omega arith)).both;
  second = t.both;
}

-- ---- declarations that keep the types and the entries of others, and count n bases and m variables
pub record EntriesKept (ds out : List ℕ) (n m : ℕ) : Type 0 where
  pub long : length out ≡ length ds
  pub types : get_or out 0 0 ≡ get_or ds 0 0
  pub bases : get_or out 1 0 ≡ n
  pub variables : get_or out 2 0 ≡ m
  pub basis : (b : ℕ) → b < get_or ds 1 0 → Same out (basis_at b) ds (basis_at b) 64
  pub variable : (b : ℕ) → b < get_or ds 2 0 → Same out (variable_at b) ds (variable_at b) 129

declarations-good : (ds : List ℕ) → GoodDeclarations ds → good_declarations ds ≡ true
unfolding good_declarations
declarations-good ds g =
    rw (eq-eqb _ _ g.long, le-leb _ _ g.types, le-leb _ _ g.bases, le-leb _ _ g.variables, all_up_to-all _ _ g.basis) (all_up_to-all _ _ g.variable)

module _ {ds out : List ℕ} {n m : ℕ} (e : good_declarations ds ≡ true) (k : EntriesKept ds out n m) where
  basis_held : (b : ℕ) → b < get_or ds 1 0 → BasisHas out b (basis_len ds b) (basis_words ds b)
  basis_held b h = let g = basis_good ds b (e, h) in basis_same (basis_len ds b) (k.basis b h) refl (omega (arith, g.few))

  variable_held : (b : ℕ) → b < get_or ds 2 0 → VariableHas out b (kind_word ds b) (first_len ds b) (second_len ds b) (first_words ds b) (second_words ds b)
  variable_held b h =
      let g = variable_good ds b (e, h) in
      let s = k.variable b h in
      variable_same (first_len ds b) (second_len ds b) s (same-part s 66 (second_len ds b) (omega (arith, g.second-few))) refl refl (omega (arith, g.first-few))

  pub basis_kept : (b : ℕ) → b < get_or ds 1 0 → basis_in out b ≡ basis_in ds b
  unfolding basis_in
  basis_kept b h = basis_tree (basis_held b h)

  pub variable_kept : (b : ℕ) → b < get_or ds 2 0 → variable_in out b ≡ variable_in ds b
  unfolding variable_in
  variable_kept b h = variable_type (variable_held b h)

  pub mark_kept : (b : ℕ) → b < get_or ds 2 0 → mark_in out b ≡ mark_in ds b
  unfolding mark_in
  mark_kept b h = variable_mark (variable_held b h)

  basis_still_good : (b : ℕ) → b < get_or ds 1 0 → good_basis out b ≡ true
  unfolding good_basis good_index
  basis_still_good b h = basis_test (basis_held b h) ∙ rw k.types ((declarations ds e).basis b h)

  variable_still_good : (b : ℕ) → b < get_or ds 2 0 → good_variable out b ≡ true
  unfolding good_variable
  variable_still_good b h = variable_test (variable_held b h) ∙ rw k.types ((declarations ds e).variable b h)

  kept-good : n ≤ max_names → m ≤ max_names → ((b : ℕ) → b < n → good_basis out b ≡ true) → ((b : ℕ) → b < m → good_variable out b ≡ true) → good_declarations out ≡ true
  kept-good x y p q =
      let g = declarations ds e in
      declarations-good out (record {
        long = k.long ∙ g.long;
        types = rw k.types g.types;
        bases = rw k.bases x;
        variables = rw k.variables y;
        basis = rw k.bases p;
        variable = rw k.variables q;
      })

-- ---- one basis name more. Only the count and the new entry change
abbrev numbered : List ℕ → ℕ → List ℕ
numbered ds k = set ds k (get_or ds k 0 + 1)

module _ (ds index : List ℕ) (e : good_declarations ds ≡ true) (r : room ds 1 ≡ done) (f : is_index (get_or ds 0 0) index ≡ true) where
  abbrev a : ℕ
  a = get_or ds 1 0

  basis_apart : (k m : ℕ) → Apart 1 1 k m → Apart (basis_at a) 64 k m → Same (basis_put ds index) k ds k m
  unfolding basis_put
  basis_apart k m x y =
      let s = index_tests (get_or ds 0 0) index f in
      same_then
      (sets_apart (length index ∷ index) (numbered ds 1) (basis_at a) (omega arith) (omega arith) y)
      (sets_apart ((a + 1) ∷ []) ds 1 (omega arith) (omega arith) x)

  pub basis_put-kept : EntriesKept ds (basis_put ds index) (a + 1) (get_or ds 2 0)
  unfolding basis_put
  basis_put-kept =
      let h = room-done ds 1 r in
      record {
        long = length-sets (numbered ds 1) (basis_at a) (length index ∷ index) ∙ length-set ds 1 (a + 1);
        types = same_first (basis_apart 0 1 (before (omega arith)) (before (omega arith))) (omega arith);
        bases =
            same_first (sets_before (length index ∷ index) (numbered ds 1) (basis_at a) 1 1 (omega arith)) (omega arith)
            ∙ get_or-set_same ds 1 (a + 1) 0 (omega arith);
        variables = same_first (basis_apart 2 1 (behind (omega arith)) (before (omega arith))) (omega arith);
        basis = λ b k. basis_apart (basis_at b) 64 (behind (omega arith)) (before (omega arith));
        variable = λ b k. basis_apart (variable_at b) 129 (behind (omega arith)) (behind (omega arith));
      }

  pub basis_put-new : BasisHas (basis_put ds index) a (length index) index
  unfolding basis_put
  basis_put-new =
      let h = room-done ds 1 r in
      let s = index_tests (get_or ds 0 0) index f in
      let i = sets_inside (length index ∷ index) (numbered ds 1) (basis_at a) (omega (arith, length-set ds 1 (a + 1))) in
      rw (take-length index) at (basis_same (length index) i refl (omega arith))

  pub basis_put-good : good_declarations (basis_put ds index) ≡ true
  basis_put-good =
      let h = room-done ds 1 r in
      let k = basis_put-kept in
      let new = rw (le-leb _ _ (index_tests (get_or ds 0 0) index f).1, k.types, f) at (basis_test basis_put-new) in
      kept-good e k (omega arith) h.2 (below_more _ a (basis_still_good e k) new) (variable_still_good e k)

-- ---- one variable more
module _ (ds : List ℕ) (kind : ℕ) (xs ys : List ℕ) (e : good_declarations ds ≡ true) (r : room ds 2 ≡ done)
    (f : is_variable (get_or ds 0 0) kind xs ys ≡ true) where
  abbrev v : ℕ
  v = get_or ds 2 0

  abbrev entry : List ℕ
  entry = kind ∷ length xs ∷ length ys ∷ xs

  abbrev half : List ℕ
  half = sets (numbered ds 2) (variable_at v) entry

  abbrev out : List ℕ
  out = variable_put ds kind xs ys

  variable_apart : (k m : ℕ) → Apart 2 1 k m → Apart (variable_at v) 129 k m → Same out k ds k m
  unfolding variable_put
  variable_apart k m x y =
      let s = variable_few (get_or ds 0 0) kind xs ys f in
      same_then
      (sets_apart ys half (variable_at v + 66) (omega arith) (omega arith) y)
      (same_then
      (sets_apart entry (numbered ds 2) (variable_at v) (omega arith) (omega arith) y)
      (sets_apart ((v + 1) ∷ []) ds 2 (omega arith) (omega arith) x))

  pub variable_put-kept : EntriesKept ds out (get_or ds 1 0) (v + 1)
  unfolding variable_put
  variable_put-kept =
      let h = room-done ds 2 r in
      record {
        long = length-sets half (variable_at v + 66) ys ∙ length-sets (numbered ds 2) (variable_at v) entry ∙ length-set ds 2 (v + 1);
        types = same_first (variable_apart 0 1 (before (omega arith)) (before (omega arith))) (omega arith);
        bases = same_first (variable_apart 1 1 (before (omega arith)) (before (omega arith))) (omega arith);
        variables =
            same_first (sets_before ys half (variable_at v + 66) 2 1 (omega arith)) (omega arith)
            ∙ same_first (sets_before entry (numbered ds 2) (variable_at v) 2 1 (omega arith)) (omega arith)
            ∙ get_or-set_same ds 2 (v + 1) 0 (omega arith);
        basis = λ b k. variable_apart (basis_at b) 64 (behind (omega arith)) (before (omega arith));
        variable = λ b k. variable_apart (variable_at b) 129 (behind (omega arith)) (before (omega arith));
      }

  pub variable_put-new : VariableHas out v kind (length xs) (length ys) xs ys
  unfolding variable_put
  variable_put-new =
      let h = room-done ds 2 r in
      let s = variable_few (get_or ds 0 0) kind xs ys f in
      let l : length (numbered ds 2) ≡ length ds = length-set ds 2 (v + 1) in
      let i = same_then (sets_before ys half (variable_at v + 66) (variable_at v) (length entry) (omega arith)) (sets_inside entry (numbered ds 2) (variable_at v) (omega arith)) in
      let j = sets_inside ys half (variable_at v + 66) (omega (arith, length-sets (numbered ds 2) (variable_at v) entry)) in
      rw (take-length xs, take-length ys) at (variable_same (length xs) (length ys) i j refl refl (omega arith))

  pub variable_put-good : good_declarations out ≡ true
  variable_put-good =
      let h = room-done ds 2 r in
      let s = variable_few (get_or ds 0 0) kind xs ys f in
      let k = variable_put-kept in
      let new = rw (le-leb _ _ s.0, le-leb _ _ s.1, k.types, f) at (variable_test variable_put-new) in
      kept-good e k h.1 (omega arith) (basis_still_good e k) (below_more _ v (variable_still_good e k) new)

-- ---- no names but so many types
pub zeroed : (ds : List ℕ) → replicate (length ds) 0 ≡ cleared ds 0
unfolding cleared
zeroed ds = let z : length ds - 0 ≡ length ds = omega arith in rw z

cleared-zero : (ds : List ℕ) (k : ℕ) → k < length ds → get_or (cleared ds 0) k 0 ≡ 0
unfolding cleared
cleared-zero ds k h = get_or-replicate (length ds - 0) k 0 0 (omega arith)

module _ (ds : List ℕ) (types : ℕ) (l : length ds ≡ size) where
  pub started-types : get_or (started ds types) 0 0 ≡ types
  unfolding started
  started-types = get_or-set_same (cleared ds 0) 0 types 0 (omega (arith, length-cleared ds 0))

  pub started_none : (k : ℕ) → k ≢ 0 → k < size → get_or (started ds types) k 0 ≡ 0
  unfolding started
  started_none k x y = get_or-set_other (cleared ds 0) 0 k types 0 x ∙ cleared-zero ds k (omega arith)

  pub started-good : types ≤ max_names → good_declarations (started ds types) ≡ true
  unfolding started
  started-good h =
      let b = started_none 1 (omega arith) (omega arith) in
      let v = started_none 2 (omega arith) (omega arith) in
      declarations-good (started ds types) (record {
        long = length-set (cleared ds 0) 0 types ∙ length-cleared ds 0 ∙ l;
        types = rw started-types h;
        bases = rw b (omega arith);
        variables = rw v (omega arith);
        basis = rw b (below_none _);
        variable = rw v (below_none _);
      })

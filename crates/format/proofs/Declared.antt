-- Declarations put one after the other: they are good and declare what the file says, and there is room for one more up to the limit.
use mathlib.Core.Path.{◌≡◌, refl, ◌∙◌}
use mathlib.Core.Bool.{Bool, true, cond, and-eq-true_iff}
use mathlib.Core.List.{List, [], ◌∷◌, ◌++◌, map, append_assoc, append-nil}
use Prim.Native.Nat.{ℕ, ◌+◌, ◌≤◌, ◌<◌}
use native.Mathlib.Omega.{arith}
use borrow.Author.Tests.{eq-eqb, ne_eqb, le-leb}
use lib.Dec.{eqb}
use lib.ListN.{length, get_or, replicate, length-replicate}
use Rattle.term.specs.Parts.{parse, tree_in}
use Rattle.term.specs.Terms.{max_names}
use Rattle.types.specs.Sorts.{Context}
use Rattle.declarations.specs.declared.constructor.PutError.TheVariants.{Full}
use Rattle.declarations.specs.Declarations.{size, type_in, marked, context_in, names_in, is_index, is_variable, counted, good_declarations}
use Rattle.declarations.specs.Put.{done, refused, started, room, basis_put, variable_put}
use Rattle.declarations.proofs.Entries.{declarations}
use Rattle.declarations.proofs.Kept.{started-good, started-types, started_none, basis_put-kept, basis_put-good, variable_put-kept, variable_put-good}
use Rattle.declarations.specs.Statements.{with_basis, with_variable}
use Rattle.declarations.proofs.Grown.{started-context, basis_context, variable_context}
use Rattle.format.specs.Files.{Variable, File, names_of, all_indices, all_variables, WellDeclared, context_of}
use Rattle.format.specs.Kept.{put_bases, put_variables, declarations_of}

-- ---- one name more
pub bases-more : (ds : List ℕ) (bs : List (List ℕ)) (b : List ℕ) → put_bases ds (bs ++ b ∷ []) ≡ basis_put (put_bases ds bs) b
unfolding put_bases
bases-more ds [] b = refl
bases-more ds (c ∷ bs) b = bases-more (basis_put ds c) bs b

pub variables-more : (ds : List ℕ) (vs : List Variable) (v : Variable) → put_variables ds (vs ++ v ∷ []) ≡ variable_put (put_variables ds vs) v.kind v.first v.second
unfolding put_variables
variables-more ds [] v = refl
variables-more ds (c ∷ vs) v = variables-more (variable_put ds c.kind c.first c.second) vs v

pub indices_more : (N : ℕ) (bs : List (List ℕ)) (b : List ℕ) → all_indices N bs ≡ true → is_index N b ≡ true → all_indices N (bs ++ b ∷ []) ≡ true
unfolding all_indices
indices_more N [] b e h = rw h
indices_more N (c ∷ bs) b e h = let p = (and-eq-true_iff (is_index N c) _).0 e in (and-eq-true_iff (is_index N c) _).1 (p.0, indices_more N bs b p.1 h)

abbrev fits : ℕ → Variable → Bool
fits N v = is_variable N v.kind v.first v.second

pub variables-good-more : (N : ℕ) (vs : List Variable) (v : Variable) → all_variables N vs ≡ true → is_variable N v.kind v.first v.second ≡ true
    → all_variables N (vs ++ v ∷ []) ≡ true
unfolding all_variables
variables-good-more N [] v e h = rw h
variables-good-more N (c ∷ vs) v e h = let p = (and-eq-true_iff (fits N c) _).0 e in (and-eq-true_iff (fits N c) _).1 (p.0, variables-good-more N vs v p.1 h)

-- ---- declarations so far: how many names they count, and what they declare
record Stands (ds : List ℕ) (N b v : ℕ) (Γ : Context) : Type 0 where
  good : good_declarations ds ≡ true
  types : get_or ds 0 0 ≡ N
  bases : get_or ds 1 0 ≡ b
  variables : get_or ds 2 0 ≡ v
  context : context_in ds ≡ Γ

room-is : (ds : List ℕ) (k : ℕ) → good_declarations ds ≡ true → room ds k ≡ cond (eqb (get_or ds k 0) max_names) (refused Full) done
unfolding room counted
room-is ds k e = let g = declarations ds e in rw (eq-eqb _ _ g.long, le-leb _ _ g.types, le-leb _ _ g.bases, le-leb _ _ g.variables)

has_room_lem : (ds : List ℕ) (k n : ℕ) → good_declarations ds ≡ true → get_or ds k 0 ≡ n → n < max_names → room ds k ≡ done
has_room_lem ds k n e h l = room-is ds k e ∙ rw (h, ne_eqb n max_names (λ z. omega arith))

begun : (ds : List ℕ) (N : ℕ) → length ds ≡ size → N ≤ max_names → Stands (started ds N) N 0 0 (record { types = N; bases = []; variables = []; marks = []; bound = [] })
begun ds N l h =
    record {
      good = started-good ds N l h;
      types = started-types ds N l;
      bases = started_none ds N l 1 (omega arith) (omega arith);
      variables = started_none ds N l 2 (omega arith) (omega arith);
      context = started-context ds N l;
    }

one_basis : {ds : List ℕ} {N b v : ℕ} {Γ : Context} (i : List ℕ) → Stands ds N b v Γ → b < max_names → is_index N i ≡ true
    → Stands (basis_put ds i) N (b + 1) v (with_basis Γ (tree_in (parse i)))
one_basis {ds} {N} {b} i s h e =
    let r = has_room_lem ds 1 b s.good s.bases h in
    let f : is_index (get_or ds 0 0) i ≡ true = rw s.types e in
    let k = basis_put-kept ds i s.good r f in
    record {
      good = basis_put-good ds i s.good r f;
      types = k.types ∙ s.types;
      bases = k.bases ∙ rw s.bases;
      variables = k.variables ∙ s.variables;
      context = basis_context ds i s.good r f ∙ rw s.context;
    }

one_variable : {ds : List ℕ} {N b v : ℕ} {Γ : Context} (x : Variable) → Stands ds N b v Γ → v < max_names → is_variable N x.kind x.first x.second ≡ true
    → Stands (variable_put ds x.kind x.first x.second) N b (v + 1) (with_variable Γ (type_in x.kind (tree_in (parse x.first)) (tree_in (parse x.second))) (marked x.kind))
one_variable {ds} {N} {b} {v} x s h e =
    let r = has_room_lem ds 2 v s.good s.variables h in
    let f : is_variable (get_or ds 0 0) x.kind x.first x.second ≡ true = rw s.types e in
    let k = variable_put-kept ds x.kind x.first x.second s.good r f in
    record {
      good = variable_put-good ds x.kind x.first x.second s.good r f;
      types = k.types ∙ s.types;
      bases = k.bases ∙ s.bases;
      variables = k.variables ∙ rw s.variables;
      context = variable_context ds x.kind x.first x.second s.good r f ∙ rw s.context;
    }

-- ---- all of them
same_names : {ds : List ℕ} {N b c v w : ℕ} {Γ Δ : Context} → Stands ds N b v Γ → b ≡ c → v ≡ w → Γ ≡ Δ → Stands ds N c w Δ
same_names s p q r = record { good = s.good; types = s.types; bases = s.bases ∙ p; variables = s.variables ∙ q; context = s.context ∙ r }

all-bases : {ds : List ℕ} {N b v : ℕ} {Γ : Context} (bs : List (List ℕ)) → Stands ds N b v Γ → b + length bs ≤ max_names → all_indices N bs ≡ true
    → Stands (put_bases ds bs) N (b + length bs) v
    (record { types = Γ.types; bases = Γ.bases ++ map (λ i. tree_in (parse i)) bs; variables = Γ.variables; marks = Γ.marks; bound = Γ.bound })
unfolding put_bases all_indices
all-bases {Γ} [] s h e = same_names s (omega arith) refl (rw append-nil)
all-bases {ds = ds} {N = N} {b = b} {v = v} {Γ = Γ} (i ∷ bs) s h e =
    let p = (and-eq-true_iff (is_index N i) _).0 e in
    same_names (all-bases {ds = basis_put ds i} {N = N} {b = b + 1} {v = v} {Γ = with_basis Γ (tree_in (parse i))} bs (one_basis i s (omega arith) p.0) (omega arith) p.1) (omega arith) refl (rw append_assoc)

all-variables : {ds : List ℕ} {N b v : ℕ} {Γ : Context} (xs : List Variable) → Stands ds N b v Γ → v + length xs ≤ max_names → all_variables N xs ≡ true
    → Stands (put_variables ds xs) N b (v + length xs)
    (record {
      types = Γ.types;
      bases = Γ.bases;
      variables = Γ.variables ++ map (λ x. type_in x.kind (tree_in (parse x.first)) (tree_in (parse x.second))) xs;
      marks = Γ.marks ++ map (λ x. marked x.kind) xs;
      bound = Γ.bound;
    })
unfolding put_variables all_variables
all-variables {Γ} [] s h e = same_names s refl (omega arith) (rw (append-nil Γ.variables, append-nil Γ.marks))
all-variables {ds = ds} {N = N} {b = b} {v = v} {Γ = Γ} (x ∷ xs) s h e =
    let p = (and-eq-true_iff (fits N x) _).0 e in
    same_names (all-variables {ds = variable_put ds x.kind x.first x.second} {N = N} {b = b} {v = v + 1} {Γ = with_variable Γ (type_in x.kind (tree_in (parse x.first)) (tree_in (parse x.second))) (marked x.kind)} xs (one_variable x s (omega arith) p.0) (omega arith) p.1) refl (omega arith) (rw (append_assoc Γ.variables, append_assoc Γ.marks))

-- ---- the declarations of a file whose names are in order
pub record Declared (ds : List ℕ) (f : File) : Type 0 where
  pub good : good_declarations ds ≡ true
  pub types : get_or ds 0 0 ≡ f.types
  pub bases : get_or ds 1 0 ≡ length f.bases
  pub variables : get_or ds 2 0 ≡ length f.variables
  pub context : context_in ds ≡ context_of f

declared_from : (ds : List ℕ) (f : File) → length ds ≡ size → WellDeclared f → Declared (put_variables (put_bases (started ds f.types) f.bases) f.variables) f
unfolding context_of
declared_from ds f l s =
    let b = all-bases f.bases (begun ds f.types l s.few_types) (omega arith) s.bases in
    let v = all-variables f.variables b (omega arith) s.variables in
    record { good = v.good; types = v.types; bases = v.bases ∙ (omega arith); variables = v.variables ∙ (omega arith); context = v.context }

module _ (f : File) (s : WellDeclared f) where
  pub declared : Declared (declarations_of f) f
  unfolding declarations_of
  declared = declared_from (replicate size 0) f (length-replicate {A = ℕ} size 0) s

  pub declared-size : length (declarations_of f) ≡ size
  declared-size = (declarations (declarations_of f) declared.good).long

  pub names-declared : names_in (declarations_of f) ≡ names_of f
  unfolding names_in
  names-declared = let d = declared in rw (eq-eqb _ _ declared-size, d.types, d.bases, d.variables)

  pub room-bases : length f.bases < max_names → room (declarations_of f) 1 ≡ done
  room-bases = has_room_lem (declarations_of f) 1 _ declared.good declared.bases

  pub room-variables : length f.variables < max_names → room (declarations_of f) 2 ≡ done
  room-variables = has_room_lem (declarations_of f) 2 _ declared.good declared.variables

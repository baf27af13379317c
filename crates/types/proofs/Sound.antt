-- What the function finds, the rules derive.
use mathlib.Core.Path.{◌≡◌, refl, sym, ◌∙◌, ap}
use mathlib.Core.Bool.{Bool, true, false, cond}
use mathlib.Core.Option.{Option, some, none as nothing}
use mathlib.Core.List.{List, [], ◌∷◌}
use Prim.Native.Nat.{ℕ, ◌+◌, ◌<◌}
use native.Mathlib.Omega.{arith}
use borrow.Author.Tests.{ltb-true, leb-true}
use lib.Dec.{ltb}
use lib.ListN.{length, get_elem?}
use Rattle.words.proofs.Runs.{same_words_eq}
use Rattle.term.specs.Heads.{Label, type_name, basis_name, variable, index_product, pair, scalar_zero, scalar_one, scalar_sum, scalar_product, conjugate, delta, dot, zero_ket, zero_bra}
use Rattle.term.specs.Heads.{zero_operator, identity, basis_ket, basis_bra, adjoint, scale, add, tensor, mulk, mulb, outer, mulo, bound_basis, big_sum}
use Rattle.term.specs.Trees.{Tree, Forest, node, none, ◌▹◌, words}
use Rattle.term.specs.Terms.{max_bodies}
use Rattle.types.specs.Sorts.{Sort, index, basis, scalar, ket, bra, operator, IsType, Context, bind, ◌⊠◌, Short}
use Rattle.types.specs.Rules.{◌⊢◌∶◌, ◌⊢*◌∶◌, type_var, basis_var, term_var, sca_0, sca_1, sca_delta, sca_add, sca_mul, sca_conj, sca_dot, base_prod, pair_base, ket_0, ket_base}
use Rattle.types.specs.Rules.{ket_adj, ket_scr, ket_add, ket_mulk, ket_tsr, bra_0, bra_base, bra_adj, bra_scr, bra_add, bra_mulb, bra_tsr, opt_0, opt_1, opt_adj, opt_scr, opt_add}
use Rattle.types.specs.Rules.{opt_outer, opt_mulo, opt_tsr, bound_var, sum_over, every_none, every_more, Index, Proper, WellFormed}
use Rattle.types.specs.Inside.{behind_first, later}
use Rattle.types.specs.TypeOf.{Conclusion, fails, gives, same, short, nil, one, two, to_index, to_basis, to_scalar, to_ket, to_bra, to_operator, adjoint_of, array_of, tensor_of, agree}
use Rattle.types.specs.TypeOf.{and_then, agree_all, scalars_of, sum_of, listed, bound_of, body_of, conclude, Inferred, typed, untyped, Children, sorts, failed, decide, close, join, type_of}
use Rattle.types.specs.TypeOf.{types_of}
use Rattle.types.proofs.Indices.{index_is, later_well, index_tested}
use Rattle.types.proofs.Complete.{complete}
use Rattle.types.proofs.Proper.{proper, same_index}

absurd_fails : {A : Type 0} {S : Sort} → fails ≡ gives S → A
absurd_fails e = absurd (let z : ◌≡◌ {A = ℕ} 0 1 = cc in omega arith)

-- where a test refuses a sort
no : {A B : Type 0} {S : Sort} → A → fails ≡ gives S → B
no a e = absurd_fails e

-- a law of every sort, from one of each kind
pub by_sort : (P : Sort → Type 0) → ((σ : Tree) → P (index σ)) → ((σ : Tree) → P (basis σ)) → P scalar → ((σ : Tree) → P (ket σ)) → ((σ : Tree) → P (bra σ))
    → ((σ τ : Tree) → P (operator σ τ)) → (s : Sort) → P s
by_sort P i b c k r o (index σ) = i σ
by_sort P i b c k r o (basis σ) = b σ
by_sort P i b c k r o scalar = c
by_sort P i b c k r o (ket σ) = k σ
by_sort P i b c k r o (bra σ) = r σ
by_sort P i b c k r o (operator σ τ) = o σ τ

-- ---- children with their sorts, as derived: the first in one context, the others in another
pub data Row : Forest → List Sort → Context → Context → Type 0 where
  each_none : {Γ Δ : Context} → Row none [] Γ Δ
  each_more : {t : Tree} {f : Forest} {S : Sort} {ss : List Sort} {Γ Δ : Context} → Γ ⊢ t ∶ S → Row f ss Δ Δ → Row (t ▹ f) (S ∷ ss) Γ Δ

abbrev pub Each : Context → Forest → List Sort → Type 0
Each Γ f ss = Row f ss Γ Γ

-- ---- what a conclusion needed: one record for each test, with the rest of the conclusion
record Of (Γ : Context) (t : Tree) (F : Tree → Sort) (f : Tree → Conclusion) (S : Sort) : Type 0 where
  σ : Tree
  is : Γ ⊢ t ∶ F σ
  rest : f σ ≡ gives S

-- where the test of a sort is of one with an index
abbrev Taken : Context → Sort → (Sort → (Tree → Conclusion) → Conclusion) → (Tree → Sort) → Tree → (Tree → Conclusion) → Sort → Type 0
Taken Γ S to F t f s = Γ ⊢ t ∶ s → to s f ≡ gives S → Of Γ t F f S

abbrev Takes : Context → Sort → (Sort → (Tree → Conclusion) → Conclusion) → (Tree → Sort) → Type 0
Takes Γ S to F = (t : Tree) (s : Sort) (f : Tree → Conclusion) → Taken Γ S to F t f s

record Of-operator (Γ : Context) (t : Tree) (f : Tree → Tree → Conclusion) (S : Sort) : Type 0 where
  σ : Tree
  τ : Tree
  is : Γ ⊢ t ∶ operator σ τ
  rest : f σ τ ≡ gives S

data Only (Γ : Context) (f : Sort → Conclusion) (S : Sort) : Forest → Type 0 where
  only : {t : Tree} (s : Sort) → Γ ⊢ t ∶ s → f s ≡ gives S → Only Γ f S (t ▹ none)

data Both (Γ : Context) (f : Sort → Sort → Conclusion) (S : Sort) : Forest → Type 0 where
  both : {t u : Tree} (s r : Sort) → Γ ⊢ t ∶ s → Γ ⊢ u ∶ r → f s r ≡ gives S → Both Γ f S (t ▹ u ▹ none)

module _ {Γ : Context} {S : Sort} where
  nil_of : {cs : Forest} {ss : List Sort} (c : Conclusion) → Each Γ cs ss → nil ss c ≡ gives S → (cs ≡ none) × (c ≡ gives S)
  nil_of c each_none e = (refl, e)
  nil_of c (each_more a f) e = absurd_fails e

  only_of : {cs : Forest} {ss : List Sort} (f : Sort → Conclusion) → Each Γ cs ss → one ss f ≡ gives S → Only Γ f S cs
  only_of f each_none e = absurd_fails e
  only_of f (each_more a each_none) e = only _ a e
  only_of f (each_more a (each_more b g)) e = absurd_fails e

  both_of : {cs : Forest} {ss : List Sort} (f : Sort → Sort → Conclusion) → Each Γ cs ss → two ss f ≡ gives S → Both Γ f S cs
  both_of f each_none e = absurd_fails e
  both_of f (each_more a each_none) e = absurd_fails e
  both_of f (each_more a (each_more b each_none)) e = both _ _ a b e
  both_of f (each_more a (each_more b (each_more d g))) e = absurd_fails e

  index_of : Takes Γ S to_index index
  index_of t s f = by_sort (Taken Γ S to_index index t f) (λ σ a e. record { σ = σ; is = a; rest = e }) (λ σ. no) no (λ σ. no) (λ σ. no) (λ σ τ. no) s

  basis_of : Takes Γ S to_basis basis
  basis_of t s f = by_sort (Taken Γ S to_basis basis t f) (λ σ. no) (λ σ a e. record { σ = σ; is = a; rest = e }) no (λ σ. no) (λ σ. no) (λ σ τ. no) s

  ket_of : Takes Γ S to_ket ket
  ket_of t s f = by_sort (Taken Γ S to_ket ket t f) (λ σ. no) (λ σ. no) no (λ σ a e. record { σ = σ; is = a; rest = e }) (λ σ. no) (λ σ τ. no) s

  bra_of : Takes Γ S to_bra bra
  bra_of t s f = by_sort (Taken Γ S to_bra bra t f) (λ σ. no) (λ σ. no) no (λ σ. no) (λ σ a e. record { σ = σ; is = a; rest = e }) (λ σ τ. no) s

  operator_of : {t : Tree} (s : Sort) (f : Tree → Tree → Conclusion) → Γ ⊢ t ∶ s → to_operator s f ≡ gives S → Of-operator Γ t f S
  operator_of {t} s f =
      by_sort (λ s. Γ ⊢ t ∶ s → to_operator s f ≡ gives S → Of-operator Γ t f S) (λ σ. no) (λ σ. no) no (λ σ. no) (λ σ. no) (λ σ τ a e. record { σ = σ; τ = τ; is = a; rest = e }) s

  scalar_of : {t : Tree} (s : Sort) (c : Conclusion) → Γ ⊢ t ∶ s → to_scalar s c ≡ gives S → (Γ ⊢ t ∶ scalar) × (c ≡ gives S)
  scalar_of {t} s c = by_sort (λ s. Γ ⊢ t ∶ s → to_scalar s c ≡ gives S → (Γ ⊢ t ∶ scalar) × (c ≡ gives S)) (λ σ. no) (λ σ. no) (λ a e. (a, e)) (λ σ. no) (λ σ. no) (λ σ τ. no) s

cond_of : {S : Sort} (b : Bool) (c : Conclusion) → cond b c fails ≡ gives S → (b ≡ true) × (c ≡ gives S)
cond_of true c e = (refl, e)
cond_of false c e = absurd_fails e

short_of : {S : Sort} (σ : Tree) (c : Conclusion) → short σ c ≡ gives S → Short σ × (c ≡ gives S)
unfolding short
short_of σ c e = let r = cond_of _ c e in (leb-true _ _ r.0, r.1)

at-sort : {Γ : Context} {t : Tree} {R S : Sort} → Γ ⊢ t ∶ R → gives R ≡ gives S → Γ ⊢ t ∶ S
at-sort {Γ} {t} {R} {S} a e = let z : R ≡ S = cc in rw (← z) a

-- an operator's indices by equal ones
operator-at : {Γ : Context} {t σ τ υ φ : Tree} → σ ≡ υ → τ ≡ φ → Γ ⊢ t ∶ operator υ φ → Γ ⊢ t ∶ operator σ τ
operator-at e f a = rw (e, f) a

listed_of : {A : Type 0} {S : Sort} (o : Option A) (F : A → Sort) → listed o F ≡ gives S → (a : A) × (o ≡ some a) × (gives (F a) ≡ gives S)
unfolding listed
listed_of nothing F e = absurd_fails e
listed_of (some a) F e = (a, refl, e)

module _ {Γ : Context} (W : WellFormed Γ) {S : Sort} where
  same_of : {σ τ : Tree} (c : Conclusion) → Index Γ σ → Index Γ τ → same σ τ c ≡ gives S → (σ ≡ τ) × (c ≡ gives S)
  unfolding same
  same_of c a b e = let r = cond_of _ c e in (same_index W a b (same_words_eq _ _ r.0), r.1)

  -- a further child of a sum has the sum's sort
  agree_of : {u : Tree} (s t : Sort) → Proper Γ s → Γ ⊢ u ∶ t → agree s t ≡ gives S → (Γ ⊢ u ∶ s) × (s ≡ S)
  unfolding agree
  agree_of (index σ) t h a e = absurd_fails e
  agree_of (basis σ) t h a e = absurd_fails e
  agree_of scalar t h a e = let p = scalar_of t _ a e in (p.0, cc p.1)
  agree_of (ket σ) t h a e =
      let p = ket_of _ t _ a e in
      let r = same_of _ h (proper W p.is) p.rest in
      (rw r.0 p.is, cc r.1)
  agree_of (bra σ) t h a e =
      let p = bra_of _ t _ a e in
      let r = same_of _ h (proper W p.is) p.rest in
      (rw r.0 p.is, cc r.1)
  agree_of (operator σ τ) t h a e =
      let p = operator_of t _ a e in
      let k = proper W p.is in
      let r = same_of _ h.0 k.0 p.rest in
      let q = same_of _ h.1 k.1 r.1 in
      (operator-at r.0 q.0 p.is, cc q.1)

then_of : {S : Sort} (c : Conclusion) (f : Sort → Conclusion) → and_then c f ≡ gives S → (R : Sort) × (c ≡ gives R) × (f R ≡ gives S)
then_of fails f e = absurd_fails e
then_of (gives R) f e = (R, refl, e)

module _ {Γ : Context} (W : WellFormed Γ) where
  every_of : {f : Forest} {ss : List Sort} (s S : Sort) → Proper Γ s → Each Γ f ss → agree_all s ss ≡ gives S → (Γ ⊢* f ∶ s) × (s ≡ S)
  unfolding agree_all
  every_of s S h each_none e = (every_none, cc)
  every_of s S h (each_more {S = t} a x) e =
      let p = then_of (agree s t) _ e in
      let q = agree_of W s t h a p.1 in
      let r = every_of s S h x (rw q.1 p.2) in
      (every_more q.0 r.0, r.1)

module _ {Γ : Context} (W : WellFormed Γ) {S : Sort} where
  -- ---- each rule, from its conclusion
  type-rule : {cs : Forest} {ss : List Sort} (a : ℕ) → Each Γ cs ss → conclude Γ (type_name a) ss ≡ gives S → Γ ⊢ node (type_name a) cs ∶ S
  unfolding conclude
  type-rule a x e =
      let r = nil_of _ x e in
      let q = cond_of _ _ r.1 in
      rw r.0 (at-sort (type_var (ltb-true _ _ q.0)) q.1)

  listed-rule : {A : Type 0} {cs : Forest} {ss : List Sort} (l : Label) (o : Option A) (F : A → Sort) → ((a : A) → o ≡ some a → Γ ⊢ node l none ∶ F a) → Each Γ cs ss → nil ss (listed o F) ≡ gives S
      → Γ ⊢ node l cs ∶ S
  listed-rule l o F k x e =
      let r = nil_of _ x e in
      let q = listed_of o F r.1 in
      rw r.0 (at-sort (k q.0 q.1) q.2)

  -- two indices or two bases make a product
  product-rule : {cs : Forest} (l : Label) (F : Tree → Sort) {to : Sort → (Tree → Conclusion) → Conclusion} → Takes Γ S to F
      → ((t u σ τ : Tree) → Γ ⊢ t ∶ F σ → Γ ⊢ u ∶ F τ → Short (σ ⊠ τ) → Γ ⊢ node l (t ▹ u ▹ none) ∶ F (σ ⊠ τ)) → Both Γ (λ s t. to s λ σ. to t λ τ. short (σ ⊠ τ)
      (gives (F (σ ⊠ τ)))) S cs → Γ ⊢ node l cs ∶ S
  product-rule l F of k (both s t a b e) =
      let p = of _ s _ a e in
      let q = of _ t _ b p.rest in
      let r = short_of _ _ q.rest in
      at-sort (k _ _ _ _ p.is q.is r.0) r.1

  -- the two scalar leaves, and the two scalar sums, are one argument each
  leaf_rule : {cs : Forest} {ss : List Sort} (l : Label) → Γ ⊢ node l none ∶ scalar → Each Γ cs ss → nil ss (gives scalar) ≡ gives S → Γ ⊢ node l cs ∶ S
  leaf_rule l a x e = let r = nil_of _ x e in rw r.0 (at-sort a r.1)

  scalars_rule : {cs : Forest} {ss : List Sort} (l : Label) → ((t : Tree) (f : Forest) → Γ ⊢ t ∶ scalar → Γ ⊢* f ∶ scalar → Γ ⊢ node l (t ▹ f) ∶ scalar)
      → Each Γ cs ss → scalars_of ss ≡ gives S → Γ ⊢ node l cs ∶ S
  unfolding scalars_of
  scalars_rule l k each_none e = absurd_fails e
  scalars_rule l k (each_more {S = s} a x) e =
      let p = scalar_of s _ a e in
      let q = every_of W scalar S tt x p.1 in
      at-sort (k _ _ p.0 q.0) (ap gives q.1)

  conjugate_rule : {cs : Forest} → Only Γ (λ s. to_scalar s (gives scalar)) S cs → Γ ⊢ node conjugate cs ∶ S
  conjugate_rule (only s a e) = let p = scalar_of s _ a e in at-sort (sca_conj p.0) p.1

  -- two with one index: delta and the product of a bra and a ket
  same-rule : {cs : Forest} (l : Label) (F G : Tree → Sort) {to by : Sort → (Tree → Conclusion) → Conclusion} → Takes Γ S to F → Takes Γ S by G
      → ((σ : Tree) → Proper Γ (F σ) → Index Γ σ) → ((σ : Tree) → Proper Γ (G σ) → Index Γ σ) → ((t u σ : Tree) → Γ ⊢ t ∶ F σ → Γ ⊢ u ∶ G σ → Γ ⊢ node l (t ▹ u ▹ none) ∶ scalar)
      → Both Γ (λ s t. to s λ σ. by t λ τ. same σ τ (gives scalar)) S cs → Γ ⊢ node l cs ∶ S
  same-rule l F G of by x y k (both s t a b e) =
      let p = of _ s _ a e in
      let q = by _ t _ b p.rest in
      let r = same_of W _ (x _ (proper W p.is)) (y _ (proper W q.is)) q.rest in
      at-sort (k _ _ _ p.is (rw r.0 q.is)) r.1

  -- a head over one index or one basis, and over two that are kept apart
  index_rule : {cs : Forest} (l : Label) (F G : Tree → Sort) {to : Sort → (Tree → Conclusion) → Conclusion} → Takes Γ S to F → ((s σ : Tree) → Γ ⊢ s ∶ F σ → Γ ⊢ node l (s ▹ none) ∶ G σ)
      → Only Γ (λ s. to s λ σ. gives (G σ)) S cs → Γ ⊢ node l cs ∶ S
  index_rule l F G of k (only s a e) = let p = of _ s _ a e in at-sort (k _ _ p.is) p.rest

  operator-rule : {cs : Forest} (l : Label) (F G : Tree → Sort) {to by : Sort → (Tree → Conclusion) → Conclusion} → Takes Γ S to F → Takes Γ S by G
      → ((t u σ τ : Tree) → Γ ⊢ t ∶ F σ → Γ ⊢ u ∶ G τ → Γ ⊢ node l (t ▹ u ▹ none) ∶ operator σ τ) → Both Γ (λ s t. to s λ σ. by t λ τ. gives (operator σ τ)) S cs → Γ ⊢ node l cs ∶ S
  operator-rule l F G of by k (both s t a b e) = let p = of _ s _ a e in let q = by _ t _ b p.rest in at-sort (k _ _ _ _ p.is q.is) q.rest

  adjoint_by : {t : Tree} (s : Sort) → Γ ⊢ t ∶ s → adjoint_of s ≡ gives S → Γ ⊢ node adjoint (t ▹ none) ∶ S
  unfolding adjoint_of
  adjoint_by (index σ) a e = absurd_fails e
  adjoint_by (basis σ) a e = absurd_fails e
  adjoint_by scalar a e = absurd_fails e
  adjoint_by (ket σ) a e = at-sort (bra_adj a) e
  adjoint_by (bra σ) a e = at-sort (ket_adj a) e
  adjoint_by (operator σ τ) a e = at-sort (opt_adj a) e

  adjoint-rule : {cs : Forest} → Only Γ adjoint_of S cs → Γ ⊢ node adjoint cs ∶ S
  adjoint-rule (only s a e) = adjoint_by s a e

  scale_by : {a t : Tree} (s : Sort) → Γ ⊢ a ∶ scalar → Γ ⊢ t ∶ s → array_of s ≡ gives S → Γ ⊢ node scale (a ▹ t ▹ none) ∶ S
  unfolding array_of
  scale_by (index σ) x a e = absurd_fails e
  scale_by (basis σ) x a e = absurd_fails e
  scale_by scalar x a e = absurd_fails e
  scale_by (ket σ) x a e = at-sort (ket_scr x a) e
  scale_by (bra σ) x a e = at-sort (bra_scr x a) e
  scale_by (operator σ τ) x a e = at-sort (opt_scr x a) e

  scale-rule : {cs : Forest} → Both Γ (λ s t. to_scalar s (array_of t)) S cs → Γ ⊢ node scale cs ∶ S
  scale-rule (both s t a b e) = let p = scalar_of s _ a e in scale_by t p.0 b p.1

  sum-at : {t : Tree} {f : Forest} {ss : List Sort} {s R : Sort} → Γ ⊢ t ∶ s → (Γ ⊢* f ∶ s → Γ ⊢ node add (t ▹ f) ∶ s) → Each Γ f ss → gives s ≡ gives R → agree_all R ss ≡ gives S
      → Γ ⊢ node add (t ▹ f) ∶ S
  sum-at {s} {R} a k x h e = let z : s ≡ R = cc in let q = every_of W s S (proper W a) x (rw z e) in at-sort (k q.0) (ap gives q.1)

  sum_by : {t : Tree} {f : Forest} {ss : List Sort} (s R : Sort) → Γ ⊢ t ∶ s → Each Γ f ss → array_of s ≡ gives R → agree_all R ss ≡ gives S
      → Γ ⊢ node add (t ▹ f) ∶ S
  unfolding array_of
  sum_by (index σ) R a x h e = absurd_fails h
  sum_by (basis σ) R a x h e = absurd_fails h
  sum_by scalar R a x h e = absurd_fails h
  sum_by (ket σ) R a x h e = sum-at a (ket_add a) x h e
  sum_by (bra σ) R a x h e = sum-at a (bra_add a) x h e
  sum_by (operator σ τ) R a x h e = sum-at a (opt_add a) x h e

  sum-rule : {cs : Forest} {ss : List Sort} → Each Γ cs ss → sum_of ss ≡ gives S → Γ ⊢ node add cs ∶ S
  unfolding sum_of
  sum-rule each_none e = absurd_fails e
  sum-rule (each_more {S = s} a x) e = let p = then_of (array_of s) _ e in sum_by s p.0 a x p.1 p.2

  tensor_by : {t u : Tree} (s r : Sort) → Γ ⊢ t ∶ s → Γ ⊢ u ∶ r → tensor_of s r ≡ gives S → Γ ⊢ node tensor (t ▹ u ▹ none) ∶ S
  unfolding tensor_of
  tensor_by (index σ) r a b e = absurd_fails e
  tensor_by (basis σ) r a b e = absurd_fails e
  tensor_by scalar r a b e = absurd_fails e
  tensor_by (ket σ) r a b e =
      let q = ket_of _ r _ b e in
      let p = short_of _ _ q.rest in
      at-sort (ket_tsr a q.is p.0) p.1
  tensor_by (bra σ) r a b e =
      let q = bra_of _ r _ b e in
      let p = short_of _ _ q.rest in
      at-sort (bra_tsr a q.is p.0) p.1
  tensor_by (operator σ τ) r a b e =
      let q = operator_of r _ b e in
      let p = short_of _ _ q.rest in
      let v = short_of _ _ p.1 in
      at-sort (opt_tsr a q.is p.0 v.0) v.1

  tensor_rule : {cs : Forest} → Both Γ tensor_of S cs → Γ ⊢ node tensor cs ∶ S
  tensor_rule (both s r a b e) = tensor_by s r a b e

  mulk_rule : {cs : Forest} → Both Γ (λ s t. to_operator s λ σ τ. to_ket t λ υ. same τ υ (gives (ket σ))) S cs → Γ ⊢ node mulk cs ∶ S
  mulk_rule (both s t a b e) =
      let p = operator_of s _ a e in
      let q = ket_of _ t _ b p.rest in
      let r = same_of W _ (proper W p.is).1 (proper W q.is) q.rest in
      at-sort (ket_mulk p.is (rw r.0 q.is)) r.1

  mulb_rule : {cs : Forest} → Both Γ (λ s t. to_bra s λ υ. to_operator t λ σ τ. same υ σ (gives (bra τ))) S cs → Γ ⊢ node mulb cs ∶ S
  mulb_rule (both s t a b e) =
      let p = bra_of _ s _ a e in
      let q = operator_of t _ b p.rest in
      let r = same_of W _ (proper W p.is) (proper W q.is).0 q.rest in
      at-sort (bra_mulb p.is (operator-at r.0 refl q.is)) r.1

  mulo_rule : {cs : Forest} → Both Γ (λ s t. to_operator s λ σ τ. to_operator t λ υ ρ. same τ υ (gives (operator σ ρ))) S cs → Γ ⊢ node mulo cs ∶ S
  mulo_rule (both s t a b e) =
      let p = operator_of s _ a e in
      let q = operator_of t _ b p.rest in
      let r = same_of W _ (proper W p.is).1 (proper W q.is).0 q.rest in
      at-sort (opt_mulo p.is (operator-at r.0 refl q.is)) r.1

  -- a bound basis has the index of its sum
  bound-rule : {cs : Forest} {ss : List Sort} (a : ℕ) → Each Γ cs ss → conclude Γ (bound_basis a) ss ≡ gives S → Γ ⊢ node (bound_basis a) cs ∶ S
  unfolding conclude
  bound-rule a x e =
      let r = nil_of _ x e in
      let b = cond_of _ _ r.1 in
      rw r.0 (go (ltb-true _ _ b.0) (get_elem? Γ.bound a) refl b.1)
    where
      go : a < max_bodies → (o : Option Tree) → get_elem? Γ.bound a ≡ o → bound_of Γ.types o ≡ gives S → Γ ⊢ node (bound_basis a) none ∶ S
      go b nothing h e = absurd_fails e
      go b (some σ) h e = let q = cond_of _ _ e in at-sort (bound_var b h (index_tested Γ σ q.0)) q.1

  body_of_lem : (r : Sort) → body_of r ≡ gives S → IsType r × (r ≡ S)
  unfolding body_of
  body_of_lem (index σ) e = absurd_fails e
  body_of_lem (basis σ) e = absurd_fails e
  body_of_lem scalar e = (tt, cc)
  body_of_lem (ket σ) e = (tt, cc)
  body_of_lem (bra σ) e = (tt, cc)
  body_of_lem (operator σ τ) e = (tt, cc)

  -- A sum, from other children of the same sorts: its index is the same tree, so that both bodies stand in one context
  over_by : {s t b : Tree} (q r : Sort) → Γ ⊢ s ∶ q → Γ ⊢ t ∶ q → bind s Γ ⊢ b ∶ r → (to_index q λ σ. cond (ltb (length Γ.bound) max_bodies) (body_of r) fails) ≡ gives S
      → Γ ⊢ node big_sum (t ▹ b ▹ none) ∶ S
  over_by {s} {t} (index σ) r a a' b e =
      let p = cond_of _ (body_of r) e in
      let y = body_of_lem r p.1 in
      let z : s ≡ t = index_is W a ∙ sym (index_is W a') in
      at-sort (sum_over a' (rw (← z) b) y.0 (ltb-true _ _ p.0)) (ap gives y.1)
  over_by (basis σ) r a a' b e = absurd_fails e
  over_by scalar r a a' b e = absurd_fails e
  over_by (ket σ) r a a' b e = absurd_fails e
  over_by (bra σ) r a a' b e = absurd_fails e
  over_by (operator σ τ) r a a' b e = absurd_fails e

  over_rule : {cs ds : Forest} {ss : List Sort} → Row cs ss Γ (behind_first Γ cs) → Row ds ss Γ (behind_first Γ cs) → conclude Γ big_sum ss ≡ gives S → Γ ⊢ node big_sum ds ∶ S
  unfolding conclude behind_first
  over_rule o each_none e = absurd_fails e
  over_rule o (each_more a each_none) e = absurd_fails e
  over_rule (each_more {S = q} a o) (each_more a' (each_more {S = r} b each_none)) e = over_by q r a a' b e
  over_rule o (each_more a (each_more b (each_more c x))) e = absurd_fails e

  -- ---- all of them, from other children of the same sorts
  pub derive : {cs ds : Forest} {ss : List Sort} (l : Label) → Row cs ss Γ (later Γ l cs) → Row ds ss Γ (later Γ l cs) → conclude Γ l ss ≡ gives S → Γ ⊢ node l ds ∶ S
  unfolding conclude later
  derive (type_name a) o x e = type-rule a x e
  derive (basis_name a) o x e = listed-rule (basis_name a) (get_elem? Γ.bases a) basis (λ σ. basis_var) x e
  derive (variable a) o x e = listed-rule (variable a) (get_elem? Γ.variables a) (λ R. R) (λ R. term_var) x e
  derive index_product o x e = product-rule index_product index index_of (λ t u σ τ. base_prod) (both_of _ x e)
  derive pair o x e = product-rule pair basis basis_of (λ t u σ τ. pair_base) (both_of _ x e)
  derive scalar_zero o x e = leaf_rule scalar_zero sca_0 x e
  derive scalar_one o x e = leaf_rule scalar_one sca_1 x e
  derive scalar_sum o x e = scalars_rule scalar_sum (λ t f. sca_add) x e
  derive scalar_product o x e = scalars_rule scalar_product (λ t f. sca_mul) x e
  derive conjugate o x e = conjugate_rule (only_of _ x e)
  derive delta o x e = same-rule delta basis basis basis_of basis_of (λ σ h. h) (λ σ h. h) (λ t u σ. sca_delta) (both_of _ x e)
  derive dot o x e = same-rule dot bra ket bra_of ket_of (λ σ h. h) (λ σ h. h) (λ t u σ. sca_dot) (both_of _ x e)
  derive zero_ket o x e = index_rule zero_ket index ket index_of (λ s σ. ket_0) (only_of _ x e)
  derive zero_bra o x e = index_rule zero_bra index bra index_of (λ s σ. bra_0) (only_of _ x e)
  derive zero_operator o x e = operator-rule zero_operator index index index_of index_of (λ t u σ τ. opt_0) (both_of _ x e)
  derive identity o x e = index_rule identity index (λ σ. operator σ σ) index_of (λ s σ. opt_1) (only_of _ x e)
  derive basis_ket o x e = index_rule basis_ket basis ket basis_of (λ s σ. ket_base) (only_of _ x e)
  derive basis_bra o x e = index_rule basis_bra basis bra basis_of (λ s σ. bra_base) (only_of _ x e)
  derive adjoint o x e = adjoint-rule (only_of _ x e)
  derive scale o x e = scale-rule (both_of _ x e)
  derive add o x e = sum-rule x e
  derive tensor o x e = tensor_rule (both_of _ x e)
  derive mulk o x e = mulk_rule (both_of _ x e)
  derive mulb o x e = mulb_rule (both_of _ x e)
  derive outer o x e = operator-rule outer ket bra ket_of bra_of (λ t u σ τ. opt_outer) (both_of _ x e)
  derive mulo o x e = mulo_rule (both_of _ x e)
  derive (bound_basis a) o x e = bound-rule a x e
  derive big_sum o x e = over_rule o x e

-- ---- the function
data Answered (Γ : Context) (at : ℕ) (t : Tree) : Inferred → Type 0 where
  has_sort : {S : Sort} → Γ ⊢ t ∶ S → Answered Γ at t (typed S)
  has_none : {k : ℕ} → Answered Γ at t (untyped k)

data Answered* (Γ Δ : Context) (f : Forest) : Children → Type 0 where
  have_sorts : {ss : List Sort} → Row f ss Γ Δ → Answered* Γ Δ f (sorts ss)
  have_none : {k : ℕ} → Answered* Γ Δ f (failed k)

module _ {Γ : Context} (W : WellFormed Γ) where
  decided : {cs : Forest} {ss : List Sort} (at : ℕ) (l : Label) → Row cs ss Γ (later Γ l cs) → (c : Conclusion) → conclude Γ l ss ≡ c → Answered Γ at (node l cs) (decide at c)
  unfolding decide
  decided at l x fails e = has_none
  decided at l x (gives S) e = has_sort (derive W l x x e)

  closed : {cs : Forest} {r : Children} (at : ℕ) (l : Label) → Answered* Γ (later Γ l cs) cs r → Answered Γ at (node l cs) (close Γ at l r)
  unfolding close
  closed at l (have_sorts {ss} x) = decided at l x (conclude Γ l ss) refl
  closed at l have_none = has_none

joined : {Γ Δ : Context} {t : Tree} {f : Forest} {at : ℕ} {a : Inferred} {r : Children} → Answered Γ at t a → Answered* Δ Δ f r → Answered* Γ Δ (t ▹ f) (join a r)
unfolding join
joined (has_sort a) (have_sorts x) = have_sorts (each_more a x)
joined (has_sort a) have_none = have_none
joined has_none r = have_none

mutual
  unfolding type_of

  answered : {Γ : Context} → WellFormed Γ → (at : ℕ) (t : Tree) → Answered Γ at t (type_of Γ at t)
  answered W at (node l cs) = closed W at l (answered* W (later_well W l cs) (at + 1) cs)

  answered* : {Γ Δ : Context} → WellFormed Γ → WellFormed Δ → (at : ℕ) (f : Forest) → Answered* Γ Δ f (types_of Γ Δ at f)
  answered* W X at none = have_sorts each_none
  answered* W X at (t ▹ f) = joined (answered W at t) (answered* X X (at + length (words t)) f)

sound_by : {Γ : Context} {at : ℕ} {t : Tree} {a : Inferred} {S : Sort} → Answered Γ at t a → a ≡ typed S → Γ ⊢ t ∶ S
sound_by {S} (has_sort {S = R} d) e = let z : R ≡ S = cc in at-sort d (ap gives z)
sound_by has_none e = absurd (let z : ◌≡◌ {A = ℕ} 0 1 = cc in omega arith)

module _ {Γ : Context} (W : WellFormed Γ) where
  pub sound : {S : Sort} (at : ℕ) (t : Tree) → type_of Γ at t ≡ typed S → Γ ⊢ t ∶ S
  sound at t e = sound_by (answered W at t) e

  -- ---- a typed part's children have sorts, and any children of the same sorts will do
  pub record Node (l : Label) (cs : Forest) (S : Sort) : Type 0 where
    pub list : List Sort
    pub each : Row cs list Γ (later Γ l cs)
    pub concludes : conclude Γ l list ≡ gives S
    pub again : (ds : Forest) → Row ds list Γ (later Γ l cs) → Γ ⊢ node l ds ∶ S

  decide-typed : {S : Sort} (at : ℕ) (c : Conclusion) → decide at c ≡ typed S → c ≡ gives S
  unfolding decide
  decide-typed at fails e = absurd (let z : ◌≡◌ {A = ℕ} 0 1 = cc in omega arith)
  decide-typed at (gives R) e = cc

  node_by : {l : Label} {cs : Forest} {S : Sort} {r : Children} (at : ℕ) → Answered* Γ (later Γ l cs) cs r → close Γ at l r ≡ typed S → Node l cs S
  unfolding close
  node_by {l} at (have_sorts {ss} x) e = let c = decide-typed at _ e in record { list = ss; each = x; concludes = c; again = λ ds y. derive W l x y c }
  node_by at have_none e = absurd (let z : ◌≡◌ {A = ℕ} 0 1 = cc in omega arith)

  pub node_of : {l : Label} {cs : Forest} {S : Sort} → Γ ⊢ node l cs ∶ S → Node l cs S
  unfolding type_of
  node_of {l} {cs} d = node_by 0 (answered* W (later_well W l cs) 1 cs) (complete W d 0)

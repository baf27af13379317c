-- What the rules derive, the function finds: `type_of` gives T where the relation does, so T is the only one.
use mathlib.Core.Path.{◌≡◌, refl, ◌∙◌, ap}
use mathlib.Core.List.{List, [], ◌∷◌}
use Prim.Native.Nat.{ℕ, ◌+◌}
use borrow.Author.Tests.{lt-ltb, le-leb}
use lib.ListN.{length}
use Rattle.words.proofs.Runs.{same-words}
use Rattle.term.specs.Trees.{Tree, Forest, words}
use Rattle.types.specs.Sorts.{Sort, index, basis, scalar, ket, bra, operator, IsType, Context}
use Rattle.types.specs.Rules.{◌⊢◌∶◌, ◌⊢*◌∶◌, type_var, basis_var, term_var, sca_0, sca_1, sca_delta, sca_add, sca_mul, sca_conj, sca_dot, base_prod, pair_base, ket_0, ket_base}
use Rattle.types.specs.Rules.{ket_adj, ket_scr, ket_add, ket_mulk, ket_tsr, bra_0, bra_base, bra_adj, bra_scr, bra_add, bra_mulb, bra_tsr, opt_0, opt_1, opt_adj, opt_scr, opt_add}
use Rattle.types.specs.Rules.{opt_outer, opt_mulo, opt_tsr, bound_var, sum_over, every_none, every_more, WellFormed}
use Rattle.types.specs.TypeOf.{Conclusion, gives, same, agree, agree_all, body_of, conclude, typed, sorts, decide, type_of, types_of}
use Rattle.types.proofs.Indices.{bind_well, index_tests}

pub same_refl : (σ : Tree) (c : Conclusion) → same σ σ c ≡ c
unfolding same
same_refl σ c = rw (same-words (words σ))

-- every sort of a list is the one sort that a sum has
pub data Alike (S : Sort) : List Sort → Type 0 where
  alike-none : Alike S []
  alike-more : {ss : List Sort} → Alike S ss → Alike S (S ∷ ss)

pub record AllOf (Γ : Context) (at : ℕ) (f : Forest) (S : Sort) : Type 0 where
  pub list : List Sort
  pub is : types_of Γ Γ at f ≡ sorts list
  pub alike : Alike S list

-- a sum of alike children has their sort: each agrees with itself
agree-alike : {S : Sort} {ss : List Sort} → agree S S ≡ gives S → Alike S ss → agree_all S ss ≡ gives S
unfolding agree_all
agree-alike e alike-none = refl
agree-alike e (alike-more a) = rw e (agree-alike e a)

agree_ket : (σ : Tree) → agree (ket σ) (ket σ) ≡ gives (ket σ)
unfolding agree
agree_ket σ = same_refl σ (gives (ket σ))

agree_bra : (σ : Tree) → agree (bra σ) (bra σ) ≡ gives (bra σ)
unfolding agree
agree_bra σ = same_refl σ (gives (bra σ))

agree-operator : (σ τ : Tree) → agree (operator σ τ) (operator σ τ) ≡ gives (operator σ τ)
unfolding agree
agree-operator σ τ = same_refl σ _ ∙ same_refl τ (gives (operator σ τ))

agree-scalar : agree scalar scalar ≡ gives scalar
unfolding agree
agree-scalar = refl

body_type : (at : ℕ) (S : Sort) → IsType S → decide at (body_of S) ≡ typed S
unfolding decide body_of
body_type at (index σ) h = absurd h
body_type at (basis σ) h = absurd h
body_type at scalar h = refl
body_type at (ket σ) h = refl
body_type at (bra σ) h = refl
body_type at (operator σ τ) h = refl

mutual
  unfolding type_of conclude

  pub complete : {Γ : Context} → WellFormed Γ → {t : Tree} {S : Sort} → Γ ⊢ t ∶ S → (at : ℕ) → type_of Γ at t ≡ typed S
  complete W (type_var h) at = rw (lt-ltb _ _ h)
  complete W (basis_var e) at = rw e
  complete W (term_var e) at = rw e
  complete W sca_0 at = refl
  complete W sca_1 at = refl
  complete W (sca_delta {s} a b) at = rw (complete W a (at + 1), complete W b (at + 1 + length (words s)), same-words)
  complete W (sca_add {a} p f) at =
      let r = complete* W f (at + 1 + length (words a)) in rw (complete W p (at + 1), r.is) (ap (decide at) (agree-alike agree-scalar r.alike))
  complete W (sca_mul {a} p f) at =
      let r = complete* W f (at + 1 + length (words a)) in rw (complete W p (at + 1), r.is) (ap (decide at) (agree-alike agree-scalar r.alike))
  complete W (sca_conj a) at = rw (complete W a (at + 1))
  complete W (sca_dot {B} a b) at = rw (complete W a (at + 1), complete W b (at + 1 + length (words B)), same-words)
  complete W (base_prod {s} a b h) at = rw (complete W a (at + 1), complete W b (at + 1 + length (words s)), le-leb _ _ h)
  complete W (pair_base {s} a b h) at = rw (complete W a (at + 1), complete W b (at + 1 + length (words s)), le-leb _ _ h)
  complete W (ket_0 a) at = rw (complete W a (at + 1))
  complete W (ket_base a) at = rw (complete W a (at + 1))
  complete W (ket_adj a) at = rw (complete W a (at + 1))
  complete W (ket_scr {a} p b) at = rw (complete W p (at + 1), complete W b (at + 1 + length (words a)))
  complete W (ket_add {K} {σ} a f) at =
      let r = complete* W f (at + 1 + length (words K)) in rw (complete W a (at + 1), r.is) (ap (decide at) (agree-alike (agree_ket σ) r.alike))
  complete W (ket_mulk {O} a b) at = rw (complete W a (at + 1), complete W b (at + 1 + length (words O)), same-words)
  complete W (ket_tsr {K} a b h) at = rw (complete W a (at + 1), complete W b (at + 1 + length (words K)), le-leb _ _ h)
  complete W (bra_0 a) at = rw (complete W a (at + 1))
  complete W (bra_base a) at = rw (complete W a (at + 1))
  complete W (bra_adj a) at = rw (complete W a (at + 1))
  complete W (bra_scr {a} p b) at = rw (complete W p (at + 1), complete W b (at + 1 + length (words a)))
  complete W (bra_add {B} {σ} a f) at =
      let r = complete* W f (at + 1 + length (words B)) in rw (complete W a (at + 1), r.is) (ap (decide at) (agree-alike (agree_bra σ) r.alike))
  complete W (bra_mulb {B} a b) at = rw (complete W a (at + 1), complete W b (at + 1 + length (words B)), same-words)
  complete W (bra_tsr {B} a b h) at = rw (complete W a (at + 1), complete W b (at + 1 + length (words B)), le-leb _ _ h)
  complete W (opt_0 {s} a b) at = rw (complete W a (at + 1), complete W b (at + 1 + length (words s)))
  complete W (opt_1 a) at = rw (complete W a (at + 1))
  complete W (opt_adj a) at = rw (complete W a (at + 1))
  complete W (opt_scr {a} p b) at = rw (complete W p (at + 1), complete W b (at + 1 + length (words a)))
  complete W (opt_add {O} {σ} {τ} a f) at =
      let r = complete* W f (at + 1 + length (words O)) in
      rw (complete W a (at + 1), r.is) (ap (decide at) (agree-alike (agree-operator σ τ) r.alike))
  complete W (opt_outer {K} a b) at = rw (complete W a (at + 1), complete W b (at + 1 + length (words K)))
  complete W (opt_mulo {O} a b) at = rw (complete W a (at + 1), complete W b (at + 1 + length (words O)), same-words)
  complete W (opt_tsr {O} a b h k) at = rw (complete W a (at + 1), complete W b (at + 1 + length (words O)), le-leb _ _ h, le-leb _ _ k)
  complete W (bound_var h e d) at = rw (lt-ltb _ _ h, e, index_tests W d)
  complete W (sum_over {s} {S} a b h n) at = rw (complete W a (at + 1), complete (bind_well W s) b (at + 1 + length (words s)), lt-ltb _ _ n) (body_type at S h)

  pub complete* : {Γ : Context} → WellFormed Γ → {f : Forest} {S : Sort} → Γ ⊢* f ∶ S → (at : ℕ) → AllOf Γ at f S
  complete* W every_none at = record { list = []; is = refl; alike = alike-none }
  complete* W (every_more {t} {S} a f) at =
      let r = complete* W f (at + length (words t)) in record { list = S ∷ r.list; is = rw (complete W a at, r.is); alike = alike-more r.alike }

-- a part has one sort
pub unique : {Γ : Context} → WellFormed Γ → {t : Tree} {S T : Sort} → Γ ⊢ t ∶ S → Γ ⊢ t ∶ T → S ≡ T
unique W a b = cc (complete W a 0, complete W b 0)

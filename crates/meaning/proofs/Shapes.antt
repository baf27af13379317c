-- The shape theorem: under a choice that fits, a part of a sort stands for what its sort says.
use mathlib.Core.Path.{◌≡◌, refl, sym, ◌∙◌, ap}
use mathlib.Core.Logic.{◌↔◌}
use mathlib.Core.Option.{Option, some, none as undeclared}
use mathlib.Core.List.{List, [], ◌∷◌}
use Prim.Native.Nat.{ℕ, zero, suc, ◌+◌, ◌*◌, ◌≤◌, ◌<◌}
use lib.ListN.{get_elem?}
use lib.Arith.{digits_lt}
use Rattle.algebra.specs.Semirings.{Arithmetic}
use Rattle.algebra.specs.Matrices.{Matrix, HasShape, sum_matrices}
use Rattle.algebra.proofs.Shapes.{shape-scalar, shape-zeros, shape-identity, shape-unit_column, shape-unit_row, shape-add, shape-scale, shape-mul, shape-adjoint, shape-kronecker, shape-sum-matrices}
use Rattle.term.specs.Heads.{big_sum}
use Rattle.term.specs.Trees.{Tree, node, none, ◌▹◌}
use Rattle.types.specs.Sorts.{Sort, index, basis, scalar, ket, bra, operator, IsType, Context, bind}
use Rattle.types.specs.Rules.{◌⊢◌∶◌, type_var, basis_var, term_var, sca_0, sca_1, sca_delta, sca_add, sca_mul, sca_conj, sca_dot, base_prod, pair_base, ket_0, ket_base, ket_adj, ket_scr}
use Rattle.types.specs.Rules.{ket_add, ket_mulk, ket_tsr, bra_0, bra_base, bra_adj, bra_scr, bra_add, bra_mulb, bra_tsr, opt_0, opt_1, opt_adj, opt_scr, opt_add, opt_outer, opt_mulo}
use Rattle.types.specs.Rules.{opt_tsr, bound_var, sum_over, WellFormed}
use Rattle.types.proofs.Indices.{index_is, bind_well}
use Rattle.meaning.specs.Choices.{Choice, push, run, Meaning, NameMeanings, a_term, an_index, a_basis}
use Rattle.meaning.specs.Meaning.{first, second, plus, total, product, meaning_of, under, meaning, dimension, declared, names, stands}
use Rattle.meaning.specs.Sorted.{Shaped, ProperMeaning, Fits}
use Rattle.meaning.proofs.Fitting.{positive}

module _ {R : Type 0} (𝓐 : Arithmetic R) where
  -- at a type, a meaning is its matrix
  pub at-type : (χ : Choice R) (S : Sort) (x : Meaning R) → IsType S → ProperMeaning 𝓐 χ S x ↔ Shaped 𝓐 χ S x.matrix
  at-type χ (index σ) x t = absurd t
  at-type χ (basis σ) x t = absurd t
  at-type χ scalar x t = (λ p. p, λ p. p)
  at-type χ (ket σ) x t = (λ p. p, λ p. p)
  at-type χ (bra σ) x t = (λ p. p, λ p. p)
  at-type χ (operator σ τ) x t = (λ p. p, λ p. p)

  -- the pair of two positions lies below the product of their dimensions
  pair-below : {d e p q m n : ℕ} → (d ≡ m) × (p < m) → (e ≡ n) × (q < n) → (d * e ≡ m * n) × (p * e + q < m * n)
  pair-below s t = (cc (s.0, t.0), rw t.0 (digits_lt s.1 t.1))

  pub plus-shape : {A : Matrix R} {m n : ℕ} (cs : List (Meaning R)) → HasShape A m n → HasShape (plus 𝓐 A cs) m n
  unfolding plus
  plus-shape [] s = s
  plus-shape (c ∷ cs) s = shape-add 𝓐 _ s

  -- ---- in the body of a sum
  -- dimensions are those of the whole
  shaped-run : (χ : Choice R) (p : ℕ) (S : Sort) (A : Matrix R) → Shaped 𝓐 χ S A → Shaped 𝓐 (run p χ) S A
  unfolding dimension
  shaped-run χ p (index σ) A s = tt
  shaped-run χ p (basis σ) A s = tt
  shaped-run χ p scalar A s = s
  shaped-run χ p (ket σ) A s = s
  shaped-run χ p (bra σ) A s = s
  shaped-run χ p (operator σ τ) A s = s

  pub fits-run : {Γ : Context} {χ : Choice R} → Fits 𝓐 Γ χ → (s : Tree) (p : ℕ) → p < dimension 𝓐 χ s → Fits 𝓐 (bind s Γ) (run p χ)
  unfolding dimension push
  fits-run {Γ} {χ} F s p h =
      record {
        dimensions = F.dimensions;
        positions = F.positions;
        matrices = λ a S e. shaped-run χ p S (χ.matrix a) (F.matrices a S e);
        unitary = F.unitary;
        bounds = go;
      }
    where
      go : (a : ℕ) (σ : Tree) → get_elem? (s ∷ Γ.bound) a ≡ some σ → push p χ.bound a < dimension 𝓐 (run p χ) σ
      go zero σ e = let z : s ≡ σ = cc in rw (← z) h
      go (suc a) σ e = F.bounds a σ e

  declared-run : (χ : Choice R) (p : ℕ) (o : Option Tree) → declared 𝓐 χ o ≡ declared 𝓐 (run p χ) o
  unfolding declared dimension
  declared-run χ p undeclared = refl
  declared-run χ p (some σ) = refl

  names-run : (Γ : Context) (χ : Choice R) (s : Tree) (p : ℕ) → under 𝓐 (names 𝓐 Γ χ) (a_basis 𝓐 (dimension 𝓐 χ s) p) ≡ names 𝓐 (bind s Γ) (run p χ)
  unfolding names dimension push declared
  names-run Γ χ s p = λ i. record { types = N.types; bases = λ a. a_basis 𝓐 (declared-run χ p (get_elem? Γ.bases a) i) (χ.position a); variables = N.variables; bounds = λ a. go a i }
    where
      N : NameMeanings R
      N = names 𝓐 Γ χ

      go : (a : ℕ) → push (a_basis 𝓐 (dimension 𝓐 χ s) p) N.bounds a ≡ (names 𝓐 (bind s Γ) (run p χ)).bounds a
      go zero = refl
      go (suc a) = ap (λ d. a_basis 𝓐 d (χ.bound a)) (declared-run χ p (get_elem? Γ.bound a))

  -- what a sum stands for, by what its body stands for
  pub sum-stands : (Γ : Context) (χ : Choice R) (s b : Tree) → (stands 𝓐 Γ χ s).dimension ≡ dimension 𝓐 χ s
      → (stands 𝓐 Γ χ (node big_sum (s ▹ b ▹ none))).matrix ≡ sum_matrices 𝓐 (dimension 𝓐 χ s) λ p. (stands 𝓐 (bind s Γ) (run p χ) b).matrix
  unfolding stands meaning meaning_of first second a_term
  sum-stands Γ χ s b e = rw e (ap (sum_matrices 𝓐 (dimension 𝓐 χ s)) λ i p. (meaning 𝓐 (names-run Γ χ s p i) b).matrix)

  -- a sum has the shape of its body, which is one for all indices
  sum_proper : (χ : Choice R) (S : Sort) (d : ℕ) (f : ℕ → Meaning R) → IsType S → 1 ≤ d → ((p : ℕ) → p < d → ProperMeaning 𝓐 (run p χ) S (f p)) → (x : Meaning R)
      → x.matrix ≡ sum_matrices 𝓐 d (λ p. (f p).matrix) → ProperMeaning 𝓐 χ S x
  unfolding dimension
  sum_proper χ (index σ) d f t h s x e = absurd t
  sum_proper χ (basis σ) d f t h s x e = absurd t
  sum_proper χ scalar d f t h s x e = rw e (shape-sum-matrices 𝓐 h s)
  sum_proper χ (ket σ) d f t h s x e = rw e (shape-sum-matrices 𝓐 h s)
  sum_proper χ (bra σ) d f t h s x e = rw e (shape-sum-matrices 𝓐 h s)
  sum_proper χ (operator σ τ) d f t h s x e = rw e (shape-sum-matrices 𝓐 h s)

  -- an index stands for its dimension, from 1 up
  index_by_lem : {Γ : Context} {χ : Choice R} → WellFormed Γ → Fits 𝓐 Γ χ → {s σ : Tree} → Γ ⊢ s ∶ index σ → (stands 𝓐 Γ χ s).dimension ≡ dimension 𝓐 χ σ
      → ((stands 𝓐 Γ χ s).dimension ≡ dimension 𝓐 χ s) × (1 ≤ dimension 𝓐 χ s)
  index_by_lem {Γ} {χ} W F {s} {σ} a e = let z : s ≡ σ = index_is W a in (e ∙ ap (dimension 𝓐 χ) (sym z), rw z (positive 𝓐 W χ F.dimensions a))

  pub shape : {Γ : Context} {χ : Choice R} → WellFormed Γ → Fits 𝓐 Γ χ → {t : Tree} {S : Sort} → Γ ⊢ t ∶ S → ProperMeaning 𝓐 χ S (stands 𝓐 Γ χ t)
  unfolding stands meaning names meaning_of first second total product a_term an_index a_basis declared dimension
  shape W F (type_var h) = refl
  shape W F (basis_var e) = (rw e refl, F.positions _ _ e)
  shape {χ} W F (term_var {a} {S} e) = (at-type χ S _ (W.variable_type _ _ e).0).1 (F.matrices _ _ e)
  shape W F sca_0 = shape-scalar 𝓐 _
  shape W F sca_1 = shape-scalar 𝓐 _
  shape W F (sca_delta a b) = shape-scalar 𝓐 _
  shape W F (sca_add a f) = plus-shape _ (shape W F a)
  shape W F (sca_mul a f) = shape-scalar 𝓐 _
  shape W F (sca_conj a) = shape-scalar 𝓐 _
  shape W F (sca_dot a b) = shape-mul 𝓐 (shape W F a) (shape W F b)
  shape W F (base_prod a b h) = cc (shape W F a, shape W F b)
  shape W F (pair_base a b h) = pair-below (shape W F a) (shape W F b)
  shape W F (ket_0 a) = shape-zeros 𝓐 (shape W F a) refl
  shape W F (ket_base a) = shape-unit_column 𝓐 _ (shape W F a).0
  shape W F (ket_adj a) = shape-adjoint 𝓐 (shape W F a)
  shape W F (ket_scr a b) = shape-scale 𝓐 _ (shape W F b)
  shape W F (ket_add a f) = plus-shape _ (shape W F a)
  shape W F (ket_mulk a b) = shape-mul 𝓐 (shape W F a) (shape W F b)
  shape W F (ket_tsr a b h) = shape-kronecker 𝓐 (shape W F a) (shape W F b)
  shape W F (bra_0 a) = shape-zeros 𝓐 refl (shape W F a)
  shape W F (bra_base a) = shape-unit_row 𝓐 _ (shape W F a).0
  shape W F (bra_adj a) = shape-adjoint 𝓐 (shape W F a)
  shape W F (bra_scr a b) = shape-scale 𝓐 _ (shape W F b)
  shape W F (bra_add a f) = plus-shape _ (shape W F a)
  shape W F (bra_mulb a b) = shape-mul 𝓐 (shape W F a) (shape W F b)
  shape W F (bra_tsr a b h) = shape-kronecker 𝓐 (shape W F a) (shape W F b)
  shape W F (opt_0 a b) = shape-zeros 𝓐 (shape W F a) (shape W F b)
  shape W F (opt_1 a) = shape-identity 𝓐 (shape W F a)
  shape W F (opt_adj a) = shape-adjoint 𝓐 (shape W F a)
  shape W F (opt_scr a b) = shape-scale 𝓐 _ (shape W F b)
  shape W F (opt_add a f) = plus-shape _ (shape W F a)
  shape W F (opt_outer a b) = shape-mul 𝓐 (shape W F a) (shape W F b)
  shape W F (opt_mulo a b) = shape-mul 𝓐 (shape W F a) (shape W F b)
  shape W F (opt_tsr a b h k) = shape-kronecker 𝓐 (shape W F a) (shape W F b)
  shape W F (bound_var b e d) = (rw e refl, F.bounds _ _ e)
  shape {Γ} {χ} W F (sum_over {s} {b} {S} a d h n) =
      let e = index_by_lem W F a (shape W F a) in
      sum_proper χ S (dimension 𝓐 χ s) _ h e.1 (λ p l. shape (bind_well W s) (fits-run F s p l) d) _ (sum-stands Γ χ s b e.0)

  pub sum_index : {Γ : Context} {χ : Choice R} → WellFormed Γ → Fits 𝓐 Γ χ → {s σ : Tree} → Γ ⊢ s ∶ index σ → ((stands 𝓐 Γ χ s).dimension ≡ dimension 𝓐 χ s) × (1 ≤ dimension 𝓐 χ s)
  sum_index W F a = index_by_lem W F a (shape W F a)

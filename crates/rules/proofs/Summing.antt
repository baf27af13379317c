-- The rules of sums over a basis keep the meaning.
use mathlib.Core.Path.{◌≡◌, refl, sym, ◌∙◌, ap}
use mathlib.Core.Bool.{true, not, and-eq-true_iff}
use mathlib.Core.Option.{some}
use mathlib.Core.List.{List, [], ◌∷◌, ◌++◌}
use Prim.Native.Nat.{ℕ, zero, suc, ◌≤◌, ◌<◌}
use native.Mathlib.Omega.{arith}
use lib.Dec.{eqb}
use lib.ListN.{get_elem?}
use Rattle.algebra.specs.Semirings.{Arithmetic, StarSemiring}
use Rattle.algebra.specs.Matrices.{Matrix, ◌≈◌, HasShape, kronecker_delta, identity, scalar as scalar-matrix, sum_matrices}
use Rattle.algebra.proofs.Alike.{≈-refl, ≡→≈, ≈-trans, add-≈}
use Rattle.algebra.proofs.Ranges.{sum_zeros, sum-sums, sum_projectors, sum_deltas}
use Rattle.algebra.proofs.Shapes.{same_rows, same-columns, shape-sum-matrices}
use Rattle.words.specs.Listed.{lacks}
use Rattle.term.specs.Heads.{Label, scalar_zero, scalar_sum, add, delta, basis_ket, basis_bra, outer, big_sum, bound_basis}
use Rattle.term.specs.Trees.{Tree, Forest, node, none, ◌▹◌, ◌⧺◌, words}
use Rattle.types.specs.Sorts.{Sort, basis, scalar, ket, bra, operator, Context, bind}
use Rattle.types.specs.Rules.{◌⊢◌∶◌, ◌⊢*◌∶◌, every_none, every_more, basis_var, term_var, bound_var, pair_base, sca_0, sca_delta, sca_add, ket_add, bra_add, opt_add, sum_over, WellFormed}
use Rattle.types.proofs.Indices.{bind_well}
use Rattle.meaning.specs.Choices.{Choice, push, run, Meaning, a_term, a_basis}
use Rattle.meaning.specs.Meaning.{first, second, plus, product, meaning_of, meaning, dimension, declared, names, stands, stands*}
use Rattle.meaning.specs.Sorted.{Fits, ProperMeaning}
use Rattle.meaning.proofs.Shapes.{plus-shape, fits-run, sum-stands, sum_index, shape}
use Rattle.rules.specs.Instances.{Sum, of_scalars, of_arrays, is_unused, spread}
use Rattle.rules.proofs.Lines.{value, Means}

lacks-++ : (w : ℕ) (xs ys : List ℕ) → lacks w (xs ++ ys) ≡ true → (lacks w xs ≡ true) × (lacks w ys ≡ true)
unfolding lacks
lacks-++ w [] ys e = (refl, e)
lacks-++ w (x ∷ xs) ys e =
    let p = (and-eq-true_iff (not (eqb x w)) _).0 e in
    let r = lacks-++ w xs ys p.1 in
    (rw p.0 r.0, r.1)

module _ {R : Type 0} {𝓐 : Arithmetic R} (𝓡 : StarSemiring 𝓐) {Γ : Context} {χ : Choice R} (W : WellFormed Γ) (F : Fits 𝓐 Γ χ) where
  -- what a part of the body of a sum over s stands for, where the sum is at p
  abbrev In : Tree → ℕ → Tree → Meaning R
  In s p t = stands 𝓐 (bind s Γ) (run p χ) t

  bound_steady : (s : Tree) (a : ℕ) {τ : Tree} → get_elem? (s ∷ Γ.bound) a ≡ some τ → is_unused (node (bound_basis a) none) ≡ true → (p q : ℕ)
      → ((In s p (node (bound_basis a) none)).dimension ≡ (In s q (node (bound_basis a) none)).dimension) × ((In s p (node (bound_basis a) none)).position ≡ (In s q (node (bound_basis a) none)).position)
  unfolding stands meaning names meaning_of a_basis declared dimension push is_unused lacks
  bound_steady s zero e u p q = absurd (let z : ◌≡◌ {A = ℕ} 0 1 = cc in omega arith)
  bound_steady s (suc a) e u p q = (rw e, refl)

  -- a basis that does not use the one bound last is the same at every index
  steady : {s t τ : Tree} → bind s Γ ⊢ t ∶ basis τ → is_unused t ≡ true → (p q : ℕ) → ((In s p t).dimension ≡ (In s q t).dimension) × ((In s p t).position ≡ (In s q t).position)
  unfolding stands meaning names meaning_of first second a_basis declared dimension push is_unused lacks
  steady (basis_var e) u p q = (rw e, refl)
  steady {s} (term_var e) u p q = absurd ((bind_well W s).variable_type _ _ e).0
  steady {s} (bound_var {a} b e d) u p q = bound_steady s a e u p q
  steady {s} (pair_base {s = t} {t = v} a b h) u p q =
      let l = lacks-++ _ (words t) _ u in
      let m = lacks-++ _ (words v) [] l.1 in
      let x = steady a l.0 p q in
      let y = steady b m.0 p q in
      (cc (x.0, y.0), cc (x.1, y.0, y.1))
  steady (sum_over a b h n) u p q = absurd h

  -- the basis that is bound last stands for the index at which its sum is
  abbrev projector : Tree
  projector = node outer (node basis_ket (node (bound_basis 0) none ▹ none) ▹ node basis_bra (node (bound_basis 0) none ▹ none) ▹ none)

  projected : (s : Tree) → sum_matrices 𝓐 (dimension 𝓐 χ s) (λ p. (In s p projector).matrix) ≈ identity 𝓐 (dimension 𝓐 χ s)
  unfolding stands meaning names meaning_of first second product a_term a_basis declared dimension push
  projected s = sum_projectors 𝓡 (dimension 𝓐 χ s)

  at_once : {s t : Tree} → bind s Γ ⊢ t ∶ basis s → is_unused t ≡ true
      → ◌≡◌ {A = ℕ → Matrix R} (λ p. (In s p (node delta (t ▹ node (bound_basis 0) none ▹ none))).matrix) (λ p. scalar-matrix 𝓐 (kronecker_delta 𝓐 (In s 0 t).position p))
  unfolding stands meaning names meaning_of first second a_term a_basis push
  at_once b u = λ i p. scalar-matrix 𝓐 (kronecker_delta 𝓐 ((steady b u p 0).1 i) p)

  -- the sum of the projectors onto all indices
  projectors : (s : Tree) → (stands 𝓐 Γ χ s).dimension ≡ dimension 𝓐 χ s → (stands 𝓐 Γ χ (node big_sum (s ▹ projector ▹ none))).matrix ≈ identity 𝓐 (stands 𝓐 Γ χ s).dimension
  projectors s e = ≈-trans (≡→≈ (sum-stands 𝓐 Γ χ s projector e)) (≈-trans (projected s) (≡→≈ (ap (identity 𝓐) (sym e))))

  pub means_180 : Means Γ 𝓡 χ 180
  unfolding value
  means_180 θ S (sum_over {s} a sca_0 h n) = ≈-trans (≡→≈ (sum-stands 𝓐 Γ χ s (node scalar_zero none) (sum_index 𝓐 W F a).0)) (sum_zeros 𝓡 (dimension 𝓐 χ s))

  pub means_181 : Means Γ 𝓡 χ 181
  unfolding value
  means_181 θ S (sum_over {s} a d h n) = projectors s (sum_index 𝓐 W F a).0

  -- a delta is 1 at one index alone
  deltas : {s t : Tree} → (stands 𝓐 Γ χ s).dimension ≡ dimension 𝓐 χ s → 1 ≤ dimension 𝓐 χ s → bind s Γ ⊢ t ∶ basis s → is_unused t ≡ true
      → (stands 𝓐 Γ χ (node big_sum (s ▹ node delta (t ▹ node (bound_basis 0) none ▹ none) ▹ none))).matrix ≈ scalar-matrix 𝓐 𝓐.one
  unfolding dimension
  deltas {s} {t} e from_one b u =
      ≈-trans (≡→≈ (sum-stands 𝓐 Γ χ s _ e ∙ ap (sum_matrices 𝓐 (dimension 𝓐 χ s)) (at_once b u)))
      (sum_deltas 𝓡 (dimension 𝓐 χ s) (In s 0 t).position (shape 𝓐 (bind_well W s) (fits-run 𝓐 F s 0 from_one) b).1)

  pub means_183 : Means Γ 𝓡 χ 183
  unfolding value
  means_183 θ S k (sum_over {s} a (sca_delta b (bound_var {σ = σ} c e d)) h n) =
      let x = sum_index 𝓐 W F a in
      let z : s ≡ σ = cc in
      deltas x.0 x.1 (rw (← z) at b) k

  -- ---- 182: the sum of sums is the sum of the sums
  module _ (s : Tree) (low : (stands 𝓐 Γ χ s).dimension ≡ dimension 𝓐 χ s) (from_one : 1 ≤ dimension 𝓐 χ s) (T : Sort) {r c : ℕ}
      (shaped : (p : ℕ) (x : Meaning R) → ProperMeaning 𝓐 (run p χ) T x → HasShape x.matrix r c) where
    part-shape : {t : Tree} → bind s Γ ⊢ t ∶ T → (p : ℕ) → p < dimension 𝓐 χ s → HasShape (In s p t).matrix r c
    part-shape d p l = shaped p _ (shape 𝓐 (bind_well W s) (fits-run 𝓐 F s p l) d)

    plus-sums : (A : ℕ → Matrix R) → ((p : ℕ) → p < dimension 𝓐 χ s → HasShape (A p) r c) → {f : Forest} → bind s Γ ⊢* f ∶ T
        → sum_matrices 𝓐 (dimension 𝓐 χ s) (λ p. plus 𝓐 (A p) (stands* 𝓐 (bind s Γ) (run p χ) f)) ≈ plus 𝓐 (sum_matrices 𝓐 (dimension 𝓐 χ s) A) (stands* 𝓐 Γ χ (spread big_sum (s ▹ none) f none))
    unfolding plus meaning spread ◌⧺◌ stands
    plus-sums A a every_none = ≈-refl _
    plus-sums A a (every_more {t} {f} d ds) =
        let B : ℕ → Matrix R = λ p. (In s p t).matrix in
        let b = part-shape d in
        let x = shape-sum-matrices 𝓐 from_one a in
        let y = shape-sum-matrices 𝓐 from_one (λ p l. plus-shape 𝓐 (stands* 𝓐 (bind s Γ) (run p χ) f) (b p l)) in
        let whole = sum-stands 𝓐 Γ χ s t low in
        rw whole (≈-trans (sum-sums 𝓡 (dimension 𝓐 χ s) A _) (add-≈ 𝓐 (same_rows x y) (same-columns x y) (≈-refl _) (plus-sums B b ds)))

    pub total-sums : {t : Tree} {f : Forest} → bind s Γ ⊢ t ∶ T → bind s Γ ⊢* f ∶ T
        → sum_matrices 𝓐 (dimension 𝓐 χ s) (λ p. plus 𝓐 (In s p t).matrix (stands* 𝓐 (bind s Γ) (run p χ) f))
        ≈ plus 𝓐 (stands 𝓐 Γ χ (node big_sum (s ▹ t ▹ none))).matrix (stands* 𝓐 Γ χ (spread big_sum (s ▹ none) f none))
    total-sums {t} d ds = rw (sum-stands 𝓐 Γ χ s t low) (plus-sums (λ p. (In s p t).matrix) (part-shape d) ds)

  pub distribute_means : {l : Label} {S : Sort} (s : Tree) (f : Forest) → Sum l → Γ ⊢ node big_sum (s ▹ node l f ▹ none) ∶ S
      → value Γ 𝓡 χ (node big_sum (s ▹ node l f ▹ none)) ≈ value Γ 𝓡 χ (node l (spread big_sum (s ▹ none) f none))
  unfolding value spread ◌⧺◌ dimension
  distribute_means s f of_scalars (sum_over a (sca_add d ds) h n) =
      let e = sum_index 𝓐 W F a in ≈-trans (≡→≈ (sum-stands 𝓐 Γ χ s (node scalar_sum f) e.0)) (total-sums s e.0 e.1 scalar {r = 1} {c = 1} (λ p x y. y) d ds)
  distribute_means s f of_arrays (sum_over a (ket_add {σ = σ} d ds) h n) =
      let e = sum_index 𝓐 W F a in ≈-trans (≡→≈ (sum-stands 𝓐 Γ χ s (node add f) e.0)) (total-sums s e.0 e.1 (ket σ) {r = dimension 𝓐 χ σ} {c = 1} (λ p x y. y) d ds)
  distribute_means s f of_arrays (sum_over a (bra_add {σ = σ} d ds) h n) =
      let e = sum_index 𝓐 W F a in ≈-trans (≡→≈ (sum-stands 𝓐 Γ χ s (node add f) e.0)) (total-sums s e.0 e.1 (bra σ) {r = 1} {c = dimension 𝓐 χ σ} (λ p x y. y) d ds)
  distribute_means s f of_arrays (sum_over a (opt_add {σ = σ} {τ = τ} d ds) h n) =
      let e = sum_index 𝓐 W F a in ≈-trans (≡→≈ (sum-stands 𝓐 Γ χ s (node add f) e.0)) (total-sums s e.0 e.1 (operator σ τ) {r = dimension 𝓐 χ σ} {c = dimension 𝓐 χ τ} (λ p x y. y) d ds)

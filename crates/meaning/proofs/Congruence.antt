-- Congruence: a part gives way to any part of its sort that stands for the same, and the whole still stands for the same.
use mathlib.Core.Path.{◌≡◌, refl, sym, ◌∙◌}
use Prim.Native.Nat.{ℕ, zero, suc, ◌-◌, ◌≤◌, ◌<◌}
use native.Mathlib.Decide.{dec_lt}
use native.Mathlib.Omega.{arith}
use borrow.Author.Tests.{lt-ltb, le-ltb}
use lib.ListN.{length}
use Rattle.algebra.specs.Semirings.{Arithmetic}
use Rattle.algebra.specs.Matrices.{Matrix, ◌≈◌, HasShape, number, sum_matrices}
use Rattle.algebra.proofs.Alike.{≈-refl, ≡→≈, number-≈, add-≈, scale-≈, mul-≈, adjoint-≈, kronecker-≈}
use Rattle.algebra.proofs.Shapes.{same_rows, same-columns, conformable}
use Rattle.algebra.proofs.Ranges.{sum-matrices-≈}
use Rattle.term.specs.Heads.{Label, big_sum}
use Rattle.term.specs.Trees.{Tree, Forest, node, none, ◌▹◌, words, found, subtree, subtree*, replace, replace*}
use Rattle.term.specs.Terms.{max_bodies}
use Rattle.types.specs.Sorts.{Sort, index, basis, scalar, ket, bra, operator, IsType, Context, bind}
use Rattle.types.specs.Inside.{later, inside, inside*}
use Rattle.types.specs.Rules.{◌⊢◌∶◌, ◌⊢*◌∶◌, every_none, every_more, type_var, basis_var, term_var, sca_0, sca_1, sca_delta, sca_add, sca_mul, sca_conj, sca_dot, base_prod, pair_base}
use Rattle.types.specs.Rules.{ket_0, ket_base, ket_adj, ket_scr, ket_add, ket_mulk, ket_tsr, bra_0, bra_base, bra_adj, bra_scr, bra_add, bra_mulb, bra_tsr, opt_0, opt_1, opt_adj, opt_scr}
use Rattle.types.specs.Rules.{opt_add, opt_outer, opt_mulo, opt_tsr, bound_var, sum_over, WellFormed}
use Rattle.types.proofs.Indices.{index_is, bind_well, later_well}
use Rattle.meaning.specs.Choices.{Choice, run, Meaning, a_term, an_index, a_basis}
use Rattle.meaning.specs.Meaning.{first, second, plus, total, times, product, meaning_of, meaning, dimension, stands, stands*}
use Rattle.meaning.specs.Sorted.{ProperMeaning, Fits, Same}
use Rattle.meaning.proofs.Sameness.{same_refl}
use Rattle.meaning.proofs.Shapes.{plus-shape, fits-run, sum-stands, sum_index, shape}

-- the numbers of two scalars
same_number : {R : Type 0} {A B : Matrix R} → HasShape A 1 1 → A ≈ B → number A ≡ number B
same_number s p = number-≈ p s.rows s.columns

module _ {R : Type 0} (𝓐 : Arithmetic R) where
  -- u serves for t: whatever sort t has, u has it too and stands for the same, under every choice that fits
  abbrev pub Serves : Context → Tree → Tree → Type 0
  Serves Γ t u = (S : Sort) → Γ ⊢ t ∶ S → (Γ ⊢ u ∶ S) × ((χ : Choice R) → Fits 𝓐 Γ χ → Same S (stands 𝓐 Γ χ t) (stands 𝓐 Γ χ u))

  -- one by one, the first in one context and the others in another
  pub data Serves* : Forest → Forest → Context → Context → Type 0 where
    no_more : {Γ Δ : Context} → Serves* none none Γ Δ
    one_more_lem : {t u : Tree} {f g : Forest} {Γ Δ : Context} → Serves Γ t u → Serves* f g Δ Δ → Serves* (t ▹ f) (u ▹ g) Γ Δ

  -- under one label, in the contexts of the old children
  pub data Children (Γ : Context) : Tree → Tree → Type 0 where
    serve : {l : Label} {f g : Forest} → Serves* f g Γ (later Γ l f) → Children Γ (node l f) (node l g)

  serves_itself : (Γ : Context) (t : Tree) → Serves Γ t t
  serves_itself Γ t S d = (d, λ χ F. same_refl S _)

  serves_all : (Γ Δ : Context) (f : Forest) → Serves* f f Γ Δ
  serves_all Γ Δ none = no_more
  serves_all Γ Δ (t ▹ f) = one_more_lem (serves_itself Γ t) (serves_all Δ Δ f)

module _ {R : Type 0} (𝓐 : Arithmetic R) {Γ : Context} (W : WellFormed Γ) where
  abbrev Served : Tree → Tree → Type 0
  Served t u = Serves 𝓐 Γ t u

  abbrev Served* : Forest → Forest → Type 0
  Served* f g = Serves* 𝓐 f g Γ Γ

  -- children of a sum, at any sort of matrices of one shape
  module _ (S : Sort) {m n : Choice R → ℕ} (shaped : (χ : Choice R) (x : Meaning R) → ProperMeaning 𝓐 χ S x → HasShape x.matrix (m χ) (n χ))
      (alike : (x y : Meaning R) → Same S x y → x.matrix ≈ y.matrix) where
    sum_served : {f g : Forest} → Γ ⊢* f ∶ S → Served* f g → Γ ⊢* g ∶ S
    sum_served every_none no_more = every_none
    sum_served (every_more d ds) (one_more_lem x xs) = every_more (x S d).0 (sum_served ds xs)

    sum_alike : {A B : Matrix R} {f g : Forest} (χ : Choice R) → Fits 𝓐 Γ χ → HasShape A (m χ) (n χ) → A ≈ B → Γ ⊢* f ∶ S → Served* f g
        → plus 𝓐 A (stands* 𝓐 Γ χ f) ≈ plus 𝓐 B (stands* 𝓐 Γ χ g)
    unfolding plus meaning stands
    sum_alike χ F s p every_none no_more = p
    sum_alike {A = A} {B = B} χ F s p (every_more {t = t} {f = f} d ds) (one_more_lem {u = u} {g = g} x xs) =
        let a = shaped χ _ (shape 𝓐 W F d) in
        let b = plus-shape 𝓐 (stands* 𝓐 Γ χ f) a in
        add-≈ 𝓐 (same_rows s b) (same-columns s b) p (sum_alike {A = (stands 𝓐 Γ χ t).matrix} {B = (stands 𝓐 Γ χ u).matrix} χ F a (alike _ _ ((x S d).1 χ F)) ds xs)

    sum_of : {A : Type 0} {t u : Tree} {f g : Forest} → Served t u → Served* f g → Γ ⊢ t ∶ S → Γ ⊢* f ∶ S → (Γ ⊢ u ∶ S → Γ ⊢* g ∶ S → A)
        → A × ((χ : Choice R) → Fits 𝓐 Γ χ → plus 𝓐 (stands 𝓐 Γ χ t).matrix (stands* 𝓐 Γ χ f) ≈ plus 𝓐 (stands 𝓐 Γ χ u).matrix (stands* 𝓐 Γ χ g))
    sum_of s ss a f rule =
        let x = s S a in
        (rule x.0 (sum_served f ss), λ χ F. sum_alike χ F (shaped χ _ (shape 𝓐 W F a)) (alike _ _ (x.1 χ F)) f ss)

  product_serves : {f g : Forest} → Γ ⊢* f ∶ scalar → Served* f g
      → (Γ ⊢* g ∶ scalar) × ((χ : Choice R) → Fits 𝓐 Γ χ → times 𝓐 (stands* 𝓐 Γ χ f) ≡ times 𝓐 (stands* 𝓐 Γ χ g))
  unfolding times meaning stands
  product_serves every_none no_more = (every_none, λ χ F. refl)
  product_serves (every_more d ds) (one_more_lem x xs) =
      let y = x scalar d in
      let ys = product_serves ds xs in
      (every_more y.0 ys.0, λ χ F. cc (same_number (shape 𝓐 W F d) (y.1 χ F), ys.1 χ F))

  -- ---- one line for each rule: the rule again, and the law of its operation
  abbrev Alike : Choice R → Sort → Tree → Tree → Type 0
  Alike χ S t u = Same S (stands 𝓐 Γ χ t) (stands 𝓐 Γ χ u)

  one : {A : Type 0} {B : Choice R → Type 0} {t u : Tree} {S : Sort} → Served t u → Γ ⊢ t ∶ S → (Γ ⊢ u ∶ S → A)
      → ((χ : Choice R) → Fits 𝓐 Γ χ → Γ ⊢ u ∶ S → Alike χ S t u → B χ) → A × ((χ : Choice R) → Fits 𝓐 Γ χ → B χ)
  one s a rule law = let x = s _ a in (rule x.0, λ χ F. law χ F x.0 (x.1 χ F))

  two : {A : Type 0} {B : Choice R → Type 0} {t u v w : Tree} {S Q : Sort} → Served t u → Served v w → Γ ⊢ t ∶ S → Γ ⊢ v ∶ Q → (Γ ⊢ u ∶ S → Γ ⊢ w ∶ Q → A)
      → ((χ : Choice R) → Fits 𝓐 Γ χ → Γ ⊢ u ∶ S → Γ ⊢ w ∶ Q → Alike χ S t u → Alike χ Q v w → B χ) → A × ((χ : Choice R) → Fits 𝓐 Γ χ → B χ)
  two s t a b rule law =
      let x = s _ a in
      let y = t _ b in
      (rule x.0 y.0, λ χ F. law χ F x.0 y.0 (x.1 χ F) (y.1 χ F))

  -- a sum over a basis: its index is the same tree, and its body stands for the same at each index
  sums-alike : (S : Sort) (d : ℕ) (f g : ℕ → Meaning R) (χ : Choice R) → IsType S → 1 ≤ d → ((p : ℕ) → p < d → ProperMeaning 𝓐 (run p χ) S (f p)) → ((p : ℕ) → p < d → Same S (f p) (g p))
      → (x y : Meaning R) → x.matrix ≡ sum_matrices 𝓐 d (λ p. (f p).matrix) → y.matrix ≡ sum_matrices 𝓐 d (λ p. (g p).matrix) → Same S x y
  unfolding dimension
  sums-alike (index σ) d f g χ t h s a x y e k = absurd t
  sums-alike (basis σ) d f g χ t h s a x y e k = absurd t
  sums-alike scalar d f g χ t h s a x y e k = rw (e, k) (sum-matrices-≈ 𝓐 h s a)
  sums-alike (ket σ) d f g χ t h s a x y e k = rw (e, k) (sum-matrices-≈ 𝓐 h s a)
  sums-alike (bra σ) d f g χ t h s a x y e k = rw (e, k) (sum-matrices-≈ 𝓐 h s a)
  sums-alike (operator σ τ) d f g χ t h s a x y e k = rw (e, k) (sum-matrices-≈ 𝓐 h s a)

  sum_congruent : {s t b c σ : Tree} {S : Sort} → Γ ⊢ s ∶ index σ → bind s Γ ⊢ b ∶ S → IsType S → length Γ.bound < max_bodies → Served s t → Serves 𝓐 (bind s Γ) b c
      → (Γ ⊢ node big_sum (t ▹ c ▹ none) ∶ S) × ((χ : Choice R) → Fits 𝓐 Γ χ → Alike χ S (node big_sum (s ▹ b ▹ none)) (node big_sum (t ▹ c ▹ none)))
  sum_congruent {s} {t} {b} {c} {σ} {S} a d h n x y =
      let u = (x _ a).0 in
      let w = y _ d in
      let z : s ≡ t = index_is W a ∙ sym (index_is W u) in
      let v : bind t Γ ⊢ c ∶ S = rw (← z) w.0 in
      (sum_over u v h n, λ χ F. rw (← z) (go χ F w.1))
    where
      go : (χ : Choice R) → Fits 𝓐 Γ χ → ((φ : Choice R) → Fits 𝓐 (bind s Γ) φ → Same S (stands 𝓐 (bind s Γ) φ b) (stands 𝓐 (bind s Γ) φ c))
          → Alike χ S (node big_sum (s ▹ b ▹ none)) (node big_sum (s ▹ c ▹ none))
      go χ F same =
          let e = sum_index 𝓐 W F a in
          sums-alike S (dimension 𝓐 χ s) _ _ χ h e.1 (λ p l. shape 𝓐 (bind_well W s) (fits-run 𝓐 F s p l) d) (λ p l. same (run p χ) (fits-run 𝓐 F s p l)) _ _
          (sum-stands 𝓐 Γ χ s b e.0) (sum-stands 𝓐 Γ χ s c e.0)

  pub congruent : {t u : Tree} {S : Sort} → Γ ⊢ t ∶ S → Children 𝓐 Γ t u → (Γ ⊢ u ∶ S) × ((χ : Choice R) → Fits 𝓐 Γ χ → Alike χ S t u)
  unfolding later stands meaning meaning_of first second total product a_term an_index a_basis
  congruent (type_var h) (serve no_more) = (type_var h, λ χ F. refl)
  congruent (basis_var e) (serve no_more) = (basis_var e, λ χ F. refl)
  congruent (term_var {a} {S} e) (serve no_more) = (term_var e, λ χ F. same_refl S _)
  congruent sca_0 (serve no_more) = (sca_0, λ χ F. ≈-refl _)
  congruent sca_1 (serve no_more) = (sca_1, λ χ F. ≈-refl _)
  congruent (sca_delta a b) (serve (one_more_lem s (one_more_lem t no_more))) = two s t a b (λ p q. sca_delta p q) (λ χ F p q x y. ≡→≈ (cc (x, y)))
  congruent (sca_add a f) (serve (one_more_lem s ss)) = sum_of scalar (λ χ x p. p) (λ x y p. p) s ss a f (λ p q. sca_add p q)
  congruent (sca_mul a f) (serve (one_more_lem s ss)) =
      let xs = product_serves (every_more a f) (one_more_lem s ss) in
      (sca_mul (s _ a).0 (product_serves f ss).0, λ χ F. ≡→≈ (cc (xs.1 χ F)))
  congruent (sca_conj a) (serve (one_more_lem s no_more)) = one s a (λ p. sca_conj p) (λ χ F p x. ≡→≈ (cc (same_number (shape 𝓐 W F a) x)))
  congruent (sca_dot a b) (serve (one_more_lem s (one_more_lem t no_more))) = two s t a b (λ p q. sca_dot p q) (λ χ F p q. mul-≈ 𝓐 (conformable (shape 𝓐 W F a) (shape 𝓐 W F b)))
  congruent (base_prod a b h) (serve (one_more_lem s (one_more_lem t no_more))) = two s t a b (λ p q. base_prod p q h) (λ χ F p q x y. cc (x, y))
  congruent (pair_base a b h) (serve (one_more_lem s (one_more_lem t no_more))) = two s t a b (λ p q. pair_base p q h) (λ χ F p q x y. cc (x, y, (shape 𝓐 W F b).0, (shape 𝓐 W F q).0))
  congruent (ket_0 a) (serve (one_more_lem s no_more)) = one s a (λ p. ket_0 p) (λ χ F p x. ≡→≈ (cc x))
  congruent (ket_base a) (serve (one_more_lem s no_more)) = one s a (λ p. ket_base p) (λ χ F p x. ≡→≈ (cc (x, (shape 𝓐 W F a).0, (shape 𝓐 W F p).0)))
  congruent (ket_adj a) (serve (one_more_lem s no_more)) = one s a (λ p. ket_adj p) (λ χ F p. adjoint-≈ 𝓐)
  congruent (ket_scr a b) (serve (one_more_lem s (one_more_lem t no_more))) = two s t a b (λ p q. ket_scr p q) (λ χ F p q x. scale-≈ 𝓐 (same_number (shape 𝓐 W F a) x))
  congruent (ket_add {σ} a f) (serve (one_more_lem s ss)) = sum_of (ket σ) (λ χ x p. p) (λ x y p. p) s ss a f (λ p q. ket_add p q)
  congruent (ket_mulk a b) (serve (one_more_lem s (one_more_lem t no_more))) = two s t a b (λ p q. ket_mulk p q) (λ χ F p q. mul-≈ 𝓐 (conformable (shape 𝓐 W F a) (shape 𝓐 W F b)))
  congruent (ket_tsr a b h) (serve (one_more_lem s (one_more_lem t no_more))) = two s t a b (λ p q. ket_tsr p q h) (λ χ F p q. kronecker-≈ 𝓐)
  congruent (bra_0 a) (serve (one_more_lem s no_more)) = one s a (λ p. bra_0 p) (λ χ F p x. ≡→≈ (cc x))
  congruent (bra_base a) (serve (one_more_lem s no_more)) = one s a (λ p. bra_base p) (λ χ F p x. ≡→≈ (cc (x, (shape 𝓐 W F a).0, (shape 𝓐 W F p).0)))
  congruent (bra_adj a) (serve (one_more_lem s no_more)) = one s a (λ p. bra_adj p) (λ χ F p. adjoint-≈ 𝓐)
  congruent (bra_scr a b) (serve (one_more_lem s (one_more_lem t no_more))) = two s t a b (λ p q. bra_scr p q) (λ χ F p q x. scale-≈ 𝓐 (same_number (shape 𝓐 W F a) x))
  congruent (bra_add {σ} a f) (serve (one_more_lem s ss)) = sum_of (bra σ) (λ χ x p. p) (λ x y p. p) s ss a f (λ p q. bra_add p q)
  congruent (bra_mulb a b) (serve (one_more_lem s (one_more_lem t no_more))) = two s t a b (λ p q. bra_mulb p q) (λ χ F p q. mul-≈ 𝓐 (conformable (shape 𝓐 W F a) (shape 𝓐 W F b)))
  congruent (bra_tsr a b h) (serve (one_more_lem s (one_more_lem t no_more))) = two s t a b (λ p q. bra_tsr p q h) (λ χ F p q. kronecker-≈ 𝓐)
  congruent (opt_0 a b) (serve (one_more_lem s (one_more_lem t no_more))) = two s t a b (λ p q. opt_0 p q) (λ χ F p q x y. ≡→≈ (cc (x, y)))
  congruent (opt_1 a) (serve (one_more_lem s no_more)) = one s a (λ p. opt_1 p) (λ χ F p x. ≡→≈ (cc x))
  congruent (opt_adj a) (serve (one_more_lem s no_more)) = one s a (λ p. opt_adj p) (λ χ F p. adjoint-≈ 𝓐)
  congruent (opt_scr a b) (serve (one_more_lem s (one_more_lem t no_more))) = two s t a b (λ p q. opt_scr p q) (λ χ F p q x. scale-≈ 𝓐 (same_number (shape 𝓐 W F a) x))
  congruent (opt_add {σ} {τ} a f) (serve (one_more_lem s ss)) = sum_of (operator σ τ) (λ χ x p. p) (λ x y p. p) s ss a f (λ p q. opt_add p q)
  congruent (opt_outer a b) (serve (one_more_lem s (one_more_lem t no_more))) = two s t a b (λ p q. opt_outer p q) (λ χ F p q. mul-≈ 𝓐 (conformable (shape 𝓐 W F a) (shape 𝓐 W F b)))
  congruent (opt_mulo a b) (serve (one_more_lem s (one_more_lem t no_more))) = two s t a b (λ p q. opt_mulo p q) (λ χ F p q. mul-≈ 𝓐 (conformable (shape 𝓐 W F a) (shape 𝓐 W F b)))
  congruent (opt_tsr a b h k) (serve (one_more_lem s (one_more_lem t no_more))) = two s t a b (λ p q. opt_tsr p q h k) (λ χ F p q. kronecker-≈ 𝓐)
  congruent (bound_var b e d) (serve no_more) = (bound_var b e d, λ χ F. refl)
  congruent (sum_over a b h n) (serve (one_more_lem s (one_more_lem t no_more))) = sum_congruent a b h n s t

-- ---- at an offset
module _ {R : Type 0} (𝓐 : Arithmetic R) (s u : Tree) where
  mutual
    unfolding subtree replace inside

    pub replace_serves : {Γ : Context} → WellFormed Γ → (t : Tree) (k : ℕ) → subtree t k ≡ found s → Serves 𝓐 (inside Γ t k) s u → Serves 𝓐 Γ t (replace t k u)
    replace_serves W (node l cs) zero e new = let z : node l cs ≡ s = cc in rw z new
    replace_serves W (node l cs) (suc k) e new = λ S d. congruent 𝓐 W d (serve (replace_serves* W (later_well W l cs) cs k e new))

    pub replace_serves* : {Γ Δ : Context} → WellFormed Γ → WellFormed Δ → (f : Forest) (k : ℕ) → subtree* f k ≡ found s → Serves 𝓐 (inside* Γ Δ f k) s u → Serves* 𝓐 f (replace* f k u) Γ Δ
    replace_serves* W X none k e new = absurd (let z : ◌≡◌ {A = ℕ} 0 1 = cc in omega arith)
    replace_serves* {Γ} {Δ} W X (t ▹ f) k e new =
        elim (dec_lt k (length (words t))) [
          | yes h ↦
              let b = lt-ltb k (length (words t)) h in
              rw b (one_more_lem (replace_serves W t k (rw b at e) (rw b at new)) (serves_all 𝓐 Δ Δ f))
          | no h ↦
              let b = le-ltb k (length (words t)) (omega arith) in
              rw b (one_more_lem (serves_itself 𝓐 Γ t) (replace_serves* X X f (k - length (words t)) (rw b at e) (rw b at new)))
        ]

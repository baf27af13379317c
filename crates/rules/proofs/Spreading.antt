-- Spreading rules keep the meaning: the head is additive in the child that is a sum (13: multiplicative in one that is a product).
use mathlib.Core.Path.{◌≡◌, refl, ap}
use Prim.Native.Nat.{◌<◌}
use native.Mathlib.Omega.{arith}
use Rattle.algebra.specs.Semirings.{Arithmetic, StarSemiring}
use Rattle.algebra.specs.Matrices.{Matrix, ◌≈◌, HasShape, number, scalar as scalar-matrix, scale as scale-matrix, mul, adjoint as adjoint-matrix, kronecker}
use Rattle.algebra.proofs.Semirings.{add-mul}
use Rattle.algebra.proofs.Alike.{≈-refl, ≈-sym, ≈-trans, ≡→≈, number-≈}
use Rattle.algebra.proofs.Shapes.{shape-scalar}
use Rattle.term.specs.Heads.{Label, scalar_sum, scalar_product, conjugate, dot, adjoint, scale, add, tensor, mulk, mulb, outer, mulo}
use Rattle.term.specs.Trees.{Tree, Forest, node, none, ◌▹◌, ◌⧺◌, count}
use Rattle.types.specs.Sorts.{Sort, Context}
use Rattle.types.specs.Inside.{binds}
use Rattle.types.specs.Rules.{◌⊢◌∶◌, ◌⊢*◌∶◌, every_none, every_more, sca_conj, sca_dot, ket_adj, ket_scr, ket_mulk, ket_tsr, bra_adj, bra_scr, bra_mulb, bra_tsr, opt_adj, opt_scr}
use Rattle.types.specs.Rules.{opt_outer, opt_mulo, opt_tsr, WellFormed}
use Rattle.meaning.specs.Choices.{Choice}
use Rattle.meaning.specs.Meaning.{times, dimension, stands*}
use Rattle.meaning.specs.Sorted.{Fits}
use Rattle.meaning.proofs.Shapes.{shape}
use Rattle.rules.specs.Instances.{scalar_sums, scalar_products, spread}
use Rattle.rules.proofs.Additive.{Additive, times-right, times-left, scaled, adjoined, kronecker-right, kronecker-left, numerical}
use Rattle.rules.proofs.FamilyTypes.{count-spread, spread-typed, hole_of}
use Rattle.rules.proofs.FamilyMeanings.{times_around}
use Rattle.rules.proofs.Forests.{Sum, scalars, arrays, sum-is-chain, Of, of_sum, of_product, of_kets, of_bras, of_operators, links}
use Rattle.rules.proofs.Gatherings.{products}
use Rattle.rules.proofs.Gathered.{gather, gather_shape, sum-chain, Whole, whole_of, op_add}
use Rattle.rules.proofs.Lines.{value}

-- the five heads that multiply matrices, each with the head of what it makes of a sum
pub data Times : Label → Label → Type 0 where
  dots : Times dot scalar_sum
  on_kets : Times mulk add
  on_bras : Times mulb add
  outers : Times outer add
  on_operators : Times mulo add

module _ {R : Type 0} {𝓐 : Arithmetic R} (𝓡 : StarSemiring 𝓐) {Γ : Context} {χ : Choice R} (W : WellFormed Γ) (F : Fits 𝓐 Γ χ) where
  -- from one chain's operation to another's
  pub record Carries {s r : Label} {T S : Sort} (w : Whole 𝓡 W F s T) (v : Whole 𝓡 W F r S) (Φ : Matrix R → Matrix R) : Type 0 where
    pub shaped : (A : Matrix R) → HasShape A w.m w.n → HasShape (Φ A) v.m v.n
    pub alike : (A B : Matrix R) → HasShape A w.m w.n → A ≈ B → Φ A ≈ Φ B
    pub carries : (A B : Matrix R) → HasShape A w.m w.n → HasShape B w.m w.n → Φ (w.G.op A B) ≈ v.G.op (Φ A) (Φ B)

  module _ (l : Label) {s r : Label} {T S : Sort} (b a : Forest) (w : Whole 𝓡 W F s T) (v : Whole 𝓡 W F r S) (Φ : Matrix R → Matrix R)
      (is : (u : Tree) → value Γ 𝓡 χ (node l (b ⧺ u ▹ a)) ≡ Φ (value Γ 𝓡 χ u)) (C : Carries w v Φ) where
    spread_gather : {f : Forest} → 0 < count f → Γ ⊢* f ∶ T → Φ (gather 𝓡 W F T w.G w.shaped f) ≈ gather 𝓡 W F S v.G v.shaped (spread l b f a)
    unfolding gather spread count
    spread_gather h every_none = absurd (omega arith)
    spread_gather {f = t ▹ none} h (every_more d every_none) =
        let A = w.shaped t d in
        ≈-trans (C.alike _ _ (w.G.op_shape _ _ A w.G.unit_shape) (w.G.op_unit (value Γ 𝓡 χ t) A))
        (rw (is t) (≈-sym (v.G.op_unit (Φ (value Γ 𝓡 χ t)) (C.shaped (value Γ 𝓡 χ t) A))))
    spread_gather {f = t ▹ u ▹ g} h (every_more d (every_more e xs)) =
        let A = w.shaped t d in
        let B = gather_shape 𝓡 W F T w.G w.shaped (every_more e xs) in
        ≈-trans (C.carries _ _ A B)
        (rw (is t) (v.G.op-≈ _ _ _ _ (C.shaped (value Γ 𝓡 χ t) A) (C.shaped _ B) (≈-refl _) (spread_gather (omega arith) (every_more e xs))))

    carried : (f : Forest) → 0 < count f → Γ ⊢* f ∶ T → ((u : Tree) → Γ ⊢ u ∶ T → Γ ⊢ node l (b ⧺ u ▹ a) ∶ S)
        → value Γ 𝓡 χ (node l (b ⧺ node s f ▹ a)) ≈ value Γ 𝓡 χ (node r (spread l b f a))
    carried f h xs again =
        rw (is (node s f))
        (≈-trans (≈-sym (C.alike _ _ (gather_shape 𝓡 W F T w.G w.shaped xs) (≈-sym (w.whole f h xs))))
        (≈-trans (spread_gather h xs) (≈-sym (v.whole (spread l b f a) (rw (count-spread l b f a) h) (spread-typed b a again xs)))))

  -- what is additive carries sums to sums
  additive : {s r : Label} {T S : Sort} → Sum s → (o : Of s T) → Sum r → (q : Of r S) → (Φ : Matrix R → Matrix R)
      → (let w = whole_of 𝓡 W F o in let v = whole_of 𝓡 W F q in Additive 𝓡 w.m w.n v.m v.n Φ) → Carries (whole_of 𝓡 W F o) (whole_of 𝓡 W F q) Φ
  additive x o y q Φ A = record { shaped = A.shaped; alike = A.alike; carries = rw (op_add 𝓡 W F x o, op_add 𝓡 W F y q) A.adds }

  -- a head that is additive in a child, a sum
  sum-spreads : (l : Label) {s r : Label} {T S : Sort} (b f a : Forest) → Sum s → (o : Of s T) → Sum r → (q : Of r S) → (Φ : Matrix R → Matrix R)
      → ((u : Tree) → value Γ 𝓡 χ (node l (b ⧺ u ▹ a)) ≡ Φ (value Γ 𝓡 χ u)) → ((u : Tree) → Γ ⊢ u ∶ T → Γ ⊢ node l (b ⧺ u ▹ a) ∶ S)
      → (let w = whole_of 𝓡 W F o in let v = whole_of 𝓡 W F q in Additive 𝓡 w.m w.n v.m v.n Φ)
      → Γ ⊢ node s f ∶ T → value Γ 𝓡 χ (node l (b ⧺ node s f ▹ a)) ≈ value Γ 𝓡 χ (node r (spread l b f a))
  sum-spreads l b f a x o y q Φ is again A d =
      let k = links (sum-is-chain x) d in
      carried l b a (whole_of 𝓡 W F o) (whole_of 𝓡 W F q) Φ is (additive x o y q Φ A) f k.some k.every again

  -- ---- the lines of the table: what is spread over is child 0, or child 1 behind another
  abbrev pub First : Label → Label → Label → Type 0
  First l s r = (S : Sort) (f a : Forest) → Γ ⊢ node l (node s f ▹ a) ∶ S → value Γ 𝓡 χ (node l (node s f ▹ a)) ≈ value Γ 𝓡 χ (node r (spread l none f a))

  abbrev pub Second : Label → Label → Label → Type 0
  Second l s r = (S : Sort) (t : Tree) (f a : Forest) → Γ ⊢ node l (t ▹ node s f ▹ a) ∶ S → value Γ 𝓡 χ (node l (t ▹ node s f ▹ a)) ≈ value Γ 𝓡 χ (node r (spread l (t ▹ none) f a))

  pub times-first : {l r : Label} → Times l r → First l add r
  unfolding value whole_of sum-chain ◌⧺◌
  times-first dots S f a (sca_dot x y) = sum-spreads dot none f a arrays of_bras scalars of_sum (λ A. mul 𝓐 A _) (λ u. refl) (λ u e. sca_dot e y) (times-right 𝓡 _ (shape 𝓐 W F y)) x
  times-first on_kets S f a (ket_mulk x y) = sum-spreads mulk none f a arrays of_operators arrays of_kets (λ A. mul 𝓐 A _) (λ u. refl) (λ u e. ket_mulk e y) (times-right 𝓡 _ (shape 𝓐 W F y)) x
  times-first on_bras S f a (bra_mulb x y) = sum-spreads mulb none f a arrays of_bras arrays of_bras (λ A. mul 𝓐 A _) (λ u. refl) (λ u e. bra_mulb e y) (times-right 𝓡 _ (shape 𝓐 W F y)) x
  times-first outers S f a (opt_outer x y) = sum-spreads outer none f a arrays of_kets arrays of_operators (λ A. mul 𝓐 A _) (λ u. refl) (λ u e. opt_outer e y) (times-right 𝓡 _ (shape 𝓐 W F y)) x
  times-first on_operators S f a (opt_mulo x y) =
      sum-spreads mulo none f a arrays of_operators arrays of_operators (λ A. mul 𝓐 A _) (λ u. refl) (λ u e. opt_mulo e y) (times-right 𝓡 _ (shape 𝓐 W F y)) x

  pub times-second : {l r : Label} → Times l r → Second l add r
  unfolding value whole_of sum-chain ◌⧺◌
  times-second dots S t f a (sca_dot x y) =
      sum-spreads dot (t ▹ none) f a arrays of_kets scalars of_sum (λ A. mul 𝓐 _ A) (λ u. refl) (λ u e. sca_dot x e) (times-left 𝓡 _ (shape 𝓐 W F x)) y
  times-second on_kets S t f a (ket_mulk x y) =
      sum-spreads mulk (t ▹ none) f a arrays of_kets arrays of_kets (λ A. mul 𝓐 _ A) (λ u. refl) (λ u e. ket_mulk x e) (times-left 𝓡 _ (shape 𝓐 W F x)) y
  times-second on_bras S t f a (bra_mulb x y) =
      sum-spreads mulb (t ▹ none) f a arrays of_operators arrays of_bras (λ A. mul 𝓐 _ A) (λ u. refl) (λ u e. bra_mulb x e) (times-left 𝓡 _ (shape 𝓐 W F x)) y
  times-second outers S t f a (opt_outer x y) =
      sum-spreads outer (t ▹ none) f a arrays of_bras arrays of_operators (λ A. mul 𝓐 _ A) (λ u. refl) (λ u e. opt_outer x e) (times-left 𝓡 _ (shape 𝓐 W F x)) y
  times-second on_operators S t f a (opt_mulo x y) =
      sum-spreads mulo (t ▹ none) f a arrays of_operators arrays of_operators (λ A. mul 𝓐 _ A) (λ u. refl) (λ u e. opt_mulo x e) (times-left 𝓡 _ (shape 𝓐 W F x)) y

  pub scale-second : Second scale add add
  unfolding value whole_of sum-chain ◌⧺◌
  scale-second S t f a (ket_scr x y) = sum-spreads scale (t ▹ none) f a arrays of_kets arrays of_kets (λ A. scale-matrix 𝓐 _ A) (λ u. refl) (λ u e. ket_scr x e) (scaled 𝓡 _) y
  scale-second S t f a (bra_scr x y) = sum-spreads scale (t ▹ none) f a arrays of_bras arrays of_bras (λ A. scale-matrix 𝓐 _ A) (λ u. refl) (λ u e. bra_scr x e) (scaled 𝓡 _) y
  scale-second S t f a (opt_scr x y) = sum-spreads scale (t ▹ none) f a arrays of_operators arrays of_operators (λ A. scale-matrix 𝓐 _ A) (λ u. refl) (λ u e. opt_scr x e) (scaled 𝓡 _) y

  pub adjoint-first : First adjoint add add
  unfolding value whole_of sum-chain ◌⧺◌
  adjoint-first S f a (ket_adj x) = sum-spreads adjoint none f a arrays of_bras arrays of_kets (λ A. adjoint-matrix 𝓐 A) (λ u. refl) (λ u e. ket_adj e) (adjoined 𝓡) x
  adjoint-first S f a (bra_adj x) = sum-spreads adjoint none f a arrays of_kets arrays of_bras (λ A. adjoint-matrix 𝓐 A) (λ u. refl) (λ u e. bra_adj e) (adjoined 𝓡) x
  adjoint-first S f a (opt_adj x) = sum-spreads adjoint none f a arrays of_operators arrays of_operators (λ A. adjoint-matrix 𝓐 A) (λ u. refl) (λ u e. opt_adj e) (adjoined 𝓡) x

  pub tensor_first : First tensor add add
  unfolding value whole_of sum-chain ◌⧺◌ dimension
  tensor_first S f a (ket_tsr {L} x y h) =
      sum-spreads tensor none f a arrays of_kets arrays of_kets (λ A. kronecker 𝓐 A (value Γ 𝓡 χ L)) (λ u. refl) (λ u e. ket_tsr e y h) (kronecker-right 𝓡 _ (shape 𝓐 W F y)) x
  tensor_first S f a (bra_tsr {C} x y h) =
      sum-spreads tensor none f a arrays of_bras arrays of_bras (λ A. kronecker 𝓐 A (value Γ 𝓡 χ C)) (λ u. refl) (λ u e. bra_tsr e y h) (kronecker-right 𝓡 _ (shape 𝓐 W F y)) x
  tensor_first S f a (opt_tsr {P} x y h k) =
      sum-spreads tensor none f a arrays of_operators arrays of_operators (λ A. kronecker 𝓐 A (value Γ 𝓡 χ P)) (λ u. refl) (λ u e. opt_tsr e y h k) (kronecker-right 𝓡 _ (shape 𝓐 W F y)) x

  pub tensor_second : Second tensor add add
  unfolding value whole_of sum-chain ◌⧺◌ dimension
  tensor_second S t f a (ket_tsr x y h) =
      sum-spreads tensor (t ▹ none) f a arrays of_kets arrays of_kets (λ A. kronecker 𝓐 (value Γ 𝓡 χ t) A) (λ u. refl) (λ u e. ket_tsr x e h) (kronecker-left 𝓡 _ (shape 𝓐 W F x)) y
  tensor_second S t f a (bra_tsr x y h) =
      sum-spreads tensor (t ▹ none) f a arrays of_bras arrays of_bras (λ A. kronecker 𝓐 (value Γ 𝓡 χ t) A) (λ u. refl) (λ u e. bra_tsr x e h) (kronecker-left 𝓡 _ (shape 𝓐 W F x)) y
  tensor_second S t f a (opt_tsr x y h k) =
      sum-spreads tensor (t ▹ none) f a arrays of_operators arrays of_operators (λ A. kronecker 𝓐 (value Γ 𝓡 χ t) A) (λ u. refl) (λ u e. opt_tsr x e h k) (kronecker-left 𝓡 _ (shape 𝓐 W F x)) y

  pub conjugate_sum : First conjugate scalar_sum scalar_sum
  unfolding value whole_of sum-chain ◌⧺◌
  conjugate_sum S f a (sca_conj x) =
      sum-spreads conjugate none f a scalars of_sum scalars of_sum (λ A. scalar-matrix 𝓐 (𝓐.conj (number A))) (λ u. refl) (λ u e. sca_conj e) (numerical 𝓡 𝓐.conj 𝓡.conj_add) x

  -- 13 carries products to products
  conj-carries : Carries (whole_of 𝓡 W F of_product) (whole_of 𝓡 W F of_product) (λ A. scalar-matrix 𝓐 (𝓐.conj (number A)))
  unfolding whole_of products number scalar-matrix
  conj-carries =
      record {
        shaped = λ A a. shape-scalar 𝓐 _;
        alike = λ A B a p. ≡→≈ (cc (number-≈ p a.rows a.columns));
        carries = λ A B a b. ≡→≈ (ap (scalar-matrix 𝓐) (𝓡.conj_mul (number A) (number B)));
      }

  pub conjugate_product : First conjugate scalar_product scalar_product
  unfolding value ◌⧺◌
  conjugate_product S f a (sca_conj x) =
      let k = links scalar_products x in
      carried conjugate none a (whole_of 𝓡 W F of_product) (whole_of 𝓡 W F of_product) (λ A. scalar-matrix 𝓐 (𝓐.conj (number A))) (λ u. refl) conj-carries f k.some k.every (λ u e. sca_conj e)

  -- 7: the factors before and behind stay
  product_by : {T S : Sort} (b f a : Forest) → Of scalar_sum T → Of scalar_product S → Γ ⊢ node scalar_sum f ∶ T
      → ((u : Tree) → Γ ⊢ u ∶ T → Γ ⊢ node scalar_product (b ⧺ u ▹ a) ∶ S)
      → value Γ 𝓡 χ (node scalar_product (b ⧺ node scalar_sum f ▹ a)) ≈ value Γ 𝓡 χ (node scalar_sum (spread scalar_product b f a))
  unfolding value whole_of sum-chain
  product_by b f a of_sum of_product d again =
      let p = times 𝓐 (stands* 𝓐 Γ χ b) in
      let q = times 𝓐 (stands* 𝓐 Γ χ a) in
      sum-spreads scalar_product b f a scalars of_sum scalars of_sum (λ A. scalar-matrix 𝓐 (𝓐.mul p (𝓐.mul (number A) q)))
      (λ u. ap (scalar-matrix 𝓐) (times_around 𝓡 W F b u a)) again
      (numerical 𝓡 (λ x. 𝓐.mul p (𝓐.mul x q)) (λ x y. cc (add-mul 𝓡 x y q, 𝓡.mul_add p (𝓐.mul x q) (𝓐.mul y q)))) d

  pub product_any : (S : Sort) (b f a : Forest) → Γ ⊢ node scalar_product (b ⧺ node scalar_sum f ▹ a) ∶ S
      → value Γ 𝓡 χ (node scalar_product (b ⧺ node scalar_sum f ▹ a)) ≈ value Γ 𝓡 χ (node scalar_sum (spread scalar_product b f a))
  unfolding binds
  product_any S b f a d =
      let h = hole_of W {l = scalar_product} refl b (node scalar_sum f) a d in
      product_by b f a (links scalar_sums h.here).of (links scalar_products d).of h.here h.again

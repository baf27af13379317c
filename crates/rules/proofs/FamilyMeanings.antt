-- The rules that are no equations keep the meaning of a typed part.
use mathlib.Core.Path.{◌≡◌, sym, ◌∙◌, ap}
use Prim.Native.Nat.{◌<◌}
use Rattle.algebra.specs.Semirings.{Arithmetic, StarSemiring}
use Rattle.algebra.specs.Matrices.{◌≈◌, number, scalar as scalar-matrix, scale as scale-matrix, add as add-matrix}
use Rattle.algebra.proofs.Alike.{≈-refl, ≈-sym, ≈-trans, ≡→≈, add-≈}
use Rattle.algebra.proofs.Shapes.{same_rows, same-columns}
use Rattle.algebra.proofs.Linear.{scale_one, add-scale}
use Rattle.algebra.proofs.Scalars as Scalars
use Rattle.algebra.proofs.Deltas.{delta_sym}
use Rattle.algebra.proofs.Combined.{scalar-≈}
use Rattle.algebra.proofs.Semirings.{one-mul, zero-mul}
use Rattle.term.specs.Heads.{Label, scalar_zero, scalar_sum, scalar_product, delta, scale, add}
use Rattle.term.specs.Trees.{Tree, Forest, node, none, ◌▹◌, ◌⧺◌, count}
use Rattle.types.specs.Sorts.{Sort, Context}
use Rattle.types.specs.Rules.{◌⊢◌∶◌, ◌⊢*◌∶◌, every_none, sca_0, sca_1, ket_0, bra_0, opt_0, WellFormed}
use Rattle.meaning.specs.Choices.{Choice}
use Rattle.meaning.specs.Meaning.{times, stands*}
use Rattle.meaning.specs.Sorted.{Fits}
use Rattle.meaning.proofs.Shapes.{shape}
use Rattle.rules.specs.Table.{Summand, plain, scaled}
use Rattle.rules.specs.Instances.{ACSymbol, sums as sum-chains, Loose, loose_chain, loose_delta, summand, factor}
use Rattle.rules.proofs.Forests.{arrays, Of, of_sum, of_product, of_kets, of_bras, of_operators, Fitting, scalar-zeros, scalar_ones, ket_zeros, bra_zeros, operator-zeros, around, links}
use Rattle.rules.proofs.FamilyTypes.{merge_keeps, remove_keeps, one-pair, swap_keeps, collected-typed, collect_keeps}
use Rattle.rules.proofs.Gatherings.{sums, products}
use Rattle.rules.proofs.Gathered.{gather, gather_swap, gather_merge, gather_collect, sum-chain, whole_of, op_add}
use Rattle.rules.proofs.Lines.{value}

module _ {R : Type 0} {𝓐 : Arithmetic R} (𝓡 : StarSemiring 𝓐) {Γ : Context} {χ : Choice R} (W : WellFormed Γ) (F : Fits 𝓐 Γ χ) where
  -- a chain and what it becomes: the children come to the same
  module _ {l : Label} {S : Sort} (c : ACSymbol l) where
    chain_means : (f g : Forest) → Γ ⊢ node l f ∶ S → Γ ⊢ node l g ∶ S
        → ((o : Of l S) → Γ ⊢* f ∶ S → let w = whole_of 𝓡 W F o in gather 𝓡 W F S w.G w.shaped f ≈ gather 𝓡 W F S w.G w.shaped g)
        → value Γ 𝓡 χ (node l f) ≈ value Γ 𝓡 χ (node l g)
    chain_means f g d e same =
        let k = links c d in
        let m = links c e in
        let w = whole_of 𝓡 W F k.of in
        ≈-trans (w.whole f k.some k.every) (≈-trans (same k.of k.every) (≈-sym (w.whole g m.some m.every)))

    chain_swap_means : (b : Forest) (t u : Tree) (a : Forest) → Γ ⊢ node l (b ⧺ t ▹ u ▹ a) ∶ S → value Γ 𝓡 χ (node l (b ⧺ t ▹ u ▹ a)) ≈ value Γ 𝓡 χ (node l (b ⧺ u ▹ t ▹ a))
    unfolding ◌⧺◌
    chain_swap_means b t u a d =
        chain_means _ _ d (swap_keeps b t u a (loose_chain c) d) λ o xs.
        let w = whole_of 𝓡 W F o in
        let r = around b t (u ▹ a) xs in
        let q = around none u a r.back in
        gather_swap 𝓡 W F S w.G w.shaped r.front r.here q.here q.back

    pub merge_means : (b f a : Forest) → Γ ⊢ node l (b ⧺ node l f ▹ a) ∶ S → value Γ 𝓡 χ (node l (b ⧺ node l f ▹ a)) ≈ value Γ 𝓡 χ (node l (b ⧺ f ⧺ a))
    merge_means b f a d =
        chain_means _ _ d (merge_keeps b f a c d) λ o xs.
        let w = whole_of 𝓡 W F o in
        let r = around b (node l f) a xs in
        let m = links c r.here in
        gather_merge 𝓡 W F S w.G w.shaped r.front r.here m.every r.back (w.whole f m.some m.every)

    -- the child that goes comes to the unit
    pub remove_means : (b : Forest) (t : Tree) (a : Forest) → 0 < count (b ⧺ a) → Γ ⊢ node l (b ⧺ t ▹ a) ∶ S
        → ((o : Of l S) → Γ ⊢ t ∶ S → value Γ 𝓡 χ t ≈ (whole_of 𝓡 W F o).G.unit) → value Γ 𝓡 χ (node l (b ⧺ t ▹ a)) ≈ value Γ 𝓡 χ (node l (b ⧺ a))
    unfolding gather ◌⧺◌
    remove_means b t a h d unit =
        chain_means _ _ d (remove_keeps b t a c h d) λ o xs.
        let w = whole_of 𝓡 W F o in
        let r = around b t a xs in
        gather_merge 𝓡 W F S w.G w.shaped r.front r.here every_none r.back (unit o r.here)

  -- ---- 170
  delta_means : (t u : Tree) → value Γ 𝓡 χ (node delta (t ▹ u ▹ none)) ≈ value Γ 𝓡 χ (node delta (u ▹ t ▹ none))
  unfolding value
  delta_means t u = scalar-≈ 𝓡 (delta_sym 𝓡 _ _)

  pub swap_means : {l : Label} {S : Sort} → Loose l → (b : Forest) (t u : Tree) (a : Forest) → Γ ⊢ node l (b ⧺ t ▹ u ▹ a) ∶ S
      → value Γ 𝓡 χ (node l (b ⧺ t ▹ u ▹ a)) ≈ value Γ 𝓡 χ (node l (b ⧺ u ▹ t ▹ a))
  unfolding ◌⧺◌
  swap_means (loose_chain c) b t u a d = chain_swap_means c b t u a d
  swap_means loose_delta b t u a d = let p = one-pair b t u a d in rw (p.0, p.1) (delta_means t u)

  -- ---- 51 to 54
  -- a summand is shape 𝓐 W F factor times shape 𝓐 W F X
  summand_value : (u : Summand) (p x : Tree) → value Γ 𝓡 χ (summand u p x) ≈ scale-matrix 𝓐 (number (value Γ 𝓡 χ (factor u p))) (value Γ 𝓡 χ x)
  unfolding value number scalar-matrix
  summand_value plain p x = ≈-sym (scale_one 𝓡 _)
  summand_value scaled p x = ≈-refl _

  -- and two with the same X are one with the sum of their factors
  collected_value : {S : Sort} (o : Of add S) (u v : Summand) (p q x : Tree) → Γ ⊢ summand u p x ∶ S → Γ ⊢ summand v q x ∶ S
      → (whole_of 𝓡 W F o).G.op (value Γ 𝓡 χ (summand u p x)) (value Γ 𝓡 χ (summand v q x)) ≈ value Γ 𝓡 χ (node scale (node scalar_sum (factor u p ▹ factor v q ▹ none) ▹ x ▹ none))
  unfolding value number add-matrix
  collected_value o u v p q x a b =
      let w = whole_of 𝓡 W F o in
      let s = w.shaped _ a in
      let t = w.shaped _ b in
      rw (op_add 𝓡 W F arrays o)
      (≈-trans (add-≈ 𝓐 (same_rows s t) (same-columns s t) (summand_value u p x) (summand_value v q x))
      (≈-sym (add-scale 𝓡 (number (value Γ 𝓡 χ (factor u p))) (number (value Γ 𝓡 χ (factor v q))) (value Γ 𝓡 χ x))))

  pub collect_means : {S : Sort} (u v : Summand) (b m e : Forest) (p q x : Tree) (d : Γ ⊢ node add (b ⧺ summand u p x ▹ m ⧺ summand v q x ▹ e) ∶ S)
      → value Γ 𝓡 χ (node add (b ⧺ summand u p x ▹ m ⧺ summand v q x ▹ e))
      ≈ value Γ 𝓡 χ (node add (b ⧺ m ⧺ e ⧺ node scale (node scalar_sum (factor u p ▹ factor v q ▹ none) ▹ x ▹ none) ▹ none))
  unfolding ◌⧺◌
  collect_means u v b m e p q x d =
      chain_means sum-chains _ _ d (collect_keeps u v b m e p q x d) λ o xs.
      let w = whole_of 𝓡 W F o in
      let r = around b (summand u p x) (m ⧺ summand v q x ▹ e) xs in
      let s = around m (summand v q x) e r.back in
      gather_collect 𝓡 W F _ w.G w.shaped r.front r.here s.front s.here s.back
      (collected-typed u v p q x o r.here s.here) (collected_value o u v p q x r.here s.here)

  -- ---- 4, 6, 55 to 57: what goes comes to nothing
  pub unit_value : {l c : Label} {S : Sort} {f : Forest} → Fitting l c → (o : Of l S) → Γ ⊢ node c f ∶ S → value Γ 𝓡 χ (node c f) ≈ (whole_of 𝓡 W F o).G.unit
  unfolding value whole_of sum-chain sums products
  unit_value scalar-zeros of_sum sca_0 = ≈-sym (Scalars.scalar_zero 𝓡)
  unit_value scalar_ones of_product sca_1 = ≈-refl _
  unit_value ket_zeros of_kets (ket_0 a) = ≡→≈ (cc (shape 𝓐 W F a))
  unit_value bra_zeros of_bras (bra_0 a) = ≡→≈ (cc (shape 𝓐 W F a))
  unit_value operator-zeros of_operators (opt_0 a b) = ≡→≈ (cc (shape 𝓐 W F a, shape 𝓐 W F b))
  unit_value {f = f} ket_zeros (of_bras {σ = σ}) x7 = elim x7 [ ]
  unit_value {f = f} ket_zeros (of_operators {σ = σ} {τ = τ}) x8 = elim x8 [ ]
  unit_value {f = f} bra_zeros (of_kets {σ = σ}) x8 = elim x8 [ ]
  unit_value {f = f} bra_zeros (of_operators {σ = σ} {τ = τ}) x9 = elim x9 [ ]
  unit_value {f = f} operator-zeros (of_kets {σ = σ}) x9 = elim x9 [ ]
  unit_value {f = f} operator-zeros (of_bras {σ = σ}) x10 = elim x10 [ ]

  -- ---- 5 and 7: one factor among others
  pub times_around : (b : Forest) (t : Tree) (a : Forest) → times 𝓐 (stands* 𝓐 Γ χ (b ⧺ t ▹ a)) ≡ 𝓐.mul (times 𝓐 (stands* 𝓐 Γ χ b)) (𝓐.mul (number (value Γ 𝓡 χ t)) (times 𝓐 (stands* 𝓐 Γ χ a)))
  unfolding value ◌⧺◌
  times_around none t a = sym (one-mul 𝓡 _)
  times_around (s ▹ b) t a = ap (𝓐.mul (number (value Γ 𝓡 χ s))) (times_around b t a) ∙ sym (𝓡.mul_assoc _ _ _)

  pub absorb_means : (b a : Forest) → value Γ 𝓡 χ (node scalar_product (b ⧺ node scalar_zero none ▹ a)) ≈ value Γ 𝓡 χ (node scalar_zero none)
  unfolding value number scalar-matrix
  absorb_means b a = ≡→≈ (ap (scalar-matrix 𝓐) (times_around b (node scalar_zero none) a ∙ cc (zero-mul 𝓡 (times 𝓐 (stands* 𝓐 Γ χ a)), 𝓡.mul_zero (times 𝓐 (stands* 𝓐 Γ χ b)))))

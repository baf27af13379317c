-- Each pattern rule keeps the meaning of a typed part, under every fitting choice over every star semiring: a law of matrices, or two.
use mathlib.Core.Path.{◌≡◌, sym, ◌∙◌, ap}
use Prim.Native.Nat.{ℕ, ◌<◌}
use native.Mathlib.Nat.{one-mul, mul-one}
use Rattle.algebra.specs.Semirings.{Arithmetic, StarSemiring}
use Rattle.algebra.specs.Matrices.{identity, Unitary}
use Rattle.algebra.proofs.Semirings as Semirings
use Rattle.algebra.proofs.Deltas as Deltas
use Rattle.algebra.proofs.Alike.{≈-refl, ≡→≈, ≈-sym, ≈-trans, scale-≈}
use Rattle.algebra.proofs.Shapes.{conformable}
use Rattle.algebra.proofs.Linear as Linear
use Rattle.algebra.proofs.Products as Products
use Rattle.algebra.proofs.Scalars as Scalars
use Rattle.algebra.proofs.Kronecker as Kronecker
use Rattle.algebra.proofs.Combined.{zeros-mul, mul-zeros, zeros-kronecker, kronecker-zeros, number-scalar, scalar-≈, scalar_is, scale_0, adjoint-number, number-both, scale-both}
use Rattle.algebra.proofs.Combined.{kronecker-both, mixed_column, mixed_row, regroup, unit_inner, both_deltas}
use Rattle.term.specs.Trees.{Tree, node, none}
use Rattle.term.specs.Heads.{variable}
use Rattle.types.specs.Sorts.{Sort, basis, ket, bra, operator, Context, Marked}
use Rattle.types.specs.Rules.{◌⊢◌∶◌, sca_0, sca_delta, sca_mul, sca_conj, sca_dot, pair_base, ket_0, ket_base, ket_adj, ket_scr, ket_mulk, ket_tsr, bra_0, bra_base, bra_adj, bra_scr}
use Rattle.types.specs.Rules.{bra_mulb, bra_tsr, opt_0, opt_1, opt_adj, opt_scr, opt_outer, opt_mulo, opt_tsr, WellFormed}
use Rattle.types.proofs.Proper.{proper}
use Rattle.meaning.specs.Choices.{Choice, a_term}
use Rattle.meaning.specs.Meaning.{stands, names, meaning, meaning_of}
use Rattle.meaning.specs.Sorted.{Fits, ProperMeaning}
use Rattle.meaning.proofs.Shapes.{shape}
use Rattle.rules.specs.Patterns.{first_index, second_index}
use Rattle.rules.specs.Rewrite.{sort_of}
use Rattle.rules.proofs.Lines.{not_so, sort-is, value, Means}

module _ {R : Type 0} {𝓐 : Arithmetic R} (𝓡 : StarSemiring 𝓐) {Γ : Context} {χ : Choice R} (W : WellFormed Γ) (F : Fits 𝓐 Γ χ) where
  open 𝓐 use {zero as 𝟘, one as 𝟙, conj}

  -- the shape of what a typed part stands for
  abbrev its : {t : Tree} {S : Sort} → Γ ⊢ t ∶ S → ProperMeaning 𝓐 χ S (stands 𝓐 Γ χ t)
  its = shape 𝓐 W F

  -- a basis lies below the dimension that it stands for
  below : {t σ : Tree} → Γ ⊢ t ∶ basis σ → (stands 𝓐 Γ χ t).position < (stands 𝓐 Γ χ t).dimension
  below a = rw (its a).0 (its a).1

  -- the dimensions of the indices of a type, and the shape of a part by the indices that `first` and `second` name
  abbrev first-dimension : Sort → ℕ
  first-dimension S = (stands 𝓐 Γ χ (first_index S)).dimension

  abbrev second-dimension : Sort → ℕ
  second-dimension S = (stands 𝓐 Γ χ (second_index S)).dimension

  ket_rows : {t σ : Tree} → Γ ⊢ t ∶ ket σ → (stands 𝓐 Γ χ t).matrix.rows ≡ first-dimension (sort_of Γ t)
  ket_rows a = (its a).rows ∙ sym (ap first-dimension (sort-is W a) ∙ its (proper W a))

  bra_columns : {t σ : Tree} → Γ ⊢ t ∶ bra σ → (stands 𝓐 Γ χ t).matrix.columns ≡ first-dimension (sort_of Γ t)
  bra_columns a = (its a).columns ∙ sym (ap first-dimension (sort-is W a) ∙ its (proper W a))

  operator-rows : {t σ τ : Tree} → Γ ⊢ t ∶ operator σ τ → (stands 𝓐 Γ χ t).matrix.rows ≡ first-dimension (sort_of Γ t)
  operator-rows a = (its a).rows ∙ sym (ap first-dimension (sort-is W a) ∙ its (proper W a).0)

  operator-columns : {t σ τ : Tree} → Γ ⊢ t ∶ operator σ τ → (stands 𝓐 Γ χ t).matrix.columns ≡ second-dimension (sort_of Γ t)
  operator-columns a = (its a).columns ∙ sym (ap second-dimension (sort-is W a) ∙ its (proper W a).1)

  -- ---- table 2
  pub means_2 : Means Γ 𝓡 χ 2
  unfolding value
  means_2 θ S d = ≈-refl _

  pub means_3 : Means Γ 𝓡 χ 3
  unfolding value
  means_3 θ S (sca_mul a f) = scalar_is 𝓡 _ (its a) (𝓡.mul_one _)

  -- ---- table 3
  pub means_10 : Means Γ 𝓡 χ 10
  unfolding value
  means_10 θ S d = scalar-≈ 𝓡 (ap conj (number-scalar 𝓡 𝟘) ∙ Semirings.conj-zero 𝓡)

  pub means_11 : Means Γ 𝓡 χ 11
  unfolding value
  means_11 θ S d = scalar-≈ 𝓡 (ap conj (number-scalar 𝓡 𝟙) ∙ Semirings.conj-one 𝓡)

  pub means_14 : Means Γ 𝓡 χ 14
  unfolding value
  means_14 θ S (sca_conj (sca_conj a)) = scalar_is 𝓡 _ (its a) (ap conj (number-scalar 𝓡 _) ∙ 𝓡.conj_conj _)

  pub means_15 : Means Γ 𝓡 χ 15
  unfolding value
  means_15 θ S d = scalar-≈ 𝓡 (ap conj (number-scalar 𝓡 _) ∙ Deltas.conj_delta 𝓡 _ _)

  pub means_16 : Means Γ 𝓡 χ 16
  unfolding value
  means_16 θ S (sca_conj (sca_dot a b)) = ≈-trans (≈-sym (adjoint-number 𝓡 _ (its (sca_dot a b)))) (Products.adjoint-mul 𝓡 _ _ (conformable (its a) (its b)))

  pub means_20 : Means Γ 𝓡 χ 20
  unfolding value
  means_20 θ S (sca_dot (bra_0 a) b) = ≈-trans (zeros-mul 𝓡 _ _ _ (its b).columns) (Scalars.scalar_zero 𝓡)

  pub means_21 : Means Γ 𝓡 χ 21
  unfolding value
  means_21 θ S (sca_dot a (ket_0 b)) = ≈-trans (mul-zeros 𝓡 _ _ _ (its a).rows) (Scalars.scalar_zero 𝓡)

  pub means_22 : Means Γ 𝓡 χ 22
  unfolding value
  means_22 θ S (sca_dot (bra_scr a b) c) = ≈-trans (Products.scale-mul 𝓡 _ _ _) (scale-both 𝓡 _ _ (its (sca_dot b c)))

  pub means_23 : Means Γ 𝓡 χ 23
  unfolding value
  means_23 θ S (sca_dot a (ket_scr b c)) = ≈-trans (Products.mul-scale 𝓡 _ _ _) (scale-both 𝓡 _ _ (its (sca_dot a c)))

  pub means_26 : Means Γ 𝓡 χ 26
  unfolding value
  means_26 θ S (sca_dot (bra_base a) (ket_base b)) = unit_inner 𝓡 _ _ _ _ ((its a).0 ∙ sym (its b).0) (below a)

  pub means_27 : Means Γ 𝓡 χ 27
  unfolding value
  means_27 θ S (sca_dot (bra_tsr a b h) (ket_base (pair_base c d k))) =
      ≈-trans (mixed_column 𝓡 _ _ _ _ _ _ ((its a).columns ∙ sym (its c).0) ((its b).columns ∙ sym (its d).0) (below d))
      (kronecker-both 𝓡 _ _ (its (sca_dot a (ket_base c))) (its (sca_dot b (ket_base d))))

  pub means_28 : Means Γ 𝓡 χ 28
  unfolding value
  means_28 θ S (sca_dot (bra_base (pair_base a b h)) (ket_tsr c d k)) =
      ≈-trans (mixed_row 𝓡 _ _ _ _ _ _ ((its c).rows ∙ sym (its a).0) ((its d).rows ∙ sym (its b).0) (below b))
      (kronecker-both 𝓡 _ _ (its (sca_dot (bra_base a) c)) (its (sca_dot (bra_base b) d)))

  pub means_29 : Means Γ 𝓡 χ 29
  unfolding value
  means_29 θ S (sca_dot (bra_tsr a b h) (ket_tsr c d k)) =
      ≈-trans (Kronecker.mixed_product 𝓡 _ _ _ _ (conformable (its b) (its d))) (kronecker-both 𝓡 _ _ (its (sca_dot a c)) (its (sca_dot b d)))

  pub means_30 : Means Γ 𝓡 χ 30
  unfolding value
  means_30 θ S d = Products.mul_assoc 𝓡 _ _ _

  pub means_31 : Means Γ 𝓡 χ 31
  unfolding value
  means_31 θ S (sca_dot (bra_base (pair_base a b h)) (ket_mulk (opt_tsr c d k l) e)) =
      regroup 𝓡 _ _ _ (conformable (its (opt_tsr c d k l)) (its e))
      (mixed_row 𝓡 _ _ _ _ _ _ ((its c).rows ∙ sym (its a).0) ((its d).rows ∙ sym (its b).0) (below b))

  pub means_32 : Means Γ 𝓡 χ 32
  unfolding value
  means_32 θ S (sca_dot (bra_tsr a b h) (ket_mulk (opt_tsr c d k l) e)) =
      regroup 𝓡 _ _ _ (conformable (its (opt_tsr c d k l)) (its e)) (Kronecker.mixed_product 𝓡 _ _ _ _ (conformable (its b) (its d)))

  pub means_33 : Means Γ 𝓡 χ 33
  unfolding value
  means_33 θ S d = scalar-≈ 𝓡 (Deltas.delta_same 𝓡 _)

  pub means_34 : Means Γ 𝓡 χ 34
  unfolding value
  means_34 θ S (sca_delta (pair_base a b h) (pair_base c d k)) = both_deltas 𝓡 _ _ _ _ _ _ ((its b).0 ∙ sym (its d).0) (below b) (below d)

  -- ---- table 4
  pub means_40 : Means Γ 𝓡 χ 40
  unfolding value
  means_40 θ S d = ≈-trans (scale-≈ 𝓐 (number-scalar 𝓡 𝟙) (≈-refl _)) (Linear.scale_one 𝓡 _)

  pub means_41 : Means Γ 𝓡 χ 41
  unfolding value
  means_41 θ S d = ≈-trans (Linear.scale-scale 𝓡 _ _ _) (scale-≈ 𝓐 (number-both 𝓡 _ _) (≈-refl _))

  pub means_43 : Means Γ 𝓡 χ 43
  unfolding value
  means_43 θ S k (ket_scr sca_0 a) = scale_0 𝓡 _ (ket_rows a) (its a).columns
  means_43 θ S k (bra_scr sca_0 a) = absurd (not_so (rw (sort-is W a) at k))
  means_43 θ S k (opt_scr sca_0 a) = absurd (not_so (rw (sort-is W a) at k))

  pub means_44 : Means Γ 𝓡 χ 44
  unfolding value
  means_44 θ S d = Linear.scale-zeros 𝓡 _ _ _

  pub means_45 : Means Γ 𝓡 χ 45
  unfolding value
  means_45 θ S k (ket_scr sca_0 a) = absurd (not_so (rw (sort-is W a) at k))
  means_45 θ S k (bra_scr sca_0 a) = scale_0 𝓡 _ (its a).rows (bra_columns a)
  means_45 θ S k (opt_scr sca_0 a) = absurd (not_so (rw (sort-is W a) at k))

  pub means_46 : Means Γ 𝓡 χ 46
  unfolding value
  means_46 θ S d = Linear.scale-zeros 𝓡 _ _ _

  pub means_47 : Means Γ 𝓡 χ 47
  unfolding value
  means_47 θ S k (ket_scr sca_0 a) = absurd (not_so (rw (sort-is W a) at k))
  means_47 θ S k (bra_scr sca_0 a) = absurd (not_so (rw (sort-is W a) at k))
  means_47 θ S k (opt_scr sca_0 a) = scale_0 𝓡 _ (operator-rows a) (operator-columns a)

  pub means_48 : Means Γ 𝓡 χ 48
  unfolding value
  means_48 θ S d = Linear.scale-zeros 𝓡 _ _ _

  -- ---- table 5
  pub means_50 : Means Γ 𝓡 χ 50
  unfolding value
  means_50 θ S d = ≈-refl _

  -- ---- table 6
  pub means_60 : Means Γ 𝓡 χ 60
  unfolding value
  means_60 θ S d = Linear.adjoint-adjoint 𝓡 _

  pub means_61 : Means Γ 𝓡 χ 61
  unfolding value
  means_61 θ S d = ≈-trans (Linear.adjoint-scale 𝓡 _ _) (scale-≈ 𝓐 (sym (number-scalar 𝓡 _)) (≈-refl _))

  pub means_63 : Means Γ 𝓡 χ 63
  unfolding value
  means_63 θ S d = Kronecker.adjoint-kronecker 𝓡 _ _

  pub means_64 : Means Γ 𝓡 χ 64
  unfolding value
  means_64 θ S d = Linear.adjoint-zeros 𝓡 _ _

  pub means_65 : Means Γ 𝓡 χ 65
  unfolding value
  means_65 θ S d = Linear.adjoint-unit_row 𝓡 _ _

  pub means_66 : Means Γ 𝓡 χ 66
  unfolding value
  means_66 θ S (ket_adj (bra_mulb a b)) = Products.adjoint-mul 𝓡 _ _ (conformable (its a) (its b))
  means_66 θ _ (bra_adj {σ = σ} x4) = elim x4 [ ]
  means_66 θ _ (opt_adj {σ = σ} {τ = τ} x5) = elim x5 [ ]

  pub means_67 : Means Γ 𝓡 χ 67
  unfolding value
  means_67 θ S d = Linear.adjoint-zeros 𝓡 _ _

  pub means_68 : Means Γ 𝓡 χ 68
  unfolding value
  means_68 θ S d = Linear.adjoint-unit_column 𝓡 _ _

  pub means_69 : Means Γ 𝓡 χ 69
  unfolding value
  means_69 θ S (bra_adj (ket_mulk a b)) = Products.adjoint-mul 𝓡 _ _ (conformable (its a) (its b))
  means_69 θ _ (ket_adj {σ = σ} x4) = elim x4 [ ]
  means_69 θ _ (opt_adj {σ = σ} {τ = τ} x5) = elim x5 [ ]

  pub means_70 : Means Γ 𝓡 χ 70
  unfolding value
  means_70 θ S d = Linear.adjoint-zeros 𝓡 _ _

  pub means_71 : Means Γ 𝓡 χ 71
  unfolding value
  means_71 θ S d = Linear.adjoint-identity 𝓡 _

  pub means_72 : Means Γ 𝓡 χ 72
  unfolding value
  means_72 θ S (opt_adj (opt_outer a b)) = Products.adjoint-mul 𝓡 _ _ (conformable (its a) (its b))
  means_72 θ _ (ket_adj {σ = σ} x4) = elim x4 [ ]
  means_72 θ _ (bra_adj {σ = σ} x5) = elim x5 [ ]

  pub means_73 : Means Γ 𝓡 χ 73
  unfolding value
  means_73 θ S (opt_adj (opt_mulo a b)) = Products.adjoint-mul 𝓡 _ _ (conformable (its a) (its b))
  means_73 θ _ (ket_adj {σ = σ} x4) = elim x4 [ ]
  means_73 θ _ (bra_adj {σ = σ} x5) = elim x5 [ ]

  -- ---- table 7
  pub means_80 : Means Γ 𝓡 χ 80
  unfolding value
  means_80 θ S d = Kronecker.scale-kronecker 𝓡 _ _ _

  pub means_81 : Means Γ 𝓡 χ 81
  unfolding value
  means_81 θ S d = Kronecker.kronecker-scale 𝓡 _ _ _

  pub means_84 : Means Γ 𝓡 χ 84
  unfolding value
  means_84 θ S (ket_tsr (ket_0 a) b h) = zeros-kronecker 𝓡 _ _ _ (cc (ket_rows b)) (one-mul _ ∙ (its b).columns)
  means_84 θ _ (bra_tsr {σ = σ} {τ = τ} x13 _ _) = elim x13 [ ]
  means_84 θ _ (opt_tsr {σ = σ} {τ = τ} {υ = υ} {φ = φ} x18 _ _ _) = elim x18 [ ]

  pub means_85 : Means Γ 𝓡 χ 85
  unfolding value
  means_85 θ S (ket_tsr a (ket_0 b) h) = kronecker-zeros 𝓡 _ _ _ (cc (ket_rows a)) (mul-one _ ∙ (its a).columns)
  means_85 θ _ (bra_tsr {σ = σ} {τ = τ} _ x14 _) = elim x14 [ ]
  means_85 θ _ (opt_tsr {σ = σ} {τ = τ} {υ = υ} {φ = φ} _ x19 _ _) = elim x19 [ ]

  pub means_86 : Means Γ 𝓡 χ 86
  unfolding value
  means_86 θ S (ket_tsr (ket_base a) (ket_base b) h) = Kronecker.kronecker-unit_column 𝓡 _ _ _ _ (below b)
  means_86 θ _ (bra_tsr {σ = σ} {τ = τ} x13 _ _) = elim x13 [ ]
  means_86 θ _ (opt_tsr {σ = σ} {τ = τ} {υ = υ} {φ = φ} x18 _ _ _) = elim x18 [ ]

  pub means_87 : Means Γ 𝓡 χ 87
  unfolding value
  means_87 θ S (bra_tsr (bra_0 a) b h) = zeros-kronecker 𝓡 _ _ _ (one-mul _ ∙ (its b).rows) (cc (bra_columns b))
  means_87 θ _ (ket_tsr {σ = σ} {τ = τ} x13 _ _) = elim x13 [ ]
  means_87 θ _ (opt_tsr {σ = σ} {τ = τ} {υ = υ} {φ = φ} x18 _ _ _) = elim x18 [ ]

  pub means_88 : Means Γ 𝓡 χ 88
  unfolding value
  means_88 θ S (bra_tsr a (bra_0 b) h) = kronecker-zeros 𝓡 _ _ _ (mul-one _ ∙ (its a).rows) (cc (bra_columns a))
  means_88 θ _ (ket_tsr {σ = σ} {τ = τ} _ x14 _) = elim x14 [ ]
  means_88 θ _ (opt_tsr {σ = σ} {τ = τ} {υ = υ} {φ = φ} _ x19 _ _) = elim x19 [ ]

  pub means_89 : Means Γ 𝓡 χ 89
  unfolding value
  means_89 θ S (bra_tsr (bra_base a) (bra_base b) h) = Kronecker.kronecker-unit_row 𝓡 _ _ _ _ (below b)
  means_89 θ _ (ket_tsr {σ = σ} {τ = τ} x13 _ _) = elim x13 [ ]
  means_89 θ _ (opt_tsr {σ = σ} {τ = τ} {υ = υ} {φ = φ} x18 _ _ _) = elim x18 [ ]

  pub means_90 : Means Γ 𝓡 χ 90
  unfolding value
  means_90 θ S (opt_tsr a (opt_0 b c) h k) = kronecker-zeros 𝓡 _ _ _ (cc (operator-rows a)) (cc (operator-columns a))
  means_90 θ _ (ket_tsr {σ = σ} {τ = τ} _ x14 _) = elim x14 [ ]
  means_90 θ _ (bra_tsr {σ = σ} {τ = τ} _ x15 _) = elim x15 [ ]

  pub means_91 : Means Γ 𝓡 χ 91
  unfolding value
  means_91 θ S (opt_tsr (opt_0 a b) c h k) = zeros-kronecker 𝓡 _ _ _ (cc (operator-rows c)) (cc (operator-columns c))
  means_91 θ _ (ket_tsr {σ = σ} {τ = τ} x13 _ _) = elim x13 [ ]
  means_91 θ _ (bra_tsr {σ = σ} {τ = τ} x14 _ _) = elim x14 [ ]

  pub means_92 : Means Γ 𝓡 χ 92
  unfolding value
  means_92 θ S d = Kronecker.kronecker-identity 𝓡 _ _

  pub means_93 : Means Γ 𝓡 χ 93
  unfolding value
  means_93 θ S (opt_tsr (opt_outer a b) (opt_outer c d) h k) = ≈-sym (Kronecker.mixed_product 𝓡 _ _ _ _ ((its c).columns ∙ sym (its d).rows))
  means_93 θ _ (ket_tsr {σ = σ} {τ = τ} x13 _ _) = elim x13 [ ]
  means_93 θ _ (bra_tsr {σ = σ} {τ = τ} x14 _ _) = elim x14 [ ]

  -- ---- table 8
  pub means_100 : Means Γ 𝓡 χ 100
  unfolding value
  means_100 θ S (ket_mulk (opt_0 a b) c) = zeros-mul 𝓡 _ _ _ (its c).columns

  pub means_101 : Means Γ 𝓡 χ 101
  unfolding value
  means_101 θ S (ket_mulk a (ket_0 b)) = mul-zeros 𝓡 _ _ _ (operator-rows a)

  pub means_102 : Means Γ 𝓡 χ 102
  unfolding value
  means_102 θ S (ket_mulk (opt_1 a) b) = Products.identity-mul 𝓡 _ _ (its a ∙ sym (its b).rows)

  pub means_103 : Means Γ 𝓡 χ 103
  unfolding value
  means_103 θ S d = Products.scale-mul 𝓡 _ _ _

  pub means_104 : Means Γ 𝓡 χ 104
  unfolding value
  means_104 θ S d = Products.mul-scale 𝓡 _ _ _

  pub means_107 : Means Γ 𝓡 χ 107
  unfolding value
  means_107 θ S (ket_mulk (opt_outer a b) c) = Scalars.outer-mul 𝓡 _ _ _ (its a).columns (its b).rows (its c).columns

  pub means_108 : Means Γ 𝓡 χ 108
  unfolding value
  means_108 θ S d = Products.mul_assoc 𝓡 _ _ _

  pub means_109 : Means Γ 𝓡 χ 109
  unfolding value
  means_109 θ S (ket_mulk (opt_tsr a b g h) (ket_mulk (opt_tsr c d k l) e)) =
      regroup 𝓡 _ _ _ (conformable (its (opt_tsr c d k l)) (its e)) (Kronecker.mixed_product 𝓡 _ _ _ _ (conformable (its b) (its d)))

  pub means_110 : Means Γ 𝓡 χ 110
  unfolding value
  means_110 θ S (ket_mulk (opt_tsr a b g h) (ket_base (pair_base c d k))) =
      mixed_column 𝓡 _ _ _ _ _ _ ((its a).columns ∙ sym (its c).0) ((its b).columns ∙ sym (its d).0) (below d)

  pub means_111 : Means Γ 𝓡 χ 111
  unfolding value
  means_111 θ S (ket_mulk (opt_tsr a b g h) (ket_tsr c d k)) = Kronecker.mixed_product 𝓡 _ _ _ _ (conformable (its b) (its d))

  -- ---- table 9
  pub means_120 : Means Γ 𝓡 χ 120
  unfolding value
  means_120 θ S (bra_mulb a (opt_0 b c)) = mul-zeros 𝓡 _ _ _ (its a).rows

  pub means_121 : Means Γ 𝓡 χ 121
  unfolding value
  means_121 θ S (bra_mulb (bra_0 a) b) = zeros-mul 𝓡 _ _ _ (operator-columns b)

  pub means_122 : Means Γ 𝓡 χ 122
  unfolding value
  means_122 θ S (bra_mulb a (opt_1 b)) = Products.mul-identity 𝓡 _ _ ((its a).columns ∙ sym (its b))

  pub means_123 : Means Γ 𝓡 χ 123
  unfolding value
  means_123 θ S d = Products.scale-mul 𝓡 _ _ _

  pub means_124 : Means Γ 𝓡 χ 124
  unfolding value
  means_124 θ S d = Products.mul-scale 𝓡 _ _ _

  pub means_127 : Means Γ 𝓡 χ 127
  unfolding value
  means_127 θ S (bra_mulb a (opt_outer b c)) = Scalars.mul-outer 𝓡 _ _ _ (its a).rows (its b).columns (its c).rows

  pub means_128 : Means Γ 𝓡 χ 128
  unfolding value
  means_128 θ S d = ≈-sym (Products.mul_assoc 𝓡 _ _ _)

  pub means_129 : Means Γ 𝓡 χ 129
  unfolding value
  means_129 θ S d = Products.mul_assoc 𝓡 _ _ _

  pub means_130 : Means Γ 𝓡 χ 130
  unfolding value
  means_130 θ S (bra_mulb (bra_base (pair_base a b h)) (opt_tsr c d k l)) =
      mixed_row 𝓡 _ _ _ _ _ _ ((its c).rows ∙ sym (its a).0) ((its d).rows ∙ sym (its b).0) (below b)

  pub means_131 : Means Γ 𝓡 χ 131
  unfolding value
  means_131 θ S (bra_mulb (bra_tsr a b h) (opt_tsr c d k l)) = Kronecker.mixed_product 𝓡 _ _ _ _ (conformable (its b) (its d))

  -- ---- table 10
  pub means_140 : Means Γ 𝓡 χ 140
  unfolding value
  means_140 θ S (opt_outer (ket_0 a) b) = zeros-mul 𝓡 _ _ _ (bra_columns b)

  pub means_141 : Means Γ 𝓡 χ 141
  unfolding value
  means_141 θ S (opt_outer a (bra_0 b)) = mul-zeros 𝓡 _ _ _ (ket_rows a)

  pub means_142 : Means Γ 𝓡 χ 142
  unfolding value
  means_142 θ S d = Products.scale-mul 𝓡 _ _ _

  pub means_143 : Means Γ 𝓡 χ 143
  unfolding value
  means_143 θ S d = Products.mul-scale 𝓡 _ _ _

  -- ---- table 11
  pub means_150 : Means Γ 𝓡 χ 150
  unfolding value
  means_150 θ S (opt_mulo (opt_0 a b) c) = zeros-mul 𝓡 _ _ _ (operator-columns c)

  pub means_151 : Means Γ 𝓡 χ 151
  unfolding value
  means_151 θ S (opt_mulo a (opt_0 b c)) = mul-zeros 𝓡 _ _ _ (operator-rows a)

  pub means_152 : Means Γ 𝓡 χ 152
  unfolding value
  means_152 θ S (opt_mulo (opt_1 a) b) = Products.identity-mul 𝓡 _ _ (its a ∙ sym (its b).rows)

  pub means_153 : Means Γ 𝓡 χ 153
  unfolding value
  means_153 θ S (opt_mulo a (opt_1 b)) = Products.mul-identity 𝓡 _ _ ((its a).columns ∙ sym (its b))

  pub means_154 : Means Γ 𝓡 χ 154
  unfolding value
  means_154 θ S d = Products.mul_assoc 𝓡 _ _ _

  pub means_155 : Means Γ 𝓡 χ 155
  unfolding value
  means_155 θ S d = ≈-sym (Products.mul_assoc 𝓡 _ _ _)

  pub means_156 : Means Γ 𝓡 χ 156
  unfolding value
  means_156 θ S d = Products.scale-mul 𝓡 _ _ _

  pub means_157 : Means Γ 𝓡 χ 157
  unfolding value
  means_157 θ S d = Products.mul-scale 𝓡 _ _ _

  pub means_160 : Means Γ 𝓡 χ 160
  unfolding value
  means_160 θ S d = Products.mul_assoc 𝓡 _ _ _

  pub means_161 : Means Γ 𝓡 χ 161
  unfolding value
  means_161 θ S (opt_mulo (opt_tsr a b g h) (opt_tsr c d k l)) = Kronecker.mixed_product 𝓡 _ _ _ _ (conformable (its b) (its d))

  pub means_162 : Means Γ 𝓡 χ 162
  unfolding value
  means_162 θ S (opt_mulo (opt_tsr a b g h) (opt_mulo (opt_tsr c d k l) e)) =
      regroup 𝓡 _ _ _ (conformable (its (opt_tsr c d k l)) (its e)) (Kronecker.mixed_product 𝓡 _ _ _ _ (conformable (its b) (its d)))

  -- ---- operators declared unitary
  unitary-at : {t : Tree} (a : ℕ) → t ≡ node (variable a) none → Marked Γ a → Unitary 𝓐 (stands 𝓐 Γ χ t).matrix
  unfolding stands names meaning meaning_of a_term
  unitary-at a e m = rw e (F.unitary a m)

  pub means_190 : Means Γ 𝓡 χ 190
  unfolding value
  means_190 θ S a e m (opt_mulo (opt_adj b) c) = ≈-trans (unitary-at a e m).left (≡→≈ (ap (identity 𝓐) (operator-columns b)))

  pub means_191 : Means Γ 𝓡 χ 191
  unfolding value
  means_191 θ S a e m (opt_mulo b (opt_adj c)) = ≈-trans (unitary-at a e m).right (≡→≈ (ap (identity 𝓐) (operator-rows b)))

-- Each pattern rule keeps the sort of a typed part: the derivation of the left side is matched, and that of the right side is made of its pieces.
use mathlib.Core.Path.{◌≡◌}
use Rattle.types.specs.Sorts.{index, Context}
use Rattle.types.specs.Rules.{◌⊢◌∶◌, every_none, every_more, sca_0, sca_1, sca_delta, sca_add, sca_mul, sca_conj, sca_dot, base_prod, pair_base, ket_0, ket_base, ket_adj, ket_scr, ket_add}
use Rattle.types.specs.Rules.{ket_mulk, ket_tsr, bra_0, bra_base, bra_adj, bra_scr, bra_add, bra_mulb, bra_tsr, opt_0, opt_1, opt_adj, opt_scr, opt_add, opt_outer, opt_mulo, opt_tsr}
use Rattle.types.specs.Rules.{bound_var, sum_over, WellFormed}
use Rattle.types.proofs.Indices.{index_is}
use Rattle.types.proofs.Complete.{unique}
use Rattle.types.proofs.Proper.{proper}
use Rattle.rules.proofs.Lines.{not_so, sort-is, Keeps}

module _ {Γ : Context} (W : WellFormed Γ) where
  pub keeps_2 : Keeps Γ 2
  keeps_2 θ S (sca_add a every_none) = a

  pub keeps_3 : Keeps Γ 3
  keeps_3 θ S (sca_mul a every_none) = a

  pub keeps_10 : Keeps Γ 10
  keeps_10 θ S (sca_conj sca_0) = sca_0

  pub keeps_11 : Keeps Γ 11
  keeps_11 θ S (sca_conj sca_1) = sca_1

  pub keeps_14 : Keeps Γ 14
  keeps_14 θ S (sca_conj (sca_conj a)) = a

  pub keeps_15 : Keeps Γ 15
  keeps_15 θ S (sca_conj (sca_delta a b)) = sca_delta a b

  pub keeps_16 : Keeps Γ 16
  keeps_16 θ S (sca_conj (sca_dot a b)) = sca_dot (bra_adj b) (ket_adj a)

  pub keeps_20 : Keeps Γ 20
  keeps_20 θ S (sca_dot (bra_0 a) b) = sca_0

  pub keeps_21 : Keeps Γ 21
  keeps_21 θ S (sca_dot a (ket_0 b)) = sca_0

  pub keeps_22 : Keeps Γ 22
  keeps_22 θ S (sca_dot (bra_scr a b) c) = sca_mul a (every_more (sca_dot b c) every_none)

  pub keeps_23 : Keeps Γ 23
  keeps_23 θ S (sca_dot a (ket_scr b c)) = sca_mul b (every_more (sca_dot a c) every_none)

  pub keeps_26 : Keeps Γ 26
  keeps_26 θ S (sca_dot (bra_base a) (ket_base b)) = sca_delta a b

  pub keeps_27 : Keeps Γ 27
  keeps_27 θ S (sca_dot (bra_tsr a b h) (ket_base (pair_base c d k))) = sca_mul (sca_dot a (ket_base c)) (every_more (sca_dot b (ket_base d)) every_none)

  pub keeps_28 : Keeps Γ 28
  keeps_28 θ S (sca_dot (bra_base (pair_base a b h)) (ket_tsr c d k)) = sca_mul (sca_dot (bra_base a) c) (every_more (sca_dot (bra_base b) d) every_none)

  pub keeps_29 : Keeps Γ 29
  keeps_29 θ S (sca_dot (bra_tsr a b h) (ket_tsr c d k)) = sca_mul (sca_dot a c) (every_more (sca_dot b d) every_none)

  pub keeps_30 : Keeps Γ 30
  keeps_30 θ S (sca_dot (bra_mulb a b) c) = sca_dot a (ket_mulk b c)

  pub keeps_31 : Keeps Γ 31
  keeps_31 θ S (sca_dot (bra_base (pair_base a b h)) (ket_mulk (opt_tsr c d k l) e)) = sca_dot (bra_tsr (bra_mulb (bra_base a) c) (bra_mulb (bra_base b) d) l) e

  pub keeps_32 : Keeps Γ 32
  keeps_32 θ S (sca_dot (bra_tsr a b h) (ket_mulk (opt_tsr c d k l) e)) = sca_dot (bra_tsr (bra_mulb a c) (bra_mulb b d) l) e

  pub keeps_33 : Keeps Γ 33
  keeps_33 θ S (sca_delta a b) = sca_1

  pub keeps_34 : Keeps Γ 34
  keeps_34 θ S (sca_delta (pair_base a b h) (pair_base c d k)) = sca_mul (sca_delta a c) (every_more (sca_delta b d) every_none)

  pub keeps_40 : Keeps Γ 40
  keeps_40 θ S (ket_scr sca_1 a) = a
  keeps_40 θ S (bra_scr sca_1 a) = a
  keeps_40 θ S (opt_scr sca_1 a) = a

  pub keeps_41 : Keeps Γ 41
  keeps_41 θ S (ket_scr a (ket_scr b c)) = ket_scr (sca_mul a (every_more b every_none)) c
  keeps_41 θ S (bra_scr a (bra_scr b c)) = bra_scr (sca_mul a (every_more b every_none)) c
  keeps_41 θ S (opt_scr a (opt_scr b c)) = opt_scr (sca_mul a (every_more b every_none)) c

  pub keeps_43 : Keeps Γ 43
  keeps_43 θ S k (ket_scr sca_0 a) = rw (sort-is W a) (ket_0 (proper W a))
  keeps_43 θ S k (bra_scr sca_0 a) = absurd (not_so (rw (sort-is W a) at k))
  keeps_43 θ S k (opt_scr sca_0 a) = absurd (not_so (rw (sort-is W a) at k))

  pub keeps_44 : Keeps Γ 44
  keeps_44 θ S (ket_scr a (ket_0 b)) = ket_0 b
  keeps_44 θ _ (bra_scr {σ = σ} _ x10) = elim x10 [ ]
  keeps_44 θ _ (opt_scr {σ = σ} {τ = τ} _ x11) = elim x11 [ ]

  pub keeps_45 : Keeps Γ 45
  keeps_45 θ S k (ket_scr sca_0 a) = absurd (not_so (rw (sort-is W a) at k))
  keeps_45 θ S k (bra_scr sca_0 a) = rw (sort-is W a) (bra_0 (proper W a))
  keeps_45 θ S k (opt_scr sca_0 a) = absurd (not_so (rw (sort-is W a) at k))

  pub keeps_46 : Keeps Γ 46
  keeps_46 θ S (bra_scr a (bra_0 b)) = bra_0 b
  keeps_46 θ _ (ket_scr {σ = σ} _ x10) = elim x10 [ ]
  keeps_46 θ _ (opt_scr {σ = σ} {τ = τ} _ x11) = elim x11 [ ]

  pub keeps_47 : Keeps Γ 47
  keeps_47 θ S k (ket_scr sca_0 a) = absurd (not_so (rw (sort-is W a) at k))
  keeps_47 θ S k (bra_scr sca_0 a) = absurd (not_so (rw (sort-is W a) at k))
  keeps_47 θ S k (opt_scr sca_0 a) = rw (sort-is W a) (opt_0 (proper W a).0 (proper W a).1)

  pub keeps_48 : Keeps Γ 48
  keeps_48 θ S (opt_scr a (opt_0 b c)) = opt_0 b c
  keeps_48 θ _ (ket_scr {σ = σ} _ x10) = elim x10 [ ]
  keeps_48 θ _ (bra_scr {σ = σ} _ x11) = elim x11 [ ]

  pub keeps_50 : Keeps Γ 50
  keeps_50 θ S (ket_add a every_none) = a
  keeps_50 θ S (bra_add a every_none) = a
  keeps_50 θ S (opt_add a every_none) = a

  pub keeps_60 : Keeps Γ 60
  keeps_60 θ S (ket_adj (bra_adj a)) = a
  keeps_60 θ S (bra_adj (ket_adj a)) = a
  keeps_60 θ S (opt_adj (opt_adj a)) = a

  pub keeps_61 : Keeps Γ 61
  keeps_61 θ S (ket_adj (bra_scr a b)) = ket_scr (sca_conj a) (ket_adj b)
  keeps_61 θ S (bra_adj (ket_scr a b)) = bra_scr (sca_conj a) (bra_adj b)
  keeps_61 θ S (opt_adj (opt_scr a b)) = opt_scr (sca_conj a) (opt_adj b)

  pub keeps_63 : Keeps Γ 63
  keeps_63 θ S (ket_adj (bra_tsr a b h)) = ket_tsr (ket_adj a) (ket_adj b) h
  keeps_63 θ S (bra_adj (ket_tsr a b h)) = bra_tsr (bra_adj a) (bra_adj b) h
  keeps_63 θ S (opt_adj (opt_tsr a b h k)) = opt_tsr (opt_adj a) (opt_adj b) k h

  pub keeps_64 : Keeps Γ 64
  keeps_64 θ S (ket_adj (bra_0 a)) = ket_0 a
  keeps_64 θ _ (bra_adj {σ = σ} x4) = elim x4 [ ]
  keeps_64 θ _ (opt_adj {σ = σ} {τ = τ} x5) = elim x5 [ ]

  pub keeps_65 : Keeps Γ 65
  keeps_65 θ S (ket_adj (bra_base a)) = ket_base a
  keeps_65 θ _ (bra_adj {σ = σ} x4) = elim x4 [ ]
  keeps_65 θ _ (opt_adj {σ = σ} {τ = τ} x5) = elim x5 [ ]

  pub keeps_66 : Keeps Γ 66
  keeps_66 θ S (ket_adj (bra_mulb a b)) = ket_mulk (opt_adj b) (ket_adj a)
  keeps_66 θ _ (bra_adj {σ = σ} x4) = elim x4 [ ]
  keeps_66 θ _ (opt_adj {σ = σ} {τ = τ} x5) = elim x5 [ ]

  pub keeps_67 : Keeps Γ 67
  keeps_67 θ S (bra_adj (ket_0 a)) = bra_0 a
  keeps_67 θ _ (ket_adj {σ = σ} x4) = elim x4 [ ]
  keeps_67 θ _ (opt_adj {σ = σ} {τ = τ} x5) = elim x5 [ ]

  pub keeps_68 : Keeps Γ 68
  keeps_68 θ S (bra_adj (ket_base a)) = bra_base a
  keeps_68 θ _ (ket_adj {σ = σ} x4) = elim x4 [ ]
  keeps_68 θ _ (opt_adj {σ = σ} {τ = τ} x5) = elim x5 [ ]

  pub keeps_69 : Keeps Γ 69
  keeps_69 θ S (bra_adj (ket_mulk a b)) = bra_mulb (bra_adj b) (opt_adj a)
  keeps_69 θ _ (ket_adj {σ = σ} x4) = elim x4 [ ]
  keeps_69 θ _ (opt_adj {σ = σ} {τ = τ} x5) = elim x5 [ ]

  pub keeps_70 : Keeps Γ 70
  keeps_70 θ S (opt_adj (opt_0 a b)) = opt_0 b a
  keeps_70 θ _ (ket_adj {σ = σ} x4) = elim x4 [ ]
  keeps_70 θ _ (bra_adj {σ = σ} x5) = elim x5 [ ]

  pub keeps_71 : Keeps Γ 71
  keeps_71 θ S (opt_adj (opt_1 a)) = opt_1 a
  keeps_71 θ _ (ket_adj {σ = σ} x4) = elim x4 [ ]
  keeps_71 θ _ (bra_adj {σ = σ} x5) = elim x5 [ ]

  pub keeps_72 : Keeps Γ 72
  keeps_72 θ S (opt_adj (opt_outer a b)) = opt_outer (ket_adj b) (bra_adj a)
  keeps_72 θ _ (ket_adj {σ = σ} x4) = elim x4 [ ]
  keeps_72 θ _ (bra_adj {σ = σ} x5) = elim x5 [ ]

  pub keeps_73 : Keeps Γ 73
  keeps_73 θ S (opt_adj (opt_mulo a b)) = opt_mulo (opt_adj b) (opt_adj a)
  keeps_73 θ _ (ket_adj {σ = σ} x4) = elim x4 [ ]
  keeps_73 θ _ (bra_adj {σ = σ} x5) = elim x5 [ ]

  pub keeps_80 : Keeps Γ 80
  keeps_80 θ S (ket_tsr (ket_scr a b) c h) = ket_scr a (ket_tsr b c h)
  keeps_80 θ S (bra_tsr (bra_scr a b) c h) = bra_scr a (bra_tsr b c h)
  keeps_80 θ S (opt_tsr (opt_scr a b) c h k) = opt_scr a (opt_tsr b c h k)

  pub keeps_81 : Keeps Γ 81
  keeps_81 θ S (ket_tsr a (ket_scr b c) h) = ket_scr b (ket_tsr a c h)
  keeps_81 θ S (bra_tsr a (bra_scr b c) h) = bra_scr b (bra_tsr a c h)
  keeps_81 θ S (opt_tsr a (opt_scr b c) h k) = opt_scr b (opt_tsr a c h k)

  pub keeps_84 : Keeps Γ 84
  keeps_84 θ S (ket_tsr (ket_0 a) b h) = rw (sort-is W b) (ket_0 (base_prod a (proper W b) h))
  keeps_84 θ _ (bra_tsr {σ = σ} {τ = τ} x13 _ _) = elim x13 [ ]
  keeps_84 θ _ (opt_tsr {σ = σ} {τ = τ} {υ = υ} {φ = φ} x18 _ _ _) = elim x18 [ ]

  pub keeps_85 : Keeps Γ 85
  keeps_85 θ S (ket_tsr a (ket_0 b) h) = rw (sort-is W a) (ket_0 (base_prod (proper W a) b h))
  keeps_85 θ _ (bra_tsr {σ = σ} {τ = τ} _ x14 _) = elim x14 [ ]
  keeps_85 θ _ (opt_tsr {σ = σ} {τ = τ} {υ = υ} {φ = φ} _ x19 _ _) = elim x19 [ ]

  pub keeps_86 : Keeps Γ 86
  keeps_86 θ S (ket_tsr (ket_base a) (ket_base b) h) = ket_base (pair_base a b h)
  keeps_86 θ _ (bra_tsr {σ = σ} {τ = τ} x13 _ _) = elim x13 [ ]
  keeps_86 θ _ (opt_tsr {σ = σ} {τ = τ} {υ = υ} {φ = φ} x18 _ _ _) = elim x18 [ ]

  pub keeps_87 : Keeps Γ 87
  keeps_87 θ S (bra_tsr (bra_0 a) b h) = rw (sort-is W b) (bra_0 (base_prod a (proper W b) h))
  keeps_87 θ _ (ket_tsr {σ = σ} {τ = τ} x13 _ _) = elim x13 [ ]
  keeps_87 θ _ (opt_tsr {σ = σ} {τ = τ} {υ = υ} {φ = φ} x18 _ _ _) = elim x18 [ ]

  pub keeps_88 : Keeps Γ 88
  keeps_88 θ S (bra_tsr a (bra_0 b) h) = rw (sort-is W a) (bra_0 (base_prod (proper W a) b h))
  keeps_88 θ _ (ket_tsr {σ = σ} {τ = τ} _ x14 _) = elim x14 [ ]
  keeps_88 θ _ (opt_tsr {σ = σ} {τ = τ} {υ = υ} {φ = φ} _ x19 _ _) = elim x19 [ ]

  pub keeps_89 : Keeps Γ 89
  keeps_89 θ S (bra_tsr (bra_base a) (bra_base b) h) = bra_base (pair_base a b h)
  keeps_89 θ _ (ket_tsr {σ = σ} {τ = τ} x13 _ _) = elim x13 [ ]
  keeps_89 θ _ (opt_tsr {σ = σ} {τ = τ} {υ = υ} {φ = φ} x18 _ _ _) = elim x18 [ ]

  pub keeps_90 : Keeps Γ 90
  keeps_90 θ S (opt_tsr a (opt_0 b c) h k) = rw (sort-is W a) (opt_0 (base_prod (proper W a).0 b h) (base_prod (proper W a).1 c k))
  keeps_90 θ _ (ket_tsr {σ = σ} {τ = τ} _ x14 _) = elim x14 [ ]
  keeps_90 θ _ (bra_tsr {σ = σ} {τ = τ} _ x15 _) = elim x15 [ ]

  pub keeps_91 : Keeps Γ 91
  keeps_91 θ S (opt_tsr (opt_0 a b) c h k) = rw (sort-is W c) (opt_0 (base_prod a (proper W c).0 h) (base_prod b (proper W c).1 k))
  keeps_91 θ _ (ket_tsr {σ = σ} {τ = τ} x13 _ _) = elim x13 [ ]
  keeps_91 θ _ (bra_tsr {σ = σ} {τ = τ} x14 _ _) = elim x14 [ ]

  pub keeps_92 : Keeps Γ 92
  keeps_92 θ S (opt_tsr (opt_1 a) (opt_1 b) h k) = opt_1 (base_prod a b h)
  keeps_92 θ _ (ket_tsr {σ = σ} {τ = τ} x13 _ _) = elim x13 [ ]
  keeps_92 θ _ (bra_tsr {σ = σ} {τ = τ} x14 _ _) = elim x14 [ ]

  pub keeps_93 : Keeps Γ 93
  keeps_93 θ S (opt_tsr (opt_outer a b) (opt_outer c d) h k) = opt_outer (ket_tsr a c h) (bra_tsr b d k)
  keeps_93 θ _ (ket_tsr {σ = σ} {τ = τ} x13 _ _) = elim x13 [ ]
  keeps_93 θ _ (bra_tsr {σ = σ} {τ = τ} x14 _ _) = elim x14 [ ]

  pub keeps_100 : Keeps Γ 100
  keeps_100 θ S (ket_mulk (opt_0 a b) c) = ket_0 a

  pub keeps_101 : Keeps Γ 101
  keeps_101 θ S (ket_mulk a (ket_0 b)) = rw (sort-is W a) (ket_0 (proper W a).0)

  pub keeps_102 : Keeps Γ 102
  keeps_102 θ S (ket_mulk (opt_1 a) b) = b

  pub keeps_103 : Keeps Γ 103
  keeps_103 θ S (ket_mulk (opt_scr a b) c) = ket_scr a (ket_mulk b c)

  pub keeps_104 : Keeps Γ 104
  keeps_104 θ S (ket_mulk a (ket_scr b c)) = ket_scr b (ket_mulk a c)

  pub keeps_107 : Keeps Γ 107
  keeps_107 θ S (ket_mulk (opt_outer a b) c) = ket_scr (sca_dot b c) a

  pub keeps_108 : Keeps Γ 108
  keeps_108 θ S (ket_mulk (opt_mulo a b) c) = ket_mulk a (ket_mulk b c)

  pub keeps_109 : Keeps Γ 109
  keeps_109 θ S (ket_mulk (opt_tsr a b h k) (ket_mulk (opt_tsr c d l m) e)) = ket_mulk (opt_tsr (opt_mulo a c) (opt_mulo b d) h m) e

  pub keeps_110 : Keeps Γ 110
  keeps_110 θ S (ket_mulk (opt_tsr a b h k) (ket_base (pair_base c d l))) = ket_tsr (ket_mulk a (ket_base c)) (ket_mulk b (ket_base d)) h

  pub keeps_111 : Keeps Γ 111
  keeps_111 θ S (ket_mulk (opt_tsr a b h k) (ket_tsr c d l)) = ket_tsr (ket_mulk a c) (ket_mulk b d) h

  pub keeps_120 : Keeps Γ 120
  keeps_120 θ S (bra_mulb a (opt_0 b c)) = bra_0 c

  pub keeps_121 : Keeps Γ 121
  keeps_121 θ S (bra_mulb (bra_0 a) b) = rw (sort-is W b) (bra_0 (proper W b).1)

  pub keeps_122 : Keeps Γ 122
  keeps_122 θ S (bra_mulb a (opt_1 b)) = a

  pub keeps_123 : Keeps Γ 123
  keeps_123 θ S (bra_mulb (bra_scr a b) c) = bra_scr a (bra_mulb b c)

  pub keeps_124 : Keeps Γ 124
  keeps_124 θ S (bra_mulb a (opt_scr b c)) = bra_scr b (bra_mulb a c)

  pub keeps_127 : Keeps Γ 127
  keeps_127 θ S (bra_mulb a (opt_outer b c)) = bra_scr (sca_dot a b) c

  pub keeps_128 : Keeps Γ 128
  keeps_128 θ S (bra_mulb a (opt_mulo b c)) = bra_mulb (bra_mulb a b) c

  pub keeps_129 : Keeps Γ 129
  keeps_129 θ S (bra_mulb (bra_mulb a (opt_tsr b c h k)) (opt_tsr d e l m)) = bra_mulb a (opt_mulo (opt_tsr b c h k) (opt_tsr d e l m))

  pub keeps_130 : Keeps Γ 130
  keeps_130 θ S (bra_mulb (bra_base (pair_base a b h)) (opt_tsr c d k l)) = bra_tsr (bra_mulb (bra_base a) c) (bra_mulb (bra_base b) d) l

  pub keeps_131 : Keeps Γ 131
  keeps_131 θ S (bra_mulb (bra_tsr a b h) (opt_tsr c d k l)) = bra_tsr (bra_mulb a c) (bra_mulb b d) l

  pub keeps_140 : Keeps Γ 140
  keeps_140 θ S (opt_outer (ket_0 a) b) = rw (sort-is W b) (opt_0 a (proper W b))

  pub keeps_141 : Keeps Γ 141
  keeps_141 θ S (opt_outer a (bra_0 b)) = rw (sort-is W a) (opt_0 (proper W a) b)

  pub keeps_142 : Keeps Γ 142
  keeps_142 θ S (opt_outer (ket_scr a b) c) = opt_scr a (opt_outer b c)

  pub keeps_143 : Keeps Γ 143
  keeps_143 θ S (opt_outer a (bra_scr b c)) = opt_scr b (opt_outer a c)

  pub keeps_150 : Keeps Γ 150
  keeps_150 θ S (opt_mulo (opt_0 a b) c) = rw (sort-is W c) (opt_0 a (proper W c).1)

  pub keeps_151 : Keeps Γ 151
  keeps_151 θ S (opt_mulo a (opt_0 b c)) = rw (sort-is W a) (opt_0 (proper W a).0 c)

  pub keeps_152 : Keeps Γ 152
  keeps_152 θ S (opt_mulo (opt_1 a) b) = b

  pub keeps_153 : Keeps Γ 153
  keeps_153 θ S (opt_mulo a (opt_1 b)) = a

  pub keeps_154 : Keeps Γ 154
  keeps_154 θ S (opt_mulo (opt_outer a b) c) = opt_outer a (bra_mulb b c)

  pub keeps_155 : Keeps Γ 155
  keeps_155 θ S (opt_mulo a (opt_outer b c)) = opt_outer (ket_mulk a b) c

  pub keeps_156 : Keeps Γ 156
  keeps_156 θ S (opt_mulo (opt_scr a b) c) = opt_scr a (opt_mulo b c)

  pub keeps_157 : Keeps Γ 157
  keeps_157 θ S (opt_mulo a (opt_scr b c)) = opt_scr b (opt_mulo a c)

  pub keeps_160 : Keeps Γ 160
  keeps_160 θ S (opt_mulo (opt_mulo a b) c) = opt_mulo a (opt_mulo b c)

  pub keeps_161 : Keeps Γ 161
  keeps_161 θ S (opt_mulo (opt_tsr a b h k) (opt_tsr c d l m)) = opt_tsr (opt_mulo a c) (opt_mulo b d) h m

  pub keeps_162 : Keeps Γ 162
  keeps_162 θ S (opt_mulo (opt_tsr a b h k) (opt_mulo (opt_tsr c d l m) e)) = opt_mulo (opt_tsr (opt_mulo a c) (opt_mulo b d) h m) e

  -- ---- sums over a basis
  pub keeps_180 : Keeps Γ 180
  keeps_180 θ S (sum_over a sca_0 h n) = sca_0

  -- the index of the basis that is bound last is the sum's own
  pub keeps_181 : Keeps Γ 181
  keeps_181 θ S (sum_over {s} a (opt_outer (ket_base (bound_var {σ = σ} b e d)) (bra_base (bound_var {σ = τ} c f g))) h n) =
      let x : s ≡ σ = cc in
      let y : s ≡ τ = cc in
      let i : Γ ⊢ s ∶ index s = rw (index_is W a) (proper W a) in
      rw (← x, ← y) (opt_1 i)

  pub keeps_183 : Keeps Γ 183
  keeps_183 θ S k (sum_over a (sca_delta b c) h n) = sca_1

  -- ---- operators declared unitary
  pub keeps_190 : Keeps Γ 190
  keeps_190 θ S a e m (opt_mulo {σ = σ} {ρ = ρ} (opt_adj b) c) = let same : σ ≡ ρ = cc (unique W b c) in rw (sort-is W b, ← same) (opt_1 (proper W b).1)

  pub keeps_191 : Keeps Γ 191
  keeps_191 θ S a e m (opt_mulo {σ = σ} {ρ = ρ} b (opt_adj c)) = let same : σ ≡ ρ = cc (unique W b c) in rw (sort-is W b, ← same) (opt_1 (proper W b).0)

-- Each rule of the table keeps the sort of a typed part.
use mathlib.Core.Path.{◌≡◌, refl}
use mathlib.Core.Bool.{false}
use mathlib.Core.Option.{some}
use Prim.Native.Nat.{ℕ}
use Rattle.term.specs.Heads.{Label, scalar_sum, scalar_product, conjugate, dot, adjoint, scale, add, tensor, mulk, mulb, outer, mulo}
use Rattle.term.specs.Trees.{Tree, Forest, node}
use Rattle.types.specs.Sorts.{Sort, Context}
use Rattle.types.specs.Inside.{binds}
use Rattle.types.specs.Rules.{◌⊢◌∶◌, sca_mul, sca_conj, sca_dot, ket_adj, ket_scr, ket_mulk, ket_tsr, bra_adj, bra_scr, bra_mulb, bra_tsr, opt_adj, opt_scr, opt_outer, opt_mulo, opt_tsr, WellFormed}
use Rattle.rules.specs.Patterns.{Pattern}
use Rattle.rules.specs.Table.{Condition, Which, Summand, Rule, ◌⇒◌▷◌, spreading, removing, absorbing, merging, collecting, swapping, distributing, table, rule_of}
use Rattle.rules.specs.Instances.{ACSymbol, scalar_sums, scalar_products, sums, Instance, equals, spreads, removes, absorbs, merges, collects, swaps, distributes}
use Rattle.rules.proofs.Every.{Every, ◌⨾◌, every_rule}
use Rattle.rules.proofs.FamilyTypes.{merge_keeps, remove_keeps, swap_keeps, absorb_keeps, collect_keeps, spread-keeps, distribute_keeps}
use Rattle.rules.proofs.Forests.{Of, of_sum, of_product, of_kets, of_bras, of_operators, Fitting, scalar-zeros, scalar_ones, ket_zeros, bra_zeros, operator-zeros, fitting-chain}
use Rattle.rules.proofs.Lines.{Law, given}
use Rattle.rules.proofs.Types as Types

module _ {Γ : Context} (W : WellFormed Γ) where
  abbrev pub RuleKeeps : Rule → Type 0
  RuleKeeps r = (i j : ℕ) (p q : Tree) (S : Sort) → Instance Γ r i j p q → Γ ⊢ p ∶ S → Γ ⊢ q ∶ S

  equation : {k : Condition} {l r : Pattern} → Law Γ (λ p q S. Γ ⊢ p ∶ S → Γ ⊢ q ∶ S) (some (k ⇒ l ▷ r)) → RuleKeeps (k ⇒ l ▷ r)
  equation {k} {l} {r} law i j p q S (equals θ a b w) d = given Γ W (λ p q S. Γ ⊢ p ∶ S → Γ ⊢ q ∶ S) k l r law θ p q S a b w d

  -- ---- what a spreading rule's result is a chain of
  abbrev Results : Label → Label → Type 0
  Results l r = (f : Forest) (S : Sort) → Γ ⊢ node l f ∶ S → Of r S

  product-sums : Results scalar_product scalar_sum
  product-sums f S (sca_mul a x) = of_sum

  conjugate_sums : Results conjugate scalar_sum
  conjugate_sums f S (sca_conj a) = of_sum

  conjugate_products : Results conjugate scalar_product
  conjugate_products f S (sca_conj a) = of_product

  dot_sums : Results dot scalar_sum
  dot_sums f S (sca_dot a b) = of_sum

  scale-sums : Results scale add
  scale-sums f S (ket_scr a b) = of_kets
  scale-sums f S (bra_scr a b) = of_bras
  scale-sums f S (opt_scr a b) = of_operators

  adjoint-sums : Results adjoint add
  adjoint-sums f S (ket_adj a) = of_kets
  adjoint-sums f S (bra_adj a) = of_bras
  adjoint-sums f S (opt_adj a) = of_operators

  tensor_sums : Results tensor add
  tensor_sums f S (ket_tsr a b h) = of_kets
  tensor_sums f S (bra_tsr a b h) = of_bras
  tensor_sums f S (opt_tsr a b h k) = of_operators

  mulk_sums : Results mulk add
  mulk_sums f S (ket_mulk a b) = of_kets

  mulb_sums : Results mulb add
  mulb_sums f S (bra_mulb a b) = of_bras

  outer-sums : Results outer add
  outer-sums f S (opt_outer a b) = of_operators

  mulo_sums : Results mulo add
  mulo_sums f S (opt_mulo a b) = of_operators

  spreading-keeps : {l s r : Label} {w : Which} → ACSymbol s → binds l ≡ false → Results l r → RuleKeeps (spreading l w s r)
  spreading-keeps c z of i j p q S (spreads b f a h) d = spread-keeps W z b f a c (of _ S d) d

  distributing-keeps : RuleKeeps distributing
  distributing-keeps i j p q S (distributes s f x) d = distribute_keeps s f x d

  removing-keeps : {l c : Label} → Fitting l c → RuleKeeps (removing l c)
  removing-keeps x i j p q S (removes b f a h) d = remove_keeps b _ a (fitting-chain x) h d

  absorbing-keeps : RuleKeeps absorbing
  absorbing-keeps i j p q S (absorbs b a) d = absorb_keeps d

  merging-keeps : RuleKeeps merging
  merging-keeps i j p q S (merges b f a c) d = merge_keeps b f a c d

  collecting-keeps : {u v : Summand} → RuleKeeps (collecting u v)
  collecting-keeps {u} {v} i j p q S (collects b m e c k x) d = collect_keeps u v b m e c k x d

  swapping-keeps : RuleKeeps swapping
  swapping-keeps i j p q S (swaps b a t u c) d = swap_keeps b t u a c d

  every_keeps : Every RuleKeeps table
  unfolding binds
  every_keeps =
      merging-keeps ⨾
      equation (Types.keeps_2 W) ⨾
      equation (Types.keeps_3 W) ⨾
      removing-keeps scalar-zeros ⨾
      absorbing-keeps ⨾
      removing-keeps scalar_ones ⨾
      spreading-keeps scalar_sums refl product-sums ⨾
      equation (Types.keeps_10 W) ⨾
      equation (Types.keeps_11 W) ⨾
      spreading-keeps scalar_sums refl conjugate_sums ⨾
      spreading-keeps scalar_products refl conjugate_products ⨾
      equation (Types.keeps_14 W) ⨾
      equation (Types.keeps_15 W) ⨾
      equation (Types.keeps_16 W) ⨾
      equation (Types.keeps_20 W) ⨾
      equation (Types.keeps_21 W) ⨾
      equation (Types.keeps_22 W) ⨾
      equation (Types.keeps_23 W) ⨾
      spreading-keeps sums refl dot_sums ⨾
      spreading-keeps sums refl dot_sums ⨾
      equation (Types.keeps_26 W) ⨾
      equation (Types.keeps_27 W) ⨾
      equation (Types.keeps_28 W) ⨾
      equation (Types.keeps_29 W) ⨾
      equation (Types.keeps_30 W) ⨾
      equation (Types.keeps_31 W) ⨾
      equation (Types.keeps_32 W) ⨾
      equation (Types.keeps_33 W) ⨾
      equation (Types.keeps_34 W) ⨾
      equation (Types.keeps_40 W) ⨾
      equation (Types.keeps_41 W) ⨾
      spreading-keeps sums refl scale-sums ⨾
      equation (Types.keeps_43 W) ⨾
      equation (Types.keeps_44 W) ⨾
      equation (Types.keeps_45 W) ⨾
      equation (Types.keeps_46 W) ⨾
      equation (Types.keeps_47 W) ⨾
      equation (Types.keeps_48 W) ⨾
      equation (Types.keeps_50 W) ⨾
      collecting-keeps ⨾
      collecting-keeps ⨾
      collecting-keeps ⨾
      collecting-keeps ⨾
      removing-keeps ket_zeros ⨾
      removing-keeps bra_zeros ⨾
      removing-keeps operator-zeros ⨾
      equation (Types.keeps_60 W) ⨾
      equation (Types.keeps_61 W) ⨾
      spreading-keeps sums refl adjoint-sums ⨾
      equation (Types.keeps_63 W) ⨾
      equation (Types.keeps_64 W) ⨾
      equation (Types.keeps_65 W) ⨾
      equation (Types.keeps_66 W) ⨾
      equation (Types.keeps_67 W) ⨾
      equation (Types.keeps_68 W) ⨾
      equation (Types.keeps_69 W) ⨾
      equation (Types.keeps_70 W) ⨾
      equation (Types.keeps_71 W) ⨾
      equation (Types.keeps_72 W) ⨾
      equation (Types.keeps_73 W) ⨾
      equation (Types.keeps_80 W) ⨾
      equation (Types.keeps_81 W) ⨾
      spreading-keeps sums refl tensor_sums ⨾
      spreading-keeps sums refl tensor_sums ⨾
      equation (Types.keeps_84 W) ⨾
      equation (Types.keeps_85 W) ⨾
      equation (Types.keeps_86 W) ⨾
      equation (Types.keeps_87 W) ⨾
      equation (Types.keeps_88 W) ⨾
      equation (Types.keeps_89 W) ⨾
      equation (Types.keeps_90 W) ⨾
      equation (Types.keeps_91 W) ⨾
      equation (Types.keeps_92 W) ⨾
      equation (Types.keeps_93 W) ⨾
      equation (Types.keeps_100 W) ⨾
      equation (Types.keeps_101 W) ⨾
      equation (Types.keeps_102 W) ⨾
      equation (Types.keeps_103 W) ⨾
      equation (Types.keeps_104 W) ⨾
      spreading-keeps sums refl mulk_sums ⨾
      spreading-keeps sums refl mulk_sums ⨾
      equation (Types.keeps_107 W) ⨾
      equation (Types.keeps_108 W) ⨾
      equation (Types.keeps_109 W) ⨾
      equation (Types.keeps_110 W) ⨾
      equation (Types.keeps_111 W) ⨾
      equation (Types.keeps_120 W) ⨾
      equation (Types.keeps_121 W) ⨾
      equation (Types.keeps_122 W) ⨾
      equation (Types.keeps_123 W) ⨾
      equation (Types.keeps_124 W) ⨾
      spreading-keeps sums refl mulb_sums ⨾
      spreading-keeps sums refl mulb_sums ⨾
      equation (Types.keeps_127 W) ⨾
      equation (Types.keeps_128 W) ⨾
      equation (Types.keeps_129 W) ⨾
      equation (Types.keeps_130 W) ⨾
      equation (Types.keeps_131 W) ⨾
      equation (Types.keeps_140 W) ⨾
      equation (Types.keeps_141 W) ⨾
      equation (Types.keeps_142 W) ⨾
      equation (Types.keeps_143 W) ⨾
      spreading-keeps sums refl outer-sums ⨾
      spreading-keeps sums refl outer-sums ⨾
      equation (Types.keeps_150 W) ⨾
      equation (Types.keeps_151 W) ⨾
      equation (Types.keeps_152 W) ⨾
      equation (Types.keeps_153 W) ⨾
      equation (Types.keeps_154 W) ⨾
      equation (Types.keeps_155 W) ⨾
      equation (Types.keeps_156 W) ⨾
      equation (Types.keeps_157 W) ⨾
      spreading-keeps sums refl mulo_sums ⨾
      spreading-keeps sums refl mulo_sums ⨾
      equation (Types.keeps_160 W) ⨾
      equation (Types.keeps_161 W) ⨾
      equation (Types.keeps_162 W) ⨾
      swapping-keeps ⨾
      equation (Types.keeps_180 W) ⨾
      equation (Types.keeps_181 W) ⨾
      distributing-keeps ⨾
      equation (Types.keeps_183 W) ⨾
      equation (Types.keeps_190 W) ⨾
      equation (Types.keeps_191 W) ⨾
      tt

  pub rule-keeps : (n : ℕ) (r : Rule) → rule_of n ≡ some r → RuleKeeps r
  rule-keeps = every_rule RuleKeeps every_keeps

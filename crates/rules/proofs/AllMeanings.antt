-- Each rule of the table keeps the meaning of a typed part.
use mathlib.Core.Path.{◌≡◌}
use mathlib.Core.Option.{some}
use Prim.Native.Nat.{ℕ}
use native.Mathlib.Omega.{arith}
use Rattle.algebra.specs.Semirings.{Arithmetic, StarSemiring}
use Rattle.algebra.specs.Matrices.{◌≈◌}
use Rattle.term.specs.Heads.{Label, scalar_sum, scalar_product}
use Rattle.term.specs.Trees.{Tree, Forest, node, none as no-tree, ◌▹◌, ◌⧺◌, count}
use Rattle.types.specs.Sorts.{Sort, Context}
use Rattle.types.specs.Rules.{◌⊢◌∶◌, WellFormed}
use Rattle.meaning.specs.Choices.{Choice}
use Rattle.meaning.specs.Sorted.{Fits}
use Rattle.rules.specs.Patterns.{Pattern}
use Rattle.rules.specs.Table.{Condition, child, child_i, Summand, Rule, ◌⇒◌▷◌, spreading, removing, absorbing, merging, collecting, swapping, distributing, table, rule_of}
use Rattle.rules.specs.Instances.{spread, Instance, equals, spreads, removes, absorbs, merges, collects, swaps, distributes}
use Rattle.rules.proofs.Every.{Every, ◌⨾◌, every_rule}
use Rattle.rules.proofs.FamilyMeanings.{swap_means, merge_means, remove_means, collect_means, unit_value, absorb_means}
use Rattle.rules.proofs.Forests.{Fitting, scalar-zeros, scalar_ones, ket_zeros, bra_zeros, operator-zeros, fitting-chain}
use Rattle.rules.proofs.Lines.{Law, given, value}
use Rattle.rules.proofs.Meanings as Meanings
use Rattle.rules.proofs.Summing.{means_180, means_181, means_183, distribute_means}
use Rattle.rules.proofs.Spreading.{First, Second, product_any, conjugate_sum, conjugate_product, dots, on_kets, on_bras, outers, on_operators, times-first, times-second}
use Rattle.rules.proofs.Spreading.{scale-second, adjoint-first, tensor_first, tensor_second}

module _ {R : Type 0} {𝓐 : Arithmetic R} (𝓡 : StarSemiring 𝓐) {Γ : Context} {χ : Choice R} (W : WellFormed Γ) (F : Fits 𝓐 Γ χ) where
  abbrev pub RuleMeans : Rule → Type 0
  RuleMeans r = (i j : ℕ) (p q : Tree) (S : Sort) → Instance Γ r i j p q → Γ ⊢ p ∶ S → value Γ 𝓡 χ p ≈ value Γ 𝓡 χ q

  equation : {k : Condition} {l r : Pattern} → Law Γ (λ p q S. Γ ⊢ p ∶ S → value Γ 𝓡 χ p ≈ value Γ 𝓡 χ q) (some (k ⇒ l ▷ r)) → RuleMeans (k ⇒ l ▷ r)
  equation {k} {l} {r} law i j p q S (equals θ a b w) d = given Γ W (λ p q S. Γ ⊢ p ∶ S → value Γ 𝓡 χ p ≈ value Γ 𝓡 χ q) k l r law θ p q S a b w d

  spreading-first : {l s r : Label} → First 𝓡 W F l s r → RuleMeans (spreading l (child 0) s r)
  unfolding ◌⧺◌ count
  spreading-first law i j p q S (spreads no-tree f a h) d = law S f a d
  spreading-first law i j p q S (spreads (t ▹ b) f a h) d = absurd (omega (arith, h.1))

  spreading-second : {l s r : Label} → Second 𝓡 W F l s r → RuleMeans (spreading l (child 1) s r)
  unfolding ◌⧺◌ count
  spreading-second law i j p q S (spreads no-tree f a h) d = absurd (omega (arith, h.1))
  spreading-second law i j p q S (spreads (t ▹ no-tree) f a h) d = law S t f a d
  spreading-second law i j p q S (spreads (t ▹ u ▹ b) f a h) d = absurd (omega (arith, h.1))

  spreading-any : ((S : Sort) (b f a : Forest) → Γ ⊢ node scalar_product (b ⧺ node scalar_sum f ▹ a) ∶ S
      → value Γ 𝓡 χ (node scalar_product (b ⧺ node scalar_sum f ▹ a)) ≈ value Γ 𝓡 χ (node scalar_sum (spread scalar_product b f a)))
      → RuleMeans (spreading scalar_product child_i scalar_sum scalar_sum)
  spreading-any law i j p q S (spreads b f a h) d = law S b f a d

  removing_means : {l c : Label} → Fitting l c → RuleMeans (removing l c)
  removing_means x i j p q S (removes b f a h) d = remove_means 𝓡 W F (fitting-chain x) b _ a h d (unit_value 𝓡 W F x)

  absorbing_means : RuleMeans absorbing
  absorbing_means i j p q S (absorbs b a) d = absorb_means 𝓡 W F b a

  merging_means : RuleMeans merging
  merging_means i j p q S (merges b f a c) d = merge_means 𝓡 W F c b f a d

  collecting_means : {u v : Summand} → RuleMeans (collecting u v)
  collecting_means {u} {v} i j p q S (collects b m e c k x) d = collect_means 𝓡 W F u v b m e c k x d

  swapping_means : RuleMeans swapping
  swapping_means i j p q S (swaps b a t u c) d = swap_means 𝓡 W F c b t u a d

  distributing_means : RuleMeans distributing
  distributing_means i j p q S (distributes s f x) d = distribute_means 𝓡 W F s f x d

  every_means : Every RuleMeans table
  every_means =
      merging_means ⨾
      equation (Meanings.means_2 𝓡 W F) ⨾
      equation (Meanings.means_3 𝓡 W F) ⨾
      removing_means scalar-zeros ⨾
      absorbing_means ⨾
      removing_means scalar_ones ⨾
      spreading-any (product_any 𝓡 W F) ⨾
      equation (Meanings.means_10 𝓡 W F) ⨾
      equation (Meanings.means_11 𝓡 W F) ⨾
      spreading-first (conjugate_sum 𝓡 W F) ⨾
      spreading-first (conjugate_product 𝓡 W F) ⨾
      equation (Meanings.means_14 𝓡 W F) ⨾
      equation (Meanings.means_15 𝓡 W F) ⨾
      equation (Meanings.means_16 𝓡 W F) ⨾
      equation (Meanings.means_20 𝓡 W F) ⨾
      equation (Meanings.means_21 𝓡 W F) ⨾
      equation (Meanings.means_22 𝓡 W F) ⨾
      equation (Meanings.means_23 𝓡 W F) ⨾
      spreading-first (times-first 𝓡 W F dots) ⨾
      spreading-second (times-second 𝓡 W F dots) ⨾
      equation (Meanings.means_26 𝓡 W F) ⨾
      equation (Meanings.means_27 𝓡 W F) ⨾
      equation (Meanings.means_28 𝓡 W F) ⨾
      equation (Meanings.means_29 𝓡 W F) ⨾
      equation (Meanings.means_30 𝓡 W F) ⨾
      equation (Meanings.means_31 𝓡 W F) ⨾
      equation (Meanings.means_32 𝓡 W F) ⨾
      equation (Meanings.means_33 𝓡 W F) ⨾
      equation (Meanings.means_34 𝓡 W F) ⨾
      equation (Meanings.means_40 𝓡 W F) ⨾
      equation (Meanings.means_41 𝓡 W F) ⨾
      spreading-second (scale-second 𝓡 W F) ⨾
      equation (Meanings.means_43 𝓡 W F) ⨾
      equation (Meanings.means_44 𝓡 W F) ⨾
      equation (Meanings.means_45 𝓡 W F) ⨾
      equation (Meanings.means_46 𝓡 W F) ⨾
      equation (Meanings.means_47 𝓡 W F) ⨾
      equation (Meanings.means_48 𝓡 W F) ⨾
      equation (Meanings.means_50 𝓡 W F) ⨾
      collecting_means ⨾
      collecting_means ⨾
      collecting_means ⨾
      collecting_means ⨾
      removing_means ket_zeros ⨾
      removing_means bra_zeros ⨾
      removing_means operator-zeros ⨾
      equation (Meanings.means_60 𝓡 W F) ⨾
      equation (Meanings.means_61 𝓡 W F) ⨾
      spreading-first (adjoint-first 𝓡 W F) ⨾
      equation (Meanings.means_63 𝓡 W F) ⨾
      equation (Meanings.means_64 𝓡 W F) ⨾
      equation (Meanings.means_65 𝓡 W F) ⨾
      equation (Meanings.means_66 𝓡 W F) ⨾
      equation (Meanings.means_67 𝓡 W F) ⨾
      equation (Meanings.means_68 𝓡 W F) ⨾
      equation (Meanings.means_69 𝓡 W F) ⨾
      equation (Meanings.means_70 𝓡 W F) ⨾
      equation (Meanings.means_71 𝓡 W F) ⨾
      equation (Meanings.means_72 𝓡 W F) ⨾
      equation (Meanings.means_73 𝓡 W F) ⨾
      equation (Meanings.means_80 𝓡 W F) ⨾
      equation (Meanings.means_81 𝓡 W F) ⨾
      spreading-first (tensor_first 𝓡 W F) ⨾
      spreading-second (tensor_second 𝓡 W F) ⨾
      equation (Meanings.means_84 𝓡 W F) ⨾
      equation (Meanings.means_85 𝓡 W F) ⨾
      equation (Meanings.means_86 𝓡 W F) ⨾
      equation (Meanings.means_87 𝓡 W F) ⨾
      equation (Meanings.means_88 𝓡 W F) ⨾
      equation (Meanings.means_89 𝓡 W F) ⨾
      equation (Meanings.means_90 𝓡 W F) ⨾
      equation (Meanings.means_91 𝓡 W F) ⨾
      equation (Meanings.means_92 𝓡 W F) ⨾
      equation (Meanings.means_93 𝓡 W F) ⨾
      equation (Meanings.means_100 𝓡 W F) ⨾
      equation (Meanings.means_101 𝓡 W F) ⨾
      equation (Meanings.means_102 𝓡 W F) ⨾
      equation (Meanings.means_103 𝓡 W F) ⨾
      equation (Meanings.means_104 𝓡 W F) ⨾
      spreading-first (times-first 𝓡 W F on_kets) ⨾
      spreading-second (times-second 𝓡 W F on_kets) ⨾
      equation (Meanings.means_107 𝓡 W F) ⨾
      equation (Meanings.means_108 𝓡 W F) ⨾
      equation (Meanings.means_109 𝓡 W F) ⨾
      equation (Meanings.means_110 𝓡 W F) ⨾
      equation (Meanings.means_111 𝓡 W F) ⨾
      equation (Meanings.means_120 𝓡 W F) ⨾
      equation (Meanings.means_121 𝓡 W F) ⨾
      equation (Meanings.means_122 𝓡 W F) ⨾
      equation (Meanings.means_123 𝓡 W F) ⨾
      equation (Meanings.means_124 𝓡 W F) ⨾
      spreading-first (times-first 𝓡 W F on_bras) ⨾
      spreading-second (times-second 𝓡 W F on_bras) ⨾
      equation (Meanings.means_127 𝓡 W F) ⨾
      equation (Meanings.means_128 𝓡 W F) ⨾
      equation (Meanings.means_129 𝓡 W F) ⨾
      equation (Meanings.means_130 𝓡 W F) ⨾
      equation (Meanings.means_131 𝓡 W F) ⨾
      equation (Meanings.means_140 𝓡 W F) ⨾
      equation (Meanings.means_141 𝓡 W F) ⨾
      equation (Meanings.means_142 𝓡 W F) ⨾
      equation (Meanings.means_143 𝓡 W F) ⨾
      spreading-first (times-first 𝓡 W F outers) ⨾
      spreading-second (times-second 𝓡 W F outers) ⨾
      equation (Meanings.means_150 𝓡 W F) ⨾
      equation (Meanings.means_151 𝓡 W F) ⨾
      equation (Meanings.means_152 𝓡 W F) ⨾
      equation (Meanings.means_153 𝓡 W F) ⨾
      equation (Meanings.means_154 𝓡 W F) ⨾
      equation (Meanings.means_155 𝓡 W F) ⨾
      equation (Meanings.means_156 𝓡 W F) ⨾
      equation (Meanings.means_157 𝓡 W F) ⨾
      spreading-first (times-first 𝓡 W F on_operators) ⨾
      spreading-second (times-second 𝓡 W F on_operators) ⨾
      equation (Meanings.means_160 𝓡 W F) ⨾
      equation (Meanings.means_161 𝓡 W F) ⨾
      equation (Meanings.means_162 𝓡 W F) ⨾
      swapping_means ⨾
      equation (means_180 𝓡 W F) ⨾
      equation (means_181 𝓡 W F) ⨾
      distributing_means ⨾
      equation (means_183 𝓡 W F) ⨾
      equation (Meanings.means_190 𝓡 W F) ⨾
      equation (Meanings.means_191 𝓡 W F) ⨾
      tt

  pub rule_means : (n : ℕ) (r : Rule) → rule_of n ≡ some r → RuleMeans r
  rule_means = every_rule RuleMeans every_means

-- Under declarations in order, every sort that the rules derive has indices that are indices of the context, formed and short.
use mathlib.Core.Path.{◌≡◌, refl}
use native.Mathlib.Omega.{arith}
use Rattle.term.specs.Heads.{heads, reading, word}
use Rattle.term.specs.Trees.{Tree, count, words, Formed}
use Rattle.term.proofs.Readings.{read_at}
use Rattle.term.proofs.Theorems.{one-reading}
use Rattle.types.specs.Sorts.{Sort, index, Context, Short}
use Rattle.types.specs.Rules.{◌⊢◌∶◌, type_var, basis_var, term_var, sca_0, sca_1, sca_delta, sca_add, sca_mul, sca_conj, sca_dot, base_prod, pair_base, ket_0, ket_base, ket_adj}
use Rattle.types.specs.Rules.{ket_scr, ket_add, ket_mulk, ket_tsr, bra_0, bra_base, bra_adj, bra_scr, bra_add, bra_mulb, bra_tsr, opt_0, opt_1, opt_adj, opt_scr, opt_add, opt_outer}
use Rattle.types.specs.Rules.{opt_mulo, opt_tsr, bound_var, sum_over, Index, Proper, WellFormed}
use Rattle.types.proofs.Indices.{proper_in, bind_well}

pub proper : {Γ : Context} → WellFormed Γ → {t : Tree} {S : Sort} → Γ ⊢ t ∶ S → Proper Γ S
proper W (type_var h) = type_var h
proper W (basis_var e) = W.basis_index_lem _ _ e
proper W (term_var e) = (W.variable_type _ _ e).1
proper W sca_0 = tt
proper W sca_1 = tt
proper W (sca_delta a b) = tt
proper W (sca_add a f) = tt
proper W (sca_mul a f) = tt
proper W (sca_conj a) = tt
proper W (sca_dot a b) = tt
proper W (base_prod a b h) = base_prod (proper W a) (proper W b) h
proper W (pair_base a b h) = base_prod (proper W a) (proper W b) h
proper W (ket_0 a) = proper W a
proper W (ket_base a) = proper W a
proper W (ket_adj a) = proper W a
proper W (ket_scr a b) = proper W b
proper W (ket_add a f) = proper W a
proper W (ket_mulk a b) = (proper W a).0
proper W (ket_tsr a b h) = base_prod (proper W a) (proper W b) h
proper W (bra_0 a) = proper W a
proper W (bra_base a) = proper W a
proper W (bra_adj a) = proper W a
proper W (bra_scr a b) = proper W b
proper W (bra_add a f) = proper W a
proper W (bra_mulb a b) = (proper W b).1
proper W (bra_tsr a b h) = base_prod (proper W a) (proper W b) h
proper W (opt_0 a b) = (proper W a, proper W b)
proper W (opt_1 a) = (proper W a, proper W a)
proper W (opt_adj a) = ((proper W a).1, (proper W a).0)
proper W (opt_scr a b) = proper W b
proper W (opt_add a f) = proper W a
proper W (opt_outer a b) = (proper W a, proper W b)
proper W (opt_mulo a b) = ((proper W a).0, (proper W b).1)
proper W (opt_tsr a b h k) = (base_prod (proper W a).0 (proper W b).0 h, base_prod (proper W a).1 (proper W b).1 k)
proper W (bound_var h e d) = d
proper {Γ} W (sum_over {s} {S} a b h n) = proper_in (bind_well W s) Γ refl S (proper (bind_well W s) b)

module _ {Γ : Context} (W : WellFormed Γ) where
  -- its words are short, and it is a tree of the table's form
  pub index_short : {s σ : Tree} → Γ ⊢ s ∶ index σ → Short σ
  unfolding words
  index_short (type_var h) = omega arith
  index_short (term_var e) = absurd (W.variable_type _ _ e).0
  index_short (base_prod a b h) = h
  index_short (sum_over a b h n) = absurd h

  pub index_formed : {s σ : Tree} → Γ ⊢ s ∶ index σ → Formed σ
  unfolding Formed word count heads reading
  index_formed (type_var {a} h) = (rw (read_at 1 a (omega (arith, W.types))), tt)
  index_formed (term_var e) = absurd (W.variable_type _ _ e).0
  index_formed (base_prod a b h) = (read_at 2 0 (omega arith), (index_formed a, (index_formed b, tt)))
  index_formed (sum_over a b h n) = absurd h

  -- two indices of the context with the same words are the same
  pub same_index : {σ τ : Tree} → Index Γ σ → Index Γ τ → words σ ≡ words τ → σ ≡ τ
  same_index {σ} {τ} a b e = one-reading σ τ (index_formed a) (index_formed b) e

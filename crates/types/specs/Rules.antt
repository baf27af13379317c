-- The published typing rules: source document 004, figures 3 to 7, in their order and under their names, before them the names of figure 1's rule Var.
-- `index σ` is 004's "σ : Base": the part is an index, namely σ. Where a rule forms a product of indices it asks that the product is short.
-- Figure 6's MulB has a bra as its first factor (01).
use Rattle.std.specs.Prelude.{◌≡◌, ℕ, ◌≤◌, ◌<◌, length}
use Rattle.std.proofs.Math.Option.{some}
use Rattle.std.proofs.Math.ListN.{get_elem?}
use Rattle.term.specs.Heads.{type_name, basis_name, variable, index_product, pair, scalar_zero, scalar_one, scalar_sum, scalar_product, conjugate, delta, dot, zero_ket, zero_bra}
use Rattle.term.specs.Heads.{zero_operator, identity, basis_ket, basis_bra, adjoint, scale, add, tensor, mulk, mulb, outer, mulo, bound_basis, big_sum}
use Rattle.term.specs.Trees.{Tree, Forest, node, none, ◌▹◌}
use Rattle.term.specs.Terms.{max_names, max_bodies, IsTerm}
use Rattle.types.specs.Sorts.{Sort, index, basis, scalar, ket, bra, operator, IsType, Context, Marked, bind, counts_of, ◌⊠◌, Short}

infix 3 ◌∶◌⊣◌
infix 3 ◌∶*◌⊣◌
infix 3 ◌⊢◌∶◌
infix 3 ◌⊢*◌∶◌
mutual
  pub data ◌∶◌⊣◌ : Tree → Sort → Context → Type 0 where
    -- Var: names, as declared
    type_var : {a : ℕ} {Γ : Context} → a < Γ.types → node (type_name a) none ∶ index (node (type_name a) none) ⊣ Γ
    basis_var : {a : ℕ} {σ : Tree} {Γ : Context} → get_elem? Γ.bases a ≡ some σ → node (basis_name a) none ∶ basis σ ⊣ Γ
    term_var : {a : ℕ} {S : Sort} {Γ : Context} → get_elem? Γ.variables a ≡ some S → node (variable a) none ∶ S ⊣ Γ
    -- figure 3
    sca_0 : {Γ : Context} → node scalar_zero none ∶ scalar ⊣ Γ
    sca_1 : {Γ : Context} → node scalar_one none ∶ scalar ⊣ Γ
    sca_delta : {s t σ : Tree} {Γ : Context} → s ∶ basis σ ⊣ Γ → t ∶ basis σ ⊣ Γ → node delta (s ▹ t ▹ none) ∶ scalar ⊣ Γ
    sca_add : {a : Tree} {f : Forest} {Γ : Context} → a ∶ scalar ⊣ Γ → f ∶* scalar ⊣ Γ → node scalar_sum (a ▹ f) ∶ scalar ⊣ Γ
    sca_mul : {a : Tree} {f : Forest} {Γ : Context} → a ∶ scalar ⊣ Γ → f ∶* scalar ⊣ Γ → node scalar_product (a ▹ f) ∶ scalar ⊣ Γ
    sca_conj : {a : Tree} {Γ : Context} → a ∶ scalar ⊣ Γ → node conjugate (a ▹ none) ∶ scalar ⊣ Γ
    sca_dot : {B K σ : Tree} {Γ : Context} → B ∶ bra σ ⊣ Γ → K ∶ ket σ ⊣ Γ → node dot (B ▹ K ▹ none) ∶ scalar ⊣ Γ
    -- figure 4
    base_prod : {s t σ τ : Tree} {Γ : Context} → s ∶ index σ ⊣ Γ → t ∶ index τ ⊣ Γ → Short (σ ⊠ τ) → node index_product (s ▹ t ▹ none) ∶ index (σ ⊠ τ) ⊣ Γ
    pair_base : {s t σ τ : Tree} {Γ : Context} → s ∶ basis σ ⊣ Γ → t ∶ basis τ ⊣ Γ → Short (σ ⊠ τ) → node pair (s ▹ t ▹ none) ∶ basis (σ ⊠ τ) ⊣ Γ
    -- figure 5
    ket_0 : {s σ : Tree} {Γ : Context} → s ∶ index σ ⊣ Γ → node zero_ket (s ▹ none) ∶ ket σ ⊣ Γ
    ket_base : {t σ : Tree} {Γ : Context} → t ∶ basis σ ⊣ Γ → node basis_ket (t ▹ none) ∶ ket σ ⊣ Γ
    ket_adj : {B σ : Tree} {Γ : Context} → B ∶ bra σ ⊣ Γ → node adjoint (B ▹ none) ∶ ket σ ⊣ Γ
    ket_scr : {a K σ : Tree} {Γ : Context} → a ∶ scalar ⊣ Γ → K ∶ ket σ ⊣ Γ → node scale (a ▹ K ▹ none) ∶ ket σ ⊣ Γ
    ket_add : {K σ : Tree} {f : Forest} {Γ : Context} → K ∶ ket σ ⊣ Γ → f ∶* ket σ ⊣ Γ → node add (K ▹ f) ∶ ket σ ⊣ Γ
    ket_mulk : {O K σ τ : Tree} {Γ : Context} → O ∶ operator σ τ ⊣ Γ → K ∶ ket τ ⊣ Γ → node mulk (O ▹ K ▹ none) ∶ ket σ ⊣ Γ
    ket_tsr : {K L σ τ : Tree} {Γ : Context} → K ∶ ket σ ⊣ Γ → L ∶ ket τ ⊣ Γ → Short (σ ⊠ τ) → node tensor (K ▹ L ▹ none) ∶ ket (σ ⊠ τ) ⊣ Γ
    -- figure 6
    bra_0 : {s σ : Tree} {Γ : Context} → s ∶ index σ ⊣ Γ → node zero_bra (s ▹ none) ∶ bra σ ⊣ Γ
    bra_base : {t σ : Tree} {Γ : Context} → t ∶ basis σ ⊣ Γ → node basis_bra (t ▹ none) ∶ bra σ ⊣ Γ
    bra_adj : {K σ : Tree} {Γ : Context} → K ∶ ket σ ⊣ Γ → node adjoint (K ▹ none) ∶ bra σ ⊣ Γ
    bra_scr : {a B σ : Tree} {Γ : Context} → a ∶ scalar ⊣ Γ → B ∶ bra σ ⊣ Γ → node scale (a ▹ B ▹ none) ∶ bra σ ⊣ Γ
    bra_add : {B σ : Tree} {f : Forest} {Γ : Context} → B ∶ bra σ ⊣ Γ → f ∶* bra σ ⊣ Γ → node add (B ▹ f) ∶ bra σ ⊣ Γ
    bra_mulb : {B O σ τ : Tree} {Γ : Context} → B ∶ bra σ ⊣ Γ → O ∶ operator σ τ ⊣ Γ → node mulb (B ▹ O ▹ none) ∶ bra τ ⊣ Γ
    bra_tsr : {B C σ τ : Tree} {Γ : Context} → B ∶ bra σ ⊣ Γ → C ∶ bra τ ⊣ Γ → Short (σ ⊠ τ) → node tensor (B ▹ C ▹ none) ∶ bra (σ ⊠ τ) ⊣ Γ
    -- figure 7
    opt_0 : {s t σ τ : Tree} {Γ : Context} → s ∶ index σ ⊣ Γ → t ∶ index τ ⊣ Γ → node zero_operator (s ▹ t ▹ none) ∶ operator σ τ ⊣ Γ
    opt_1 : {s σ : Tree} {Γ : Context} → s ∶ index σ ⊣ Γ → node identity (s ▹ none) ∶ operator σ σ ⊣ Γ
    opt_adj : {O σ τ : Tree} {Γ : Context} → O ∶ operator σ τ ⊣ Γ → node adjoint (O ▹ none) ∶ operator τ σ ⊣ Γ
    opt_scr : {a O σ τ : Tree} {Γ : Context} → a ∶ scalar ⊣ Γ → O ∶ operator σ τ ⊣ Γ → node scale (a ▹ O ▹ none) ∶ operator σ τ ⊣ Γ
    opt_add : {O σ τ : Tree} {f : Forest} {Γ : Context} → O ∶ operator σ τ ⊣ Γ → f ∶* operator σ τ ⊣ Γ → node add (O ▹ f) ∶ operator σ τ ⊣ Γ
    opt_outer : {K B σ τ : Tree} {Γ : Context} → K ∶ ket σ ⊣ Γ → B ∶ bra τ ⊣ Γ → node outer (K ▹ B ▹ none) ∶ operator σ τ ⊣ Γ
    opt_mulo : {O P σ τ ρ : Tree} {Γ : Context} → O ∶ operator σ τ ⊣ Γ → P ∶ operator τ ρ ⊣ Γ → node mulo (O ▹ P ▹ none) ∶ operator σ ρ ⊣ Γ
    opt_tsr : {O P σ τ υ φ : Tree} {Γ : Context} → O ∶ operator σ τ ⊣ Γ → P ∶ operator υ φ ⊣ Γ → Short (σ ⊠ υ) → Short (τ ⊠ φ)
        → node tensor (O ▹ P ▹ none) ∶ operator (σ ⊠ υ) (τ ⊠ φ) ⊣ Γ
    -- 02, CR 1: "has the body's type"; "Parts inside a body are typed with the bases bound around them; a 28 whose 27 lacks an index is untyped"; "at most 8 bodies nested"
    bound_var : {a : ℕ} {σ : Tree} {Γ : Context} → a < max_bodies → get_elem? Γ.bound a ≡ some σ → σ ∶ index σ ⊣ Γ → node (bound_basis a) none ∶ basis σ ⊣ Γ
    sum_over : {s b σ : Tree} {S : Sort} {Γ : Context} → s ∶ index σ ⊣ Γ → b ∶ S ⊣ bind s Γ → IsType S → length Γ.bound < max_bodies → node big_sum (s ▹ b ▹ none) ∶ S ⊣ Γ

  -- every tree of a forest has one sort: "for all i"
  pub data ◌∶*◌⊣◌ : Forest → Sort → Context → Type 0 where
    every_none : {S : Sort} {Γ : Context} → none ∶* S ⊣ Γ
    every_more : {t : Tree} {f : Forest} {S : Sort} {Γ : Context} → t ∶ S ⊣ Γ → f ∶* S ⊣ Γ → t ▹ f ∶* S ⊣ Γ

-- as the figures write it. Above, the context is an index of the relation, so that a part may be typed in another than the whole is; it stands last, where a match on a derivation is cheapest
abbrev pub ◌⊢◌∶◌ : Context → Tree → Sort → Type 0
Γ ⊢ t ∶ S = t ∶ S ⊣ Γ

abbrev pub ◌⊢*◌∶◌ : Context → Forest → Sort → Type 0
Γ ⊢* f ∶ S = f ∶* S ⊣ Γ

-- ---- declarations in order
-- an index of the context, which is short by the rules
abbrev pub Index : Context → Tree → Type 0
Index Γ σ = Γ ⊢ σ ∶ index σ

-- a sort's indices are indices of the context
abbrev pub Proper : Context → Sort → Type 0
Proper Γ (index σ) = Index Γ σ
Proper Γ (basis σ) = Index Γ σ
Proper Γ scalar = Unit {0}
Proper Γ (ket σ) = Index Γ σ
Proper Γ (bra σ) = Index Γ σ
Proper Γ (operator σ τ) = Index Γ σ × Index Γ τ

-- 004's WF: what is declared is declared properly; 01: "Names are 0 to 31"; 02, CR 7: "a mark on anything but an operator with two equal indices is 7"
pub record WellFormed (Γ : Context) : Type 0 where
  pub types : Γ.types ≤ max_names
  pub bases : length Γ.bases ≤ max_names
  pub variables : length Γ.variables ≤ max_names
  pub basis_index_lem : (a : ℕ) (σ : Tree) → get_elem? Γ.bases a ≡ some σ → Index Γ σ
  pub variable_type : (a : ℕ) (S : Sort) → get_elem? Γ.variables a ≡ some S → IsType S × Proper Γ S
  pub marked_square : (a : ℕ) → Marked Γ a → (σ : Tree) × (get_elem? Γ.variables a ≡ some (operator σ σ))

-- ---- a typed term of document 01's form
pub record Typed (Γ : Context) (S : Sort) (t : Tree) : Type 0 where
  pub rules : Γ ⊢ t ∶ S
  pub form : IsTerm (counts_of Γ) t

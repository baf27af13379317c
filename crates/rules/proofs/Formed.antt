-- A typed tree within the limits of a step is a term: of the table's form, with declared names. A term of document 01's form is within these limits.
use mathlib.Core.Path.{◌≡◌, refl, ◌∙◌}
use mathlib.Core.Bool.{Bool, true, false, cond, and-eq-true_iff}
use mathlib.Core.List.{List}
use Prim.Native.Nat.{ℕ, suc, ◌+◌, ◌*◌, ◌≤◌, ◌<◌}
use native.Mathlib.Nat.{le_refl}
use native.Mathlib.Omega.{arith}
use borrow.Author.Tests.{lt-ltb, le-leb, leb-true}
use lib.Arith.{digits_div, digits_mod}
use lib.Dec.{eqb, leb, eqb-suc-zero}
use lib.ListN.{length, get_or}
use Rattle.words.specs.Listed.{all}
use Rattle.words.proofs.Listed.{all-++}
use Rattle.term.specs.declared.terms.Names.{Names}
use Rattle.term.specs.Heads.{Label, type_name, basis_name, variable, scalar_sum, scalar_product, add, bound_basis, unknown, labelled, heads, reading, word, read}
use Rattle.term.specs.Trees.{Tree, Forest, node, none, ◌▹◌, count, words, words*, Formed, Formed*}
use Rattle.term.specs.Terms.{max_words, max_children, max_names, known, declared, all_declared, IsTerm}
use Rattle.term.proofs.Readings.{read_at, read-few}
use Rattle.types.specs.Sorts.{Sort, Context, counts_of}
use Rattle.types.specs.Inside.{binds, behind_first, later}
use Rattle.types.specs.Rules.{◌⊢◌∶◌, type_var, basis_var, term_var, sca_0, sca_1, sca_delta, sca_add, sca_mul, sca_conj, sca_dot, base_prod, pair_base, ket_0, ket_base, ket_adj, ket_scr}
use Rattle.types.specs.Rules.{ket_add, ket_mulk, ket_tsr, bra_0, bra_base, bra_adj, bra_scr, bra_add, bra_mulb, bra_tsr, opt_0, opt_1, opt_adj, opt_scr, opt_add, opt_outer, opt_mulo}
use Rattle.types.specs.Rules.{opt_tsr, bound_var, sum_over, WellFormed}
use Rattle.types.proofs.Sound.{Row, each_none, each_more, node_of}
use Rattle.types.proofs.Indices.{later_well}
use Rattle.types.proofs.Strays.{below}
use Rattle.rules.specs.Steps.{few, few*, within}

-- ---- what a node's word says of the node: it reads back, and its name is declared
record Node (N : Names) (l : Label) (n : ℕ) : Type 0 where
  formed : read (word l n) ≡ labelled l n
  named : declared N (word l n) ≡ true

-- a name below n is known where at least n names are declared
known-below : (a n m : ℕ) → a < n → n ≤ m → n ≤ max_names → known a m ≡ true
unfolding known
known-below a n m h k x = rw (lt-ltb a m (omega arith), lt-ltb a max_names (omega arith))

-- a head of a fixed number of children has a numeral for its word: both laws compute
abbrev plain : {N : Names} {l : Label} {n : ℕ} → read (word l n) ≡ labelled l n → declared N (word l n) ≡ true → Node N l n
plain p q = record { formed = p; named = q }

module _ (N : Names) where
  -- the names of a head's words, by the head
  declared-at : (k a : ℕ) → a < 256
      → declared N (k * 256 + a) ≡ cond (eqb k 1) (known a N.types) (cond (eqb k 3) (known a N.bases) (cond (eqb k 26) (known a N.variables) true))
  unfolding declared
  declared-at k a h = rw (digits_div k h, digits_mod k h)

  -- a node of head k with a in the low byte: a name, or the number of its children
  node_at : (l : Label) (k a n : ℕ) → a < 256 → word l n ≡ k * 256 + a → reading (get_or heads k unknown) a ≡ labelled l n
      → cond (eqb k 1) (known a N.types) (cond (eqb k 3) (known a N.bases) (cond (eqb k 26) (known a N.variables) true)) ≡ true → Node N l n
  node_at l k a n h w r d = record { formed = rw w (read_at k a h ∙ r); named = rw w (declared-at k a h ∙ d) }

  type-node : (a : ℕ) → a < 256 → known a N.types ≡ true → Node N (type_name a) 0
  unfolding word heads reading
  type-node a h e = node_at (type_name a) 1 a 0 h refl refl e

  basis_node : (a : ℕ) → a < 256 → known a N.bases ≡ true → Node N (basis_name a) 0
  unfolding word heads reading
  basis_node a h e = node_at (basis_name a) 3 a 0 h refl refl e

  variable_node : (a : ℕ) → a < 256 → known a N.variables ≡ true → Node N (variable a) 0
  unfolding word heads reading
  variable_node a h e = node_at (variable a) 26 a 0 h refl refl e

  bound-node : (a : ℕ) → a < 256 → Node N (bound_basis a) 0
  unfolding word heads reading
  bound-node a h = node_at (bound_basis a) 28 a 0 h refl refl refl

  sum-node : (n : ℕ) → suc n ≤ 255 → Node N scalar_sum (suc n)
  unfolding word heads reading
  sum-node n h = node_at scalar_sum 7 (suc n) (suc n) (omega arith) refl (rw eqb-suc-zero) refl

  product-node : (n : ℕ) → suc n ≤ 255 → Node N scalar_product (suc n)
  unfolding word heads reading
  product-node n h = node_at scalar_product 8 (suc n) (suc n) (omega arith) refl (rw eqb-suc-zero) refl

  add-node : (n : ℕ) → suc n ≤ 255 → Node N add (suc n)
  unfolding word heads reading
  add-node n h = node_at add 20 (suc n) (suc n) (omega arith) refl (rw eqb-suc-zero) refl

-- a tree with few children at each node: at this one, and at those below
few-node : (l : Label) (cs : Forest) → few (node l cs) ≡ true → (count cs ≤ 255) × (few* cs ≡ true)
unfolding few
few-node l cs h = let p = (and-eq-true_iff (leb (count cs) max_children) _).0 h in (leb-true _ _ p.0, p.1)

few-more : (t : Tree) (f : Forest) → few* (t ▹ f) ≡ true → (few t ≡ true) × (few* f ≡ true)
unfolding few
few-more t f h = (and-eq-true_iff (few t) _).0 h

-- at least the names of a context are declared
abbrev Declared : Names → Context → Type 0
Declared N Γ = (Γ.types ≤ N.types) × (length Γ.bases ≤ N.bases) × (length Γ.variables ≤ N.variables)

later-declared : (N : Names) (Γ : Context) (l : Label) (cs : Forest) → Declared N Γ → Declared N (later Γ l cs)
unfolding later behind_first
later-declared N Γ l cs x = go (binds l) cs
  where
    go : (b : Bool) (cs : Forest) → Declared N (cond b (behind_first Γ cs) Γ)
    go true none = x
    go true (s ▹ f) = x
    go false cs = x

module _ {Γ : Context} (W : WellFormed Γ) (N : Names) (x : Declared N Γ) where
  -- by the rules, a typed node has the children that its head wants, and a declared name; a counted head has from 1, and here to 255
  typed-node : {l : Label} {cs : Forest} {S : Sort} → Γ ⊢ node l cs ∶ S → count cs ≤ 255 → Node N l (count cs)
  unfolding word read heads reading declared count
  typed-node (type_var {a} h) k = type-node N a (omega (arith, W.types)) (known-below a Γ.types N.types h x.0 W.types)
  typed-node (basis_var {a} e) k =
      let h = below Γ.bases a e in basis_node N a (omega (arith, W.bases)) (known-below a (length Γ.bases) N.bases h x.1 W.bases)
  typed-node (term_var {a} e) k =
      let h = below Γ.variables a e in
      variable_node N a (omega (arith, W.variables)) (known-below a (length Γ.variables) N.variables h x.2 W.variables)
  typed-node sca_0 k = plain refl refl
  typed-node sca_1 k = plain refl refl
  typed-node (sca_delta a b) k = plain refl refl
  typed-node (sca_add a f) k = sum-node N _ k
  typed-node (sca_mul a f) k = product-node N _ k
  typed-node (sca_conj a) k = plain refl refl
  typed-node (sca_dot a b) k = plain refl refl
  typed-node (base_prod a b h) k = plain refl refl
  typed-node (pair_base a b h) k = plain refl refl
  typed-node (ket_0 a) k = plain refl refl
  typed-node (ket_base a) k = plain refl refl
  typed-node (ket_adj a) k = plain refl refl
  typed-node (ket_scr a b) k = plain refl refl
  typed-node (ket_add a f) k = add-node N _ k
  typed-node (ket_mulk a b) k = plain refl refl
  typed-node (ket_tsr a b h) k = plain refl refl
  typed-node (bra_0 a) k = plain refl refl
  typed-node (bra_base a) k = plain refl refl
  typed-node (bra_adj a) k = plain refl refl
  typed-node (bra_scr a b) k = plain refl refl
  typed-node (bra_add a f) k = add-node N _ k
  typed-node (bra_mulb a b) k = plain refl refl
  typed-node (bra_tsr a b h) k = plain refl refl
  typed-node (opt_0 a b) k = plain refl refl
  typed-node (opt_1 a) k = plain refl refl
  typed-node (opt_adj a) k = plain refl refl
  typed-node (opt_scr a b) k = plain refl refl
  typed-node (opt_add a f) k = add-node N _ k
  typed-node (opt_outer a b) k = plain refl refl
  typed-node (opt_mulo a b) k = plain refl refl
  typed-node (opt_tsr a b h l) k = plain refl refl
  typed-node (bound_var {a} b e d) k = bound-node N a (omega arith)
  typed-node (sum_over a b h n) k = plain refl refl

-- so at each node of the tree: the children are typed, and few
module _ (N : Names) where
  mutual
    unfolding Formed

    tree-formed : {Γ : Context} → WellFormed Γ → Declared N Γ → (t : Tree) {S : Sort} → Γ ⊢ t ∶ S → few t ≡ true → Formed t
    tree-formed {Γ} W x (node l cs) d h =
        let e = few-node l cs h in
        ((typed-node W N x d e.0).formed, forest_formed W (later_well W l cs) x (later-declared N Γ l cs x) cs (node_of W d).each e.1)

    forest_formed : {Γ Δ : Context} → WellFormed Γ → WellFormed Δ → Declared N Γ → Declared N Δ → (f : Forest) {ss : List Sort} → Row f ss Γ Δ → few* f ≡ true → Formed* f
    forest_formed W X x y none each_none h = tt
    forest_formed W X x y (t ▹ f) (each_more a d) h = let e = few-more t f h in (tree-formed W x t a e.0, forest_formed X X y y f d e.1)

  mutual
    unfolding words all

    tree-declared : {Γ : Context} → WellFormed Γ → Declared N Γ → (t : Tree) {S : Sort} → Γ ⊢ t ∶ S → few t ≡ true → all_declared N (words t) ≡ true
    tree-declared {Γ} W x (node l cs) d h =
        let e = few-node l cs h in
        rw (typed-node W N x d e.0).named (forest_declared W (later_well W l cs) x (later-declared N Γ l cs x) cs (node_of W d).each e.1)

    forest_declared : {Γ Δ : Context} → WellFormed Γ → WellFormed Δ → Declared N Γ → Declared N Δ → (f : Forest) {ss : List Sort} → Row f ss Γ Δ → few* f ≡ true
        → all_declared N (words* f) ≡ true
    forest_declared W X x y none each_none h = refl
    forest_declared W X x y (t ▹ f) (each_more a d) h =
        let e = few-more t f h in rw (all-++ (declared N) (words t) (words* f), tree-declared W x t a e.0) (forest_declared X X y y f d e.1)

-- with the context's own counts
own_declared : (Γ : Context) → Declared (counts_of Γ) Γ
own_declared Γ = (le_refl _, le_refl _, le_refl _)

module _ {Γ : Context} (W : WellFormed Γ) where
  -- a typed tree with few children at each node is of the table's form
  pub typed-formed : {t : Tree} {S : Sort} → Γ ⊢ t ∶ S → few t ≡ true → Formed t
  typed-formed {t} d h = tree-formed (counts_of Γ) W (own_declared Γ) t d h

  -- and within the limits of a step it is a term
  pub within_term_own : {t : Tree} {S : Sort} → Γ ⊢ t ∶ S → within t ≡ true → IsTerm (counts_of Γ) t
  unfolding within
  within_term_own {t} d h =
      let e = (and-eq-true_iff (few t) _).0 h in
      let s = (and-eq-true_iff (leb (length (words t)) max_words) _).0 e.1 in
      record { formed = typed-formed d e.0; short = leb-true _ _ s.0; shallow = leb-true _ _ s.1; named = tree-declared (counts_of Γ) W (own_declared Γ) t d e.0 }

-- ---- and back: what the table reads has at most 255 children
mutual
  unfolding Formed few

  pub formed-few : (t : Tree) → Formed t → few t ≡ true
  formed-few (node l cs) h = rw (le-leb (count cs) max_children (read-few _ l (count cs) h.0)) (formed-few* cs h.1)

  pub formed-few* : (f : Forest) → Formed* f → few* f ≡ true
  formed-few* none h = refl
  formed-few* (t ▹ f) h = rw (formed-few t h.0) (formed-few* f h.1)

-- a term is within the limits of a step
pub term_few : (N : Names) {t : Tree} → IsTerm N t → within t ≡ true
unfolding within
term_few N {t} h = rw (formed-few t h.formed, le-leb _ _ h.short, le-leb _ _ h.shallow)

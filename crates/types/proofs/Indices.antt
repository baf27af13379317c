-- Indices: a tree is the index that its sort names, in every context of as many type names, and a test decides it.
use mathlib.Core.Path.{◌≡◌, refl, ◌∙◌, ap}
use mathlib.Core.Bool.{Bool, true, false, cond, ◌&&◌, and-eq-true_iff}
use mathlib.Core.List.{List, ◌∷◌}
use Prim.Native.Nat.{ℕ, zero, suc, ◌-◌, ◌<◌}
use native.Mathlib.Omega.{arith}
use borrow.Author.Tests.{lt-ltb, le-leb, ne_eqb, ltb-true, leb-true}
use lib.Dec.{eqb, leb, ltb}
use lib.ListN.{length, get_or}
use Rattle.term.specs.Heads.{Label, type_name, index_product, unknown, heads, head_of}
use Rattle.term.specs.Trees.{Tree, Forest, node, none, ◌▹◌, count, words}
use Rattle.term.specs.Terms.{max_index}
use Rattle.term.proofs.Readings.{Written, label_line}
use Rattle.types.specs.Sorts.{Sort, index, basis, scalar, ket, bra, operator, Context, in_bodies, bind, ◌⊠◌, Short}
use Rattle.types.specs.Rules.{◌⊢◌∶◌, type_var, term_var, base_prod, sum_over, Proper, WellFormed}
use Rattle.types.specs.Inside.{binds, behind_first, later, inside, inside*}
use Rattle.types.specs.TypeOf.{index_tree, index_trees}

-- a head that does not bind leaves the context
pub later_same : (Γ : Context) (l : Label) (cs : Forest) → binds l ≡ false → later Γ l cs ≡ Γ
unfolding later
later_same Γ l cs e = rw e

-- the context of a part is that of the whole, with other bodies around
pub later-bodies : (Γ : Context) (l : Label) (cs : Forest) → later Γ l cs ≡ in_bodies (later Γ l cs).bound Γ
unfolding later behind_first
later-bodies Γ l cs = go (binds l) cs
  where
    go : (b : Bool) (cs : Forest) → cond b (behind_first Γ cs) Γ ≡ in_bodies (cond b (behind_first Γ cs) Γ).bound Γ
    go true none = refl
    go true (s ▹ f) = refl
    go false cs = refl

abbrev Bodies : Context → Context → Type 0
Bodies Γ Δ = Δ ≡ in_bodies Δ.bound Γ

bodies_trans : (Γ Δ Θ : Context) → Bodies Γ Δ → Bodies Δ Θ → Bodies Γ Θ
bodies_trans Γ Δ Θ p q = q ∙ ap (in_bodies Θ.bound) p

bodies_if : (Γ Δ Θ : Context) (b : Bool) → Bodies Γ Δ → Bodies Γ Θ → Bodies Γ (cond b Δ Θ)
bodies_if Γ Δ Θ true p q = p
bodies_if Γ Δ Θ false p q = q

mutual
  unfolding inside

  pub inside-bodies : (Γ : Context) (t : Tree) (k : ℕ) → inside Γ t k ≡ in_bodies (inside Γ t k).bound Γ
  inside-bodies Γ (node l cs) zero = refl
  inside-bodies Γ (node l cs) (suc k) = inside_bodies* Γ (later Γ l cs) (later-bodies Γ l cs) cs k

  inside_bodies* : (Γ Δ : Context) → Bodies Γ Δ → (f : Forest) (k : ℕ) → Bodies Γ (inside* Γ Δ f k)
  inside_bodies* Γ Δ e none k = refl
  inside_bodies* Γ Δ e (t ▹ f) k =
      bodies_if Γ _ _ (ltb k (length (words t))) (inside-bodies Γ t k) (bodies_trans Γ Δ _ e (inside_bodies* Δ Δ refl f (k - length (words t))))

module _ {Γ : Context} (W : WellFormed Γ) where
  -- an index part is the index that its sort names
  pub index_is : {s σ : Tree} → Γ ⊢ s ∶ index σ → s ≡ σ
  index_is (type_var h) = refl
  index_is (term_var e) = absurd (W.variable_type _ _ e).0
  index_is (base_prod a b h) = rw (index_is a, index_is b)
  index_is (sum_over a b h n) = absurd h

  -- it looks at the type names alone
  pub index_in_lem : (Δ : Context) → Γ.types ≡ Δ.types → {s σ : Tree} → Γ ⊢ s ∶ index σ → Δ ⊢ s ∶ index σ
  index_in_lem Δ e (type_var {a} h) = let b : a < Δ.types = rw (← e) h in type_var b
  index_in_lem Δ e (term_var q) = absurd (W.variable_type _ _ q).0
  index_in_lem Δ e (base_prod a b h) = base_prod (index_in_lem Δ e a) (index_in_lem Δ e b) h
  index_in_lem Δ e (sum_over a b h n) = absurd h

  pub proper_in : (Δ : Context) → Γ.types ≡ Δ.types → (S : Sort) → Proper Γ S → Proper Δ S
  proper_in Δ e (index σ) p = index_in_lem Δ e p
  proper_in Δ e (basis σ) p = index_in_lem Δ e p
  proper_in Δ e scalar p = tt
  proper_in Δ e (ket σ) p = index_in_lem Δ e p
  proper_in Δ e (bra σ) p = index_in_lem Δ e p
  proper_in Δ e (operator σ τ) p = (index_in_lem Δ e p.0, index_in_lem Δ e p.1)

  -- ---- contexts of parts are in order
  pub bodies_well : (bs : List Tree) → WellFormed (in_bodies bs Γ)
  bodies_well bs =
      record {
        types = W.types;
        bases = W.bases;
        variables = W.variables;
        basis_index_lem = λ a σ e. index_in_lem (in_bodies bs Γ) refl (W.basis_index_lem a σ e);
        variable_type = λ a S e. let v = W.variable_type a S e in (v.0, proper_in (in_bodies bs Γ) refl S v.1);
        marked_square = W.marked_square;
      }

  pub bind_well : (s : Tree) → WellFormed (bind s Γ)
  bind_well s = bodies_well (s ∷ Γ.bound)

  pub later_well : (l : Label) (cs : Forest) → WellFormed (later Γ l cs)
  unfolding later behind_first
  later_well l cs = go (binds l) cs
    where
      go : (b : Bool) (cs : Forest) → WellFormed (cond b (behind_first Γ cs) Γ)
      go true none = W
      go true (s ▹ f) = bind_well s
      go false cs = W

  -- ---- the test
  product_tests : (s t : Tree) → index_tree Γ.types s ≡ true → index_tree Γ.types t ≡ true → Short (s ⊠ t) → index_tree Γ.types (s ⊠ t) ≡ true
  unfolding index_tree words
  product_tests s t a b h = rw (a, b, le-leb _ _ h)

  pub index_tests : {s σ : Tree} → Γ ⊢ s ∶ index σ → index_tree Γ.types s ≡ true
  unfolding index_tree words
  index_tests (type_var h) = rw (lt-ltb _ _ h)
  index_tests (term_var q) = absurd (W.variable_type _ _ q).0
  index_tests (base_prod {s} {t} a b h) = product_tests s t (index_tests a) (index_tests b) (rw (index_is a, index_is b) h)
  index_tests (sum_over a b h n) = absurd h

-- a label by its head: a type name, a product of indices, or neither
data Headed : Label → ℕ × ℕ → Type 0 where
  names : (a : ℕ) → Headed (type_name a) (1, a)
  multiplies : {a : ℕ} → Headed index_product (2, a)
  neither : {l : Label} {p : ℕ × ℕ} → eqb p.0 1 ≡ false → eqb p.0 2 ≡ false → Headed l p

headed : (l : Label) → Headed l (head_of l 0)
unfolding heads
headed l = go (head_of l 0).0 (head_of l 0).1 (label_line l 0)
  where
    go : (k a : ℕ) → Written l a (get_or heads k unknown) → Headed l (k, a)
    go zero a w = neither refl refl
    go (suc zero) a w = let z : type_name a ≡ l = w in rw (← z) (names a)
    go (suc (suc zero)) a w = let z : index_product ≡ l = w in rw (← z) multiplies
    go (suc (suc (suc k))) a w = neither (ne_eqb (suc (suc (suc k))) 1 (omega arith)) (ne_eqb (suc (suc (suc k))) 2 (omega arith))

-- what passes the test is an index
wrong : (a b d e : Bool) → cond a (b && false) (d && (false && e)) ≡ true → ⊥
wrong true true d e h = let z : ◌≡◌ {A = ℕ} 0 1 = cc in omega arith
wrong true false d e h = let z : ◌≡◌ {A = ℕ} 0 1 = cc in omega arith
wrong false b true e h = let z : ◌≡◌ {A = ℕ} 0 1 = cc in omega arith
wrong false b false e h = let z : ◌≡◌ {A = ℕ} 0 1 = cc in omega arith

module _ (Γ : Context) where
  abbrev tested : ℕ × ℕ → Label → Forest → Bool
  tested p l cs = cond (eqb p.0 1) (ltb p.1 Γ.types && eqb (count cs) 0) (eqb p.0 2 && (eqb (count cs) 2 && (leb (length (words (node l cs))) max_index && index_trees Γ.types cs)))

  none_pass : (l : Label) (p : ℕ × ℕ) → Headed l p → tested p l none ≡ true → Γ ⊢ node l none ∶ index (node l none)
  unfolding count
  none_pass l p (names a) e = type_var (ltb-true _ _ ((and-eq-true_iff _ _).0 e).0)
  none_pass l p multiplies e = absurd (let z : ◌≡◌ {A = ℕ} 0 1 = cc in omega arith)
  none_pass l p (neither x y) e = absurd (let z = rw (x, y) at e in let q : ◌≡◌ {A = ℕ} 0 1 = cc in omega arith)

  -- each tree of a row is an index where it passes
  abbrev Each : Forest → Type 0
  Each none = Unit {0}
  Each (t ▹ f) = (index_tree Γ.types t ≡ true → Γ ⊢ t ∶ index t) × Each f

  two_pass : (l : Label) (p : ℕ × ℕ) (s t : Tree) → Headed l p → Each (s ▹ t ▹ none) → tested p l (s ▹ t ▹ none) ≡ true → Γ ⊢ node l (s ▹ t ▹ none) ∶ index (node l (s ▹ t ▹ none))
  unfolding count index_tree
  two_pass l p s t (names a) x e = absurd (wrong true (ltb a Γ.types) true true e)
  two_pass l p s t multiplies x e =
      let p = (and-eq-true_iff (leb (length (words (s ⊠ t))) max_index) _).0 e in
      let q = (and-eq-true_iff (index_tree Γ.types s) _).0 p.1 in
      let r = (and-eq-true_iff (index_tree Γ.types t) _).0 q.1 in
      base_prod (x.0 q.0) (x.1.0 r.0) (leb-true _ _ p.0)
  two_pass l p s t (neither a b) x e = absurd (let z = rw (a, b) at e in let q : ◌≡◌ {A = ℕ} 0 1 = cc in omega arith)

  wrong-count : (l : Label) (cs : Forest) → eqb (count cs) 0 ≡ false → eqb (count cs) 2 ≡ false → tested (head_of l 0) l cs ≡ true → ⊥
  wrong-count l cs x y e =
      let p = head_of l 0 in
      wrong (eqb p.0 1) (ltb p.1 Γ.types) (eqb p.0 2) (leb (length (words (node l cs))) max_index && index_trees Γ.types cs) (rw (x, y) at e)

  all_pass : (l : Label) (cs : Forest) → Each cs → tested (head_of l 0) l cs ≡ true → Γ ⊢ node l cs ∶ index (node l cs)
  unfolding count
  all_pass l none x e = none_pass l _ (headed l) e
  all_pass l (s ▹ none) x e = absurd (wrong-count l (s ▹ none) refl refl e)
  all_pass l (s ▹ t ▹ none) x e = two_pass l _ s t (headed l) x e
  all_pass l (s ▹ t ▹ u ▹ f) x e = absurd (wrong-count l (s ▹ t ▹ u ▹ f) (ne_eqb (count (s ▹ t ▹ u ▹ f)) 0 (omega arith)) (ne_eqb (count (s ▹ t ▹ u ▹ f)) 2 (omega arith)) e)

  mutual
    unfolding index_tree

    pub index_tested : (t : Tree) → index_tree Γ.types t ≡ true → Γ ⊢ t ∶ index t
    index_tested (node l cs) e = all_pass l cs (each_tested cs) e

    each_tested : (f : Forest) → Each f
    each_tested none = tt
    each_tested (t ▹ f) = (λ e. index_tested t e, each_tested f)

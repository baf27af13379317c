-- Parts of a typed term are typed, and a part gives way to any of its own sort.
use mathlib.Core.Path.{◌≡◌}
use Prim.Native.Nat.{ℕ, zero, suc, ◌-◌, ◌≤◌}
use native.Mathlib.Decide.{dec_lt}
use native.Mathlib.Omega.{arith}
use borrow.Author.Tests.{lt-ltb, le-ltb}
use mathlib.Core.List.{List}
use lib.ListN.{length}
use Rattle.term.specs.Trees.{Tree, Forest, node, none, ◌▹◌, words, found, subtree, subtree*, replace, replace*}
use Rattle.types.specs.Sorts.{Sort, Context}
use Rattle.types.specs.Rules.{◌⊢◌∶◌, WellFormed}
use Rattle.types.specs.Inside.{inside, inside*}
use Rattle.types.proofs.Indices.{later_well}
use Rattle.types.proofs.Complete.{unique}
use Rattle.types.proofs.Sound.{Row, each_more, node_of}

mutual
  unfolding subtree inside

  pub part-typed : {Γ : Context} → WellFormed Γ → (t : Tree) (k : ℕ) (s : Tree) (S : Sort) → Γ ⊢ t ∶ S → subtree t k ≡ found s → (R : Sort) × (inside Γ t k ⊢ s ∶ R)
  part-typed W (node l cs) zero s S d e = let z : node l cs ≡ s = cc in (S, rw (← z) d)
  part-typed W (node l cs) (suc k) s S d e = let n = node_of W d in part_typed* W (later_well W l cs) cs k s n.list n.each e

  pub part_typed* : {Γ Δ : Context} → WellFormed Γ → WellFormed Δ → (f : Forest) (k : ℕ) (s : Tree) (ss : List Sort) → Row f ss Γ Δ → subtree* f k ≡ found s
      → (R : Sort) × (inside* Γ Δ f k ⊢ s ∶ R)
  part_typed* W X none k s ss x e = absurd (let z : ◌≡◌ {A = ℕ} 0 1 = cc in omega arith)
  part_typed* W X (t ▹ f) k s ss (each_more {S} {ss = rest} d x) e =
      elim (dec_lt k (length (words t))) [
        | yes h ↦ rw (lt-ltb k (length (words t)) h) (part-typed W t k s S d (rw (lt-ltb k (length (words t)) h) at e))
        | no h ↦
            let g : length (words t) ≤ k = omega arith in
            rw (le-ltb k (length (words t)) g) (part_typed* X X f (k - length (words t)) s rest x (rw (le-ltb k (length (words t)) g) at e))
      ]

-- the part's context is in order too
mutual
  unfolding inside

  pub inside_well : {Γ : Context} → WellFormed Γ → (t : Tree) (k : ℕ) → WellFormed (inside Γ t k)
  inside_well W (node l cs) zero = W
  inside_well W (node l cs) (suc k) = inside_well* W (later_well W l cs) cs k

  inside_well* : {Γ Δ : Context} → WellFormed Γ → WellFormed Δ → (f : Forest) (k : ℕ) → WellFormed (inside* Γ Δ f k)
  inside_well* W X none k = W
  inside_well* W X (t ▹ f) k =
      elim (dec_lt k (length (words t))) [
        | yes h ↦ rw (lt-ltb k (length (words t)) h) (inside_well W t k)
        | no h ↦ let g : length (words t) ≤ k = omega arith in rw (le-ltb k (length (words t)) g) (inside_well* X X f (k - length (words t)))
      ]

module _ (s u : Tree) (R : Sort) where
  mutual
    unfolding subtree replace inside

    pub replace-typed : {Γ : Context} → WellFormed Γ → (t : Tree) (k : ℕ) (S : Sort) → Γ ⊢ t ∶ S → subtree t k ≡ found s → inside Γ t k ⊢ s ∶ R → inside Γ t k ⊢ u ∶ R → Γ ⊢ replace t k u ∶ S
    replace-typed W (node l cs) zero S d e old new =
        let z : node l cs ≡ s = cc in
        let y : R ≡ S = unique W old (rw (← z) d) in
        rw (← y) new
    replace-typed W (node l cs) (suc k) S d e old new =
        let n = node_of W d in n.again (replace* cs k u) (replace_typed* W (later_well W l cs) cs k n.list n.each e old new)

    pub replace_typed* : {Γ Δ : Context} → WellFormed Γ → WellFormed Δ → (f : Forest) (k : ℕ) (ss : List Sort) → Row f ss Γ Δ → subtree* f k ≡ found s
        → inside* Γ Δ f k ⊢ s ∶ R → inside* Γ Δ f k ⊢ u ∶ R → Row (replace* f k u) ss Γ Δ
    replace_typed* W X none k ss x e old new = absurd (let z : ◌≡◌ {A = ℕ} 0 1 = cc in omega arith)
    replace_typed* W X (t ▹ f) k ss (each_more {S} {ss = rest} d x) e old new =
        elim (dec_lt k (length (words t))) [
          | yes h ↦
              let b = lt-ltb k (length (words t)) h in
              rw b (each_more (replace-typed W t k S d (rw b at e) (rw b at old) (rw b at new)) x)
          | no h ↦
              let b = le-ltb k (length (words t)) (omega arith) in
              rw b (each_more d (replace_typed* X X f (k - length (words t)) rest x (rw b at e) (rw b at old) (rw b at new)))
        ]

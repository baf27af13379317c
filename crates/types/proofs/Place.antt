-- The offset that `type_of` names is that of the untyped part that ends first, and begins last among those that end there.
use mathlib.Core.Path.{◌≡◌, refl, ap}
use mathlib.Core.Logic.{inl, inr, ⊎_elim}
use mathlib.Core.List.{List}
use Prim.Native.Nat.{ℕ, zero, suc, ◌+◌, ◌-◌, ◌≤◌, ◌<◌}
use native.Mathlib.Decide.{dec_lt}
use native.Mathlib.Omega.{arith}
use borrow.Author.Tests.{lt-ltb, le-ltb}
use lib.ListN.{length, length-append}
use Rattle.term.specs.Heads.{Label}
use Rattle.term.specs.Trees.{Tree, Forest, node, none, ◌▹◌, words, words*, found, subtree, subtree*}
use Rattle.term.proofs.Parsing.{some_words}
use Rattle.types.specs.Sorts.{Sort, Context}
use Rattle.types.specs.Rules.{◌⊢◌∶◌, WellFormed}
use Rattle.types.specs.Inside.{later, inside, inside*}
use Rattle.types.specs.TypeOf.{Conclusion, fails, gives, conclude, Inferred, typed, untyped, Children, sorts, failed, decide, close, join, type_of, types_of}
use Rattle.types.specs.First.{HasSort, Earlier, First, FirstUntyped}
use Rattle.types.proofs.Indices.{later_well}
use Rattle.types.proofs.Complete.{complete}
use Rattle.types.proofs.Sound.{Row, each_none, each_more, derive}
use Rattle.types.proofs.Replace.{part-typed, part_typed*}

-- ---- a part lies inside
mutual
  unfolding subtree words

  pub within : (t : Tree) (k : ℕ) (s : Tree) → subtree t k ≡ found s → k + length (words s) ≤ length (words t)
  within (node l cs) zero s e = let z : node l cs ≡ s = cc in rw (← z) (omega arith)
  within (node l cs) (suc k) s e = omega (arith, within* cs k s e)

  within* : (f : Forest) (k : ℕ) (s : Tree) → subtree* f k ≡ found s → k + length (words s) ≤ length (words* f)
  within* none k s e = absurd (let z : ◌≡◌ {A = ℕ} 0 1 = cc in omega arith)
  within* (t ▹ f) k s e =
      elim (dec_lt k (length (words t))) [
        | yes h ↦ omega (arith, within t k s (rw (lt-ltb k (length (words t)) h) at e), length-append (words t) (words* f))
        | no h ↦
            let g : length (words t) ≤ k = omega arith in
            omega (arith, within* f (k - length (words t)) s (rw (le-ltb k (length (words t)) g) at e), length-append (words t) (words* f))
      ]

-- ---- the answers, with the place of the first untyped part
pub data Verdict (Γ : Context) (at : ℕ) (t : Tree) : Inferred → Type 0 where
  sorted : {S : Sort} → Γ ⊢ t ∶ S → Verdict Γ at t (typed S)
  unsorted : (i : ℕ) → First (inside Γ t) (subtree t) i → Verdict Γ at t (untyped (at + i))

data Verdict* (Γ Δ : Context) (at : ℕ) (f : Forest) : Children → Type 0 where
  all-sorted : {ss : List Sort} → Row f ss Γ Δ → Verdict* Γ Δ at f (sorts ss)
  one_unsorted : (i : ℕ) → First (inside* Γ Δ f) (subtree* f) i → Verdict* Γ Δ at f (failed (at + i))

module _ (Γ Δ : Context) where
  -- the first of a forest's untyped parts lies in its first tree
  first_here : (t : Tree) (f : Forest) (i : ℕ) → First (inside Γ t) (subtree t) i → First (inside* Γ Δ (t ▹ f)) (subtree* (t ▹ f)) i
  unfolding subtree inside
  first_here t f i p =
      let n = length (words t) in
      let w = within t i p.there p.is in
      let h : i < n = omega (arith, some_words p.there) in
      record {
        there = p.there;
        is = rw (lt-ltb i n h) p.is;
        untyped = rw (lt-ltb i n h) p.untyped;
        earlier = λ j u e l. elim (dec_lt j n) [
          | yes d ↦ rw (lt-ltb j n d) (p.earlier j u (rw (lt-ltb j n d) at e) l)
          | no d ↦ absurd (⊎_elim (λ x. omega (arith, some_words u)) (λ x. omega (arith, some_words u)) l)
        ];
      }

  -- or, where the first tree is typed, in the rest
  first-there : WellFormed Γ → (t : Tree) (f : Forest) (S : Sort) (i : ℕ) → Γ ⊢ t ∶ S → First (inside* Δ Δ f) (subtree* f) i → First (inside* Γ Δ (t ▹ f)) (subtree* (t ▹ f)) (length (words t) + i)
  unfolding subtree inside
  first-there W t f S i a p =
      let n = length (words t) in
      let z : n + i - n ≡ i = omega arith in
      let b = le-ltb (n + i) n (omega arith) in
      record {
        there = p.there;
        is = rw (b, z) p.is;
        untyped = rw (b, z) p.untyped;
        earlier = λ j u e l. elim (dec_lt j n) [
          | yes d ↦ rw (lt-ltb j n d) (part-typed W t j u S a (rw (lt-ltb j n d) at e))
          | no d ↦
              let g : n ≤ j = omega arith in
              rw (le-ltb j n g) (p.earlier (j - n) u (rw (le-ltb j n g) at e) (⊎_elim (λ x. inl (omega arith)) (λ x. inr (omega arith)) l))
        ];
      }

module _ {Γ : Context} (W : WellFormed Γ) where
  -- a part that has an untyped part among its children does not come first: it ends no sooner and begins before
  first_below : (l : Label) (cs : Forest) (i : ℕ) → First (inside* Γ (later Γ l cs) cs) (subtree* cs) i → First (inside Γ (node l cs)) (subtree (node l cs)) (suc i)
  unfolding subtree words inside
  first_below l cs i p =
      let w = within* cs i p.there p.is in
      record {
        there = p.there;
        is = p.is;
        untyped = p.untyped;
        earlier = λ j u e m. go j u e m w;
      }
    where
      go : (j : ℕ) (u : Tree) → subtree (node l cs) j ≡ found u → Earlier j u (suc i) p.there → i + length (words p.there) ≤ length (words* cs) → HasSort (inside Γ (node l cs) j) u
      go zero u e m w =
          let z : node l cs ≡ u = cc in
          let n : length (words u) ≡ suc (length (words* cs)) = rw (← z) in
          absurd (⊎_elim (λ x. omega arith) (λ x. omega arith) m)
      go (suc j) u e m w = p.earlier j u e (⊎_elim (λ x. inl (omega arith)) (λ x. inr (omega arith)) m)

  -- a part whose children are typed and which is not itself: it is the first
  first_itself : (at : ℕ) (l : Label) (cs : Forest) (ss : List Sort) → Row cs ss Γ (later Γ l cs) → type_of Γ at (node l cs) ≡ untyped at
      → First (inside Γ (node l cs)) (subtree (node l cs)) 0
  unfolding subtree words inside
  first_itself at l cs ss x c =
      record {
        there = node l cs;
        is = refl;
        untyped = λ d. let e = complete W d.1 at in let z : ◌≡◌ {A = ℕ} 0 1 = cc in omega arith;
        earlier = go;
      }
    where
      go : (j : ℕ) (u : Tree) → subtree (node l cs) j ≡ found u → Earlier j u 0 (node l cs) → HasSort (inside Γ (node l cs) j) u
      go zero u e m = let z : node l cs ≡ u = cc in let n = ap (λ (v : Tree). length (words v)) z in absurd (⊎_elim (λ y. omega arith) (λ y. omega arith) m)
      go (suc j) u e m = part_typed* W (later_well W l cs) cs j u ss x e

  verdict_by : (at : ℕ) (l : Label) (cs : Forest) (ss : List Sort) → Row cs ss Γ (later Γ l cs) → types_of Γ (later Γ l cs) (at + 1) cs ≡ sorts ss → (c : Conclusion) → conclude Γ l ss ≡ c
      → Verdict Γ at (node l cs) (decide at c)
  unfolding decide type_of
  verdict_by at l cs ss x t fails e =
      let z : at + 0 ≡ at = omega arith in
      let v : Verdict Γ at (node l cs) (untyped (at + 0)) = unsorted 0 (first_itself at l cs ss x (rw (t, e))) in
      rw z at v
  verdict_by at l cs ss x t (gives S) e = sorted (derive W l x x e)

  verdict_close : (at : ℕ) (l : Label) (cs : Forest) (r : Children) → types_of Γ (later Γ l cs) (at + 1) cs ≡ r → Verdict* Γ (later Γ l cs) (at + 1) cs r
      → Verdict Γ at (node l cs) (close Γ at l r)
  unfolding close
  verdict_close at l cs r t (all-sorted {ss} x) = verdict_by at l cs ss x t (conclude Γ l ss) refl
  verdict_close at l cs r t (one_unsorted i p) =
      let z : at + 1 + i ≡ at + suc i = omega arith in
      rw z (unsorted (suc i) (first_below l cs i p))

  verdict_join : {Δ : Context} {at : ℕ} {t : Tree} {f : Forest} {a : Inferred} {r : Children} → Verdict Γ at t a → Verdict* Δ Δ (at + length (words t)) f r → Verdict* Γ Δ at (t ▹ f) (join a r)
  unfolding join
  verdict_join {t} {f} (sorted a) (all-sorted x) = all-sorted (each_more a x)
  verdict_join {Δ} {at} {t} {f} (sorted {S} a) (one_unsorted i p) =
      let z : at + length (words t) + i ≡ at + (length (words t) + i) = omega arith in
      rw z (one_unsorted (length (words t) + i) (first-there Γ Δ W t f S i a p))
  verdict_join {Δ} {t} {f} (unsorted i p) r = one_unsorted i (first_here Γ Δ t f i p)

mutual
  unfolding type_of

  pub verdict : {Γ : Context} → WellFormed Γ → (at : ℕ) (t : Tree) → Verdict Γ at t (type_of Γ at t)
  verdict {Γ} W at (node l cs) = verdict_close W at l cs (types_of Γ (later Γ l cs) (at + 1) cs) refl (verdict* W (later_well W l cs) (at + 1) cs)

  verdict* : {Γ Δ : Context} → WellFormed Γ → WellFormed Δ → (at : ℕ) (f : Forest) → Verdict* Γ Δ at f (types_of Γ Δ at f)
  verdict* W X at none = all-sorted each_none
  verdict* W X at (t ▹ f) = verdict_join W (verdict W at t) (verdict* X X (at + length (words t)) f)

module _ {Γ : Context} (W : WellFormed Γ) where
  first_by : {t : Tree} {a : Inferred} {k : ℕ} → Verdict Γ 0 t a → a ≡ untyped k → FirstUntyped Γ t k
  first_by (sorted d) e = absurd (let z : ◌≡◌ {A = ℕ} 0 1 = cc in omega arith)
  first_by {k} (unsorted i p) e = let z : 0 + i ≡ k = cc in let y : i ≡ k = omega arith in rw (← y) p

  -- the answer for the whole is untyped exactly where the rules have none, and the offset is the one that document 01 fixes
  pub first-untyped : (t : Tree) (k : ℕ) → type_of Γ 0 t ≡ untyped k → FirstUntyped Γ t k
  first-untyped t k e = first_by (verdict W 0 t) e

  no_sort_by : {t : Tree} {a : Inferred} → Verdict Γ 0 t a → (HasSort Γ t → ⊥) → (k : ℕ) × (a ≡ untyped k)
  no_sort_by (sorted d) h = absurd (h (_, d))
  no_sort_by (unsorted i p) h = (0 + i, refl)

  pub no_sort : (t : Tree) → (HasSort Γ t → ⊥) → (k : ℕ) × (type_of Γ 0 t ≡ untyped k)
  no_sort t h = no_sort_by (verdict W 0 t) h

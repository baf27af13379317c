-- The function names the first stray part, and a typed part has none.
use mathlib.Core.Path.{◌≡◌, refl, sym, ◌∙◌, ap}
use mathlib.Core.Bool.{Bool, true, false, cond, ◌&&◌, and-eq-true_iff}
use mathlib.Core.List.{List, [], ◌∷◌}
use mathlib.Core.Option.{Option, some, none as nothing}
use Prim.Native.Nat.{ℕ, zero, suc, ◌+◌, ◌-◌, ◌≤◌, ◌<◌}
use native.Mathlib.Decide.{dec_lt}
use native.Mathlib.Omega.{arith}
use borrow.Author.Tests.{lt-ltb, le-ltb, le-leb, leb-true, eqb-true}
use lib.Dec.{eqb, leb}
use lib.ListN.{length, get_or, get_elem?}
use Rattle.words.specs.Listed.{or_else}
use Rattle.term.specs.Heads.{Label, bound_basis, big_sum, unknown, heads, head_of}
use Rattle.term.specs.Trees.{Tree, Forest, node, none, ◌▹◌, words, Subtree, found, subtree, subtree*}
use Rattle.term.specs.Terms.{max_bodies}
use Rattle.term.proofs.Readings.{Written, label_line}
use Rattle.term.proofs.Parsing.{some_words}
use Rattle.types.specs.Sorts.{Sort, Context}
use Rattle.types.specs.Rules.{◌⊢◌∶◌, bound_var, sum_over}
use Rattle.types.specs.Inside.{binds, behind_first, later, inside, inside*}
use Rattle.types.specs.Strays.{Stray, unbound, ninth, Lowest, is_stray, stray_of, strays_of}
use Rattle.types.specs.Statements as Statement
use Rattle.types.proofs.Replace.{part-typed}
use Rattle.types.proofs.Place.{within}

-- ---- the test of a label
stray_tests : {l : Label} {f : Forest} {n : ℕ} → Stray (node l f) n → is_stray l n ≡ true
unfolding is_stray head_of
stray_tests (unbound h) = le-leb _ _ h
stray_tests (ninth h) = le-leb _ _ h

no_such : {A : Type 0} → false ≡ true → A
no_such e = absurd (let z : ◌≡◌ {A = ℕ} 0 1 = cc in omega arith)

stray_tested : (l : Label) (f : Forest) (n : ℕ) → is_stray l n ≡ true → Stray (node l f) n
unfolding is_stray heads
stray_tested l f n e = go (head_of l 0).0 (head_of l 0).1 (label_line l 0) (eqb (head_of l 0).0 28) refl e
  where
    go : (k a : ℕ) → Written l a (get_or heads k unknown) → (b : Bool) → eqb k 28 ≡ b → cond b (leb n a) (eqb k 27 && leb max_bodies n) ≡ true → Stray (node l f) n
    go k a w true x e = let z : bound_basis a ≡ l = rw (eqb-true k 28 x) at w in rw (← z) (unbound (leb-true _ _ e))
    go k a w false x e =
        let p = (and-eq-true_iff (eqb k 27) _).0 e in
        let z : big_sum ≡ l = rw (eqb-true k 27 p.0) at w in rw (← z) (ninth (leb-true _ _ p.1))

-- the bodies around the later children
bodies : (Γ : Context) (l : Label) (t : Tree) (f : Forest) → cond (binds l) (suc (length Γ.bound)) (length Γ.bound) ≡ length (later Γ l (t ▹ f)).bound
unfolding later behind_first
bodies Γ l t f = go (binds l)
  where
    go : (b : Bool) → cond b (suc (length Γ.bound)) (length Γ.bound) ≡ length (cond b (behind_first Γ (t ▹ f)) Γ).bound
    go true = refl
    go false = refl

-- ---- what the function answers
abbrev None : (ℕ → Context) → (ℕ → Subtree) → Type 0
None Γs sub = (j : ℕ) (u : Tree) → sub j ≡ found u → Stray u (length (Γs j).bound) → ⊥

data Told (Γs : ℕ → Context) (sub : ℕ → Subtree) (at : ℕ) : Option ℕ → Type 0 where
  one : (i : ℕ) → Lowest Γs sub i → Told Γs sub at (some (at + i))
  no_one : None Γs sub → Told Γs sub at nothing

-- a part is the first where it is one itself, and else the first is below it
told-node : (Γ : Context) (at : ℕ) (l : Label) (cs : Forest) (b : Bool) {r : Option ℕ} → is_stray l (length Γ.bound) ≡ b → Told (inside* Γ (later Γ l cs) cs) (subtree* cs) (at + 1) r
    → Told (inside Γ (node l cs)) (subtree (node l cs)) at (cond b (some at) r)
unfolding subtree inside
told-node Γ at l cs true e x =
    let z : at + 0 ≡ at = omega arith in
    let y : Told (inside Γ (node l cs)) (subtree (node l cs)) at (some (at + 0)) =
    one 0 (record { there = node l cs; is = refl; stray = stray_tested l cs _ e; lowest = λ j u q s. omega arith }) in
    rw z at y
told-node Γ at l cs false e (one i p) =
    let z : at + 1 + i ≡ at + suc i = omega arith in
    rw z (one (suc i) (record { there = p.there; is = p.is; stray = p.stray; lowest = go }))
  where
    go : (j : ℕ) (u : Tree) → subtree (node l cs) j ≡ found u → Stray u (length (inside Γ (node l cs) j).bound) → suc i ≤ j
    go zero u q s = let z : node l cs ≡ u = cc in absurd (no_such (sym e ∙ stray_tests {f = cs} (rw z s)))
    go (suc j) u q s = let h = p.lowest j u q s in omega arith
told-node Γ at l cs false e (no_one n) = no_one go
  where
    go : (j : ℕ) (u : Tree) → subtree (node l cs) j ≡ found u → Stray u (length (inside Γ (node l cs) j).bound) → ⊥
    go zero u q s = let z : node l cs ≡ u = cc in no_such (sym e ∙ stray_tests {f = cs} (rw z s))
    go (suc j) u q s = n j u q s

-- it stands in the first tree of a row, or else in the others
told-row : (Γ Δ : Context) (at : ℕ) (t : Tree) (f : Forest) {a r : Option ℕ} → Told (inside Γ t) (subtree t) at a → Told (inside* Δ Δ f) (subtree* f) (at + length (words t)) r
    → Told (inside* Γ Δ (t ▹ f)) (subtree* (t ▹ f)) at (or_else a r)
unfolding subtree inside or_else
told-row Γ Δ at t f (one i p) x =
    let n = length (words t) in
    let h : i < n = omega (arith, within t i p.there p.is, some_words p.there) in
    one i (record {
      there = p.there;
      is = rw (lt-ltb i n h) p.is;
      stray = rw (lt-ltb i n h) p.stray;
      lowest = λ j u e s. elim (dec_lt j n) [
        | yes d ↦ p.lowest j u (rw (lt-ltb j n d) at e) (rw (lt-ltb j n d) at s)
        | no d ↦ omega arith
      ];
    })
told-row Γ Δ at t f (no_one m) (one i p) =
    let n = length (words t) in
    let z : n + i - n ≡ i = omega arith in
    let y : at + n + i ≡ at + (n + i) = omega arith in
    let b = le-ltb (n + i) n (omega arith) in
    rw y (one (n + i) (record {
      there = p.there;
      is = rw (b, z) p.is;
      stray = rw (b, z) p.stray;
      lowest = λ j u e s. elim (dec_lt j n) [
        | yes d ↦ absurd (m j u (rw (lt-ltb j n d) at e) (rw (lt-ltb j n d) at s))
        | no d ↦
            let c = le-ltb j n (omega arith) in
            let h = p.lowest (j - n) u (rw c at e) (rw c at s) in
            omega arith
      ];
    }))
told-row Γ Δ at t f (no_one m) (no_one k) =
    let n = length (words t) in
    no_one (λ j u e s. elim (dec_lt j n) [
      | yes d ↦ m j u (rw (lt-ltb j n d) at e) (rw (lt-ltb j n d) at s)
      | no d ↦ let c = le-ltb j n (omega arith) in k (j - n) u (rw c at e) (rw c at s)
    ])

bodies_around : (Γ : Context) (l : Label) (at : ℕ) (cs : Forest)
    → strays_of (length Γ.bound) (length (later Γ l cs).bound) at cs ≡ strays_of (length Γ.bound) (cond (binds l) (suc (length Γ.bound)) (length Γ.bound)) at cs
unfolding stray_of
bodies_around Γ l at none = refl
bodies_around Γ l at (t ▹ f) = rw (bodies Γ l t f)

mutual
  unfolding stray_of subtree

  told : (Γ : Context) (at : ℕ) (t : Tree) → Told (inside Γ t) (subtree t) at (stray_of (length Γ.bound) at t)
  told Γ at (node l cs) = told-node Γ at l cs (is_stray l (length Γ.bound)) refl (rw (bodies_around Γ l (at + 1) cs) at (told* Γ (later Γ l cs) (at + 1) cs))

  told* : (Γ Δ : Context) (at : ℕ) (f : Forest) → Told (inside* Γ Δ f) (subtree* f) at (strays_of (length Γ.bound) (length Δ.bound) at f)
  told* Γ Δ at none = no_one (λ j u e s. let z : ◌≡◌ {A = ℕ} 0 1 = cc in omega arith)
  told* Γ Δ at (t ▹ f) = told-row Γ Δ at t f (told Γ at t) (told* Δ Δ (at + length (words t)) f)

-- ---- both ways
first_of : {Γs : ℕ → Context} {sub : ℕ → Subtree} {o : Option ℕ} {k : ℕ} → Told Γs sub 0 o → o ≡ some k → Lowest Γs sub k
first_of {k} (one i p) e = let z : 0 + i ≡ k = cc in let y : i ≡ k = omega arith in rw (← y) p
first_of (no_one n) e = absurd (let z : ◌≡◌ {A = ℕ} 0 1 = cc in omega arith)

of_first : {Γs : ℕ → Context} {sub : ℕ → Subtree} {o : Option ℕ} {k : ℕ} → Told Γs sub 0 o → Lowest Γs sub k → o ≡ some k
of_first {k} (one i p) q = let a = p.lowest k q.there q.is q.stray in let b = q.lowest i p.there p.is p.stray in let z : 0 + i ≡ k = omega arith in ap some z
of_first (no_one n) q = absurd (n _ q.there q.is q.stray)

none_of : {Γs : ℕ → Context} {sub : ℕ → Subtree} {o : Option ℕ} → Told Γs sub 0 o → o ≡ nothing → None Γs sub
none_of (one i p) e = absurd (let z : ◌≡◌ {A = ℕ} 0 1 = cc in omega arith)
none_of (no_one n) e = n

of_none : {Γs : ℕ → Context} {sub : ℕ → Subtree} {o : Option ℕ} → Told Γs sub 0 o → None Γs sub → o ≡ nothing
of_none (one i p) n = absurd (n i p.there p.is p.stray)
of_none (no_one n) m = refl

pub strays : Statement.Strays
strays Γ t = (λ k. (λ e. first_of (told Γ 0 t) e, λ q. of_first (told Γ 0 t) q), (λ e. none_of (told Γ 0 t) e, λ n. of_none (told Γ 0 t) n))

-- ---- what has a sort is no stray, and so has none within
-- an item that a list has is below its length
pub below : {A : Type 0} (xs : List A) (a : ℕ) {x : A} → get_elem? xs a ≡ some x → a < length xs
below [] a e = absurd (let z : ◌≡◌ {A = ℕ} 0 1 = cc in omega arith)
below (y ∷ xs) zero e = omega arith
below (y ∷ xs) (suc a) e = let h = below xs a e in omega arith

not-stray : {Γ : Context} {u : Tree} {S : Sort} → Stray u (length Γ.bound) → Γ ⊢ u ∶ S → ⊥
not-stray {Γ} (unbound h) (bound_var {a} b e d) = let l = below Γ.bound a e in omega arith
not-stray (ninth h) (sum_over a b t n) = omega arith

pub typed_no_stray : Statement.TypedNoStray
typed_no_stray Γ W t S d j u e s = not-stray s (part-typed W t j u S d e).1

-- The walk back from a place: it passes whole parts, so that from a child it comes to the head above; and at every place of a term it finds what is bound there.
use mathlib.Core.Path.{◌≡◌, refl, sym, ◌∙◌, ap}
use mathlib.Core.Bool.{Bool, true, false, cond, ◌&&◌, and-false}
use mathlib.Core.List.{List, [], ◌∷◌, ◌++◌, append_assoc}
use Prim.Native.Nat.{ℕ, zero, suc, ◌+◌, ◌-◌, ◌/◌, ◌%◌, ◌<◌}
use native.Mathlib.Decide.{dec_lt}
use native.Mathlib.Nat.{zero-add}
use native.Mathlib.Omega.{arith}
use borrow.Author.Tests.{eqb-true, eq-eqb, ne_eqb, lt-ltb, le-ltb}
use lib.Dec.{eqb}
use lib.ListN.{length, get_or, drop, length-append}
use lib.Seq.{drop-drop, drop_at}
use Rattle.term.specs.Heads.{Label, big_sum, heads, unread, labelled, reading, read}
use Rattle.term.specs.Trees.{Tree, Forest, node, none, ◌▹◌, count, ◌⧺◌, words, words*, Formed, Formed*, subtree}
use Rattle.term.specs.Terms.{max_bodies}
use Rattle.term.proofs.Parsing.{count-⧺, words*-⧺, Formed*-⧺}
use Rattle.types.specs.Sorts.{Sort, Context}
use Rattle.types.specs.Rules.{◌⊢◌∶◌, WellFormed}
use Rattle.types.specs.Inside.{binds, behind_first, later, inside, inside*}
use Rattle.types.specs.Strays.{ninth}
use Rattle.types.proofs.Strays.{typed_no_stray}
use Rattle.types.proofs.Labels.{binds-word}
use Rattle.types.proofs.Walk.{next_in, next_same}
use Rattle.shapes.specs.Bodies.{found, step_back, back, index_by, bound_in, Bound, nowhere}
use Rattle.shapes.specs.Statements.{BoundInside}
use Rattle.shapes.proofs.Begun.{at_front, part_of}

-- ---- a head that binds is a sum
sum-read : (w : ℕ) (l : Label) (n : ℕ) → read w ≡ labelled l n → w / 256 ≡ 27 → (l ≡ big_sum) × (n ≡ 2)
unfolding read heads reading
sum-read w l n e z = go (eqb (w % 256) 0) (rw z at e)
  where
    go : (b : Bool) → cond b (labelled big_sum 2) unread ≡ labelled l n → (l ≡ big_sum) × (n ≡ 2)
    go true e = (cc, cc)
    go false e = absurd (let z : ◌≡◌ {A = ℕ} 0 1 = cc in omega arith)

-- it has an index and a body
pub binds-is : (w : ℕ) (l : Label) (n : ℕ) → read w ≡ labelled l n → binds l ≡ true → (l ≡ big_sum) × (n ≡ 2)
binds-is w l n e b = sum-read w l n e (eqb-true _ 27 (sym (binds-word w l n e) ∙ b))

-- and room for one more body, where it is typed
pub roomy : {Γ : Context} → WellFormed Γ → (l : Label) (cs : Forest) (S : Sort) → Γ ⊢ node l cs ∶ S → l ≡ big_sum → length Γ.bound < max_bodies
unfolding inside subtree
roomy {Γ} W l cs S d e =
    elim (dec_lt (length Γ.bound) max_bodies) [
      | yes h ↦ h
      | no h ↦ absurd (typed_no_stray Γ W (node l cs) S d 0 (node l cs) refl (rw e (ninth {n = length Γ.bound} (omega arith))))
    ]

module _ (ws : List ℕ) (outer : ℕ → List ℕ) where
  -- ---- whole parts are passed
  back-word : (i parts left : ℕ) (l : Label) (n : ℕ) → read (get_or ws i 0) ≡ labelled l n → back ws (suc i) parts left ≡ step_back (labelled l n) i parts left (λ p m. back ws i p m)
  unfolding back
  back-word i parts left l n e = rw e

  whole : (i parts left : ℕ) (l : Label) (n : ℕ) → read (get_or ws i 0) ≡ labelled l n → back ws (suc i) (n + parts) left ≡ back ws i (suc parts) left
  unfolding step_back
  whole i parts left l n e =
      let z : n + parts - n + 1 ≡ suc parts = omega arith in
      back-word i (n + parts) left l n e ∙ rw (le-ltb (n + parts) n (omega arith), z)

  mutual
    unfolding words Formed count

    pass : (t : Tree) (o : ℕ) (rest : List ℕ) (parts left : ℕ) → Formed t → drop o ws ≡ words t ++ rest → back ws (o + length (words t)) parts left ≡ back ws o (suc parts) left
    pass (node l cs) o rest parts left f e =
        let h = at_front ws o _ _ e in
        let z : o + suc (length (words* cs)) ≡ suc o + length (words* cs) = omega arith in
        rw z (pass* cs (suc o) rest parts left f.1 h.1 ∙ whole o parts left l (count cs) (rw h.0 f.0))

    pass* : (f : Forest) (o : ℕ) (rest : List ℕ) (parts left : ℕ) → Formed* f → drop o ws ≡ words* f ++ rest → back ws (o + length (words* f)) parts left ≡ back ws o (count f + parts) left
    pass* none o rest parts left h e = let z : o + 0 ≡ o = omega arith in let y : 0 + parts ≡ parts = omega arith in rw (z, y)
    pass* (t ▹ f) o rest parts left h e =
        let n = length (words t) in
        let e' : drop o ws ≡ words t ++ (words* f ++ rest) = e ∙ append_assoc (words t) (words* f) rest in
        let k : drop (o + n) ws ≡ words* f ++ rest = sym (drop-drop n o ws) ∙ ap (drop n) e' ∙ drop_at (words t) (words* f ++ rest) n refl in
        let z : o + length (words t ++ words* f) ≡ o + n + length (words* f) = omega (arith, length-append (words t) (words* f)) in
        let y : suc (count f) + parts ≡ suc (count f + parts) = omega arith in
        rw (z, y) (pass* f (o + n) rest parts left h.1 k ∙ pass t o (words* f ++ rest) (count f + parts) left h.0 e')

  -- ---- from a child to the head above
  module _ (o : ℕ) (l : Label) (cs : Forest) (rest : List ℕ) (f : Formed (node l cs)) (e : drop o ws ≡ words (node l cs) ++ rest) where
    row-behind : drop (suc o) ws ≡ words* cs ++ rest
    unfolding words
    row-behind = (at_front ws o _ _ e).1

    word-there : read (get_or ws o 0) ≡ labelled l (count cs)
    unfolding words Formed
    word-there = rw (at_front ws o _ _ e).0 f.0

    climbs : (p : Forest) (u : Tree) (g : Forest) → cs ≡ p ⧺ (u ▹ g) → (left : ℕ)
        → back ws (o + 1 + length (words* p)) 0 left ≡ cond (eqb (count p) 1 && binds l) (cond (eqb left 0) (found o) (back ws o 0 (left - 1))) (back ws o 0 left)
    unfolding Formed count step_back
    climbs p u g q left =
        let z : o + 1 + length (words* p) ≡ suc o + length (words* p) = omega arith in
        let y : count p + 0 ≡ count p = omega arith in
        let h : drop (suc o) ws ≡ words* p ++ (words* (u ▹ g) ++ rest) = row-behind ∙ ap (λ (x : Forest). words* x ++ rest) q ∙ ap (λ (x : List ℕ). x ++ rest) (words*-⧺ p (u ▹ g)) ∙ append_assoc
        (words* p) (words* (u ▹ g)) rest in
        let few : count p < count cs = omega (arith, ap count q, count-⧺ p (u ▹ g)) in
        let k = pass* p (suc o) (words* (u ▹ g) ++ rest) 0 left (Formed*-⧺ p (u ▹ g) (rw q at f.1)).0 h in
        rw z (k ∙ rw y (back-word o (count p) left l (count cs) word-there ∙ rw (lt-ltb (count p) (count cs) few)))

    same-bound : (x : ℕ) (bs : List Tree) → ((a : ℕ) → back ws x 0 a ≡ back ws o 0 a) → Bound ws outer o bs → Bound ws outer x bs
    unfolding bound_in
    same-bound x bs h b a σ q = rw (h a) (b a σ q)

    body_bound : (x : ℕ) (s : Tree) (bs : List Tree) (tail : List ℕ) → Formed s → drop (o + 1) ws ≡ words s ++ tail
        → ((a : ℕ) → back ws x 0 a ≡ cond (eqb a 0) (found o) (back ws o 0 (a - 1))) → Bound ws outer o bs → Bound ws outer x (s ∷ bs)
    unfolding bound_in index_by
    body_bound x s bs tail g d h b zero σ q = let z : s ≡ σ = cc in (rw (← z) g, rw (h 0, ← z) (part_of ws (o + 1) s tail g d))
    body_bound x s bs tail g d h b (suc a) σ q = let y : suc a - 1 ≡ a = omega arith in rw (h (suc a), ne_eqb (suc a) 0 (λ z. omega arith), y) (b a σ q)

    later-bound : (Γ : Context) → Bound ws outer o Γ.bound → (s : Tree) (p : Forest) (u : Tree) (g : Forest) → cs ≡ s ▹ (p ⧺ (u ▹ g)) → (b : Bool) → binds l ≡ b
        → Bound ws outer (o + 1 + length (words* (s ▹ p))) (cond b (behind_first Γ cs) Γ).bound
    unfolding behind_first words Formed count ◌⧺◌
    later-bound Γ b s p u g q true t =
        let two = (binds-is (get_or ws o 0) l (count cs) word-there t).1 in
        let n = ap count q in
        let one : count (s ▹ p) ≡ 1 = omega (arith, count-⧺ p (u ▹ g)) in
        let z : o + 1 ≡ suc o = omega arith in
        let d : drop (o + 1) ws ≡ words s ++ (words* (p ⧺ (u ▹ g)) ++ rest) = rw z (row-behind ∙ ap (λ (x : Forest). words* x ++ rest) q ∙ append_assoc (words s) (words* (p ⧺ (u ▹ g))) rest) in
        let h : Formed* (s ▹ (p ⧺ (u ▹ g))) = rw q at f.1 in
        rw q (body_bound _ s Γ.bound (words* (p ⧺ (u ▹ g)) ++ rest) h.0 d (λ a. climbs (s ▹ p) u g q a ∙ rw (eq-eqb (count (s ▹ p)) 1 one, t)) b)
    later-bound Γ b s p u g q false t = same-bound _ Γ.bound (λ a. climbs (s ▹ p) u g q a ∙ rw (t, and-false (eqb (count (s ▹ p)) 1))) b

    -- the child behind those in p
    pub down : (Γ : Context) → Bound ws outer o Γ.bound → (p : Forest) (u : Tree) (g : Forest) → cs ≡ p ⧺ (u ▹ g) → Bound ws outer (o + 1 + length (words* p)) (next_in Γ (later Γ l cs) p).bound
    unfolding next_in later ◌⧺◌ count
    down Γ b none u g q = same-bound _ Γ.bound (λ a. climbs none u g q a) b
    down Γ b (s ▹ p) u g q = later-bound Γ b s p u g q (binds l) refl

  -- ---- every place of a term
  abbrev RowBound : ℕ → Forest → Context → Context → Type 0
  RowBound o f Γ Δ = (p : Forest) (u : Tree) (g : Forest) → f ≡ p ⧺ (u ▹ g) → Bound ws outer (o + length (words* p)) (next_in Γ Δ p).bound

  first-bound : (o : ℕ) (t : Tree) (f : Forest) (Γ Δ : Context) → RowBound o (t ▹ f) Γ Δ → Bound ws outer o Γ.bound
  unfolding next_in words ◌⧺◌
  first-bound o t f Γ Δ r = let z : o + 0 ≡ o = omega arith in rw z at (r none t f refl)

  others_bound : (o : ℕ) (t : Tree) (f : Forest) (Γ Δ : Context) → RowBound o (t ▹ f) Γ Δ → RowBound (o + length (words t)) f Δ Δ
  unfolding next_in words ◌⧺◌
  others_bound o t f Γ Δ r p u g q =
      let z : o + length (words t ++ words* p) ≡ o + length (words t) + length (words* p) = omega (arith, length-append (words t) (words* p)) in
      rw (next_same Δ p) (rw z at (r (t ▹ p) u g (ap (λ (x : Forest). t ▹ x) q)))

  mutual
    unfolding words Formed inside

    inside-bound : (Γ : Context) (t : Tree) (o k : ℕ) (rest : List ℕ) → Formed t → drop o ws ≡ words t ++ rest → Bound ws outer o Γ.bound → k < length (words t)
        → Bound ws outer (o + k) (inside Γ t k).bound
    inside-bound Γ (node l cs) o zero rest f e b h = let z : o + 0 ≡ o = omega arith in rw z b
    inside-bound Γ (node l cs) o (suc k) rest f e b h =
        let z : o + suc k ≡ o + 1 + k = omega arith in
        let y : o + 1 ≡ suc o = omega arith in
        rw z (inside_bound* Γ (later Γ l cs) cs (o + 1) k rest f.1 (rw y (row-behind o l cs rest f e)) (down o l cs rest f e Γ b) (omega arith))

    inside_bound* : (Γ Δ : Context) (f : Forest) (o k : ℕ) (rest : List ℕ) → Formed* f → drop o ws ≡ words* f ++ rest → RowBound o f Γ Δ → k < length (words* f)
        → Bound ws outer (o + k) (inside* Γ Δ f k).bound
    inside_bound* Γ Δ none o k rest f e r h = absurd (omega arith)
    inside_bound* Γ Δ (t ▹ g) o k rest f e r h =
        let n = length (words t) in
        let e' : drop o ws ≡ words t ++ (words* g ++ rest) = e ∙ append_assoc (words t) (words* g) rest in
        elim (dec_lt k n) [
          | yes d ↦ rw (lt-ltb k n d) (inside-bound Γ t o k (words* g ++ rest) f.0 e' (first-bound o t g Γ Δ r) d)
          | no d ↦
              let s : drop (o + n) ws ≡ words* g ++ rest = sym (drop-drop n o ws) ∙ ap (drop n) e' ∙ drop_at (words t) (words* g ++ rest) n refl in
              let z : o + k ≡ o + n + (k - n) = omega arith in
              rw (le-ltb k n (omega arith), z) (inside_bound* Δ Δ g (o + n) (k - n) rest f.1 s (others_bound o t g Γ Δ r) (omega (arith, length-append (words t) (words* g))))
        ]

none-bound : (ws : List ℕ) (outer : ℕ → List ℕ) (at : ℕ) (bs : List Tree) → bs ≡ [] → Bound ws outer at bs
none-bound ws outer at bs e a σ q = absurd (let q' = rw e at q in let z : ◌≡◌ {A = ℕ} 0 1 = cc in omega arith)

pub bound-inside : BoundInside
bound-inside Γ e t k ws rest f h w = rw zero-add at (inside-bound ws nowhere Γ t 0 k rest f w (none-bound ws nowhere 0 Γ.bound e) h)

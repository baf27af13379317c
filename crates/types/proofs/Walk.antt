-- Typing a part from left to right: what is known of the children passed so far.
use mathlib.Core.Path.{◌≡◌, refl, sym, ◌∙◌, ap}
use mathlib.Core.List.{List, [], ◌∷◌, ◌++◌}
use Prim.Native.Nat.{ℕ, ◌+◌, ◌<◌}
use native.Mathlib.Omega.{arith}
use lib.ListN.{length, length-append}
use Rattle.term.specs.Heads.{Label}
use Rattle.term.specs.Trees.{Tree, Forest, node, none, ◌▹◌, count, ◌⧺◌, words, words*}
use Rattle.types.specs.Sorts.{Sort, Context}
use Rattle.types.specs.Inside.{later}
use Rattle.types.specs.TypeOf.{Conclusion, fails, gives, conclude, Inferred, typed, untyped, Children, sorts, failed, decide, close, join, type_of, types_of}

-- ---- an offset moves an answer along
shifted : ℕ → Inferred → Inferred
shifted n (typed S) = typed S
shifted n (untyped k) = untyped (n + k)

shifted* : ℕ → Children → Children
shifted* n (sorts ss) = sorts ss
shifted* n (failed k) = failed (n + k)

shift_decide : (n at : ℕ) (c : Conclusion) → decide (n + at) c ≡ shifted n (decide at c)
unfolding decide shifted
shift_decide n at fails = refl
shift_decide n at (gives S) = refl

shift_close : (Γ : Context) (n at : ℕ) (l : Label) (r : Children) → close Γ (n + at) l (shifted* n r) ≡ shifted n (close Γ at l r)
unfolding close shifted shifted*
shift_close Γ n at l (sorts ss) = shift_decide n at (conclude Γ l ss)
shift_close Γ n at l (failed k) = refl

shift_join : (n : ℕ) (a : Inferred) (r : Children) → join (shifted n a) (shifted* n r) ≡ shifted* n (join a r)
unfolding join shifted shifted*
shift_join n (untyped k) r = refl
shift_join n (typed s) (failed k) = refl
shift_join n (typed s) (sorts ss) = refl

mutual
  unfolding type_of shifted*

  shift : (Γ : Context) (n at : ℕ) (t : Tree) → type_of Γ (n + at) t ≡ shifted n (type_of Γ at t)
  shift Γ n at (node l cs) =
      let z : n + at + 1 ≡ n + (at + 1) = omega arith in
      rw (z, shift* Γ (later Γ l cs) n (at + 1) cs) (shift_close Γ n at l (types_of Γ (later Γ l cs) (at + 1) cs))

  shift* : (Γ Δ : Context) (n at : ℕ) (f : Forest) → types_of Γ Δ (n + at) f ≡ shifted* n (types_of Γ Δ at f)
  shift* Γ Δ n at none = refl
  shift* Γ Δ n at (t ▹ f) =
      let z : n + at + length (words t) ≡ n + (at + length (words t)) = omega arith in
      rw (shift Γ n at t, z, shift* Δ Δ n (at + length (words t)) f) (shift_join n (type_of Γ at t) (types_of Δ Δ (at + length (words t)) f))

pub typed_at : (Γ : Context) (at : ℕ) (t : Tree) (S : Sort) → type_of Γ 0 t ≡ typed S → type_of Γ at t ≡ typed S
unfolding shifted
typed_at Γ at t S e = let z : at ≡ at + 0 = omega arith in ap (λ (k : ℕ). type_of Γ k t) z ∙ shift Γ at 0 t ∙ ap (shifted at) e

pub untyped-at : (Γ : Context) (at : ℕ) (t : Tree) (k : ℕ) → type_of Γ 0 t ≡ untyped k → type_of Γ at t ≡ untyped (at + k)
unfolding shifted
untyped-at Γ at t k e = let z : at ≡ at + 0 = omega arith in ap (λ (k : ℕ). type_of Γ k t) z ∙ shift Γ at 0 t ∙ ap (shifted at) e

-- ---- children in a row
follow : Children → Children → Children
follow (failed k) r = failed k
follow (sorts ss) (failed k) = failed k
follow (sorts ss) (sorts ts) = sorts (ss ++ ts)

follow_none : (r : Children) → r ≡ follow (sorts []) r
unfolding follow
follow_none (failed k) = refl
follow_none (sorts ss) = refl

follow_join : (a : Inferred) (r q : Children) → join a (follow r q) ≡ follow (join a r) q
unfolding follow join
follow_join (untyped k) r q = refl
follow_join (typed s) (failed k) q = refl
follow_join (typed s) (sorts ss) (failed k) = refl
follow_join (typed s) (sorts ss) (sorts ts) = refl

-- what the child behind those passed has, a context or a number of bodies: the first one thing, those behind it another
unfoldable pub next_in : {A : Type 0} → A → A → Forest → A
next_in x y none = x
next_in x y (t ▹ f) = y

pub next_same : {A : Type 0} (x : A) (cs : Forest) → next_in x x cs ≡ x
unfolding next_in
next_same x none = refl
next_same x (t ▹ f) = refl

types-⧺ : (Γ Δ : Context) (cs f : Forest) (at : ℕ) → types_of Γ Δ at (cs ⧺ f) ≡ follow (types_of Γ Δ at cs) (types_of (next_in Γ Δ cs) Δ (at + length (words* cs)) f)
unfolding type_of ◌⧺◌ words next_in
types-⧺ Γ Δ none f at = let z : at + 0 ≡ at = omega arith in rw z (follow_none (types_of Γ Δ at f))
types-⧺ Γ Δ (t ▹ cs) f at =
    let z : at + length (words t ++ words* cs) ≡ at + length (words t) + length (words* cs) = omega (arith, length-append (words t) (words* cs)) in
    rw (z, types-⧺ Δ Δ cs f (at + length (words t)), next_same Δ cs) (follow_join (type_of Γ at t) _ _)

module _ (Γ Δ : Context) (cs : Forest) (at : ℕ) (t : Tree) {ss : List Sort} (passed : types_of Γ Δ at cs ≡ sorts ss) where
  pub types_more : (S : Sort) → type_of (next_in Γ Δ cs) (at + length (words* cs)) t ≡ typed S → types_of Γ Δ at (cs ⧺ (t ▹ none)) ≡ sorts (ss ++ (S ∷ []))
  unfolding type_of follow
  types_more S f = types-⧺ Γ Δ cs (t ▹ none) at ∙ rw (passed, f)

  pub types_fail : (f : Forest) (k : ℕ) → type_of (next_in Γ Δ cs) (at + length (words* cs)) t ≡ untyped k → types_of Γ Δ at (cs ⧺ (t ▹ f)) ≡ failed k
  unfolding type_of follow
  types_fail f k g = types-⧺ Γ Δ cs (t ▹ f) at ∙ rw (passed, g)

-- where fewer have been passed than there are, the next one stands first in the rest
pub next_child : (cs as' f g : Forest) → count cs < count as' → as' ⧺ f ≡ cs ⧺ g → (t : Tree) × (rest : Forest) × (as' ≡ cs ⧺ (t ▹ rest)) × (g ≡ t ▹ (rest ⧺ f))
unfolding count ◌⧺◌
next_child none none f g h e = absurd (omega arith)
next_child none (t ▹ as') f g h e = (t, as', refl, sym e)
next_child (c ▹ cs) none f g h e = absurd (omega arith)
next_child (c ▹ cs) (t ▹ as') f g h e =
    let x : t ≡ c = cc in
    let y : as' ⧺ f ≡ cs ⧺ g = cc in
    let r = next_child cs as' f g (omega arith) y in
    (r.0, r.1, cc r.2, r.3)

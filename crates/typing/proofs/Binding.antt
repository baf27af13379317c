-- The sums over a basis around a part: its context, and the chain of their records on the stack.
use mathlib.Core.Path.{◌≡◌, refl, sym, ◌∙◌, ap}
use mathlib.Core.Logic.{◌≢◌}
use mathlib.Core.Bool.{Bool, true, false, cond, ◌&&◌, and-eq-true_iff}
use mathlib.Core.List.{List, [], ◌∷◌, ◌++◌, append_assoc, append-nil}
use mathlib.Core.Option.{some, none as nothing}
use Rattle.std.specs.Prelude.{Some, None}
use Prim.Native.Nat.{ℕ, zero, suc, ◌+◌, ◌-◌, ◌≤◌, ◌<◌}
use native.Mathlib.Omega.{arith}
use borrow.Author.Tests.{ltb-true, ltb-false}
use lib.Dec.{eqb, ltb}
use lib.ListN.{length, take, drop, get_or, get_elem?, set, length-append, length-set}
use lib.Seq.{take-take, length-take-le, get_or-take, get_or_at}
use Rattle.std.specs.List.{copy_within}
use Rattle.words.specs.Words.{laid}
use Rattle.words.proofs.Runs.{laid_in}
use Rattle.term.specs.declared.heads.Class.TheVariants.{Basis}
use Rattle.term.specs.Terms.{max_bodies}
use Rattle.term.specs.Trees.{Tree, words}
use Rattle.term.proofs.Parsing.{some_words}
use Rattle.types.specs.Sorts.{Sort, index, basis, scalar, ket, bra, operator, Context}
use Rattle.types.specs.Rules.{◌⊢◌∶◌, WellFormed}
use Rattle.types.specs.TypeOf.{index_tree}
use Rattle.types.proofs.Indices.{index_is, index_tests, index_tested, bodies_well}
use Rattle.types.proofs.Complete.{unique}
use Rattle.declarations.specs.Declarations.{good_declarations, context_at}
use Rattle.declarations.proofs.Entries.{well_formed}
use Rattle.typebook.specs.Code.Shapes.{Shape, shape, shape_of, given, number_of}
use Rattle.typing.specs.declared.sorts.Sorted as S
use Rattle.typing.specs.Code.Shapes.{run, shape_at, Small, Room, Above, Answers}
use Rattle.typing.specs.Code.Chains.{Around, around_of, link_at, index_words, Sum, Chained, unbound, bound, Held, index_len, record_at, in_reach}
use Rattle.typing.specs.Code.Verdicts.{index_shape, bound_shape}
use Rattle.typing.proofs.Lying.{run_length, run-kept, above-laid, answers_none, laid_both, shape-laid, set-laid}

-- ---- contexts
pub well_at : (ds : List ℕ) → good_declarations ds ≡ true → (bs : List Tree) → WellFormed (context_at ds bs)
well_at ds good bs = bodies_well (well_formed ds good) bs

-- none at all
abbrev pub held_none : (types : ℕ) (st : List ℕ) → Held types st 0 (around_of 64)
unfolding around_of
held_none types st = record { trees = []; chain = unbound {top = 0} {inner = 0} (omega arith); long = refl }

-- ---- the words of an index, by its sort and on the stack
unfoldable index_part : Sort → List ℕ
index_part (index σ) = words σ
index_part (basis σ) = []
index_part scalar = []
index_part (ket σ) = []
index_part (bra σ) = []
index_part (operator σ τ) = []

module _ {Γ : Context} (W : WellFormed Γ) {c : Tree} where
  no_index : {s : Sort} → Γ ⊢ c ∶ s → (s ≡ index c → ⊥) → index_words Γ.types c ≡ []
  unfolding index_words
  no_index d n = go (index_tree Γ.types c) refl
    where
      go : (b : Bool) → index_tree Γ.types c ≡ b → cond b (words c) [] ≡ []
      go true e = absurd (n (unique W d (index_tested Γ c e)))
      go false e = refl

  index_words_lem : (s : Sort) → Γ ⊢ c ∶ s → index_words Γ.types c ≡ index_part s
  unfolding index_words index_part
  index_words_lem (index σ) d = rw (index_tests W d) (ap words (index_is W d))
  index_words_lem (basis σ) d = no_index d (λ e. let z : ◌≡◌ {A = ℕ} 0 1 = cc in omega arith)
  index_words_lem scalar d = no_index d (λ e. let z : ◌≡◌ {A = ℕ} 0 1 = cc in omega arith)
  index_words_lem (ket σ) d = no_index d (λ e. let z : ◌≡◌ {A = ℕ} 0 1 = cc in omega arith)
  index_words_lem (bra σ) d = no_index d (λ e. let z : ◌≡◌ {A = ℕ} 0 1 = cc in omega arith)
  index_words_lem (operator σ τ) d = no_index d (λ e. let z : ◌≡◌ {A = ℕ} 0 1 = cc in omega arith)

-- it is none of a sort's words, or all of the left ones
pub index_few : (s : S.Sorted) → index_len s ≤ s.left
unfolding index_len
index_few s = go (eqb (number_of s.class) 1)
  where
    go : (b : Bool) → cond b s.left 0 ≤ s.left
    go true = omega arith
    go false = omega arith

first-words : (st : List ℕ) (top : ℕ) (f : S.Sorted) (s : Sort) → Room top st → Small f → shape_at st top f ≡ shape_of s → run st (record_at top f - index_len f) (index_len f) ≡ index_part s
unfolding index_len index_part
first-words st top f (index σ) room small e =
    let r = sym (run_length st (top + f.left) f.right (omega arith)) ∙ ap (λ (x : Shape). length x.right) e in
    let z : record_at top f - f.left ≡ top = omega arith in
    rw (ap (λ (x : Shape). x.class) e, z) (ap (λ (x : Shape). x.left) e)
first-words st top f (basis σ) room small e = rw (ap (λ (x : Shape). x.class) e)
first-words st top f scalar room small e = rw (ap (λ (x : Shape). x.class) e)
first-words st top f (ket σ) room small e = rw (ap (λ (x : Shape). x.class) e)
first-words st top f (bra σ) room small e = rw (ap (λ (x : Shape). x.class) e)
first-words st top f (operator σ τ) room small e = rw (ap (λ (x : Shape). x.class) e)

-- ---- a chain looks at what is below its offset alone
word_kept : (top : ℕ) (st st' : List ℕ) → take top st' ≡ take top st → (i : ℕ) → i < top → get_or st' i 0 ≡ get_or st i 0
word_kept top st st' e i h = sym (get_or-take top st' i 0 h) ∙ ap (λ (ws : List ℕ). get_or ws i 0) e ∙ get_or-take top st i 0 h

below : (low top : ℕ) (st st' : List ℕ) → low ≤ top → take top st' ≡ take top st → take low st' ≡ take low st
below low top st st' h e = sym (take-take low top st' h) ∙ ap (take low) e ∙ take-take low top st h

sum_kept : {types : ℕ} {st st' : List ℕ} {top at : ℕ} {σ : Tree} → take top st' ≡ take top st → Sum types st top at σ → Sum types st' top at σ
sum_kept {st} {st'} {top} {at} e s =
    let low = s.low in
    let back = s.back in
    let n = word_kept top st st' e at (omega arith) in
    record { low = low; back = rw n back; few = rw n s.few; is = rw n (run-kept top st st' e (at - get_or st at 0) (get_or st at 0) (omega arith) ∙ s.is) }

pub chained_kept : {types : ℕ} {st st' : List ℕ} {top inner : ℕ} {bs : List Tree} → take top st' ≡ take top st → Chained types st top inner bs → Chained types st' top inner bs
chained_kept e (unbound h) = unbound h
chained_kept {st} {st'} {top} {inner} e (bound {bs = bs} s c) =
    let low = s.low in
    bound {bs = bs} (sum_kept e s) (rw (word_kept top st st' e (inner + 1) (omega arith)) (chained_kept (below inner top st st' (omega arith) e) c))

sum_up : {types : ℕ} {st : List ℕ} {top high at : ℕ} {σ : Tree} → top ≤ high → Sum types st top at σ → Sum types st high at σ
sum_up h s = let low = s.low in record { low = omega arith; back = s.back; few = s.few; is = s.is }

pub chain-low : {types : ℕ} {st : List ℕ} {top inner : ℕ} {bs : List Tree} → Chained types st top inner bs → inner ≤ top
chain-low (unbound h) = h
chain-low (bound s c) = let low = s.low in omega arith

pub chained_up : {types : ℕ} {st : List ℕ} {top high inner : ℕ} {bs : List Tree} → top ≤ high → Chained types st top inner bs → Chained types st high inner bs
chained_up {high} {inner} h (unbound k) = unbound {top = high} {inner = inner} (omega arith)
chained_up h (bound s c) = bound (sum_up h s) c

-- ---- the record of one of the sums
sum-at : {types : ℕ} {st : List ℕ} {top inner : ℕ} {bs : List Tree} → Chained types st top inner bs → (a : ℕ) → a < length bs
    → (σ : Tree) × (get_elem? bs a ≡ some σ) × Sum types st top (link_at st inner a) σ
unfolding link_at
sum-at (unbound h) a l = absurd (omega arith)
sum-at (bound {σ = σ} s c) zero l = (σ, refl, s)
sum-at (bound s c) (suc a) l = let r = sum-at c a (omega arith) in let low = s.low in (r.0, r.1, sum_up (omega arith) r.2)

-- one link after the other
pub link_start : (st : List ℕ) (at a : ℕ) → link_at st at a ≡ link_at st at (a - 0)
link_start st at a = let z : a - 0 ≡ a = omega arith in rw z

pub link_more : (st : List ℕ) (at a i : ℕ) → i < a → {l r : ℕ} → l ≡ link_at st at (a - i) → r ≡ get_or st (at + 1) 0 → l ≡ link_at st r (a - (i + 1))
unfolding link_at
link_more st at a i h e f = let z : a - i ≡ suc (a - (i + 1)) = omega arith in rw f (e ∙ rw z)

pub link_end : (st : List ℕ) (at a i : ℕ) → a ≤ i → {l : ℕ} → l ≡ link_at st at (a - i) → at ≡ l
unfolding link_at
link_end st at a i h e = let z : a - i ≡ 0 = omega arith in sym (e ∙ rw z)

past : {A : Type 0} (xs : List A) (a : ℕ) → length xs ≤ a → get_elem? xs a ≡ nothing
past [] a h = refl
past (x ∷ xs) zero h = absurd (omega arith)
past (x ∷ xs) (suc a) h = past xs a (omega arith)

-- ---- a bound basis
reached : {n a : ℕ} → in_reach n a ≡ true → (ltb a max_bodies ≡ true) × (a < n)
unfolding in_reach
reached {n} {a} h = let e = (and-eq-true_iff (ltb a max_bodies) (ltb a n)).0 h in (e.0, ltb-true a n e.1)

module _ {types : ℕ} {st : List ℕ} {top : ℕ} {around : Around} (x : Held types st top around) (a : ℕ) where
  pub bound-past : in_reach around.bodies a ≡ false → Answers (bound_shape types a x.trees) None top st st
  unfolding bound_shape index_shape in_reach
  bound-past h = go (ltb a max_bodies) h
    where
      go : (b : Bool) → (b && ltb a around.bodies) ≡ false → Answers (given b (index_shape types (get_elem? x.trees a))) None top st st
      go true e = let l = x.long in let z = ltb-false a around.bodies e in rw (past x.trees a (omega arith)) (answers_none refl)
      go false e = answers_none refl

  pub bound-sum : a < around.bodies → (σ : Tree) × (get_elem? x.trees a ≡ some σ) × Sum types st top (link_at st around.inner a) σ
  bound-sum h = let l = x.long in sum-at x.chain a (omega arith)

-- by the words of its index, where there are none and where there are some
told_none : (types : ℕ) (σ : Tree) (st : List ℕ) (top : ℕ) {n : ℕ} → n ≡ 0 → (ws : List ℕ) → length ws ≡ n → ws ≡ index_words types σ → Answers (index_shape types (some σ)) None top st st
unfolding index_shape index_words
told_none types σ st top z ws l e = go (index_tree types σ) e
  where
    go : (b : Bool) → ws ≡ cond b (words σ) [] → Answers (cond b (some (shape_of (basis σ))) nothing) None top st st
    go true q = absurd (omega (arith, some_words σ, ap length q))
    go false q = answers_none refl

told_some : (types : ℕ) (σ : Tree) (st : List ℕ) (top n : ℕ) → 0 < n → Room top st → n ≤ 63 → (ws : List ℕ) → length ws ≡ n → ws ≡ index_words types σ
    → Answers (index_shape types (some σ)) (Some (record { class = Basis; left = n; right = 0 })) top st (laid st top ws)
unfolding index_shape index_words
told_some types σ st top n z room few ws l e = go (index_tree types σ) e
  where
    go : (b : Bool) → ws ≡ cond b (words σ) [] → Answers (cond b (some (shape_of (basis σ))) nothing) (Some (record { class = Basis; left = n; right = 0 })) top st (laid st top ws)
    go true q =
        let s = rw (append-nil, l) at (shape-laid Basis st top ws [] (omega (arith, length-append ws []))) in
        record { told = ap some (s ∙ ap (λ (v : List ℕ). shape Basis v []) q); small = (few, omega arith); kept = above-laid st top ws (omega arith) }
    go false q = absurd (omega (arith, ap length q))

-- by what the code finds of it, one step after the other
module _ {types : ℕ} {st : List ℕ} {top : ℕ} {around : Around} (x : Held types st top around) (a : ℕ) {bodies : ℕ} {b : Bool} (many : bodies ≡ around.bodies) (tested : b ≡ in_reach bodies a)
    (within : b ≡ true) where
  near : in_reach around.bodies a ≡ true
  near = rw many at (sym tested ∙ within)

  module _ {inner at n : ℕ} (from : inner ≡ around.inner) (linked : at ≡ link_at st inner a) (size : n ≡ get_or st at 0) where
    place : at ≡ link_at st around.inner a
    place = rw from at linked

    -- its index lies below the offset
    pub bound-room : (at + 2 ≤ top) × (n ≤ at) × (n ≤ 63)
    bound-room = let s = (bound-sum x a (reached near).1).2 in (rw place s.low, rw (size, place) s.back, rw (size, place) s.few)

    index-there : run st (at - n) n ≡ index_words types (bound-sum x a (reached near).1).0
    index-there = let s = bound-sum x a (reached near).1 in rw (size, place) s.2.is

    pub bound-none : n ≡ 0 → Room top st → Answers (bound_shape types a x.trees) None top st st
    unfolding bound_shape
    bound-none z room =
        let s = bound-sum x a (reached near).1 in
        let h = bound-room in
        rw (s.1, (reached near).0) (told_none types s.0 st top z (run st (at - n) n) (run_length st (at - n) n (omega arith)) index-there)

    pub bound_some : n ≢ 0 → Room top st → {st' : List ℕ} → st' ≡ laid st top (run st (at - n) n)
        → Answers (bound_shape types a x.trees) (Some (record { class = Basis; left = n; right = 0 })) top st st'
    unfolding bound_shape
    bound_some z room e =
        let s = bound-sum x a (reached near).1 in
        let h = bound-room in
        rw (e, s.1, (reached near).0) (told_some types s.0 st top n (omega arith) room h.2 (run st (at - n) n) (run_length st (at - n) n (omega arith)) index-there)

-- its words are copied
pub within-laid : (st : List ℕ) (at n to : ℕ) → n ≤ at → at ≤ length st → to + n ≤ length st → copy_within st (at - n) at to ≡ laid st to (run st (at - n) n)
within-laid st at n to h k m =
    let z : at - (at - n) ≡ n = omega arith in
    let l : length (run st (at - n) n) ≡ n = run_length st (at - n) n (omega arith) in
    rw z (append_assoc (take to st) (run st (at - n) n) (drop (to + n) st) ∙ sym (laid_in st to (run st (at - n) n) (omega arith) ∙ rw l))

-- ---- a record is written
two-laid : (st : List ℕ) (at a b : ℕ) → at + 2 ≤ length st → (get_or (laid st at (a ∷ b ∷ [])) at 0 ≡ a) × (get_or (laid st at (a ∷ b ∷ [])) (at + 1) 0 ≡ b)
two-laid st at a b h =
    let l = length-take-le at st (omega arith) in
    let rest = drop (at + 2) st in
    let x : laid st at (a ∷ b ∷ []) ≡ take at st ++ (a ∷ b ∷ rest) = laid_in st at (a ∷ b ∷ []) h in
    let y : laid st at (a ∷ b ∷ []) ≡ (take at st ++ (a ∷ [])) ++ (b ∷ rest) = x ∙ sym (append_assoc (take at st) (a ∷ []) (b ∷ rest)) in
    (rw x (get_or_at (take at st) a (b ∷ rest) 0 at l), rw y (get_or_at (take at st ++ (a ∷ [])) b rest 0 (at + 1) (omega (arith, length-append (take at st) (a ∷ [])))))

pub two-set : (st : List ℕ) (at a b : ℕ) → at + 2 ≤ length st → set (set st at a) (at + 1) b ≡ laid st at (a ∷ b ∷ [])
two-set st at a b h =
    let l = length-set st at a in
    rw (set-laid (set st at a) (at + 1) b (omega arith), set-laid st at a (omega arith)) (laid_both st at (a ∷ []) (b ∷ []) (omega arith))

pub chained_more : (types : ℕ) {Γ : Context} → WellFormed Γ → Γ.types ≡ types → {c : Tree} (s : Sort) → Γ ⊢ c ∶ s → (st : List ℕ) (top : ℕ) (f : S.Sorted) {inner : ℕ} {bs : List Tree} → Room top st
    → record_at top f + 2 ≤ length st
    → Small f → shape_at st top f ≡ shape_of s → Chained types st top inner bs → Chained types (laid st (record_at top f) (index_len f ∷ inner ∷ [])) (record_at top f + 2) (record_at top f) (c ∷ bs)
chained_more types {Γ} W t {c} s d st top f {inner} {bs} room fits small e chain =
    let at = record_at top f in
    let st' = laid st at (index_len f ∷ inner ∷ []) in
    let n = index_len f in
    let few = index_few f in
    let two = two-laid st at n inner fits in
    let a : Above at st st' = above-laid st at (n ∷ inner ∷ []) fits in
    let is : run st' (at - n) n ≡ index_words types c = run-kept at st st' a.below (at - n) n (omega arith) ∙ first-words st top f s room small e ∙ sym (index_words_lem W s d) ∙ ap
    (λ (k : ℕ). index_words k c) t in
    let sum : Sum types st' (at + 2) at c = record { low = omega arith; back = rw two.0 (omega arith); few = rw two.0 (omega arith); is = rw two.0 is } in
    bound {bs = bs} sum (rw two.1 (chained_kept a.below (chained_up (omega arith) chain)))

-- `match` finds what the holes of a left side hold: all of them, and nothing else.
use mathlib.Core.Path.{◌≡◌, refl, sym, ◌∙◌, ap}
use mathlib.Core.Bool.{Bool, true, false, cond, not}
use mathlib.Core.List.{List, [], ◌∷◌, ◌++◌}
use mathlib.Core.Option.{Option, some, none as refused}
use Prim.Native.Nat.{ℕ, zero, suc, ◌≤◌, ◌<◌}
use native.Mathlib.Decide.{dec_lt}
use native.Mathlib.Omega.{arith}
use borrow.Author.Tests.{eq-eqb, ne_eqb, leb-true, ltb-true, not-true}
use lib.ListN.{length, length-append}
use Rattle.words.specs.Words.{same_words}
use Rattle.words.proofs.Runs.{same-words, same_words_eq}
use Rattle.term.specs.Heads.{Label, word, heads, reading}
use Rattle.term.specs.Trees.{Tree, Forest, node, none, ◌▹◌, count, words, Formed}
use Rattle.term.proofs.Readings.{read_at}
use Rattle.term.proofs.Theorems.{one-reading}
use Rattle.types.specs.Sorts.{Sort, Context}
use Rattle.types.specs.Inside.{binds}
use Rattle.types.specs.Rules.{◌⊢◌∶◌, WellFormed}
use Rattle.types.proofs.Sound.{Row, each_more, node_of}
use Rattle.types.proofs.Indices.{later_same}
use Rattle.rules.specs.Patterns.{Pattern, #◌, first, second, ◌⟨⟩, ◌⟨◌⟩, ◌⟨◌∣◌⟩}
use Rattle.rules.specs.Instances.{Filled, hole, over_none, over_one, over_two}
use Rattle.rules.specs.Rewrite.{nameless, is_head, fill, and_then, hold, match, holes}
use Rattle.rules.proofs.Known.{is_head_lem, head_is, leaf_is}
use Rattle.rules.proofs.Good.{met, in_order, below, flat, both, all_three}

-- ---- one more hole
holes-before : (c : List Tree) (t : Tree) (k : ℕ) → k < length c → holes (c ++ t ∷ []) k ≡ holes c k
holes-before [] t k h = absurd (omega (arith, h))
holes-before (u ∷ c) t zero h = refl
holes-before (u ∷ c) t (suc k) h = holes-before c t k (omega arith)

holes_last : (c : List Tree) (t : Tree) → holes (c ++ t ∷ []) (length c) ≡ t
holes_last [] t = refl
holes_last (u ∷ c) t = holes_last c t

one_more_lem : (c : List Tree) (t : Tree) → length (c ++ t ∷ []) ≡ suc (length c)
one_more_lem c t = length-append c (t ∷ []) ∙ omega arith

-- the first holes hold the parts of c
abbrev pub Agrees : (ℕ → Tree) → List Tree → Type 0
Agrees θ c = (k : ℕ) → k < length c → holes c k ≡ θ k

-- a pattern looks at no other holes
pub fill_agrees : (Γ : Context) (θ : ℕ → Tree) (c : List Tree) → Agrees θ c → (p : Pattern) → below p (length c) ≡ true → fill Γ (holes c) p ≡ fill Γ θ p
unfolding below
fill_agrees Γ θ c a (# k) b = a k (ltb-true k (length c) b)
fill_agrees Γ θ c a (first k) b = rw (a k (ltb-true k (length c) b))
fill_agrees Γ θ c a (second k) b = rw (a k (ltb-true k (length c) b))
fill_agrees Γ θ c a (h ⟨⟩) b = refl
fill_agrees Γ θ c a (h ⟨ p ⟩) b = ap (λ (t : Tree). node h (t ▹ none)) (fill_agrees Γ θ c a p b)
fill_agrees Γ θ c a (h ⟨ p ∣ q ⟩) b =
    let e = both (below p (length c)) (below q (length c)) b in
    let x = fill_agrees Γ θ c a p e.0 in
    let y = fill_agrees Γ θ c a q e.1 in cc

-- ---- a pattern with parts in its holes is matched by those parts
pub record Met (Γ : Context) (θ : ℕ → Tree) (l : Pattern) (c : List Tree) : Type 0 where
  pub held : List Tree
  pub answers : match l (fill Γ θ l) c ≡ some held
  pub agrees : Agrees θ held
  pub many : length held ≡ met l (length c)

module _ (Γ : Context) (θ : ℕ → Tree) where
  agrees_more : (c : List Tree) → Agrees θ c → Agrees θ (c ++ θ (length c) ∷ [])
  agrees_more c a k h = elim (dec_lt k (length c)) [
    | yes s ↦ holes-before c (θ (length c)) k s ∙ a k s
    | no s ↦ let z : k ≡ length c = omega (arith, h, one_more_lem c (θ (length c))) in rw z (holes_last c (θ (length c)))
  ]

  met-new : (c : List Tree) → Agrees θ c → Met Γ θ (# length c) c
  unfolding match hold met
  met-new c a =
      let e = eq-eqb (length c) (length c) refl in
      record { held = c ++ θ (length c) ∷ []; answers = rw e; agrees = agrees_more c a; many = rw e (one_more_lem c (θ (length c))) }

  met_old : (k : ℕ) (c : List Tree) → k < length c → Agrees θ c → Met Γ θ (# k) c
  unfolding match hold met
  met_old k c h a =
      let e = ne_eqb k (length c) (λ z. omega (arith, h, z)) in
      record { held = c; answers = rw (e, a k h, same-words (words (θ k))); agrees = a; many = rw e }

  met-hole : (k : ℕ) (c : List Tree) → k ≤ length c → Agrees θ c → Met Γ θ (# k) c
  met-hole k c h a = elim (dec_lt k (length c)) [
    | yes s ↦ met_old k c s a
    | no s ↦ let z : k ≡ length c = omega (arith, h) in rw z (met-new c a)
  ]

  pub meets : (l : Pattern) (c : List Tree) → in_order l (length c) ≡ true → Agrees θ c → Met Γ θ l c
  unfolding in_order match met and_then
  meets (# k) c o a = met-hole k c (leb-true k (length c) o) a
  meets (first k) c o a = absurd (let z : ◌≡◌ {A = ℕ} 0 1 = cc in omega arith)
  meets (second k) c o a = absurd (let z : ◌≡◌ {A = ℕ} 0 1 = cc in omega arith)
  meets (h ⟨⟩) c o a = record { held = c; answers = rw (is_head_lem h 0); agrees = a; many = refl }
  meets (h ⟨ p ⟩) c o a =
      let e = both (nameless h) (in_order p (length c)) o in
      let x = meets p c e.1 a in
      record { held = x.held; answers = rw (is_head_lem h 1) x.answers; agrees = x.agrees; many = x.many }
  meets (h ⟨ p ∣ q ⟩) c o a =
      let e = all_three (nameless h) (in_order p (length c)) (in_order q (met p (length c))) o in
      let x = meets p c e.1.0 a in
      let y = meets q x.held (rw x.many e.1.1) x.agrees in
      record { held = y.held; answers = rw (is_head_lem h 2, x.answers) y.answers; agrees = y.agrees; many = rw x.many at y.many }

-- ---- what an answer tells
pub no_answer : {A B : Type 0} {q : A} → ◌≡◌ {A = Option A} refused (some q) → B
no_answer e = absurd (let z : ◌≡◌ {A = ℕ} 0 1 = cc in omega arith)

pub cond-some : {A : Type 0} {q : A} (c : Bool) (x : Option A) → cond c x refused ≡ some q → (c ≡ true) × (x ≡ some q)
cond-some true x e = (refl, e)
cond-some false x e = no_answer e

and_then_lem : {d : List Tree} (o : Option (List Tree)) (f : List Tree → Option (List Tree)) → and_then o f ≡ some d → (c : List Tree) × (o ≡ some c) × (f c ≡ some d)
unfolding and_then
and_then_lem refused f e = no_answer e
and_then_lem (some c) f e = (c, refl, e)

-- parts with the same words are the same
pub same-part : (t u : Tree) → Formed t → Formed u → same_words (words t) (words u) ≡ true → t ≡ u
same-part t u h k e = one-reading t u h k (same_words_eq (words t) (words u) e)

-- ---- what `match` answers fills the pattern: however the holes behind it are held
abbrev pub AllFormed : List Tree → Type 0
AllFormed c = (k : ℕ) → Formed (holes c k)

pub none-formed : AllFormed []
unfolding Formed word count heads reading
none-formed k = (read_at 5 0 (omega arith), tt)

formed-more : (c : List Tree) (t : Tree) → AllFormed c → Formed t → AllFormed (c ++ t ∷ [])
formed-more [] t f h zero = h
formed-more [] t f h (suc k) = f k
formed-more (u ∷ c) t f h zero = f 0
formed-more (u ∷ c) t f h (suc k) = formed-more c t (λ j. f (suc j)) h k

-- and the parts are typed where the whole is
abbrev pub AllTyped : Context → List Tree → Type 0
AllTyped Γ c = (k : ℕ) → k < length c → (S : Sort) × (Γ ⊢ holes c k ∶ S)

typed-more : {Γ : Context} (c : List Tree) (t : Tree) (S : Sort) → AllTyped Γ c → Γ ⊢ t ∶ S → AllTyped Γ (c ++ t ∷ [])
typed-more [] t S a d zero h = (S, d)
typed-more [] t S a d (suc k) h = absurd (omega (arith, h))
typed-more (u ∷ c) t S a d zero h = a 0 (omega arith)
typed-more (u ∷ c) t S a d (suc k) h = typed-more c t S (λ j l. a (suc j) (omega (arith, l))) d k (omega (arith, h))

first-typed : {Γ Δ : Context} {t : Tree} {f : Forest} {ss : List Sort} → Row (t ▹ f) ss Γ Δ → (S : Sort) × (Γ ⊢ t ∶ S)
first-typed (each_more {S} d x) = (S, d)

second-typed : {Γ Δ : Context} {t u : Tree} {f : Forest} {ss : List Sort} → Row (t ▹ u ▹ f) ss Γ Δ → (S : Sort) × (Δ ⊢ u ∶ S)
second-typed (each_more d x) = first-typed x

pub record Matched (Γ : Context) (l : Pattern) (t : Tree) (c d : List Tree) : Type 0 where
  pub many : length d ≡ met l (length c)
  pub longer : length c ≤ length d
  pub keeps : (k : ℕ) → k < length c → holes d k ≡ holes c k
  pub formed : AllFormed d
  pub fills : (θ : ℕ → Tree) → Agrees θ d → Filled Γ θ l t
  pub typed : flat l ≡ true → WellFormed Γ → (S : Sort) → Γ ⊢ t ∶ S → AllTyped Γ c → AllTyped Γ d

hole-at : {Γ : Context} {θ : ℕ → Tree} {t : Tree} (k : ℕ) → θ k ≡ t → Filled Γ θ (# k) t
hole-at k e = rw (← e) hole

module _ (Γ : Context) where
  matched_new : (t : Tree) (c d : List Tree) → AllFormed c → Formed t → hold (length c) t c ≡ some d → Matched Γ (# length c) t c d
  unfolding hold met
  matched_new t c d f h e =
      let s = eq-eqb (length c) (length c) refl in
      let z : c ++ t ∷ [] ≡ d = cc (rw s at e) in
      rw (← z) record {
        many = rw s (one_more_lem c t);
        longer = omega (arith, one_more_lem c t);
        keeps = holes-before c t;
        formed = formed-more c t f h;
        fills = λ θ a. hole-at (length c) (sym (a (length c) (omega (arith, one_more_lem c t))) ∙ holes_last c t);
        typed = λ o W S p a. typed-more c t S a p;
      }

  matched_old : (k : ℕ) (t : Tree) (c d : List Tree) → k < length c → AllFormed c → Formed t → hold k t c ≡ some d → Matched Γ (# k) t c d
  unfolding hold met
  matched_old k t c d l f h e =
      let s = ne_eqb k (length c) (λ z. omega (arith, l, z)) in
      let r = cond-some (same_words (words (holes c k)) (words t)) (some c) (rw s at e) in
      let z : c ≡ d = cc r.1 in
      rw (← z) record {
        many = rw s;
        longer = omega arith;
        keeps = λ k h. refl;
        formed = f;
        fills = λ θ a. hole-at k (sym (a k l) ∙ same-part (holes c k) t (f k) h r.0);
        typed = λ o W S p a. a;
      }

  matched_hole : (k : ℕ) (t : Tree) (c d : List Tree) → k ≤ length c → AllFormed c → Formed t → hold k t c ≡ some d → Matched Γ (# k) t c d
  matched_hole k t c d l f h e = elim (dec_lt k (length c)) [
    | yes s ↦ matched_old k t c d s f h e
    | no s ↦ let z : k ≡ length c = omega (arith, l) in rw z (matched_new t c d f h (rw z at e))
  ]

  matched_none : (l m : Label) (c : List Tree) → l ≡ m → AllFormed c → Matched Γ (l ⟨⟩) (node m none) c c
  unfolding met
  matched_none l m c z f = record { many = refl; longer = omega arith; keeps = λ k h. refl; formed = f; fills = λ θ a. rw z over_none; typed = λ o W S p a. a }

  matched_one : (l m : Label) (p : Pattern) (t : Tree) (c d : List Tree) → l ≡ m → Matched Γ p t c d → Matched Γ (l ⟨ p ⟩) (node m (t ▹ none)) c d
  unfolding met flat
  matched_one l m p t c d z x = record {
    many = x.many;
    longer = x.longer;
    keeps = x.keeps;
    formed = x.formed;
    fills = λ θ a. rw z (over_one (x.fills θ a));
    typed = λ o W S q.
        let b = both (not (binds l)) (flat p) o in
        let e = first-typed (node_of W q).each in x.typed b.1 W e.0 e.1;
  }

  -- the holes of the first child are still held behind the second
  matched_two : (l m : Label) (p q : Pattern) (t u : Tree) (c d e : List Tree) → l ≡ m → Matched Γ p t c d → Matched Γ q u d e
      → Matched Γ (l ⟨ p ∣ q ⟩) (node m (t ▹ u ▹ none)) c e
  unfolding met flat
  matched_two l m p q t u c d e z x y = record {
    many = rw x.many at y.many;
    longer = omega (arith, x.longer, y.longer);
    keeps = λ k h. y.keeps k (omega (arith, h, x.longer)) ∙ x.keeps k h;
    formed = y.formed;
    fills = λ θ a.
        let s = x.fills θ (λ k h. sym (y.keeps k h) ∙ a k (omega (arith, h, y.longer))) in
        rw z (over_two s (y.fills θ a));
    typed = λ o W S w a.
        let b = all_three (not (binds l)) (flat p) (flat q) o in
        let r = rw (later_same Γ m (t ▹ u ▹ none) (rw z at (not-true (binds l) b.0))) at (node_of W w).each in
        let e = first-typed r in
        let g = second-typed r in y.typed b.1.1 W g.0 g.1 (x.typed b.1.0 W e.0 e.1 a);
  }

  pub matched : (l : Pattern) (t : Tree) (c d : List Tree) → in_order l (length c) ≡ true → AllFormed c → Formed t → match l t c ≡ some d → Matched Γ l t c d
  unfolding in_order match met Formed count
  matched (# k) t c d o f h e = matched_hole k t c d (leb-true k (length c) o) f h e
  matched (first k) t c d o f h e = no_answer e
  matched (second k) t c d o f h e = no_answer e
  matched (l ⟨⟩) (node m none) c d o f h e =
      let r = cond-some (is_head l m 0) (some c) e in
      let z : c ≡ d = cc r.1 in
      rw (← z) (matched_none l m c (leaf_is l m o h r.0) f)
  matched (l ⟨⟩) (node m (t ▹ g)) c d o f h e = no_answer e
  matched (l ⟨ p ⟩) (node m none) c d o f h e = no_answer e
  matched (l ⟨ p ⟩) (node m (t ▹ none)) c d o f h e =
      let b = both (nameless l) (in_order p (length c)) o in
      let r = cond-some (is_head l m 1) (match p t c) e in
      matched_one l m p t c d (head_is l m (t ▹ none) b.0 h r.0) (matched p t c d b.1 f h.1.0 r.1)
  matched (l ⟨ p ⟩) (node m (t ▹ u ▹ g)) c d o f h e = no_answer e
  matched (l ⟨ p ∣ q ⟩) (node m none) c d o f h e = no_answer e
  matched (l ⟨ p ∣ q ⟩) (node m (t ▹ none)) c d o f h e = no_answer e
  matched (l ⟨ p ∣ q ⟩) (node m (t ▹ u ▹ none)) c d o f h e =
      let b = all_three (nameless l) (in_order p (length c)) (in_order q (met p (length c))) o in
      let r = cond-some (is_head l m 2) (and_then (match p t c) (λ d. match q u d)) e in
      let s = and_then_lem (match p t c) (λ d. match q u d) r.1 in
      let x = matched p t c s.0 b.1.0 f h.1.0 s.1 in
      let y = matched q u s.0 d (rw x.many b.1.1) x.formed h.1.1.0 s.2 in
      matched_two l m p q t u c s.0 d (head_is l m (t ▹ u ▹ none) b.0 h r.0) x y
  matched (l ⟨ p ∣ q ⟩) (node m (t ▹ u ▹ v ▹ g)) c d o f h e = no_answer e

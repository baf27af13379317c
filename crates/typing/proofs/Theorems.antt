-- The typing of one term against the published rules: sound, complete, and the places of codes 13 and 10.
use mathlib.Core.Path.{◌≡◌, refl, sym, ◌∙◌, ap}
use mathlib.Core.Bool.{Bool, true, false}
use mathlib.Core.List.{List}
use mathlib.Core.Option.{Option, some, none as nothing}
use Prim.Native.Nat.{ℕ, ◌≤◌}
use native.Mathlib.Omega.{arith}
use borrow.Author.Tests.{eqb-true, eqb-false}
use lib.Dec.{eqb}
use lib.ListN.{length, take}
use Rattle.term.specs.Parts.{parse, tree_in, first_depth, part_depth}
use Rattle.term.specs.Terms.{max_words, IsTerm, is_term}
use Rattle.term.specs.Trees.{Tree, none, ◌▹◌, words, depth}
use Rattle.term.proofs.Parsing.{parse-tree}
use Rattle.term.proofs.Theorems.{term_test}
use Rattle.typing.specs.declared.terms.Typing as A
use Rattle.typing.specs.Answers.{refuse, strayed, answer_of, typing_of, HeldTerm, TypedTerm, Verdict, wrong_size, bad_declarations, no_term, stray, no_sort, no_type, a_type}
use Rattle.declarations.specs.Declarations.{context_in, names_in, good_declarations}
use Rattle.types.specs.Rules.{◌⊢◌∶◌}
use Rattle.types.specs.Sorts.{Sort, index, basis, scalar, ket, bra, operator, IsType}
use Rattle.types.specs.Strays.{NoStray, stray_of}
use Rattle.types.specs.TypeOf.{Inferred, typed, untyped, type_of}
use Rattle.typing.specs.Statements.{SoundEntry, Complete, StrayPlaces, Places, Decided}
use Rattle.typing.proofs.Answering as W
use Rattle.typing.proofs.Answering.{here, the_term, first-stray, stray-first, no_stray, stray-none, sort-none}
use Rattle.types.proofs.Complete.{complete}
use Rattle.declarations.proofs.Entries.{well_formed}
use Rattle.types.proofs.Place as P
use Rattle.types.proofs.Place.{first-untyped}
use Rattle.types.proofs.Sound.{sound}

-- the answer on the words of a term that passes tests 1, 7 and 8
answer_on : (ds ws : List ℕ) (n : ℕ) (t : Tree) → length ws ≡ max_words → good_declarations ds ≡ true → n ≤ length ws → words t ≡ take n ws → IsTerm (names_in ds) t
    → typing_of ds ws n ≡ strayed (stray_of 0 0 t) (answer_of n (depth t) (type_of (context_in ds) 0 t))
unfolding part_depth first_depth tree_in
answer_on ds ws n t size good inside is term =
    let p : parse (take n ws) ≡ t ▹ none = sym (ap parse is) ∙ parse-tree t term.formed in
    let test : is_term (names_in ds) ws n ≡ true = (term_test (names_in ds) ws n).1 (inside, t, is, term) in
    the_term ds ws n size good test ∙ rw p

-- a stray part is not accepted, and only a type is
unstrayed : (o : Option ℕ) (a : A.Typing) → (strayed o a).code ≡ 0 → a.code ≡ 0
unfolding strayed refuse
unstrayed nothing a e = e
unstrayed (some k) a e = absurd (omega arith)

accepted-sort : (n d : ℕ) (T : Inferred) → (answer_of n d T).code ≡ 0 → (S : Sort) × (T ≡ typed S) × IsType S
unfolding answer_of refuse
accepted-sort n d (untyped k) e = absurd (omega arith)
accepted-sort n d (typed (index σ)) e = absurd (omega arith)
accepted-sort n d (typed (basis σ)) e = absurd (omega arith)
accepted-sort n d (typed scalar) e = (scalar, refl, tt)
accepted-sort n d (typed (ket σ)) e = (ket σ, refl, tt)
accepted-sort n d (typed (bra σ)) e = (bra σ, refl, tt)
accepted-sort n d (typed (operator σ τ)) e = (operator σ τ, refl, tt)

typed_by : {ds ws : List ℕ} {n : ℕ} {t : Tree} {S : Sort} → HeldTerm ds ws n t → IsType S → context_in ds ⊢ t ∶ S → TypedTerm ds ws n t S
typed_by h type d = record { size = h.size; good = h.good; inside = h.inside; is = h.is; term = h.term; is_type = type; rules = d }

-- ---- complete: a typed term is accepted, with its length, its depth and its type
pub complete_entry : Complete
unfolding strayed
complete_entry ds ws n t S h =
    answer_on ds ws n t h.size h.good h.inside h.is h.term
    ∙ rw (sort-none ds t h.good h.rules, complete (well_formed ds h.good) h.rules 0)

module _ (ds ws : List ℕ) (n : ℕ) where
  not-refused : (c at : ℕ) → typing_of ds ws n ≡ refuse c at → (typing_of ds ws n).code ≡ 0 → c ≡ 0
  unfolding refuse
  not-refused c at e h = sym (ap (λ (r : A.Typing). r.code) e) ∙ h

  sound_by : (a b c : Bool) → eqb (length ws) max_words ≡ a → good_declarations ds ≡ b → is_term (names_in ds) ws n ≡ c → (typing_of ds ws n).code ≡ 0
      → (t : Tree) × (S : Sort) × TypedTerm ds ws n t S
  sound_by false b c size good test e = absurd (omega (arith, not-refused 1 0 (W.wrong_size ds ws n (eqb-false _ _ size)) e))
  sound_by true false c size good test e = absurd (omega (arith, not-refused 7 0 (W.bad_declarations ds ws n (eqb-true _ _ size) good) e))
  sound_by true true false size good test e = absurd (omega (arith, not-refused 8 0 (W.no_term ds ws n (eqb-true _ _ size) good test) e))
  sound_by true true true size good test e =
      let h = here (names_in ds) ws n test in
      let a = answer_on ds ws n h.tree (eqb-true _ _ size) good h.inside h.is h.term in
      let s = accepted-sort n _ _ (unstrayed _ _ (sym (ap (λ (r : A.Typing). r.code) a) ∙ e)) in (
        h.tree,
        s.0,
        record {
          size = eqb-true _ _ size;
          good = good;
          inside = h.inside;
          is = h.is;
          term = h.term;
          is_type = s.2;
          rules = sound (well_formed ds good) 0 h.tree s.1;
        },
      )

-- ---- sound: what is accepted is a term, and of that type by the rules
pub sound_entry : SoundEntry
sound_entry ds ws n e = sound_by ds ws n _ _ _ refl refl refl e

-- ---- a term with a stray part is refused with code 13 at the first, and one without a sort with code 10 at the place that document 01 fixes
pub stray-entry : StrayPlaces
unfolding strayed
stray-entry ds ws n t k h f = answer_on ds ws n t h.size h.good h.inside h.is h.term ∙ rw (stray-first ds t f)

pub place-entry : Places
unfolding strayed answer_of
place-entry ds ws n t size good inside is term none' h =
    let W = well_formed ds good in
    let u = P.no_sort W t h in
    (u.0, first-untyped W t u.0 u.1, answer_on ds ws n t size good inside is term ∙ rw (stray-none ds t none', u.1))

-- ---- every answer, with what it says
module _ (ds ws : List ℕ) (n : ℕ) where
  term_by : (t : Tree) → HeldTerm ds ws n t → NoStray (context_in ds) t → (T : Inferred) → type_of (context_in ds) 0 t ≡ T → Verdict ds ws n (answer_of n (depth t) T)
  unfolding answer_of
  term_by t h none' (untyped k) e =
      no_sort h none' (λ s. let z = complete (well_formed ds h.good) s.1 0 in let x : ◌≡◌ {A = ℕ} 0 1 = cc in omega arith) (first-untyped (well_formed ds h.good) t k e)
  term_by t h none' (typed (index σ)) e = no_type h (sound (well_formed ds h.good) 0 t e) (λ x. x)
  term_by t h none' (typed (basis σ)) e = no_type h (sound (well_formed ds h.good) 0 t e) (λ x. x)
  term_by t h none' (typed scalar) e = a_type (typed_by h tt (sound (well_formed ds h.good) 0 t e))
  term_by t h none' (typed (ket σ)) e = a_type (typed_by h tt (sound (well_formed ds h.good) 0 t e))
  term_by t h none' (typed (bra σ)) e = a_type (typed_by h tt (sound (well_formed ds h.good) 0 t e))
  term_by t h none' (typed (operator σ τ)) e = a_type (typed_by h tt (sound (well_formed ds h.good) 0 t e))

  stray_by : (t : Tree) → HeldTerm ds ws n t → (o : Option ℕ) → stray_of 0 0 t ≡ o → Verdict ds ws n (strayed o (answer_of n (depth t) (type_of (context_in ds) 0 t)))
  unfolding strayed
  stray_by t h (some k) e = stray h (first-stray ds t e)
  stray_by t h nothing e = term_by t h (no_stray ds t e) (type_of (context_in ds) 0 t) refl

  decided_by : (a b c : Bool) → eqb (length ws) max_words ≡ a → good_declarations ds ≡ b → is_term (names_in ds) ws n ≡ c → Verdict ds ws n (typing_of ds ws n)
  decided_by false b c size good test = rw (W.wrong_size ds ws n (eqb-false _ _ size)) (wrong_size (eqb-false _ _ size))
  decided_by true false c size good test = rw (W.bad_declarations ds ws n (eqb-true _ _ size) good) (bad_declarations (eqb-true _ _ size) good)
  decided_by true true false size good test =
      rw (W.no_term ds ws n (eqb-true _ _ size) good test)
      (no_term (eqb-true _ _ size) good (λ t h. let z : false ≡ true = sym test ∙ (term_test (names_in ds) ws n).1 (h.inside, t, h.is, h.term) in let x : ◌≡◌ {A = ℕ} 0 1 = cc in omega arith))
  decided_by true true true size good test =
      let h = here (names_in ds) ws n test in
      let k : HeldTerm ds ws n h.tree = record { size = eqb-true _ _ size; good = good; inside = h.inside; is = h.is; term = h.term } in
      rw (answer_on ds ws n h.tree (eqb-true _ _ size) good h.inside h.is h.term) (stray_by h.tree k (stray_of 0 0 h.tree) refl)

pub decided : Decided
decided ds ws n = decided_by ds ws n _ _ _ refl refl refl

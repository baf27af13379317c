-- What the walk found of some words decides the answer for them.
use mathlib.Core.Path.{◌≡◌, refl, sym, ◌∙◌}
use mathlib.Core.Logic.{◌≢◌}
use mathlib.Core.Bool.{Bool, true, false}
use mathlib.Core.List.{List}
use Prim.Native.Nat.{ℕ, ◌≤◌, ◌<◌}
use native.Mathlib.Omega.{arith}
use borrow.Author.Tests.{eq-eqb}
use lib.ListN.{length, take, get_or}
use lib.Seq.{length-take-le, take-length}
use Rattle.words.specs.Words.{overlaid}
use Rattle.term.specs.declared.terms.Names.{Names}
use Rattle.term.specs.Parts.{parse, tree_in, part_depth}
use Rattle.term.specs.Terms.{max_words, max_depth, all_declared, term_words, is_term}
use Rattle.term.proofs.Scan.{part_length}
use Rattle.term.proofs.TermTest.{term_in, term-end, term-names}
use Rattle.declarations.specs.Declarations.{context_in, names_in, good_declarations}
use Rattle.types.specs.Sorts.{Sort, Context}
use Rattle.types.specs.Strays.{stray_of}
use Rattle.types.specs.TypeOf.{typed, type_of}
use Rattle.types.proofs.Sound.{sound}
use Rattle.declarations.proofs.Entries.{well_formed}
use Rattle.std.specs.Prelude.{Result, Ok, Err}
use Rattle.typing.specs.declared.infer.Part as P
use Rattle.typing.specs.declared.terms.Typing as A
use Rattle.typing.specs.Answers.{refuse, strayed, answer_of, typing_of}
use Rattle.typebook.specs.Code.Shapes.{shape_of}
use Rattle.typing.specs.Code.Shapes.{shape_at}
use Rattle.typing.specs.Code.Chains.{budget_of, around_of}
use Rattle.typing.specs.Code.Strays.{Told, Looked}
use Rattle.typing.specs.Code.Verdicts.{need, Found, Typable, PartFound, typing_in}
use Rattle.typing.proofs.Lying.{shape-kept, length-overlaid, bottom_kept}
use Rattle.typing.proofs.Answering.{here, here_part, here_shallow, sort-none}
use Rattle.typing.proofs.Binding.{held_none}

-- the answer for the first n words of a slice is that for those words
pub within : (ds ws : List ℕ) (n : ℕ) → length ws ≡ max_words → good_declarations ds ≡ true → n ≤ length ws → typing_in ds (take n ws) ≡ typing_of ds ws n
unfolding typing_in typing_of
within ds ws n size good inside = rw (eq-eqb _ _ size, good, term_in (names_in ds) ws n inside, length-take-le n ws inside)

-- no sum is around a whole term
pub typable_top : (ds ws st : List ℕ) → good_declarations ds ≡ true → length st ≤ 8320 → need (length ws) 64 ≤ length st → Typable ds ws st 0 (budget_of 64) (around_of 64)
unfolding budget_of around_of
typable_top ds ws st good long room = record { under = record { good = good; long = long; held = held_none _ _ }; room = omega arith; few = omega arith }

pub found_top : (ds : List ℕ) {ws : List ℕ} {v : Result P.Part ℕ} {st st' : List ℕ} → PartFound ds ws (budget_of 64) 0 (around_of 64) v st st' → Found (context_in ds) ws 64 0 v st st'
unfolding budget_of around_of context_in
found_top ds {st = st} f = f (held_none (get_or ds 0 0) st)

-- the stack is as long as it was
pub found-room : {Γ : Context} {ws : List ℕ} {budget top : ℕ} {v : Result P.Part ℕ} {st st' : List ℕ} → Found Γ ws budget top v st st' → (n : ℕ) → n ≤ length st → n ≤ length st'
found-room f n h = let l = f.kept.long in omega arith

-- what was found on one stack, with its words at the bottom of another
pub found_moved : {Γ : Context} {ws : List ℕ} {budget : ℕ} {v : Result P.Part ℕ} {st st' : List ℕ} → Found Γ ws budget 0 v st st' → (out : List ℕ) → 126 ≤ length st' → 126 ≤ length out
    → {out' : List ℕ} → out' ≡ overlaid out (take 126 st') → Found Γ ws budget 0 v out out'
found_moved {v = Ok p} {st' = st'} f out h k e =
    let s = f.told in
    let m = s.small in
    rw e (record {
      kept = record { long = length-overlaid out (take 126 st'); below = refl };
      told = record {
        sort = s.sort;
        whole = s.whole;
        is = s.is;
        size = s.size;
        depth = s.depth;
        shallow = s.shallow;
        small = m;
        sorted = shape-kept 126 st' (overlaid out (take 126 st')) (bottom_kept st' out 126 h k) 0 p.sorted (omega arith) ∙ s.sorted;
      };
    })
found_moved {v = Err j} {st' = st'} f out h k e = rw e (record { kept = record { long = length-overlaid out (take 126 st'); below = refl }; told = f.told })

module _ (ds ws : List ℕ) where
  not-term : term_words (names_in ds) ws ≡ false → typing_in ds ws ≡ refuse 8 0
  unfolding typing_in
  not-term e = rw e

  the_term : term_words (names_in ds) ws ≡ true → typing_in ds ws ≡ strayed (stray_of 0 0 (tree_in (parse ws))) (answer_of (length ws) (part_depth ws 0) (type_of (context_in ds) 0 (tree_in (parse ws))))
  unfolding typing_in
  the_term e = rw e

  -- the test of all the words, of the names that the code was told
  all_tested : {N : Names} {b : Bool} → N ≡ names_in ds → b ≡ is_term N ws (length ws) → is_term (names_in ds) ws (length ws) ≡ b
  all_tested e t = rw (← e) (sym t)

  all_words : is_term (names_in ds) ws (length ws) ≡ term_words (names_in ds) ws
  all_words = term_in (names_in ds) ws (length ws) (omega arith) ∙ rw take-length

-- ---- a typed part
module _ (ds : List ℕ) (good : good_declarations ds ≡ true) {ws : List ℕ} {p : P.Part} {st st' : List ℕ} (f : Found (context_in ds) ws max_depth 0 (Ok p) st st') (short : length ws ≤ max_words) where
  some : 0 < length ws
  some = let s = f.told in omega (arith, s.whole, part_length ws 0)

  pub part_only : p.size ≢ length ws → refuse 8 0 ≡ typing_in ds ws
  part_only n = sym (not-term ds ws (term-end (names_in ds) ws some short (λ e. n (f.told.size ∙ e))))

  module _ (all : p.size ≡ length ws) {N : Names} {b : Bool} (names : N ≡ names_in ds) (test : b ≡ all_declared N ws) where
    all_named : term_words (names_in ds) ws ≡ b
    all_named = let s = f.told in term-names (names_in ds) ws some short (sym s.size ∙ all) s.shallow ∙ rw (← names) (sym test)

    pub undeclared : b ≡ false → refuse 8 0 ≡ typing_in ds ws
    undeclared n = sym (not-term ds ws (all_named ∙ n))

    pub typed-term : {r : A.Typing} → b ≡ true → ((T : Sort) → shape_at st' 0 p.sorted ≡ shape_of T → r ≡ answer_of (length ws) p.depth (typed T)) → r ≡ typing_in ds ws
    unfolding strayed
    typed-term n t =
        let s = f.told in
        t s.sort s.sorted ∙ sym (the_term ds ws (all_named ∙ n) ∙ rw (sort-none ds (tree_in (parse ws)) good (sound (well_formed ds good) 0 _ s.is), s.is, s.depth))

-- ---- any other: no term, or one that has no type
module _ (ds : List ℕ) {ws : List ℕ} {j : ℕ} {st st' : List ℕ} (f : Found (context_in ds) ws max_depth 0 (Err j) st st') {N : Names} {b : Bool} (names : N ≡ names_in ds) (test : b ≡ is_term N ws (length ws)) where
  pub no_term : b ≡ false → refuse 8 0 ≡ typing_in ds ws
  no_term n = sym (not-term ds ws (sym (all_words ds ws) ∙ all_tested ds ws names test ∙ n))

  module _ (passed : b ≡ true) where
    is-term : is_term (names_in ds) ws (length ws) ≡ true
    is-term = all_tested ds ws names test ∙ passed

    told : {r : Result ℕ ℕ} → Looked ws 0 0 max_depth r → Told ws 0 0 r
    told looked = let h = here (names_in ds) ws (length ws) is-term in looked.told (rw take-length at (here_part h)) (rw take-length at (here_shallow h))

    all-term : term_words (names_in ds) ws ≡ true
    all-term = sym (all_words ds ws) ∙ is-term

    pub stray-term : {k : ℕ} → Looked ws 0 0 max_depth (Err k) → refuse 13 k ≡ typing_in ds ws
    unfolding strayed
    stray-term l = sym (the_term ds ws all-term ∙ rw (told l))

    pub untyped-term : {end : ℕ} → Looked ws 0 0 max_depth (Ok end) → refuse 10 j ≡ typing_in ds ws
    unfolding strayed answer_of
    untyped-term l =
        let h = here (names_in ds) ws (length ws) is-term in
        let u = f.told.is (rw take-length at (here_part h)) (rw take-length at (here_shallow h)) in
        sym (the_term ds ws all-term ∙ rw ((told l).0, u))

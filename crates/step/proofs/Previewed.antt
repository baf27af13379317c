-- The preview: what it answers is what taking the step on a copy answers, and what typing then tells of the copy.
use mathlib.Core.Path.{◌≡◌, refl, sym, ◌∙◌, ap}
use mathlib.Core.Logic.{◌≢◌}
use mathlib.Core.Bool.{true, cond}
use borrow.Author.Tests.{ne_eqb}
use lib.Dec.{eqb}
use mathlib.Core.List.{List, [], ◌++◌}
use Prim.Native.Nat.{ℕ, ◌+◌, ◌≤◌, min}
use native.Mathlib.Omega.{arith}
use lib.ListN.{length, take, length-append}
use Rattle.words.specs.Words.{laid}
use Rattle.words.proofs.Runs.{appended, added_both}
use Rattle.term.specs.Parts.{first_depth, part_depth}
use Rattle.term.specs.Trees.{Tree, words, depth, Formed}
use Rattle.term.proofs.Parsing.{parse-tree, some_words}
use Rattle.term.proofs.Places.{depth_same}
use Rattle.types.specs.Sorts.{Context, Sort, index, basis, scalar, ket, bra, operator}
use Rattle.types.specs.Rules.{Typed}
use Rattle.types.specs.TypeOf.{typed}
use Rattle.declarations.specs.Declarations.{context_in}
use Rattle.declarations.proofs.Entries.{well_formed}
use Rattle.typing.specs.declared.terms.Kind.TheVariants as Kinds
use Rattle.typing.specs.declared.terms.TermType.{TermType}
use Rattle.typing.specs.declared.terms.Typing.{Typing}
use Rattle.typing.specs.Answers.{type_record, refuse, answer_of, typing, typing_of, TypedTerm, Verdict}
use Rattle.typing.specs.Answers as Said
use Rattle.typing.proofs.Theorems.{complete_entry, sound_entry, decided}
use Rattle.lent.proofs.Judging.{type-told}
use Rattle.lent.specs.declared.steps.Step.{Step}
use Rattle.families.specs.declared.writing.Refusal.{Refusal}
use Rattle.std.specs.Prelude.{Ok, Err}
use Rattle.lent.specs.Lent.{asked}
use Rattle.rules.specs.Steps as R
use Rattle.rules.specs.Table.{rule_of}
use Rattle.rules.specs.Outcomes.{Outcome, good, no_rule, no_place, no_instance, too_big}
use Rattle.families.specs.Writing.{code_of, keeps_depth}
use Rattle.families.proofs.Depths.{same-depth}
use Rattle.rules.proofs.Steps.{step-keeps-type}
use Rattle.step.specs.Answers.{step_in, stepped, answer_to, words_left}
use Rattle.step.specs.Code.Making.{Made}
use Rattle.step.specs.Previews.{typing_after, preview_of}
use Rattle.step.specs.Statements.{Previews}
use Rattle.step.proofs.Held.{its_step, its_type, held-typed}
use Rattle.step.proofs.Theorems.{entry, refusals}
use Rattle.step.proofs.Taking.{tree, is-typed, some_code, outcome, stays, refused_code, refused-length, all_words, new-length}

-- ---- no words are no term
abbrev Bare : Typing → Type 0
Bare a = (a.length ≡ 0) × (a.depth ≡ 0) × (a.of ≡ type_record Kinds.Scalar [] [])

no_words : {ds ws : List ℕ} {a : Typing} → Verdict ds ws 0 a → Bare a
unfolding refuse
no_words (Said.wrong_size h) = (refl, refl, refl)
no_words (Said.bad_declarations h g) = (refl, refl, refl)
no_words (Said.no_term h g f) = (refl, refl, refl)
no_words (Said.stray h f) = (refl, refl, refl)
no_words (Said.no_sort h g f e) = (refl, refl, refl)
no_words (Said.no_type h g f) = (refl, refl, refl)
no_words (Said.a_type {t} h) = absurd (omega (arith, some_words t, ap length h.is))

-- ---- what typing refuses
refused-is : {ds ws : List ℕ} {n : ℕ} {a : Typing} → Verdict ds ws n a → a.code ≢ 0 → a ≡ refuse a.code a.at
unfolding refuse
refused-is (Said.wrong_size h) z = refl
refused-is (Said.bad_declarations h g) z = refl
refused-is (Said.no_term h g f) z = refl
refused-is (Said.stray h f) z = refl
refused-is (Said.no_sort h g f e) z = refl
refused-is (Said.no_type h g f) z = refl
refused-is {n = n} (Said.a_type {t} {S} h) z = absurd (z (type-told n (depth t) S h.is_type).0)

module _ (ds ws : List ℕ) (n : ℕ) (s : Step) (refused : (typing_of ds ws n).code ≢ 0) where
  no_length : (answer_to ds ws n s).length ≡ 0
  no_length = rw (refusals ds ws n refused s).answer

  nothing-after : Bare (typing_after ds ws n s)
  nothing-after = rw no_length (no_words (decided ds (words_left ds ws n s) 0))

  pub preview_refused : {a : Typing} → a ≡ typing_of ds ws n → a ≡ preview_of ds ws n s
  unfolding preview_of refuse
  preview_refused e =
      let after = nothing-after in
      e ∙ refused-is (decided ds ws n) refused ∙ rw (after.1, after.2, (refusals ds ws n refused s).answer)

-- The same of an answer that is refused itself.
pub told_refused : (ds ws : List ℕ) (n : ℕ) (s : Step) (a : Typing) → a ≡ typing_of ds ws n → a.code ≢ 0 → a ≡ preview_of ds ws n s
told_refused ds ws n s a e h = preview_refused ds ws n s (λ z. h (ap (λ (t : Typing). t.code) e ∙ z)) e

-- ---- a step on a typed term
type-alike : (n d m e : ℕ) (S : Sort) → (answer_of n d (typed S)).of ≡ (answer_of m e (typed S)).of
unfolding answer_of refuse typing
type-alike n d m e (index σ) = refl
type-alike n d m e (basis σ) = refl
type-alike n d m e scalar = refl
type-alike n d m e (ket σ) = refl
type-alike n d m e (bra σ) = refl
type-alike n d m e (operator σ τ) = refl

type-side : (n d : ℕ) (S : Sort) → (answer_of n d (typed S)).side ≡ 0
unfolding answer_of refuse typing
type-side n d (index σ) = refl
type-side n d (basis σ) = refl
type-side n d scalar = refl
type-side n d (ket σ) = refl
type-side n d (bra σ) = refl
type-side n d (operator σ τ) = refl

-- the depth of a tree is that of its words
words-depth : (t : Tree) → Formed t → part_depth (words t) 0 ≡ depth t
unfolding part_depth first_depth
words-depth t f = rw (parse-tree t f)

module _ {ds ws : List ℕ} {n : ℕ} {t : Tree} {S : Sort} (h : TypedTerm ds ws n t S) where
  pub typed-told : let a = typing_of ds ws n in (a.code ≡ 0) × (a.side ≡ 0) × (a.at ≡ 0) × (a.length ≡ n) × (a.depth ≡ depth t)
  typed-told =
      let told = type-told n (depth t) S h.is_type in
      rw (complete_entry _ _ _ _ _ h) (told.0, type-side n (depth t) S, told.1, told.2, told.3)

  module _ (s : Step) where
    abbrev left : R.Stepped
    left = step_in ds ws n s

    kept : Typed (context_in ds) S left.tree
    kept = rw (its_step h s) (step-keeps-type _ (well_formed ds h.good) S t (its_type h) (asked s))

    after_is : typing_after ds ws n s ≡ answer_of (length (words left.tree)) (depth left.tree) (typed S)
    unfolding stepped
    after_is = let e = entry ds ws n t S h s in rw (e.answer, e.slice, its_step h s) (complete_entry _ _ _ _ _ (held-typed h.good h.is_type (rw (its_step h s) at kept)))

    after-code : (typing_after ds ws n s).code ≡ 0
    after-code = rw after_is (type-told _ _ S h.is_type).0

    after-length : (typing_after ds ws n s).length ≡ (answer_to ds ws n s).length
    unfolding stepped
    after-length = rw (after_is, (type-told (length (words left.tree)) (depth left.tree) S h.is_type).2, (entry ds ws n t S h s).answer, its_step h s)

    same-type : (typing_after ds ws n s).of ≡ (typing_of ds ws n).of
    same-type = rw (after_is, complete_entry _ _ _ _ _ h) (type-alike _ _ _ _ S)

    -- the preview is known by the code, the length and the depth of what is left
    preview_of_lem : {code side at long deep : ℕ} {of : TermType} → code ≡ left.code → side ≡ 0 → at ≡ cond (eqb code 0) 0 s.place → long ≡ length (words left.tree)
        → deep ≡ depth left.tree → of ≡ (typing_of ds ws n).of
        → record { code = code; side = side; step = 1; at = at; length = long; depth = deep; of = of } ≡ preview_of ds ws n s
    unfolding preview_of stepped
    preview_of_lem c z a l d o =
        let e = entry ds ws n t S h s in
        rw (same-type, after_is, (type-told (length (words left.tree)) (depth left.tree) S h.is_type).3, e.answer, z, a, c, l, d, o, its_step h s)

-- ---- an exchange leaves the term as deep as it was
kept-depth : {Γ : Context} {t u : Tree} {s : R.Step} {c : ℕ} → Outcome Γ t s c u → c ≡ 0 → keeps_depth (rule_of s.rule) ≡ true → depth u ≡ depth t
kept-depth {t} {s} (good u k) z q = rw k.result (depth_same t s.place k.part k.new k.there (same-depth k.r (rw k.rule at q) k.is))
kept-depth (no_rule e) z q = absurd (omega arith)
kept-depth (no_place e f) z q = absurd (omega arith)
kept-depth (no_instance e f x) z q = absurd (omega arith)
kept-depth (too_big e f x g) z q = absurd (omega arith)

-- ---- and the words from its place on, made apart
module _ (ds ws : List ℕ) (n : ℕ) (accepted : (typing_of ds ws n).code ≡ 0) (s : Step) {T : Typing} (is : T ≡ typing_of ds ws n) where
  told : (T.code ≡ 0) × (T.side ≡ 0) × (T.at ≡ 0) × (T.length ≡ n) × (T.depth ≡ depth (tree ds ws n accepted))
  told = rw is (typed-told (is-typed ds ws n accepted))

  same-of : T.of ≡ (typing_of ds ws n).of
  same-of = ap (λ (a : Typing). a.of) is

  at-start : T.at ≡ cond (eqb T.code 0) 0 s.place
  at-start = rw (told.2, told.0)

  pub shows_refused : {out : List ℕ} (e : Refusal) → Made (tree ds ws n accepted) (step_in ds ws n s) s.place out (Err e) → {code : ℕ} → code ≡ code_of e
      → record { code = code; side = T.side; step = 1; at = s.place; length = T.length; depth = T.depth; of = T.of } ≡ preview_of ds ws n s
  shows_refused {out} e m {code} c =
      let bad = refused_code ds ws n accepted s out e m in
      let deep = told.4 ∙ ap depth (sym (stays ds ws n accepted s bad)) in
      let at : s.place ≡ cond (eqb code 0) 0 s.place = rw (c, ne_eqb _ 0 (some_code e)) in
      preview_of_lem (is-typed ds ws n accepted) s (c ∙ m.code) told.1 at (told.3 ∙ refused-length ds ws n accepted s bad) deep same-of

  module _ {out : List ℕ} {end : ℕ} (m : Made (tree ds ws n accepted) (step_in ds ws n s) s.place out (Ok end)) where
    shows : (d : ℕ) → d ≡ depth (step_in ds ws n s).tree
        → record { code = T.code; side = T.side; step = 1; at = T.at; length = s.place + end; depth = d; of = T.of } ≡ preview_of ds ws n s
    shows d deep = preview_of_lem (is-typed ds ws n accepted) s (told.0 ∙ m.code) told.1 at-start (new-length ds ws n accepted s out end m) deep same-of

    pub shows_kept : keeps_depth (rule_of s.rule) ≡ true
        → record { code = T.code; side = T.side; step = 1; at = T.at; length = s.place + end; depth = T.depth; of = T.of } ≡ preview_of ds ws n s
    shows_kept k = shows T.depth (told.4 ∙ sym (kept-depth (outcome ds ws n accepted s) (sym m.code) k))

    pub shows_done : {d : ℕ} → d ≡ part_depth (take s.place ws ++ take end out) 0
        → record { code = T.code; side = T.side; step = 1; at = T.at; length = s.place + end; depth = d; of = T.of } ≡ preview_of ds ws n s
    shows_done {d} deep =
        let all = ap (λ (v : List ℕ). part_depth v 0) (sym (all_words ds ws n accepted s out end m)) in
        shows d (deep ∙ all ∙ words-depth (step_in ds ws n s).tree (kept (is-typed ds ws n accepted) s).form.formed)

-- two runs of words in one slice
pub both-there : (out front back : List ℕ) {mid all : List ℕ} {m e : ℕ} → (m ≡ min (0 + length front) (length out + 1)) × (mid ≡ laid out 0 front)
    → (e ≡ min (m + length back) (length mid + 1)) × (all ≡ laid mid m back)
    → length front + length back ≤ length out → (e ≤ length all) × (take e all ≡ front ++ back) × (all ≡ laid (laid out 0 front) (length front) back)
both-there out front back {mid} {all} {m} {e} p q h =
    let a = added_both (appended p) (appended q) in
    let l = length-append front back in
    let end = a.end in
    let size = a.size in
    let z : e ≡ 0 + length (front ++ back) = omega arith in
    let n : m ≡ length front = omega (arith, p.0) in
    (omega arith, rw z (a.front (omega arith)), rw (← p.1, ← n) q.1)

-- ---- the statement
pub previews : Previews
unfolding preview_of
previews ds ws n s =
    record {
      code = refl;
      side = refl;
      step = refl;
      at = refl;
      length = refl;
      depth = refl;
      type = refl;
      typed = λ z. let h = (sound_entry ds ws n z).2 in (after-code h s, after-length h s, same-type h s);
      none = λ z. (no_length ds ws n s z, (nothing-after ds ws n s z).1, (nothing-after ds ws n s z).2);
    }

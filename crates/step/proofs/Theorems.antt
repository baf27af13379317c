-- The single step: one call, a refused one, and a whole list of calls.
use mathlib.Core.Path.{◌≡◌, refl, subst⁻¹}
use mathlib.Core.List.{List, [], ◌∷◌, map}
use Prim.Native.Nat.{ℕ}
use borrow.Author.Tests.{ne_eqb}
use Rattle.term.specs.Trees.{Tree}
use Rattle.types.specs.Sorts.{Sort}
use Rattle.declarations.specs.Declarations.{context_in}
use Rattle.declarations.proofs.Entries.{well_formed}
use Rattle.typing.specs.Answers.{TypedTerm}
use Rattle.rules.specs.Steps.{step_of, steps_of}
use Rattle.rules.proofs.Steps.{step_decided, step-keeps-type, steps_keep_type, steps_keep_meaning}
use Rattle.lent.specs.declared.steps.Step.{Step}
use Rattle.lent.specs.Lent.{asked}
use Rattle.step.specs.Answers.{stepped, answer_to, words_left}
use Rattle.step.specs.Calls.{Work, holding, after, after_all, Course, ended, called, leaving}
use Rattle.step.specs.Statements.{Entry, Refusals, Lists}
use Rattle.step.proofs.Alike.{alike}
use Rattle.step.proofs.Held.{accepted-code, its_step, its_type, held-typed}

-- ---- one call
pub entry : Entry
unfolding answer_to words_left
entry ds ws n t S h s = record { answer = rw (accepted-code h, its_step h s); slice = rw (accepted-code h, its_step h s) }

pub refusals : Refusals
unfolding answer_to words_left
refusals ds ws n h s = record { answer = rw (ne_eqb _ _ h); untouched = λ e. rw (ne_eqb _ _ h, e); zeros = λ e. rw (ne_eqb _ _ h, ne_eqb _ _ e) }

-- ---- a list of calls
abbrev Holds : List ℕ → Work → Tree → Sort → Type 0
Holds ds w t S = TypedTerm ds w.slice w.length t S

abbrev steps : List ℕ → Tree → List Step → Tree
steps ds t ss = steps_of (context_in ds) t (map asked ss)

module _ {ds : List ℕ} {S : Sort} where
  module _ {w : Work} {t : Tree} (h : Holds ds w t S) (s : Step) where
    abbrev next : Tree
    next = (step_of (context_in ds) t (asked s)).tree

    -- a call leaves the term of its step, with zeros behind
    after_call : after ds w s ≡ holding next
    unfolding stepped
    after_call = let e = entry _ _ _ _ _ h s in rw (e.answer, e.slice)

    -- and that is a typed term again
    holds_next : Holds ds (after ds w s) next S
    holds_next =
        let d = step-keeps-type _ (well_formed ds h.good) S t (its_type h) (asked s) in
        subst⁻¹ (λ (v : Work). Holds ds v next S) after_call (held-typed h.good h.is_type d)

  course : {w : Work} {t : Tree} → Holds ds w t S → (ss : List Step) → Course ds w t ss (steps ds t ss)
  unfolding steps_of
  course h [] = ended
  course {w = w} {t = t} h (s ∷ ss) = called (step_decided _ (well_formed ds h.good) S t (its_type h) (asked s)) (entry _ _ _ _ _ h s) (course {w = after ds w s} (holds_next h s) ss)

  left_after_lem : {w : Work} {t : Tree} → Holds ds w t S → (ss : List Step) → after_all ds w ss ≡ leaving w ss (steps ds t ss)
  unfolding after_all steps_of
  left_after_lem h [] = refl
  left_after_lem h (s ∷ []) = after_call h s
  left_after_lem {w = w} h (s ∷ r ∷ ss) = left_after_lem {w = after ds w s} (holds_next h s) (r ∷ ss)

pub lists : Lists
lists ds w t S h ss =
    let W = well_formed ds h.good in
    let d = its_type h in
    let k = alike W h.is_type d (steps_keep_type _ W S t d (map asked ss)) (λ R 𝓐 𝓡 χ F. steps_keep_meaning 𝓡 _ χ W F S t d (map asked ss)) in
    (steps ds t ss, record { course = course h ss; left = left_after_lem h ss; alike = k })

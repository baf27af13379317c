-- A work slice that holds a typed term: what the entry says of it, and that a step leaves such a slice again.
use mathlib.Core.Path.{◌≡◌, refl, ◌∙◌, ap}
use mathlib.Core.Bool.{true}
use mathlib.Core.List.{List}
use Prim.Native.Nat.{ℕ, ◌≤◌}
use native.Mathlib.Omega.{arith}
use lib.ListN.{length, length-append, length-replicate}
use lib.Seq.{take_at}
use Rattle.term.specs.Parts.{tree_in}
use Rattle.term.specs.Terms.{max_words}
use Rattle.term.specs.Trees.{Tree, words, depth}
use Rattle.term.proofs.Parsing.{parse-tree}
use Rattle.types.specs.Rules.{Typed}
use Rattle.types.specs.Sorts.{Sort, IsType}
use Rattle.declarations.specs.Declarations.{context_in, good_declarations}
use Rattle.declarations.proofs.Entries.{counts_in}
use Rattle.typing.specs.declared.terms.Typing as A
use Rattle.typing.specs.Answers.{typing_of, TypedTerm}
use Rattle.typing.proofs.Theorems.{complete_entry}
use Rattle.lent.proofs.Judging.{type-told}
use Rattle.rules.specs.Steps.{step_of}
use Rattle.lent.specs.declared.steps.Step.{Step}
use Rattle.lent.specs.Lent.{asked}
use Rattle.step.specs.Answers.{held, step_in}

module _ {ds ws : List ℕ} {n : ℕ} {t : Tree} {S : Sort} (h : TypedTerm ds ws n t S) where
  pub accepted-code : (typing_of ds ws n).code ≡ 0
  accepted-code = ap (λ (a : A.Typing). a.code) (complete_entry ds ws n t S h) ∙ (type-told n (depth t) S h.is_type).0

  pub its_step : (s : Step) → step_in ds ws n s ≡ step_of (context_in ds) t (asked s)
  unfolding step_in tree_in
  its_step s = rw (← h.is, parse-tree t h.term.formed)

  pub its_type : Typed (context_in ds) S t
  its_type = record { rules = h.rules; form = rw (← counts_in ds h.good) h.term }

-- the slice of a typed term: 4,096 words, which begin with the term's
pub held-typed : {ds : List ℕ} {S : Sort} {t : Tree} → good_declarations ds ≡ true → IsType S → Typed (context_in ds) S t → TypedTerm ds (held t) (length (words t)) t S
unfolding held
held-typed {ds} {S} {t} good type d =
    let short : length (words t) ≤ max_words = d.form.short in
    let size : length (held t) ≡ max_words = simp (length-append, length-replicate) (omega arith) in
    record {
      size = size;
      good = good;
      inside = omega arith;
      is = rw (take_at (words t) _ (length (words t)) refl);
      term = rw (counts_in ds good) d.form;
      is_type = type;
      rules = d.rules;
    }

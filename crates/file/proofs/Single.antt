-- The single step: zeros behind its term, and an untouched slice at code 1.
use mathlib.Core.Path.{◌≡◌, refl, ◌∙◌, sym, ap}
use mathlib.Core.Logic.{◌≢◌}
use mathlib.Core.Bool.{Bool, true, false}
use mathlib.Core.List.{List}
use Prim.Native.Nat.{ℕ}
use native.Mathlib.Omega.{arith}
use borrow.Author.Tests.{eqb-true, eqb-false}
use lib.Dec.{eqb}
use lib.ListN.{length}
use Rattle.term.specs.Trees.{Tree}
use Rattle.types.specs.Sorts.{Sort}
use Rattle.declarations.specs.Declarations.{context_in}
use Rattle.declarations.proofs.Entries.{well_formed}
use Rattle.typing.specs.Answers.{typing_of, TypedTerm}
use Rattle.typing.proofs.Theorems.{sound_entry}
use Rattle.rules.specs.Steps.{step_of}
use Rattle.rules.proofs.Steps.{step_decided}
use Rattle.lent.specs.declared.steps.Step.{Step}
use Rattle.lent.specs.Lent.{asked}
use Rattle.step.specs.Answers.{stepped, answer_to, words_left}
use Rattle.step.specs.declared.single.Answer.{Answer}
use Rattle.step.proofs.Held.{its_type}
use Rattle.step.proofs.Theorems.{entry, refusals}
use Rattle.file.specs.Demands.{ZerosBehind}
use Rattle.file.proofs.Late.{not_between, outcome_code}
use Rattle.file.proofs.Behind.{held-behind, none-behind}

module _ (ds ws : List ℕ) (n : ℕ) (s : Step) where
  -- ---- on a typed term
  module _ {t : Tree} {S : Sort} (h : TypedTerm ds ws n t S) where
    typed-code : (answer_to ds ws n s).code ≢ 1
    unfolding stepped
    typed-code = rw (entry ds ws n t S h s).answer (λ e. not_between (outcome_code (step_decided (context_in ds) (well_formed ds h.good) S t (its_type h) (asked s))).0 (omega arith))

    typed-zeros : ZerosBehind (answer_to ds ws n s).length (words_left ds ws n s)
    unfolding stepped
    typed-zeros = let e = entry ds ws n t S h s in rw (e.answer, e.slice) (held-behind (step_of (context_in ds) t (asked s)).tree)

  -- ---- refused
  module _ (h : (typing_of ds ws n).code ≢ 0) where
    refused-code : (answer_to ds ws n s).code ≡ (typing_of ds ws n).code
    refused-code = ap (λ (a : Answer). a.code) (refusals ds ws n h s).answer

    refused-zeros : (answer_to ds ws n s).code ≢ 1 → ZerosBehind (answer_to ds ws n s).length (words_left ds ws n s)
    refused-zeros k = let e = refusals ds ws n h s in rw (e.answer, e.zeros (λ z. k (refused-code ∙ z))) (none-behind (length ws))

    refused-untouched : (answer_to ds ws n s).code ≡ 1 → words_left ds ws n s ≡ ws
    refused-untouched e = (refusals ds ws n h s).untouched (sym refused-code ∙ e)

  zeros_by : (b : Bool) → eqb (typing_of ds ws n).code 0 ≡ b → (answer_to ds ws n s).code ≢ 1 → ZerosBehind (answer_to ds ws n s).length (words_left ds ws n s)
  zeros_by true e k = typed-zeros (sound_entry ds ws n (eqb-true _ 0 e)).2
  zeros_by false e k = refused-zeros (eqb-false _ 0 e) k

  untouched_by : (b : Bool) → eqb (typing_of ds ws n).code 0 ≡ b → (answer_to ds ws n s).code ≡ 1 → words_left ds ws n s ≡ ws
  untouched_by true e k = absurd (typed-code (sound_entry ds ws n (eqb-true _ 0 e)).2 k)
  untouched_by false e k = refused-untouched (eqb-false _ 0 e) k

  pub step_zeros : (answer_to ds ws n s).code ≢ 1 → ZerosBehind (answer_to ds ws n s).length (words_left ds ws n s)
  step_zeros = zeros_by _ refl

  pub step_untouched : (answer_to ds ws n s).code ≡ 1 → words_left ds ws n s ≡ ws
  step_untouched = untouched_by _ refl

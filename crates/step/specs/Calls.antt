-- Calls of the single step: what one does, what one that is refused before does, and a whole list of them. Document 01, "What comes out, by whose doing".
use Rattle.std.specs.Prelude.{◌≡◌, ◌≢◌, List, [], ◌∷◌, ℕ, length, replicate}
use Rattle.term.specs.Trees.{Tree, words}
use Rattle.types.specs.Sorts.{Sort}
use Rattle.declarations.specs.Declarations.{context_in}
use Rattle.typing.specs.Answers.{typing_of}
use Rattle.rules.specs.Steps.{Stepped}
use Rattle.rules.specs.Outcomes.{Outcome}
use Rattle.lent.specs.declared.steps.Step.{Step}
use Rattle.lent.specs.Lent.{asked}
use Rattle.step.specs.Answers.{held, step_refusal, stepped, answer_to, words_left}
use Rattle.step.specs.Alike.{Alike}

-- ---- one call
-- 01: "Side is 0, .. step is 1 from 20 on and for a good step", at is "its place" from 20 on and else 0, the length is that of the term left; the slice holds
-- "the term or its result with zeros behind", 4,096 words in all
pub record Done (ds ws : List ℕ) (n : ℕ) (s : Step) (r : Stepped) : Type 0 where
  pub answer : answer_to ds ws n s ≡ stepped s.place r
  pub slice : words_left ds ws n s ≡ held r.tree

-- 01: "They test 1; 7 for bad declarations; 8, also for a length that is not the term's; 10; 11", as typing does; "1 .. slices untouched", "The step leaves only
-- zeros after 7 to 11", and after 13: 02, CR 1, "13 is as 10"
pub record Refused (ds ws : List ℕ) (n : ℕ) (s : Step) : Type 0 where
  pub answer : answer_to ds ws n s ≡ step_refusal (typing_of ds ws n).code (typing_of ds ws n).at
  pub untouched : (typing_of ds ws n).code ≡ 1 → words_left ds ws n s ≡ ws
  pub zeros : (typing_of ds ws n).code ≢ 1 → words_left ds ws n s ≡ replicate (length ws) 0

-- ---- a list of calls
-- 01: "one work slice and a length"
pub record Work : Type 0 where
  pub slice : List ℕ
  pub length : ℕ

-- a term "with zeros behind", and its length
abbrev pub holding : Tree → Work
holding t = record { slice = held t; length = length (words t) }

-- 01: "Each later step gets the first one's declarations and the slice and length that the step before it left; nobody else writes them meanwhile"
abbrev pub after : List ℕ → Work → Step → Work
after ds w s = record { slice = words_left ds w.slice w.length s; length = (answer_to ds w.slice w.length s).length }

unfoldable pub after_all : List ℕ → Work → List Step → Work
after_all ds w [] = w
after_all ds w (s ∷ ss) = after_all ds (after ds w s) ss

-- what calls that end with the term u are to leave: the work as it was where there are none
abbrev pub leaving : Work → List Step → Tree → Work
leaving w [] u = w
leaving w (s ∷ ss) u = holding u

-- Demand 3: "each step is answered and done as document 01 fixes", call by call from the term t to the term u. `Outcome` has the codes 0 and 20 to 23, with what
-- each of them says of the step
pub data Course (ds : List ℕ) : Work → Tree → List Step → Tree → Type 0 where
  ended : {w : Work} {t : Tree} → Course ds w t [] t
  called : {w : Work} {t u : Tree} {s : Step} {ss : List Step} {r : Stepped}
      → Outcome (context_in ds) t (asked s) r.code r.tree → Done ds w.slice w.length s r
      → Course ds (after ds w s) r.tree ss u → Course ds w t (s ∷ ss) u

-- Demand 3: "that term and the one left after the list are alike in the same way"
pub record ListKept (ds : List ℕ) (w : Work) (t : Tree) (S : Sort) (ss : List Step) (u : Tree) : Type 1 where
  pub course : Course ds w t ss u
  pub left : after_all ds w ss ≡ leaving w ss u
  pub alike : Alike (context_in ds) S t u

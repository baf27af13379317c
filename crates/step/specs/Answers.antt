-- The answer of "the single step", and the words that it leaves, as functions for the code to equal. The relations to believe are `Verdict` of `typing` Answers, before the step, and
-- `Outcome` of `rules` Outcomes; `Refusals` and `Entry` of `Statements`, with `StepDecided` of `rules` Statements, say that the answer is so. Document 01, "What comes out, by whose doing".
use Rattle.std.specs.Prelude.{cond, List, ◌++◌, ℕ, ◌-◌, eqb, length, take, replicate}
use Rattle.words.specs.Words.{cleared}
use Rattle.term.specs.Trees.{Tree, words}
use Rattle.term.specs.Parts.{parse, tree_in}
use Rattle.term.specs.Terms.{max_words}
use Rattle.declarations.specs.Declarations.{context_in}
use Rattle.typing.specs.Answers.{typing_of}
use Rattle.rules.specs.Steps as R
use Rattle.lent.specs.declared.steps.Step as S
use Rattle.lent.specs.Lent.{asked}
use Rattle.step.specs.declared.single.Answer as A

-- a work slice that holds a term, "zeros behind the term"
unfoldable pub held : Tree → List ℕ
held t = words t ++ replicate (max_words - length (words t)) 0

-- What a work slice holds between the clearing and the copying of a result that ends at `end`. 02, CR 6: "below the new end the old words, from there on zeros"
abbrev pub between : List ℕ → ℕ → List ℕ
between ws end = cleared ws end

-- the step on the term in the first n words, under what the declarations declare
unfoldable pub step_in : List ℕ → List ℕ → ℕ → S.Step → R.Stepped
step_in ds ws n s = R.step_of (context_in ds) (tree_in (parse (take n ws))) (asked s)

-- 01: "They test 1; 7 for bad declarations; 8, also for a length that is not the term's; 10; 11. Side is 0, at is 0 for 7 and 8", step 0 and length 0; 02, CR 1: "single step and typing included, 13
-- is as 10"
abbrev pub step_refusal : ℕ → ℕ → A.Answer
step_refusal code at = record { code = code; side = 0; step = 0; at = at; length = 0 }

-- "step is 1 from 20 on and for a good step"; at is the place from 20 to 23
unfoldable pub stepped : ℕ → R.Stepped → A.Answer
stepped place r = record { code = r.code; side = 0; step = 1; at = cond (eqb r.code 0) 0 place; length = length (words r.tree) }

unfoldable pub answer_to : List ℕ → List ℕ → ℕ → S.Step → A.Answer
unfolding stepped step_in
answer_to ds ws n s =
    cond (eqb (typing_of ds ws n).code 0) (stepped s.place (step_in ds ws n s)) (step_refusal (typing_of ds ws n).code (typing_of ds ws n).at)

-- "1 .. slices untouched"; "The step leaves only zeros after 7 to 11, else the term or its result with zeros behind"; 02, CR 1: "13 is as 10"
unfoldable pub words_left : List ℕ → List ℕ → ℕ → S.Step → List ℕ
unfolding held step_in
words_left ds ws n s =
    cond (eqb (typing_of ds ws n).code 0) (held (step_in ds ws n s).tree) (cond (eqb (typing_of ds ws n).code 1) ws (replicate (length ws) 0))

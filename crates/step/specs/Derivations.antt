-- A derivation by its words: which steps are taken, and what is refused first. Document 01, "What comes out, by whose doing".
use Rattle.std.specs.Prelude.{◌≡◌, ◌≢◌, List, [], ◌∷◌, ℕ, ◌+◌, ◌<◌, length, take, get_or, replicate}
use Rattle.term.specs.Trees.{Tree, words}
use Rattle.types.specs.Sorts.{Sort, Context}
use Rattle.declarations.specs.Declarations.{context_in}
use Rattle.rules.specs.Outcomes.{Taken, Outcome}
use Rattle.rules.specs.Steps.{Move, Sides, side_number, chosen, put, Run}
use Rattle.step.specs.declared.run.Answer as A
use Rattle.step.specs.Answers.{held}
use Rattle.lent.specs.Lent.{Derivation, moves_in}
use Rattle.lent.specs.Faults.{fault}
use Rattle.lent.specs.Refusals.{LeftTyped, RightTyped, Ordered, Refused, Begun}
use Rattle.step.specs.Runs.{run_refusal, run_answer, left_after, right_after}
use Rattle.step.specs.Alike.{Alike}

-- ---- the steps
-- each is taken on its side, from the sides p to the sides q
pub data AllTaken (Γ : Context) : Sides → List Move → Sides → Type 0 where
  no_more : {p : Sides} → AllTaken Γ p [] p
  one_more_lem : {p q : Sides} {u : Tree} {m : Move} {ms : List Move} → Taken Γ (chosen m.side p) m.step u → AllTaken Γ (put m.side u p) ms q → AllTaken Γ p (m ∷ ms) q

-- The first bad one stops the run, behind n good ones. 01: "step is from 1, at its place, side its side, the slices hold the terms before it". `Outcome` has the codes 20 to
-- 23, with what each of them says of the step
pub data Stopped (Γ : Context) : ℕ → Sides → List Move → Run → Type 0 where
  bad : {n c : ℕ} {p : Sides} {t : Tree} {m : Move} {ms : List Move} → Outcome Γ (chosen m.side p) m.step c t → c ≢ 0
      → Stopped Γ n p (m ∷ ms) (record { code = c; side = side_number m.side; step = n + 1; at = m.step.place; sides = p })
  later : {n : ℕ} {p : Sides} {u : Tree} {m : Move} {ms : List Move} {r : Run} → Taken Γ (chosen m.side p) m.step u
      → Stopped Γ (n + 1) (put m.side u p) ms r → Stopped Γ n p (m ∷ ms) r

-- ---- the answer
-- 01, 30: "at the first offset where they differ"
pub record Differ (xs ys : List ℕ) (k : ℕ) : Type 0 where
  pub in_both : (k < length xs) × (k < length ys)
  pub before : take k xs ≡ take k ys
  pub there : get_or xs k 0 ≢ get_or ys k 0

abbrev answer : ℕ → ℕ → ℕ → ℕ → Sides → A.Answer
answer code side step at p = record { code = code; side = side; step = step; at = at; left = length (words p.left); right = length (words p.right) }

abbrev zeros : List ℕ → List ℕ
zeros ws = replicate (length ws) 0

-- ---- what is lent
module _ (d : Derivation) where
  -- Demand 2: "both terms have one and the same type .. by the published typing rules .., each step is an instance of its numbered rule .. at its place and stays inside the
  -- limits, and the two terms then agree"
  pub record Accepted : Type 0 where
    pub start : Sides
    pub end : Sides
    pub sort : Sort
    pub left_term : LeftTyped d start.left sort
    pub right_term : RightTyped d start.right sort
    pub order : Ordered d
    pub taken : AllTaken (context_in d.ds) start (moves_in d.steps d.count) end
    pub same : end.left ≡ end.right

  -- Every answer, with the two slices that it leaves
  pub data Decision : A.Answer → List ℕ → List ℕ → Type 0 where
    untouched : {s k : ℕ} → Refused d 1 s k → Decision (run_refusal (fault 1 s k)) d.left d.right
    refused : {c s k : ℕ} → c ≢ 1 → Refused d c s k → Decision (run_refusal (fault c s k)) (zeros d.left) (zeros d.right)
    stopped : {p : Sides} {S : Sort} {r : Run} → Begun d p S → Stopped (context_in d.ds) 0 p (moves_in d.steps d.count) r
        → Decision (answer r.code r.side r.step r.at r.sides) (held r.sides.left) (held r.sides.right)
    differ : {p q : Sides} {S : Sort} {k : ℕ} → Begun d p S → AllTaken (context_in d.ds) p (moves_in d.steps d.count) q → Differ (words q.left) (words q.right) k
        → Decision (answer 30 0 d.count k q) (held q.left) (held q.right)
    accepted : (a : Accepted) → Decision (answer 0 0 d.count 0 a.end) (held a.end.left) (held a.end.right)

  -- Demand 3: "the term that the file gives for each side and what the replay leaves of it are alike in shape and in every such number", at codes 0, 20 to 23 and 30
  pub record RunKept (p : Sides) (S : Sort) (q : Sides) : Type 1 where
    pub left_slice : left_after d ≡ held q.left
    pub right_slice : right_after d ≡ held q.right
    pub lengths : ((run_answer d).left ≡ length (words q.left)) × ((run_answer d).right ≡ length (words q.right))
    pub left_alike : Alike (context_in d.ds) S p.left q.left
    pub right_alike : Alike (context_in d.ds) S p.right q.right

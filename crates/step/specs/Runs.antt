-- The run of a derivation's steps on two sides, as functions for the code to equal: its answer, and the words that it leaves. The relation to believe is `Decision` of `Derivations`, and
-- `Decides` of `Statements` says that the run is so. Document 01, "What comes out, by whose doing".
use Rattle.std.proofs.Math.Bool.{cond}
use Rattle.std.specs.Prelude.{List, ℕ, eqb, length, take, drop, replicate}
use Rattle.words.specs.Words.{same_words, agreeing}
use Rattle.term.specs.Trees.{Tree, words}
use Rattle.term.specs.Parts.{parse, tree_in}
use Rattle.declarations.specs.Declarations.{context_in}
use Rattle.types.specs.Sorts.{Context}
use Rattle.rules.specs.Steps.{Sides, Run, run_of}
use Rattle.step.specs.declared.run.Answer as A
use Rattle.step.specs.Answers.{held}
use Rattle.lent.specs.declared.faults.Fault as F
use Rattle.lent.specs.Lent.{Derivation, moves_in}
use Rattle.lent.specs.Faults.{fault_in}

-- "1 .. lengths 0"; "Caused by the typist; step 0, .. lengths 0"
abbrev pub run_refusal : F.Fault → A.Answer
run_refusal f = record { code = f.code; side = f.side; step = 0; at = f.at; left = 0; right = 0 }

-- "30 all steps good, the ends differ: side 0, step the count, at the first offset where they differ. Accepted: 0, side 0, step the count, at 0". The ends are n
-- and m words long
unfoldable pub compared : List ℕ → ℕ → List ℕ → ℕ → ℕ → A.Answer
compared l n u m step =
    let same = same_words l u in
    record { code = cond same 0 30; side = 0; step = step; at = cond same 0 (agreeing l u); left = n; right = m }

-- "step is from 1, at its place, side its side" from 20 to 23
unfoldable pub answered : Run → A.Answer
unfolding compared
answered r =
    let l = words r.sides.left in
    let u = words r.sides.right in
    cond (eqb r.code 0) (compared l (length l) u (length u) r.step)
    (record { code = r.code; side = r.side; step = r.step; at = r.at; left = length l; right = length u })

-- the steps from one number up to another
unfoldable pub run_from : Context → Sides → List ℕ → ℕ → ℕ → Run
unfolding run_of moves_in
run_from Γ p steps from to = run_of Γ from p (drop from (moves_in steps to))

-- what comes after a run whose steps were all good
abbrev pub and_then : Run → (Sides → Run) → Run
and_then r f = cond (eqb r.code 0) (f r.sides) r

module _ (d : Derivation) where
  unfoldable pub run_in : Run
  unfolding run_of context_in moves_in tree_in parse
  run_in = run_of (context_in d.ds) 0 (record { left = tree_in (parse (take d.n d.left)); right = tree_in (parse (take d.m d.right)) }) (moves_in d.steps d.count)

  unfoldable pub run_answer : A.Answer
  unfolding fault_in run_in answered
  run_answer = cond (eqb (fault_in d).code 0) (answered run_in) (run_refusal (fault_in d))

  -- "1 .. slices untouched"; "both slices all zero"; then "the terms before" a bad step, or "the two ends"
  unfoldable pub slice : List ℕ → Tree → List ℕ
  unfolding fault_in held
  slice ws t = cond (eqb (fault_in d).code 0) (held t) (cond (eqb (fault_in d).code 1) ws (replicate (length ws) 0))

  unfoldable pub left_after : List ℕ
  unfolding slice run_in
  left_after = slice d.left run_in.sides.left

  unfoldable pub right_after : List ℕ
  unfolding slice run_in
  right_after = slice d.right run_in.sides.right

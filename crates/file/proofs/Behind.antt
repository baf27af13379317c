-- Zeros behind a term, and what a run leaves: zeros behind both terms, or untouched slices at code 1.
use mathlib.Core.Path.{◌≡◌, refl, ◌∙◌}
use mathlib.Core.Logic.{◌≢◌}
use mathlib.Core.List.{List, ◌++◌}
use Prim.Native.Nat.{ℕ, ◌-◌}
use native.Mathlib.Omega.{arith}
use lib.ListN.{length, replicate, length-append, length-replicate}
use lib.Seq.{drop-append_seam}
use Rattle.term.specs.Terms.{max_words}
use Rattle.term.specs.Trees.{Tree, words}
use Rattle.lent.specs.Lent.{Derivation}
use Rattle.step.specs.Answers.{held}
use Rattle.step.specs.declared.run.Answer.{Answer}
use Rattle.step.specs.Derivations.{Decision, untouched, refused, stopped, differ, accepted}
use Rattle.file.specs.Demands.{ZerosBehind}
use Rattle.file.proofs.Late.{stopped_code}

behind : (ws : List ℕ) (k : ℕ) → ZerosBehind (length ws) (ws ++ replicate k 0)
behind ws k =
    let z : length (ws ++ replicate k 0) - length ws ≡ k = simp (length-append, length-replicate) (omega arith) in
    drop-append_seam ws (replicate k 0) ∙ rw z

pub held-behind : (t : Tree) → ZerosBehind (length (words t)) (held t)
unfolding held
held-behind t = behind (words t) (max_words - length (words t))

-- no term: all are zeros
pub none-behind : (n : ℕ) → ZerosBehind 0 (replicate n 0)
none-behind n = let z : length (replicate {A = ℕ} n 0) - 0 ≡ n = rw length-replicate (omega arith) in rw z

-- whatever a run decides
pub run-behind : {d : Derivation} {a : Answer} {l r : List ℕ} → Decision d a l r → a.code ≢ 1
    → ZerosBehind a.left l × ZerosBehind a.right r
run-behind (untouched x) h = absurd (h refl)
run-behind {d} (refused k x) h = (none-behind (length d.left), none-behind (length d.right))
run-behind (stopped {r} b s) h = (held-behind r.sides.left, held-behind r.sides.right)
run-behind (differ {q} b t e) h = (held-behind q.left, held-behind q.right)
run-behind (accepted a) h = (held-behind a.end.left, held-behind a.end.right)

pub run_untouched : {d : Derivation} {a : Answer} {l r : List ℕ} → Decision d a l r → a.code ≡ 1
    → (l ≡ d.left) × (r ≡ d.right)
run_untouched (untouched x) h = (refl, refl)
run_untouched (refused k x) h = absurd (k h)
run_untouched (stopped b s) h = absurd (omega (arith, stopped_code s))
run_untouched (differ b t e) h = absurd (omega arith)
run_untouched (accepted a) h = absurd (omega arith)

-- Demand 1 of the replay: zeros behind its terms, and untouched slices at code 1.
use mathlib.Core.Path.{◌≡◌, refl}
use mathlib.Core.Logic.{◌≢◌}
use mathlib.Core.List.{List}
use Prim.Native.Nat.{ℕ}
use native.Mathlib.Omega.{arith}
use Rattle.term.specs.Terms.{max_words}
use Rattle.step.specs.declared.run.Answer as A
use Rattle.file.specs.Files.{FileDecision, wrong_size, unread, replayed}
use Rattle.file.specs.Demands.{ZerosBehind}
use Rattle.file.proofs.Behind.{none-behind, run-behind}
use Rattle.file.proofs.Late.{late_not_1}
use Rattle.file.proofs.Decided.{run-code}

pub zeros : {bytes left right : List ℕ} {a : A.Answer} {l r : List ℕ} → FileDecision bytes left right a l r → a.code ≢ 1 → ZerosBehind a.left l × ZerosBehind a.right r
zeros (wrong_size x) h = absurd (h refl)
zeros (unread s e x y) h = (none-behind max_words, none-behind max_words)
zeros (replayed s w d) h = run-behind d h

pub untouched : {bytes left right : List ℕ} {a : A.Answer} {l r : List ℕ} → FileDecision bytes left right a l r → a.code ≡ 1 → (l ≡ left) × (r ≡ right)
untouched (wrong_size x) h = (refl, refl)
untouched (unread s e x y) h = absurd (omega arith)
untouched (replayed {f} s w d) h = absurd (late_not_1 (run-code f w.order d) h)

-- The codes of steps: 0, or from 20 to 23; and 1 is no code of a file of the form.
use mathlib.Core.Path.{refl}
use mathlib.Core.Logic.{◌≢◌, inl, inr}
use mathlib.Core.List.{List}
use Prim.Native.Nat.{ℕ, ◌≤◌, ◌<◌}
use native.Mathlib.Omega.{arith}
use Rattle.term.specs.Trees.{Tree}
use Rattle.types.specs.Sorts.{Context}
use Rattle.rules.specs.Steps.{Step, Move, Sides, Run}
use Rattle.rules.specs.Outcomes.{Outcome, good, no_rule, no_place, no_instance, too_big}
use Rattle.step.specs.Derivations.{Stopped, bad, later}
use Rattle.file.specs.Files.{LateCode, PastTypes, of_types, of_step, of_ends, of_none}

pub not_between : {c : ℕ} → PastTypes c → (0 < c) × (c < 20) → ⊥
not_between (inl e) h = omega arith
not_between (inr k) h = omega arith

pub outcome_code : {Γ : Context} {t u : Tree} {s : Step} {c : ℕ} → Outcome Γ t s c u → PastTypes c × (c ≤ 23)
outcome_code (good u h) = (inl refl, omega arith)
outcome_code (no_rule h) = (inr (omega arith), omega arith)
outcome_code (no_place h k) = (inr (omega arith), omega arith)
outcome_code (no_instance h k x) = (inr (omega arith), omega arith)
outcome_code (too_big h k x l) = (inr (omega arith), omega arith)

-- a run stops with a code from 20 to 23
bad-code : {c : ℕ} → PastTypes c → c ≢ 0 → 20 ≤ c
bad-code (inl e) h = absurd (h e)
bad-code (inr k) h = k

pub stopped_code : {Γ : Context} {n : ℕ} {p : Sides} {ms : List Move} {r : Run} → Stopped Γ n p ms r → (20 ≤ r.code) × (r.code ≤ 23)
stopped_code (bad o h) = let k = outcome_code o in (bad-code k.0 h, k.1)
stopped_code (later k s) = stopped_code s

-- the code of a file of the form
pub late_not_1 : {c : ℕ} → LateCode c → c ≢ 1
late_not_1 (of_types h k) = omega arith
late_not_1 (of_step h k) = omega arith
late_not_1 of_ends = omega arith
late_not_1 of_none = omega arith

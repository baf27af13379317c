-- A run by its steps: all are taken, or the first bad one stops it.
use mathlib.Core.Path.{◌≡◌, refl}
use mathlib.Core.Logic.{◌≢◌}
use mathlib.Core.Bool.{Bool, true, false, cond}
use mathlib.Core.List.{List, [], ◌∷◌, ◌++◌}
use Prim.Native.Nat.{ℕ, ◌+◌}
use native.Mathlib.Omega.{arith}
use lib.Dec.{eqb}
use lib.ListN.{length}
use Rattle.term.specs.declared.parts.Side.{Side}
use Rattle.term.specs.declared.parts.Side.TheVariants.{Left, Right}
use Rattle.term.specs.Trees.{Tree}
use Rattle.term.proofs.Places.{subtree-formed}
use Rattle.types.specs.Sorts.{Sort, Context}
use Rattle.types.specs.Rules.{WellFormed, Typed}
use Rattle.types.specs.Inside.{inside}
use Rattle.types.proofs.Replace.{part-typed, inside_well}
use Rattle.rules.specs.Outcomes.{Taken, Outcome, good, no_rule, no_place, no_instance, too_big}
use Rattle.rules.specs.Steps.{Step, limited, at_part, at_place, by_rule, step_of, Move, Sides, side_number, chosen, put, Run, run_of}
use Rattle.rules.proofs.Rules.{decides}
use Rattle.rules.proofs.Steps.{step_decided, step-keeps-type}
use Rattle.step.specs.Derivations.{AllTaken, no_more, one_more_lem, Stopped, bad, later}
use Rattle.step.specs.Runs.{and_then}

-- ---- a step that is taken is what the function does
taken_step : (Γ : Context) → WellFormed Γ → (S : Sort) (t : Tree) (s : Step) (u : Tree) → Typed Γ S t → Taken Γ t s u → step_of Γ t s ≡ record { code = 0; tree = u }
unfolding step_of by_rule at_place at_part limited
taken_step Γ W S t s u d k =
    let p = part-typed W t s.place k.part S d.rules k.there in
    let formed = subtree-formed t s.place k.part d.form.formed k.there in
    let e = (decides (inside Γ t s.place) (inside_well W t s.place) s.rule k.r k.rule s.i s.j k.part k.new formed p.0 p.1).1 k.is in
    rw (k.rule, k.there, e, ← k.result, k.limits)

-- ---- both sides stay typed
pub record Both (Γ : Context) (S : Sort) (p : Sides) : Type 0 where
  pub left : Typed Γ S p.left
  pub right : Typed Γ S p.right

chosen-typed : {Γ : Context} {S : Sort} {p : Sides} → Both Γ S p → (side : Side) → Typed Γ S (chosen side p)
chosen-typed b Left = b.left
chosen-typed b Right = b.right

both_with : {Γ : Context} {S : Sort} {p : Sides} {u : Tree} → Both Γ S p → (side : Side) → Typed Γ S u → Both Γ S (put side u p)
both_with b Left d = record { left = d; right = b.right }
both_with b Right d = record { left = b.left; right = d }

-- ---- and every run is one or the other
pub data Went (Γ : Context) (n : ℕ) (p : Sides) (ms : List Move) : Run → Type 0 where
  all : {q : Sides} → AllTaken Γ p ms q → Went Γ n p ms (record { code = 0; side = 0; step = n + length ms; at = 0; sides = q })
  stop : {r : Run} → Stopped Γ n p ms r → Went Γ n p ms r

further : {Γ : Context} {n : ℕ} {p : Sides} {u : Tree} {m : Move} {ms : List Move} {r : Run} → Taken Γ (chosen m.side p) m.step u → Went Γ (n + 1) (put m.side u p) ms r
    → Went Γ n p (m ∷ ms) r
further {n} {m} {ms} k (all a) = let z : n + 1 + length ms ≡ n + length (m ∷ ms) = omega arith in rw z (all (one_more_lem k a))
further k (stop s) = stop (later k s)

ended : {Γ : Context} (n : ℕ) (p : Sides) → Went Γ n p [] (record { code = 0; side = 0; step = n; at = 0; sides = p })
ended {Γ} n p =
    let z : n + 0 ≡ n = omega arith in
    let a : Went Γ n p [] (record { code = 0; side = 0; step = n + 0; at = 0; sides = p }) = all no_more in
    rw z at a

went_by : {Γ : Context} {n : ℕ} {p : Sides} {m : Move} {ms : List Move} {c : ℕ} {t : Tree} → Outcome Γ (chosen m.side p) m.step c t
    → ((u : Tree) → Taken Γ (chosen m.side p) m.step u → Went Γ (n + 1) (put m.side u p) ms (run_of Γ (n + 1) (put m.side u p) ms))
    → Went Γ n p (m ∷ ms) (cond (eqb c 0) (run_of Γ (n + 1) (put m.side t p) ms) (record { code = c; side = side_number m.side; step = n + 1; at = m.step.place; sides = p }))
went_by (good u k) rest = further k (rest u k)
went_by (no_rule e) rest = stop (bad (no_rule e) (omega arith))
went_by (no_place e h) rest = stop (bad (no_place e h) (omega arith))
went_by (no_instance e f h) rest = stop (bad (no_instance e f h) (omega arith))
went_by (too_big e f x h) rest = stop (bad (too_big e f x h) (omega arith))

module _ {Γ : Context} (W : WellFormed Γ) {S : Sort} where
  both-put : {p : Sides} {u : Tree} (m : Move) → Both Γ S p → Taken Γ (chosen m.side p) m.step u → Both Γ S (put m.side u p)
  both-put {p} {u} m b k =
      let d = chosen-typed b m.side in
      both_with b m.side (rw (taken_step Γ W S (chosen m.side p) m.step u d k) at (step-keeps-type Γ W S (chosen m.side p) d m.step))

  pub all_typed : {p q : Sides} {ms : List Move} → Both Γ S p → AllTaken Γ p ms q → Both Γ S q
  all_typed b no_more = b
  all_typed b (one_more_lem {m} k a) = all_typed (both-put m b k) a

  pub stopped-typed : {n : ℕ} {p : Sides} {ms : List Move} {r : Run} → Both Γ S p → Stopped Γ n p ms r → Both Γ S r.sides
  stopped-typed b (bad o h) = b
  stopped-typed b (later {m} k s) = stopped-typed (both-put m b k) s

  -- ---- where all steps are taken, that is the run
  pub all-run : (n : ℕ) {p q : Sides} {ms : List Move} → Both Γ S p → AllTaken Γ p ms q → run_of Γ n p ms ≡ record { code = 0; side = 0; step = n + length ms; at = 0; sides = q }
  unfolding run_of
  all-run n b no_more = let z : n + 0 ≡ n = omega arith in rw z
  all-run n {p} b (one_more_lem {u} {m} {ms} k a) =
      let z : n + 1 + length ms ≡ n + length (m ∷ ms) = omega arith in
      rw (taken_step Γ W S (chosen m.side p) m.step u (chosen-typed b m.side) k, ← z) (all-run (n + 1) (both-put m b k) a)

  pub went : (n : ℕ) (p : Sides) → Both Γ S p → (ms : List Move) → Went Γ n p ms (run_of Γ n p ms)
  unfolding run_of
  went n p b [] = ended n p
  went n p b (m ∷ ms) = went_by (step_decided Γ W S (chosen m.side p) (chosen-typed b m.side) m.step) (λ u k. went (n + 1) (put m.side u p) (both-put m b k) ms)

pub stopped_code : {Γ : Context} {n : ℕ} {p : Sides} {ms : List Move} {r : Run} → Stopped Γ n p ms r → r.code ≢ 0
stopped_code (bad o h) = h
stopped_code (later k s) = stopped_code s

-- ---- steps before others
append_by : (b : Bool) (x y z : Run) (f : Sides → Run) → eqb z.code 0 ≡ b → x ≡ and_then y f → cond b x z ≡ and_then (cond b y z) f
append_by true x y z f g e = e
append_by false x y z f g e = rw g

pub run-append : (Γ : Context) (n : ℕ) (p : Sides) (xs ys : List Move) → run_of Γ n p (xs ++ ys) ≡ and_then (run_of Γ n p xs) (λ q. run_of Γ (n + length xs) q ys)
unfolding run_of
run-append Γ n p [] ys = let z : n + 0 ≡ n = omega arith in rw z
run-append Γ n p (m ∷ xs) ys =
    let z : n + 1 + length xs ≡ n + length (m ∷ xs) = omega arith in
    append_by (eqb (step_of Γ (chosen m.side p) m.step).code 0) _ _ _ (λ q. run_of Γ (n + length (m ∷ xs)) q ys) refl
    (rw z at (run-append Γ (n + 1) (put m.side (step_of Γ (chosen m.side p) m.step).tree p) xs ys))

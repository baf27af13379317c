-- Steps one after the other on two sides: what holds of both before a step holds of them behind it.
use mathlib.Core.Path.{◌≡◌, refl, sym, ◌∙◌, ap}
use mathlib.Core.Logic.{◌≢◌}
use mathlib.Core.Bool.{Bool, true, false, cond}
use mathlib.Core.List.{List, ◌++◌}
use Prim.Native.Nat.{ℕ, ◌+◌, ◌-◌, ◌≤◌, ◌<◌}
use native.Mathlib.Numerals.{add-one}
use native.Mathlib.Omega.{arith}
use borrow.Author.Tests.{eq-eqb, ne_eqb, eqb-true, eqb-false}
use lib.Dec.{eqb}
use lib.ListN.{length, replicate, get_or, length-append, length-replicate, drop_of_length-le}
use lib.Seq.{take-append_seam}
use Rattle.words.specs.Words.{cleared}
use Rattle.words.specs.Listed.{up_to}
use Rattle.words.proofs.Listed.{length-up_to, drop-up_to}
use Rattle.std.specs.Prelude.{Result, Ok, Err, IsErrAnd}
use Rattle.term.specs.declared.parts.Side.{Side}
use Rattle.term.specs.declared.parts.Side.TheVariants.{Left, Right}
use Rattle.term.specs.Trees.{Tree, words}
use Rattle.term.specs.Terms.{max_words}
use Rattle.types.specs.Sorts.{Sort, Context}
use Rattle.declarations.specs.Declarations.{context_in}
use Rattle.declarations.proofs.Entries.{well_formed}
use Rattle.typing.specs.Answers.{typing_of, TypedTerm}
use Rattle.rules.specs.Steps.{Stepped, step_of, Move, Sides, side_number, Run, run_of}
use Rattle.rules.proofs.Steps.{step_decided, step-keeps-type}
use Rattle.lent.specs.declared.steps.Step.{Step}
use Rattle.families.specs.declared.writing.Refusal.{Refusal}
use Rattle.families.specs.Writing.{code_of}
use Rattle.families.proofs.Written.{passed_up}
use Rattle.step.specs.Answers.{held}
use Rattle.step.specs.Code.Making.{code_in, length_in}
use Rattle.lent.specs.Lent.{asked, step_at, side_in, lent_step, move_in, moves_in}
use Rattle.step.specs.declared.running.Lengths.{Lengths}
use Rattle.step.specs.Code.Running.{Holding, Ready, lengths_of, step_on, moved_by, moved_to, by_code, numbers_of, taken_to}
use Rattle.step.specs.Runs.{run_from}
use Rattle.step.proofs.Held.{accepted-code, its_step, held-typed}
use Rattle.step.proofs.Taking.{some_code, stays_by, Tells}

-- ---- one side
held-cleared : (t : Tree) → cleared (held t) (length (words t)) ≡ held t
unfolding held cleared
held-cleared t =
    let zeros : List ℕ = replicate (max_words - length (words t)) 0 in
    let l = length-append (words t) zeros in
    let z : length (words t ++ zeros) - length (words t) ≡ max_words - length (words t) = omega (arith, length-replicate {A = ℕ} (max_words - length (words t)) 0) in
    rw (take-append_seam (words t) zeros, z)

module _ {ds ws : List ℕ} {n : ℕ} {S : Sort} {t : Tree} (x : Holding ds ws n S t) where
  pub its_term : TypedTerm ds ws n t S
  its_term = rw (x.slice, x.long) (held-typed x.good x.is_type x.typed)

  pub asks : ((typing_of ds ws n).code ≡ 0) × (cleared ws n ≡ ws)
  asks = (accepted-code its_term, rw (x.slice, x.long) (held-cleared t))

  module _ (s : Step) where
    abbrev after : Stepped
    after = step_of (context_in ds) t (asked s)

    stays : after.code ≢ 0 → after.tree ≡ t
    stays = stays_by (step_decided (context_in ds) (well_formed ds x.good) S t x.typed (asked s))

    module _ (r : Result ℕ Refusal) {ws' : List ℕ} (told : Tells ds ws n s r ws') where
      code-after : code_in r ≡ after.code
      code-after = rw (its_step its_term s) at told.0

      held_after : Holding ds ws' (length_in n r) S after.tree
      held_after =
          record {
            good = x.good;
            is_type = x.is_type;
            typed = step-keeps-type _ (well_formed ds x.good) S t x.typed (asked s);
            slice = rw (its_step its_term s) at told.2;
            long = rw (its_step its_term s) at told.1;
          }

      held-before : code_in r ≢ 0 → Holding ds ws' (length_in n r) S t
      held-before h = rw (stays (λ e. h (code-after ∙ e))) at held_after

-- the length that it says is the term's
whole : {ds ws : List ℕ} {n : ℕ} {S : Sort} {t : Tree} → Holding ds ws n S t → Holding ds ws (length (words t)) S t
whole x = record { good = x.good; is_type = x.is_type; typed = x.typed; slice = x.slice; long = refl }

-- ---- both: what the code answers of a step on one side, and what the slices hold behind it
abbrev Moved : List ℕ → Sides → Sort → Step → Side → Result Lengths Refusal → List ℕ → List ℕ → Type 0
Moved ds p S s side r left' right' =
    let m : Move = record { side = side; step = asked s } in
    let q = moved_by (context_in ds) p m in
    (by_code r ≡ moved_to (step_on (context_in ds) p m).code q) × Ready ds left' right' (lengths_of q) q S

module _ {ds left right : List ℕ} {long : Lengths} {p : Sides} {S : Sort} (x : Ready ds left right long p S) (s : Step) {ws' : List ℕ} where
  pub left-good : {n : ℕ} → Tells ds left long.left s (Ok n) ws' → Moved ds p S s Left (Ok (record { left = n; right = long.right })) ws' right
  unfolding moved_by moved_to
  left-good told =
      let a = held_after x.left s (Ok _) told in
      let z : (step_of (context_in ds) p.left (asked s)).code ≡ 0 = sym (code-after x.left s (Ok _) told) in
      rw z (rw (a.long, x.right.long), record { left = whole a; right = whole x.right })

  pub left-bad : (e : Refusal) → Tells ds left long.left s (Err e) ws' → (r : Result Lengths Refusal) → IsErrAnd r (λ x. x ≡ e) → Moved ds p S s Left r ws' right
  unfolding moved_by moved_to
  left-bad e told r k =
      let c = code-after x.left s (Err e) told in
      let z = ne_eqb (step_of (context_in ds) p.left (asked s)).code 0 (λ h. some_code e (c ∙ h)) in
      rw (passed_up e r k, z) (ap Err c, record { left = whole (held-before x.left s (Err e) told (some_code e)); right = whole x.right })

  pub right-good : {n : ℕ} → Tells ds right long.right s (Ok n) ws' → Moved ds p S s Right (Ok (record { left = long.left; right = n })) left ws'
  unfolding moved_by moved_to
  right-good told =
      let a = held_after x.right s (Ok _) told in
      let z : (step_of (context_in ds) p.right (asked s)).code ≡ 0 = sym (code-after x.right s (Ok _) told) in
      rw z (rw (a.long, x.left.long), record { left = whole x.left; right = whole a })

  pub right-bad : (e : Refusal) → Tells ds right long.right s (Err e) ws' → (r : Result Lengths Refusal) → IsErrAnd r (λ x. x ≡ e) → Moved ds p S s Right r left ws'
  unfolding moved_by moved_to
  right-bad e told r k =
      let c = code-after x.right s (Err e) told in
      let z = ne_eqb (step_of (context_in ds) p.right (asked s)).code 0 (λ h. some_code e (c ∙ h)) in
      rw (passed_up e r k, z) (ap Err c, record { left = whole x.left; right = whole (held-before x.right s (Err e) told (some_code e)) })

-- ---- a run, step by step
pub move-is : (steps : List ℕ) (k : ℕ) (side : Side) (s : Step) → side ≡ side_in (get_or steps (step_at k) 0)
    → asked s ≡ record { rule = get_or steps (step_at k + 1) 0; place = get_or steps (step_at k + 2) 0; i = get_or steps (step_at k + 3) 0; j = get_or steps (step_at k + 4) 0 }
    → record { side = side; step = asked s } ≡ move_in steps k
unfolding move_in lent_step
move-is steps k side s e f = rw (e, f)

module _ (Γ : Context) (q : Sides) (steps : List ℕ) (k to : ℕ) where
  abbrev next : Move
  next = move_in steps k

  run-good : k < to → (step_on Γ q next).code ≡ 0 → run_from Γ q steps k to ≡ run_from Γ (moved_by Γ q next) steps (k + 1) to
  unfolding run_from run_of moves_in moved_by
  run-good h e = rw (drop-up_to to (move_in steps) k h, eq-eqb _ 0 e, add-one)

  run-bad : k < to → (step_on Γ q next).code ≢ 0
      → run_from Γ q steps k to ≡ record { code = (step_on Γ q next).code; side = side_number next.side; step = k + 1; at = next.step.place; sides = q }
  unfolding run_from run_of moves_in
  run-bad h e = rw (drop-up_to to (move_in steps) k h, ne_eqb _ 0 e)

  run_end : to ≤ k → run_from Γ q steps k to ≡ record { code = 0; side = 0; step = k; at = 0; sides = q }
  unfolding run_from run_of moves_in
  run_end h = rw (drop_of_length-le (up_to to (move_in steps)) {i = k} (omega (arith, length-up_to to (move_in steps))))

unmoved : (Γ : Context) (q : Sides) (m : Move) → (step_on Γ q m).code ≢ 0 → moved_by Γ q m ≡ q
unfolding moved_by
unmoved Γ q m h = rw (ne_eqb _ 0 h)

-- ---- which of the two a step answered
good_by : {code : ℕ} (q : Sides) {next : Lengths} → Ok next ≡ moved_to code q → (code ≡ 0) × (next ≡ lengths_of q)
unfolding moved_to
good_by {code} q {next} e = go (eqb code 0) refl e
  where
    go : (b : Bool) → eqb code 0 ≡ b → Ok next ≡ cond b (Ok (lengths_of q)) (Err code) → (code ≡ 0) × (next ≡ lengths_of q)
    go true z e = (eqb-true code 0 z, cc)
    go false z e = absurd cc

bad_by : {code : ℕ} (q : Sides) {c : ℕ} → Err c ≡ moved_to code q → (code ≢ 0) × (c ≡ code)
unfolding moved_to
bad_by {code} q {c} e = go (eqb code 0) refl e
  where
    go : (b : Bool) → eqb code 0 ≡ b → Err c ≡ cond b (Ok (lengths_of q)) (Err code) → (code ≢ 0) × (c ≡ code)
    go true z e = absurd cc
    go false z e = (eqb-false code 0 z, cc)

-- what the code holds, step by step: `run` is the whole run, of which the steps from the k-th on are left, on sides `q`
module _ {ds : List ℕ} (q : Sides) {S : Sort} (steps : List ℕ) (k to : ℕ) {run : Run} (rest : run ≡ run_from (context_in ds) q steps k to) where
  pub all-taken : {left right : List ℕ} {long : Lengths} → Ready ds left right long q S → to ≤ k → (Ok long ≡ taken_to run) × Ready ds left right (lengths_of run.sides) run.sides S
  unfolding taken_to
  all-taken x h =
      let z = rest ∙ run_end (context_in ds) q steps k to h in
      rw z (rw (← x.left.long, ← x.right.long), record { left = whole x.left; right = whole x.right })

  module _ (inside : k < to) {left right : List ℕ} (move : Move) (is : move ≡ move_in steps k)
      (x : Ready ds left right (lengths_of (moved_by (context_in ds) q move)) (moved_by (context_in ds) q move) S) where
    pub goes_on : {next : Lengths} → Ok next ≡ moved_to (step_on (context_in ds) q move).code (moved_by (context_in ds) q move)
        → Ready ds left right next (moved_by (context_in ds) q move) S × (run ≡ run_from (context_in ds) (moved_by (context_in ds) q move) steps (k + 1) to)
    goes_on e =
        let g = good_by _ e in
        (rw g.1 x, rest ∙ (rw is (run-good (context_in ds) q steps k to inside (rw is at g.0))))

    pub stops : (e : Refusal) → Err (code_of e) ≡ moved_to (step_on (context_in ds) q move).code (moved_by (context_in ds) q move)
        → {left' right' : List ℕ} {long : Lengths} → Ready ds left' right' long q S → {code side : ℕ} → code ≡ code_of e → side ≡ side_number move.side
        → (Err (record { code = code; side = side; step = k + 1; at = move.step.place; left = long.left; right = long.right }) ≡ taken_to run)
        × Ready ds left right (lengths_of run.sides) run.sides S
    unfolding taken_to numbers_of
    stops refusal e before g f =
        let b = bad_by _ e in
        let y : Ready ds left right (lengths_of q) q S = rw (unmoved (context_in ds) q move b.0) at x in
        let z = rest ∙ run-bad (context_in ds) q steps k to inside (λ d. b.0 (rw is d)) in
        rw (z, ← is, ne_eqb _ 0 b.0) (rw (f, before.left.long, before.right.long, g, b.1), y)

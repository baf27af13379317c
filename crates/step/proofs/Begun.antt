-- Where a run begins: the two slices hold two typed terms of one type; and what is answered from there.
use mathlib.Core.Path.{◌≡◌, refl, sym, ◌∙◌, ap}
use mathlib.Core.Logic.{◌≢◌}
use mathlib.Core.Bool.{Bool, true, false, cond}
use mathlib.Core.List.{List, [], ◌∷◌}
use Rattle.std.specs.Prelude.{Ok, Err}
use lib.Dec.{eqb}
use Prim.Native.Nat.{ℕ, ◌+◌, ◌-◌, ◌≤◌}
use native.Mathlib.Omega.{arith}
use borrow.Author.Tests.{ne_eqb, eqb-true, eqb-false}
use lib.ListN.{length, take}
use lib.Seq.{length-take-le}
use Rattle.words.specs.Words.{cleared}
use Rattle.words.proofs.Listed.{length-up_to}
use Rattle.term.specs.Parts.{parse, tree_in}
use Rattle.term.specs.Trees.{Tree, words}
use Rattle.types.specs.Sorts.{Sort, Context}
use Rattle.declarations.specs.Declarations.{context_in}
use Rattle.typing.specs.Answers.{TypedTerm}
use Rattle.rules.specs.Steps.{step_of, Move, Sides, chosen, put, Run, run_of}
use Rattle.lent.specs.declared.faults.Fault.{Fault}
use Rattle.lent.specs.Lent.{Derivation, move_in, moves_in}
use Rattle.lent.specs.Faults.{fault_in}
use Rattle.lent.specs.Refusals.{Begun, Judged, found, none}
use Rattle.lent.proofs.Tests.{in_place}
use Rattle.lent.proofs.Judging.{judges}
use Rattle.step.specs.declared.run.Answer.{Answer}
use Rattle.step.specs.Answers.{held}
use Rattle.step.specs.Runs.{run_refusal, compared, answered, run_from, run_in, run_answer, slice, left_after, right_after}
use Rattle.step.specs.declared.running.Lengths.{Lengths}
use Rattle.step.specs.Code.Running.{Holding, Ready, lengths_of, numbers_of, taken_to}
use Rattle.step.proofs.Held.{its_type}
use Rattle.step.proofs.Moving.{its_term}

-- ---- the slices before the first step
pub holding : {ds ws : List ℕ} {n : ℕ} {t : Tree} {S : Sort} → TypedTerm ds ws n t S → Holding ds (cleared ws n) n S t
unfolding held cleared
holding {ds} {ws} {n} {t} h =
    let l : length (take n ws) ≡ n = length-take-le n ws h.inside in
    record { good = h.good; is_type = h.is_type; typed = its_type h; slice = rw (h.is, l, h.size); long = sym (ap length h.is ∙ l) }

-- ---- where all steps were good, the run's count is theirs
step_by : (c : ℕ) (b : Bool) → eqb c 0 ≡ b → (x y : Run) (k : ℕ) → (x.code ≡ 0 → x.step ≡ k) → y.code ≡ c → (cond b x y).code ≡ 0 → (cond b x y).step ≡ k
step_by c true z x y k f g e = f e
step_by c false z x y k f g e = absurd (eqb-false c 0 z (sym g ∙ e))

good-steps : (Γ : Context) (n : ℕ) (p : Sides) (ms : List Move) → (run_of Γ n p ms).code ≡ 0 → (run_of Γ n p ms).step ≡ n + length ms
unfolding run_of
good-steps Γ n p [] e = omega arith
good-steps Γ n p (m ∷ ms) e =
    let s = step_of Γ (chosen m.side p) m.step in
    step_by s.code (eqb s.code 0) refl _ _ _ (λ f. let k = good-steps Γ (n + 1) (put m.side s.tree p) ms f in omega arith) refl e

counted : (Γ : Context) (p : Sides) (steps : List ℕ) (count : ℕ) → (run_from Γ p steps 0 count).code ≡ 0 → (run_from Γ p steps 0 count).step ≡ count
unfolding run_from moves_in
counted Γ p steps count e =
    let l : length (moves_in steps count) ≡ count = length-up_to count (move_in steps) in
    let z : 0 + length (moves_in steps count) ≡ count = omega arith in
    good-steps Γ 0 p (moves_in steps count) e ∙ z

module _ (d : Derivation) where
  abbrev pub start : Sides
  start = record { left = tree_in (parse (take d.n d.left)); right = tree_in (parse (take d.m d.right)) }

  begun_by : {f : Fault} → Judged d f → f.code ≡ 0 → (S : Sort) × Begun d start S
  begun_by (found x h) z = absurd (h z)
  begun_by (none {S} b) z = (S, record { left_term = in_place b.left_term refl; right_term = in_place b.right_term refl; order = b.order })

  pub begun : (fault_in d).code ≡ 0 → (S : Sort) × Begun d start S
  begun = begun_by (judges d)

  pub ready : {p : Sides} {S : Sort} → Begun d p S → (left' right' : List ℕ) → left' ≡ cleared d.left d.n → right' ≡ cleared d.right d.m → Ready d.ds left' right' (record { left = d.n; right = d.m }) p S
  ready b left' right' e f = rw (e, f) (record { left = holding b.left_term; right = holding b.right_term })

  -- ---- what is answered and left
  abbrev Answers : Answer → List ℕ → List ℕ → Type 0
  Answers r left' right' = (r ≡ run_answer d) × (left' ≡ left_after d) × (right' ≡ right_after d)

  module _ (f : Fault) (is : f ≡ fault_in d) (r : Answer) (e : r ≡ run_refusal f) where
    pub untouched : f.code ≡ 1 → Answers r d.left d.right
    unfolding run_answer left_after right_after slice
    untouched h = (rw (e, ← is, h), rw (← is, h), rw (← is, h))

    pub all-zeros : (left' right' : List ℕ) → f.code ≢ 1 → f.code ≢ 0 → left' ≡ cleared d.left 0 → right' ≡ cleared d.right 0 → Answers r left' right'
    unfolding run_answer left_after right_after slice cleared
    all-zeros left' right' h k a b =
        let y : length d.left - 0 ≡ length d.left = omega arith in
        let z : length d.right - 0 ≡ length d.right = omega arith in
        (rw (e, ← is, ne_eqb _ _ k), rw (← is, ne_eqb _ _ k, ne_eqb _ _ h, a, y), rw (← is, ne_eqb _ _ k, ne_eqb _ _ h, b, z))

  abbrev pub run : Run
  run = run_from (context_in d.ds) start d.steps 0 d.count

  run_is : run ≡ run_in d
  unfolding run_from run_in
  run_is = refl

  -- which of the two the steps came to
  all_good : (r : Run) {long : Lengths} → Ok long ≡ taken_to r → (r.code ≡ 0) × (long ≡ lengths_of r.sides)
  unfolding taken_to
  all_good r {long} e = go (eqb r.code 0) refl e
    where
      go : (b : Bool) → eqb r.code 0 ≡ b → Ok long ≡ cond b (Ok (lengths_of r.sides)) (Err (numbers_of r)) → (r.code ≡ 0) × (long ≡ lengths_of r.sides)
      go true z e = (eqb-true r.code 0 z, cc)
      go false z e = absurd cc

  one_bad : (r : Run) {a : Answer} → Err a ≡ taken_to r → (r.code ≢ 0) × (a ≡ numbers_of r)
  unfolding taken_to
  one_bad r {a} e = go (eqb r.code 0) refl e
    where
      go : (b : Bool) → eqb r.code 0 ≡ b → Err a ≡ cond b (Ok (lengths_of r.sides)) (Err (numbers_of r)) → (r.code ≢ 0) × (a ≡ numbers_of r)
      go true z e = absurd cc
      go false z e = (eqb-false r.code 0 z, cc)

  module _ (f : Fault) (is : f ≡ fault_in d) (z : f.code ≡ 0) {left' right' : List ℕ} {S : Sort} (x : Ready d.ds left' right' (lengths_of run.sides) run.sides S) where
    slices : (left' ≡ left_after d) × (right' ≡ right_after d)
    unfolding left_after right_after slice
    slices = (rw (← is, z, ← run_is) x.left.slice, rw (← is, z, ← run_is) x.right.slice)

    pub stopped : (a : Answer) → Err a ≡ taken_to run → Answers a left' right'
    unfolding run_answer answered numbers_of
    stopped a e =
        let b = one_bad run e in
        (rw (← is, z, ← run_is, ne_eqb _ _ b.0) b.1, slices.0, slices.1)

    pub inside : (long : Lengths) → Ok long ≡ taken_to run → (long.left ≤ length left') × (long.right ≤ length right')
    inside long e = let b = all_good run e in rw b.1 ((its_term x.left).inside, (its_term x.right).inside)

    -- the ends are the terms
    the_ends : (long : Lengths) → Ok long ≡ taken_to run → (take long.left left' ≡ words run.sides.left) × (take long.right right' ≡ words run.sides.right)
    the_ends long e = let b = all_good run e in rw b.1 (sym (its_term x.left).is, sym (its_term x.right).is)

    pub ended : (long : Lengths) → Ok long ≡ taken_to run → (r : Answer)
        → r ≡ compared (take long.left left') (length (take long.left left')) (take long.right right') (length (take long.right right')) d.count → Answers r left' right'
    unfolding run_answer answered
    ended long e r c =
        let b = all_good run e in
        let t = the_ends long e in
        let k = counted (context_in d.ds) start d.steps d.count b.0 in
        (rw (← is, z, ← run_is, b.0, k) (c ∙ rw (t.0, t.1)), slices.0, slices.1)

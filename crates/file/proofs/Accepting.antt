-- Demand 2: a file is accepted exactly when its two sides are typed alike, its steps are taken, and the ends agree.
use mathlib.Core.Path.{◌≡◌, ◌∙◌, ap}
use mathlib.Core.Logic.{◌↔◌}
use mathlib.Core.List.{List}
use Prim.Native.Nat.{ℕ}
use native.Mathlib.Omega.{arith}
use Rattle.format.specs.Files.{File, Written}
use Rattle.format.proofs.Stepped.{steps_in_order}
use Rattle.step.specs.declared.run.Answer as A
use Rattle.step.specs.Derivations as D
use Rattle.step.proofs.RunTheorems as T
use Rattle.file.specs.Replays.{derivation_of, replay_answer, left_replayed, right_replayed}
use Rattle.file.specs.Files.{AcceptedFile, RunDecides, Sized, FileDecision, wrong_size, unread, replayed}
use Rattle.file.proofs.Sides.{side-typed, typed-side, steps-lent, lent-steps}
use Rattle.file.proofs.Decided.{run-accepted}
use Rattle.file.proofs.Replayed.{decided, answer_of_lem, left_of, right_of}

abbrev pub Run : File → Type 0
Run f = D.Accepted (derivation_of f)

-- ---- from the run to the file, and back
of_run : {bytes : List ℕ} {f : File} → Written bytes f → Run f → AcceptedFile bytes
of_run {f} w a =
    let o = w.order in
    record {
      file = f;
      written = w;
      start = a.start;
      end = a.end;
      sort = a.sort;
      left = typed-side f o f.left a.left_term;
      right = typed-side f o f.right a.right_term;
      taken = lent-steps f o a.taken;
      same = a.same;
    }

abbrev pub to_run : {bytes : List ℕ} (a : AcceptedFile bytes) → Run a.file
to_run a =
    let f = a.file in
    let o = a.written.order in
    record {
      start = a.start;
      end = a.end;
      sort = a.sort;
      left_term = side-typed f o a.left;
      right_term = side-typed f o a.right;
      order = steps_in_order f o.few_steps;
      taken = steps-lent f o a.taken;
      same = a.same;
    }

-- ---- exactly when
accepted_by : {bytes left right : List ℕ} {a : A.Answer} {l r : List ℕ} → Sized left right → FileDecision bytes left right a l r → a.code ≡ 0 → AcceptedFile bytes
accepted_by h (wrong_size x) e = absurd (x h)
accepted_by h (unread s k x y) e = absurd (omega arith)
accepted_by h (replayed {f} s w d) e = of_run w (run-accepted f w.order d e)

module _ (bytes left right : List ℕ) where
  accepted-code : Sized left right → AcceptedFile bytes → (replay_answer bytes left right).code ≡ 0
  accepted-code h a = ap (λ (x : A.Answer). x.code) (answer_of_lem bytes left right a.file h a.written) ∙ (T.accepts _).1 (to_run a)

  pub accepts : Sized left right → ((replay_answer bytes left right).code ≡ 0) ↔ AcceptedFile bytes
  accepts h = (accepted_by h (decided bytes left right), accepted-code h)

  pub otherwise : (f : File) → Sized left right → Written bytes f → RunDecides f (replay_answer bytes left right) (left_replayed bytes left right) (right_replayed bytes left right)
  otherwise f h w =
      rw (answer_of_lem bytes left right f h w, left_of bytes left right f h w, right_of bytes left right f h w) (T.decides (derivation_of f))

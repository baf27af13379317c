-- Demand 3: what the terms of a file stand for, and what the replay leaves of them.
use mathlib.Core.Path.{◌≡◌, refl, ◌∙◌, ap}
use mathlib.Core.Bool.{true}
use mathlib.Core.List.{List}
use Prim.Native.Nat.{ℕ}
use native.Mathlib.Omega.{arith}
use Rattle.algebra.specs.Gaussian.{gaussian}
use Rattle.algebra.proofs.Gaussian.{gaussian_laws}
use Rattle.types.specs.Sorts.{Sort}
use Rattle.meaning.specs.Sorted.{EveryChoice, SomeUnitary}
use Rattle.meaning.proofs.Fitting as M
use Rattle.declarations.specs.Declarations.{context_in, good_declarations}
use Rattle.declarations.proofs.Entries.{well_formed}
use Rattle.rules.specs.Steps.{Sides}
use Rattle.lent.specs.Refusals.{Begun}
use Rattle.format.specs.Files.{File, context_of, Written}
use Rattle.format.specs.Kept.{declarations_of}
use Rattle.format.proofs.Declared.{declared}
use Rattle.step.specs.declared.run.Answer as A
use Rattle.step.specs.Alike.{Alike}
use Rattle.step.proofs.RunTheorems as T
use Rattle.file.specs.Replays.{derivation_of, replay_answer}
use Rattle.file.specs.Files.{AcceptedFile, Sized, FileDecision, wrong_size, unread, replayed, PastTypes}
use Rattle.file.specs.Demands.{FileKept}
use Rattle.file.proofs.Late.{not_between}
use Rattle.file.proofs.Sides.{context, typed-side, alike_of}
use Rattle.file.proofs.Decided.{run_begun}
use Rattle.file.proofs.Replayed.{decided, answer_of_lem, left_of, right_of}
use Rattle.file.proofs.Accepting.{to_run}

pub chooses_lent : (ds : List ℕ) → good_declarations ds ≡ true → EveryChoice gaussian (context_in ds)
unfolding context_in
chooses_lent ds e = M.chooses gaussian (context_in ds) (well_formed ds e) refl

pub chooses : (bytes : List ℕ) (f : File) → Written bytes f → EveryChoice gaussian (context_of f)
chooses bytes f w = rw (context f w.order) at (chooses_lent (declarations_of f) (declared f w.order.declared).good)

pub exist_lent : (ds : List ℕ) → good_declarations ds ≡ true → SomeUnitary gaussian (context_in ds)
unfolding context_in
exist_lent ds e = M.unitary-exist gaussian gaussian_laws (context_in ds) (well_formed ds e) refl

pub exist : (bytes : List ℕ) (f : File) → Written bytes f → SomeUnitary gaussian (context_of f)
exist bytes f w = rw (context f w.order) at (exist_lent (declarations_of f) (declared f w.order.declared).good)

pub proves : (bytes : List ℕ) (a : AcceptedFile bytes) → Alike (context_of a.file) a.sort a.start.left a.start.right
proves bytes a = alike_of a.file a.written.order (T.proves _ (to_run a))

-- ---- a run that began
record Started (bytes left right : List ℕ) : Type 0 where
  file : File
  sizes : Sized left right
  written : Written bytes file
  start : Sides
  sort : Sort
  begun : Begun (derivation_of file) start sort

started : {bytes left right : List ℕ} {a : A.Answer} {l r : List ℕ} → FileDecision bytes left right a l r → PastTypes a.code → Started bytes left right
started (wrong_size x) h = absurd (not_between h (omega arith))
started (unread s e x y) h = absurd (not_between h (omega arith))
started (replayed {f} s w d) h =
    let b = run_begun f w.order d h in
    record { file = f; sizes = s; written = w; start = b.0; sort = b.1; begun = b.2 }

kept : {bytes left right : List ℕ} → Started bytes left right → FileKept bytes left right
kept {bytes} {left} {right} s =
    let f = s.file in
    let w = s.written in
    let o = w.order in
    let k = T.keeps _ _ _ s.begun in
    let q = k.1 in
    let e = answer_of_lem bytes left right f s.sizes w in
    record {
      ends = record {
        file = f;
        written = w;
        start = s.start;
        end = k.0;
        sort = s.sort;
        left_side = typed-side f o f.left s.begun.left_term;
        right_side = typed-side f o f.right s.begun.right_term;
        left_slice = (left_of bytes left right f s.sizes w ∙ q.left_slice, ap (λ (x : A.Answer). x.left) e ∙ q.lengths.0);
        right_slice = (right_of bytes left right f s.sizes w ∙ q.right_slice, ap (λ (x : A.Answer). x.right) e ∙ q.lengths.1);
      };
      left_alike = alike_of f o q.left_alike;
      right_alike = alike_of f o q.right_alike;
    }

pub keeps : (bytes left right : List ℕ) → PastTypes (replay_answer bytes left right).code → FileKept bytes left right
keeps bytes left right h = kept (started (decided bytes left right) h)

-- A run over lines: a file is read exactly where each of its lines is taken and the last stage is reached.
use mathlib.Core.Path.{◌≡◌, refl}
use mathlib.Core.Bool.{Bool, true, false, cond}
use mathlib.Core.List.{List, [], ◌∷◌}
use Prim.Native.Nat.{ℕ, ◌+◌}
use native.Mathlib.Omega.{arith}
use borrow.Author.Tests.{eqb-true, eq-eqb}
use lib.Dec.{eqb}
use Rattle.text.specs.Pieces.{Text}
use Rattle.format.specs.Files.{File}
use Rattle.format.specs.Reading.{key_of, stage_after, Line, wrong, good, line_taken, fault, read, on_line, read_from}
use Rattle.format.proofs.Lines.{Taken, taken-line, line_taken_lem}

pub data Run : ℕ → File → List Text → ℕ → File → Type 0 where
  stop : {s : ℕ} {f : File} → Run s f [] s f
  more : {s t u : ℕ} {f g h : File} {l : Text} {ls : List Text} → Taken s f l t g → Run t g ls u h → Run s f (l ∷ ls) u h

pub run-read : {s t : ℕ} {f g : File} {ls : List Text} → Run s f ls t g → (n : ℕ) → t ≡ 5 → read_from n s f ls ≡ read g
unfolding read_from
run-read (stop {s}) n e = rw (eq-eqb s 5 e)
run-read (more x r) n e = let t = taken-line x in rw (t.0, t.1) (run-read r (n + 1) e)

pub read-run : (n s : ℕ) (f : File) (ls : List Text) (g : File) → read_from n s f ls ≡ read g → Run s f ls 5 g
unfolding read_from
read-run n s f [] g e = go (eqb s 5) refl e
  where
    go : (t : Bool) → eqb s 5 ≡ t → cond t (read f) (fault 4 n) ≡ read g → Run s f [] 5 g
    go true p e = let z : f ≡ g = cc in rw (eqb-true s 5 p, z) stop
    go false p e = absurd (let z : ◌≡◌ {A = ℕ} 0 1 = cc in omega arith)
read-run n s f (l ∷ ls) g e = go (line_taken s f l) refl (λ h. read-run (n + 1) (stage_after (key_of l)) h ls g) e
  where
    go : (x : Line) → line_taken s f l ≡ x → ((h : File) → read_from (n + 1) (stage_after (key_of l)) h ls ≡ read g → Run (stage_after (key_of l)) h ls 5 g)
        → on_line x (λ c. fault c n) (λ h. read_from (n + 1) (stage_after (key_of l)) h ls) ≡ read g → Run s f (l ∷ ls) 5 g
    go (wrong c) p r e = absurd (let z : ◌≡◌ {A = ℕ} 0 1 = cc in omega arith)
    go (good h) p r e = more (line_taken_lem s f l h p) (r h e)

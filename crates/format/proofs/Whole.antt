-- The reading gives a file exactly where the bytes are that file's, written out, and it is in order.
use mathlib.Core.Path.{◌≡◌, refl, sym, ◌∙◌, ap}
use mathlib.Core.Bool.{Bool, true, false, cond}
use Prim.Native.Nat.{ℕ, ◌≤◌}
use native.Mathlib.Omega.{arith}
use borrow.Author.Tests.{leb-true, le-leb}
use lib.Dec.{leb}
use lib.ListN.{length}
use Rattle.std.specs.Prelude as Code
use Rattle.std.specs.Prelude.{Some, None}
use Rattle.text.specs.Bytes.{bad_line}
use Rattle.text.specs.Pieces.{Text, lines_of, ended}
use Rattle.text.proofs.Cutting.{lines-ended, ended-lines}
use Rattle.format.specs.Files.{File, lines, print, max_bytes, InOrder, Written}
use Rattle.format.specs.Reading.{fault, read, behind_bytes, read_from, nothing, read_of}
use Rattle.format.specs.Statements.{Reads}
use Rattle.format.proofs.Runs.{run-read, read-run}
use Rattle.format.proofs.Reached.{run-lines}
use Rattle.format.proofs.Rows.{lines-run}
use Rattle.format.proofs.Plain.{run-lacks, run-fault}

-- ---- what is written is read
print-read : (f : File) → InOrder f → length (print f) ≤ max_bytes → read_of (print f) ≡ read f
unfolding read_of print
print-read f o h =
    let r = lines-run f o in
    rw (le-leb (length (print f)) max_bytes h, run-fault r, lines-ended (lines f) (run-lacks r)) (run-read r 1 refl)

-- ---- what is read was written
lines-written : (bytes : Text) (f : File) → length bytes ≤ max_bytes → bad_line 1 false bytes ≡ None → read_from 1 0 nothing (lines_of bytes) ≡ read f → Written bytes f
unfolding print
lines-written bytes f h b e =
    let l = run-lines (read-run 1 0 nothing (lines_of bytes) f e) in
    let p : bytes ≡ print f = sym (ended-lines 1 false bytes b) ∙ ap ended l.0 in
    record { printed = p; order = l.1; small = h }

read-written : (bytes : Text) (f : File) → read_of bytes ≡ read f → Written bytes f
unfolding read_of
read-written bytes f e = go (leb (length bytes) max_bytes) (bad_line 1 false bytes) refl refl e
  where
    go : (t : Bool) (o : Code.Option ℕ) → leb (length bytes) max_bytes ≡ t → bad_line 1 false bytes ≡ o
        → cond t (behind_bytes o (read_from 1 0 nothing (lines_of bytes))) (fault 2 0) ≡ read f → Written bytes f
    go true None p q e = lines-written bytes f (leb-true _ _ p) q e
    go true (Some n) p q e = absurd (let z : ◌≡◌ {A = ℕ} 0 1 = cc in omega arith)
    go false o p q e = absurd (let z : ◌≡◌ {A = ℕ} 0 1 = cc in omega arith)

pub reads : Reads
reads bytes f = (read-written bytes f, λ w. rw w.printed (print-read f w.order (rw w.printed at w.small)))

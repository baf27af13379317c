-- The first field is one letter.
use mathlib.Core.Path.{sym}
use native.Mathlib.Omega.{arith}
use Rattle.cursor.proofs.Spans.{cut}
use Rattle.reader.proofs.Fields.{first-size, no_side, left_side, right_side}
use Rattle.reader.proofs.stepping.read_side.Goals as goal

pub slice_bounds-field-end : goal.slice_bounds-field-end
slice_bounds-field-end c = sym (first-size _ (cut _ _ c.next-piece.ensures))

pub returns-in-L : goal.returns-in-L
returns-in-L c = left_side _ (cut _ _ c.next-piece.ensures) (omega arith) (omega arith)

pub returns-in-R : goal.returns-in-R
returns-in-R c = right_side _ (cut _ _ c.next-piece.ensures) (omega arith) (omega arith)

pub returns-in_default : goal.returns-in_default
returns-in_default c = no_side _ (cut _ _ c.next-piece.ensures) λ o. absurd (omega arith)

pub returns-in_default-2 : goal.returns-in_default-2
returns-in_default-2 c = no_side _ (cut _ _ c.next-piece.ensures) λ o. (λ z. omega arith, λ z. omega arith)

pub returns-in_default-3 : goal.returns-in_default-3
returns-in_default-3 c = no_side _ (cut _ _ c.next-piece.ensures) λ o. absurd (omega arith)

-- The piece from an offset on, and its number.
use mathlib.Core.Path.{sym}
use native.Mathlib.Omega.{arith}
use Rattle.cursor.proofs.Spans.{cut}
use Rattle.text.proofs.Tokened.{piece-within}
use Rattle.reader.proofs.Fields.{none-fits, one-fits, field_missing, field-bad, field_over, field-number}
use Rattle.reader.proofs.stepping.read_field.Goals as goal

pub returns-then-text-at : goal.returns-then-text-at
returns-then-text-at c = field_missing _ _ c.if-text-at.true

pub slice_bounds-read_number-count : goal.slice_bounds-read_number-count
slice_bounds-read_number-count c =
    let w = piece-within c.args.text.now c.args.at (cut _ _ c.next-piece.ensures).end (omega arith) in omega arith

pub slice_bounds-read_number-start : goal.slice_bounds-read_number-start
slice_bounds-read_number-start c =
    let w = piece-within c.args.text.now c.args.at (cut _ _ c.next-piece.ensures).end (omega arith) in omega arith

pub slice_bounds-read_number-end : goal.slice_bounds-read_number-end
slice_bounds-read_number-end c =
    let w = piece-within c.args.text.now c.args.at (cut _ _ c.next-piece.ensures).end (omega arith) in omega arith

pub returns-in_err-n : goal.returns-in_err-n
returns-in_err-n c = rw c.from_residual.ensures (field-bad _ _ (cut _ _ c.next-piece.ensures) c.if-text-at.false (sym c.in_err-n.ensures))

pub returns-in_err-number : goal.returns-in_err-number
returns-in_err-number c =
    let over = none-fits _ c.try_from.ensures c.in_err-number.ensures.value in
    rw c.from_residual-in_err-number.ensures (field_over _ _ (cut _ _ c.next-piece.ensures) c.if-text-at.false (sym c.in_ok-n.ensures) over)

pub returns : goal.returns
returns c =
    let fits = one-fits _ c.try_from.ensures c.in_ok-number.ensures.value in
    rw fits.1 (field-number _ _ (cut _ _ c.next-piece.ensures) c.if-text-at.false (sym c.in_ok-n.ensures) fits.0)

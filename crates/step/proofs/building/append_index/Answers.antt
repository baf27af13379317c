-- The class decides which side is written, or that there is none.
use mathlib.Core.Logic.{inl, inr}
use Rattle.words.proofs.Runs.{appended, added_as}
use Rattle.step.proofs.Indices.{second-read, no_second, rows_read, columns_read, no_first}
use Rattle.step.proofs.building.append_index.Goals as goal

pub returns-in-Operator : goal.returns-in-Operator
returns-in-Operator c = λ bodies h. added_as (second-read _ bodies _ _ h _ c.class_of-class.ensures _ c.if-second.true c.in-Operator.is) c.append_side.ensures

pub returns-in_default : goal.returns-in_default
returns-in_default c = λ bodies h.
    added_as (no_second _ bodies _ _ h _ c.class_of-class.ensures _ c.if-second.true c.in_default.not-Operator) (appended c.append_word.ensures)

pub returns-in-Ket : goal.returns-in-Ket
returns-in-Ket c = λ bodies h.
    added_as (rows_read _ bodies _ _ h _ c.class_of-class.ensures _ c.if-second.false (inl c.in-Ket.is)) c.append_side-in-Ket.ensures

pub returns-in-Bra : goal.returns-in-Bra
returns-in-Bra c = λ bodies h.
    added_as (columns_read _ bodies _ _ h _ c.class_of-class.ensures _ c.if-second.false c.in-Bra.is) c.append_side-in-Bra.ensures

pub returns-in-Operator-class : goal.returns-in-Operator-class
returns-in-Operator-class c = λ bodies h.
    added_as (rows_read _ bodies _ _ h _ c.class_of-class.ensures _ c.if-second.false (inr c.in-Operator-class.is)) c.append_side-in-Operator-class.ensures

pub returns-in_default-class : goal.returns-in_default-class
returns-in_default-class c = λ bodies h.
    let n = c.in_default-class in
    added_as (no_first _ bodies _ _ h _ c.class_of-class.ensures _ c.if-second.false n.not-Ket n.not-Bra n.not-Operator) (appended c.append_word-in_default-class.ensures)

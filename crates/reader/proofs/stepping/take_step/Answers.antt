-- A step line: its side, and its numbers.
use Rattle.reader.proofs.Fields.{no_side_move, no_rule, no_place, no_i, no_j, too_many_fields, all_fields, no_room, no_step, a_step}
use Rattle.reader.proofs.stepping.take_step.Goals as goal

pub returns-then-k-eq-MOST_STEPS : goal.returns-then-k-eq-MOST_STEPS
returns-then-k-eq-MOST_STEPS c = no_room _ _ _ _ c.if-k-eq-MOST_STEPS.true c.refused.ensures

pub returns-in_default : goal.returns-in_default
returns-in_default c = no_step _ _ _ _ c.if-k-eq-MOST_STEPS.false (no_side_move c.in_default.ensures) c.refused-in_default.ensures

pub returns-in_default-read_field : goal.returns-in_default-read_field
returns-in_default-read_field c =
    no_step _ _ _ _ c.if-k-eq-MOST_STEPS.false (no_rule c.in-Some.ensures c.in_default-read_field.ensures) c.refused-in_default-read_field.ensures

pub returns-in_default-read_field-2 : goal.returns-in_default-read_field-2
returns-in_default-read_field-2 c =
    no_step _ _ _ _ c.if-k-eq-MOST_STEPS.false (no_place c.in-Some.ensures c.in-Some-read_field.ensures c.in_default-read_field-2.ensures)
    c.refused-in_default-read_field-2.ensures

pub returns-in_default-read_field-3 : goal.returns-in_default-read_field-3
returns-in_default-read_field-3 c =
    no_step _ _ _ _ c.if-k-eq-MOST_STEPS.false (no_i c.in-Some.ensures c.in-Some-read_field.ensures c.in-Some-read_field-2.ensures c.in_default-read_field-3.ensures)
    c.refused-in_default-read_field-3.ensures

pub returns-in_default-read_field-4 : goal.returns-in_default-read_field-4
returns-in_default-read_field-4 c =
    let none = no_j c.in-Some.ensures c.in-Some-read_field.ensures c.in-Some-read_field-2.ensures c.in-Some-read_field-3.ensures c.in_default-read_field-4.ensures in
    no_step _ _ _ _ c.if-k-eq-MOST_STEPS.false none c.refused-in_default-read_field-4.ensures

pub returns-then-j-text : goal.returns-then-j-text
returns-then-j-text c =
    let none = too_many_fields c.in-Some.ensures c.in-Some-read_field.ensures c.in-Some-read_field-2.ensures c.in-Some-read_field-3.ensures c.in-Some-read_field-4.ensures c.if-j-text.true in
    no_step _ _ _ _ c.if-k-eq-MOST_STEPS.false none c.refused-then-j-text.ensures

pub returns : goal.returns
returns c =
    let move = all_fields c.in-Some.ensures c.in-Some-read_field.ensures c.in-Some-read_field-2.ensures c.in-Some-read_field-3.ensures c.in-Some-read_field-4.ensures c.if-j-text.false in
    a_step _ _ _ _ c.if-k-eq-MOST_STEPS.false move c.put_step.ensures.1

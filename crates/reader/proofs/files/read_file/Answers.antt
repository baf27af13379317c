-- 1, then the reading, and zeros behind a fault.
use mathlib.Core.Path.{sym, ◌∙◌}
use Rattle.reader.proofs.Entered.{no_declarations, no_left, no_right, no_steps, done-fault, done-file}
use borrow.Author.Rules.{rules}
use Rattle.reader.proofs.files.read_file.Goals as goal

pub returns-in_default : goal.returns-in_default
returns-in_default c = no_declarations _ _ _ _ _ c.refused.ensures c.in_default.ensures.cases

pub returns-in_default-as_mut_array : goal.returns-in_default-as_mut_array
returns-in_default-as_mut_array c =
    let d = c.in-Some.ensures.cases in
    rw d.same (no_left _ _ _ _ _ c.refused-in_default-as_mut_array.ensures d.long c.in_default-as_mut_array.ensures.cases)

pub returns-in_default-as_mut_array-2 : goal.returns-in_default-as_mut_array-2
returns-in_default-as_mut_array-2 c =
    let d = c.in-Some.ensures.cases in
    let l = c.in-Some-as_mut_array.ensures.cases in
    rw (d.same, l.same) (no_right _ _ _ _ _ c.refused-in_default-as_mut_array-2.ensures d.long l.long c.in_default-as_mut_array-2.ensures.cases)

pub returns-in_default-as_mut_array-3 : goal.returns-in_default-as_mut_array-3
returns-in_default-as_mut_array-3 c =
    let d = c.in-Some.ensures.cases in
    let l = c.in-Some-as_mut_array.ensures.cases in
    let r = c.in-Some-as_mut_array-2.ensures.cases in
    rw (d.same, l.same, r.same) (no_steps _ _ _ _ _ c.refused-in_default-as_mut_array-3.ensures d.long l.long r.long c.in_default-as_mut_array-3.ensures.cases)

pub returns-then-is_err : goal.returns-then-is_err
returns-then-is_err c =
    let d = c.in-Some.ensures.cases in
    let l = c.in-Some-as_mut_array.ensures.cases in
    let r = c.in-Some-as_mut_array-2.ensures.cases in
    let m = c.in-Some-as_mut_array-3.ensures.cases in
    let err = sym c.is_err.ensures.value ∙ c.if-is_err.true in
    done-fault _ _ _ _ _ d.long l.long r.long m.long c.read_lines-read.ensures err (search rules) (search rules) (search rules) (search rules)
    c.clear_from.ensures c.clear_from-then-is_err.ensures c.clear_from-then-is_err-2.ensures c.clear_from-then-is_err-3.ensures

pub returns-else-is_err : goal.returns-else-is_err
returns-else-is_err c =
    let d = c.in-Some.ensures.cases in
    let l = c.in-Some-as_mut_array.ensures.cases in
    let r = c.in-Some-as_mut_array-2.ensures.cases in
    let m = c.in-Some-as_mut_array-3.ensures.cases in
    done-file _ _ _ _ _ d.long l.long r.long m.long c.read_lines-read.ensures (sym c.is_err.ensures.value ∙ c.if-is_err.false)

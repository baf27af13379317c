use mathlib.Core.Path.{◌∙◌}
use borrow.Author.Rules.{rules}
use Rattle.words.proofs.Runs.{added, added_both, added_as}
use Rattle.shapes.proofs.Steps.{ruled, product_inside, child-inside, side_index, side-product, side-bound, side-declared, side-child}
use Rattle.shapes.proofs.+append_side.Goals as goal

pub returns-in-Index : goal.returns-in-Index
returns-in-Index t c =
    added_as (side_index _ _ _ _ _ _ c.word_within-word.ensures (rw c.from-head.ensures at c.result_class.ensures) c.in-Index.is) c.append_part.ensures

pub child_at-second-requires : goal.child_at-second-requires
child_at-second-requires t c =
    let word = ruled c.args.view.ws.now c.args.budget c.args.from c.word_within-word.ensures (rw c.from-head.ensures at c.result_class.ensures) c.in_default.not-Index (rw c.from-head.ensures at c.rule_of-rule.ensures) in
    (product_inside word c.if-rule-ge4.true).1

pub overflow_add-from : goal.overflow_add-from
overflow_add-from t c =
    let word = ruled c.args.view.ws.now c.args.budget c.args.from c.word_within-word.ensures (rw c.from-head.ensures at c.result_class.ensures) c.in_default.not-Index (rw c.from-head.ensures at c.rule_of-rule.ensures) in
    let h = (product_inside word c.if-rule-ge4.true).1 in search rules

pub overflow_sub-budget : goal.overflow_sub-budget
overflow_sub-budget t c =
    let word = ruled c.args.view.ws.now c.args.budget c.args.from c.word_within-word.ensures (rw c.from-head.ensures at c.result_class.ensures) c.in_default.not-Index (rw c.from-head.ensures at c.rule_of-rule.ensures) in
    let h = (product_inside word c.if-rule-ge4.true).0 in search rules

pub append_side-mid-requires : goal.append_side-mid-requires
append_side-mid-requires t c =
    let word = ruled c.args.view.ws.now c.args.budget c.args.from c.word_within-word.ensures (rw c.from-head.ensures at c.result_class.ensures) c.in_default.not-Index (rw c.from-head.ensures at c.rule_of-rule.ensures) in
    let h = (product_inside word c.if-rule-ge4.true).0 in search rules

pub overflow_sub-budget-then-rule-ge4 : goal.overflow_sub-budget-then-rule-ge4
overflow_sub-budget-then-rule-ge4 t c =
    let word = ruled c.args.view.ws.now c.args.budget c.args.from c.word_within-word.ensures (rw c.from-head.ensures at c.result_class.ensures) c.in_default.not-Index (rw c.from-head.ensures at c.rule_of-rule.ensures) in
    let h = (product_inside word c.if-rule-ge4.true).0 in search rules

pub append_side-requires : goal.append_side-requires
append_side-requires t c =
    let word = ruled c.args.view.ws.now c.args.budget c.args.from c.word_within-word.ensures (rw c.from-head.ensures at c.result_class.ensures) c.in_default.not-Index (rw c.from-head.ensures at c.rule_of-rule.ensures) in
    let h = (product_inside word c.if-rule-ge4.true).0 in search rules

pub returns-then-rule-ge4 : goal.returns-then-rule-ge4
returns-then-rule-ge4 t c =
    let word = ruled c.args.view.ws.now c.args.budget c.args.from c.word_within-word.ensures (rw c.from-head.ensures at c.result_class.ensures) c.in_default.not-Index (rw c.from-head.ensures at c.rule_of-rule.ensures) in
    let e = c.append_word-first.ensures in
    added_as (side-product _ _ _ _ _ _ word c.if-rule-ge4.true c.child_at-second.ensures)
    (added_both (added _ _ _ _ _ e.0 e.1) (added_both c.append_side-mid.ensures c.append_side.ensures))

pub returns-then-head-eq28 : goal.returns-then-head-eq28
returns-then-head-eq28 t c =
    let word = ruled c.args.view.ws.now c.args.budget c.args.from c.word_within-word.ensures (rw c.from-head.ensures at c.result_class.ensures) c.in_default.not-Index (rw c.from-head.ensures at c.rule_of-rule.ensures) in
    added_as (side-bound _ _ _ _ _ _ word c.if-rule-ge4.false c.digit_of-whose.ensures c.if-whose-eq0.true (rw c.from-head.ensures at c.if-head-eq28.true)) (rw c.from.ensures at c.append_bound.ensures)

pub returns-then-whose-eq0 : goal.returns-then-whose-eq0
returns-then-whose-eq0 t c =
    let word = ruled c.args.view.ws.now c.args.budget c.args.from c.word_within-word.ensures (rw c.from-head.ensures at c.result_class.ensures) c.in_default.not-Index (rw c.from-head.ensures at c.rule_of-rule.ensures) in
    let e = c.append.ensures in
    added_as (c.declared_index.ensures ∙ side-declared _ _ _ _ _ _ word c.if-rule-ge4.false c.digit_of-whose.ensures c.if-whose-eq0.true (rw c.from-head.ensures at c.if-head-eq28.false))
    (added _ _ _ _ _ e.0 e.1)

pub child_at-child-requires : goal.child_at-child-requires
child_at-child-requires t c =
    let word = ruled c.args.view.ws.now c.args.budget c.args.from c.word_within-word.ensures (rw c.from-head.ensures at c.result_class.ensures) c.in_default.not-Index (rw c.from-head.ensures at c.rule_of-rule.ensures) in
    (child-inside word _ c.digit_of-whose.ensures c.if-whose-eq0.false).1

pub overflow_sub-budget-2 : goal.overflow_sub-budget-2
overflow_sub-budget-2 t c =
    let word = ruled c.args.view.ws.now c.args.budget c.args.from c.word_within-word.ensures (rw c.from-head.ensures at c.result_class.ensures) c.in_default.not-Index (rw c.from-head.ensures at c.rule_of-rule.ensures) in
    let h = (child-inside word _ c.digit_of-whose.ensures c.if-whose-eq0.false).0 in search rules

pub append_side-requires-2 : goal.append_side-requires-2
append_side-requires-2 t c =
    let word = ruled c.args.view.ws.now c.args.budget c.args.from c.word_within-word.ensures (rw c.from-head.ensures at c.result_class.ensures) c.in_default.not-Index (rw c.from-head.ensures at c.rule_of-rule.ensures) in
    let h = (child-inside word _ c.digit_of-whose.ensures c.if-whose-eq0.false).0 in search rules

pub returns : goal.returns
returns t c =
    let word = ruled c.args.view.ws.now c.args.budget c.args.from c.word_within-word.ensures (rw c.from-head.ensures at c.result_class.ensures) c.in_default.not-Index (rw c.from-head.ensures at c.rule_of-rule.ensures) in
    added_as (side-child _ _ _ _ _ _ word c.if-rule-ge4.false c.digit_of-whose.ensures c.if-whose-eq0.false c.child_at-child.ensures) (rw c.side_of.ensures at c.append_side-2.ensures)

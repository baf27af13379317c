-- The tests in their order; what each finds, the equation of a step says.
use Rattle.families.proofs.Lines.{Ruled, ruled}
use Rattle.step.proofs.Stepped.{site, made_20, made_21, made_22, fine, finished}
use borrow.Author.Rules.{rules}
use Rattle.step.proofs.stepping.make.Goals as goal

pub returns-in-NoRule : goal.returns-in-NoRule
returns-in-NoRule c = λ x. made_20 x _ _ (search rules) _ c.row_of-row.ensures c.in-NoRule.is

pub returns-then-term-place : goal.returns-then-term-place
returns-then-term-place c =
    let rule : Ruled c.row_of-row.result c.args.s.rule = ruled _ _ c.row_of-row.ensures c.in_default.not-NoRule in
    λ x. made_21 x _ _ (search rules) rule c.if-term-place.true

pub rewrite_part-requires : goal.rewrite_part-requires
rewrite_part-requires c = (site c.requires _ c.if-term-place.false, c.if-term-place.false, c.row_of-row.ensures)

pub returns-in_err-made : goal.returns-in_err-made
returns-in_err-made c =
    let rule : Ruled c.row_of-row.result c.args.s.rule = ruled _ _ c.row_of-row.ensures c.in_default.not-NoRule in
    λ x. made_22 x _ rule c.if-term-place.false _ (search rules) _ _ c.from_residual.result c.from_residual.ensures.1 c.in_err-made.ensures.0

pub finish-requires : goal.finish-requires
finish-requires c =
    let rule : Ruled c.row_of-row.result c.args.s.rule = ruled _ _ c.row_of-row.ensures c.in_default.not-NoRule in
    let made = c.in_ok-made.ensures in
    (fine c.requires _ rule c.if-term-place.false _ (search rules) _ _ made.0 made.1).fresh

pub returns : goal.returns
returns c =
    let rule : Ruled c.row_of-row.result c.args.s.rule = ruled _ _ c.row_of-row.ensures c.in_default.not-NoRule in
    λ x.
    let made = c.in_ok-made.ensures in
    let f = fine x _ rule c.if-term-place.false _ (search rules) _ _ made.0 made.1 in
    finished x _ rule c.if-term-place.false _ (search rules) _ _ made.0 made.1 f (c.finish.ensures f.fresh)

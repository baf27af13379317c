-- What the plan says is laid on the stack.
use Rattle.typing.proofs.Concluding.{rejects, laying, concludes}
use borrow.Author.Rules.{rules}
use Rattle.typing.proofs.rules.conclude.Goals as goal

pub plan-requires : goal.plan-requires
plan-requires c = let h = c.requires in (c.rule_of-rule.ensures, search rules)

pub returns-in_err-p : goal.returns-in_err-p
returns-in_err-p c = rw c.from_residual.ensures (rejects _ _ c.requires (rw c.rule_of-rule.ensures at c.meets.ensures) c.in_err-p.ensures)

pub lay-requires : goal.lay-requires
lay-requires c = laying _ _ c.requires (rw c.rule_of-rule.ensures at c.meets.ensures) c.in_ok-p.ensures

pub returns : goal.returns
returns c = concludes _ _ c.requires (rw c.rule_of-rule.ensures at c.meets.ensures) c.in_ok-p.ensures c.lay.ensures

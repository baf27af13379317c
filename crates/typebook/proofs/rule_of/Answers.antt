-- Each arm has the definition's line, and a number past them is no head's.
use mathlib.Core.Path.{sym}
use lib.ListN.{get_or-eq_default}
use Rattle.words.proofs.Listed.{Others, others_from}
use Rattle.typebook.specs.Code.Lines.{rules, rule_at}
use Rattle.typebook.proofs.rule_of.Goals as goal

pub returns-in_default : goal.returns-in_default
unfolding Others rule_at rules
returns-in_default c = sym (get_or-eq_default rules 0 (others_from 28 c.args.head c.in_default.in_default-own.rest))

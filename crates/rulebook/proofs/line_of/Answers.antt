-- The code's lines are the definition's, computed for all 192 numbers, and no rule has a number past them.
use mathlib.Core.Path.{sym}
use Rattle.words.specs.Listed.{up_to}
use Rattle.words.proofs.Listed.{up_to-read}
use Rattle.term.specs.Heads.{word}
use Rattle.rules.specs.Table.{rule_of}
use Rattle.rulebook.specs.Code.Rows.{grouped, start_among, row_of, row_line}
use Rattle.rulebook.proofs.Rows.{line-past}
use Rattle.rulebook.proofs.line_of.Goals as goal

pub returns-then-rule-lt192 : goal.returns-then-rule-lt192
unfolding up_to row_line row_of rule_of start_among grouped word
returns-then-rule-lt192 c = up_to-read 192 (λ k. row_line (row_of k)) 0 c.args.rule c.if-rule-lt192.true

pub returns : goal.returns
returns c = sym (line-past _ c.if-rule-lt192.false)

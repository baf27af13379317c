-- Each arm has the definition's line, and a number past them is no head's.
use mathlib.Core.Path.{sym}
use Rattle.words.proofs.Listed.{Others, others_from}
use Rattle.term.proofs.Lines.{line-past}
use Rattle.term.proofs.heads.line_of.Goals as goal

pub returns-in_default : goal.returns-in_default
unfolding Others
returns-in_default c = sym (line-past _ (others_from 29 c.args.head c.in_default.in_default-own.rest))

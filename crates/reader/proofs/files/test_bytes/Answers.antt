-- 2, then 3.
use mathlib.Core.Path.{sym, ◌∙◌}
use Rattle.reader.proofs.Entered.{too_long, bad_byte}
use Rattle.reader.proofs.files.test_bytes.Goals as goal

pub returns-then-bytes-gt65536 : goal.returns-then-bytes-gt65536
returns-then-bytes-gt65536 c = too_long _ c.refused.ensures c.if-bytes-gt65536.true

pub returns-in-Some : goal.returns-in-Some
returns-in-Some c = bad_byte _ c.if-bytes-gt65536.false (sym c.bad_line.ensures ∙ c.in-Some.is) c.refused-in-Some.ensures

pub returns-in-None : goal.returns-in-None
returns-in-None c = (c.if-bytes-gt65536.false, sym c.bad_line.ensures ∙ c.in-None.is)

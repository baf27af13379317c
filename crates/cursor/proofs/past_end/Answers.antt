-- A place behind the text stays.
use borrow.Author.Tests.{le-leb, lt-leb}
use Rattle.cursor.specs.Reading.{past}
use Rattle.cursor.proofs.past_end.Goals as goal

pub returns-then-bytes-end : goal.returns-then-bytes-end
unfolding past
returns-then-bytes-end c = rw (lt-leb _ _ c.if-bytes-end.true)

pub returns : goal.returns
unfolding past
returns c = rw (le-leb _ _ c.if-bytes-end.false)

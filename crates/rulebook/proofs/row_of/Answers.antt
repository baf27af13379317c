-- A row is told by the digits of its line.
use Rattle.rulebook.proofs.Rows.{row_in_lem}
use Rattle.rulebook.proofs.row_of.Goals as goal

pub returns : goal.returns
returns c = rw (c.family_of.ensures, c.line_of-line.ensures) (row_in_lem _)

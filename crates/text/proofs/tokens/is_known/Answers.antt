-- A word is known where it wants a number of children.
use Rattle.text.proofs.Tokened.{known_is}
use Rattle.text.proofs.tokens.is_known.Goals as goal

pub returns : goal.returns
returns c = rw (c.is_some.ensures, c.arity_of.ensures, known_is)

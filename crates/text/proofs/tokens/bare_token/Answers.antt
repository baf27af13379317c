-- A head that is known with a part must have one.
use Rattle.text.specs.Numbers.{told}
use Rattle.text.proofs.Tokened.{found-known, bare_carrying, bare_other}
use Rattle.text.proofs.tokens.bare_token.Goals as goal

pub returns-then-is_known : goal.returns-then-is_known
unfolding told
returns-then-is_known c = rw (bare_carrying _ (found-known c.is_known.ensures c.word_of.ensures c.if-is_known.true))

pub returns : goal.returns
unfolding told
returns c = rw (bare_other _ (found-known c.is_known.ensures c.word_of.ensures c.if-is_known.false), c.word_of-2.ensures)

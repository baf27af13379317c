-- No words, or a space and tokens.
use native.Mathlib.Omega.{arith}
use Rattle.words.proofs.Runs.{to_end}
use Rattle.reader.proofs.Behind.{behind-none, behind_unspaced, behind-tokens}
use Rattle.reader.proofs.declaring.read_words_behind.Goals as goal

pub returns-in-empty : goal.returns-in-empty
returns-in-empty c = behind-none _ _ (omega arith)

pub returns-in-32 : goal.returns-in-32
returns-in-32 c = rw (behind-tokens c.args.text.now (omega arith) (omega arith)) (rw (to_end c.args.text.now 1) at c.read_words.ensures)

pub returns-in_default : goal.returns-in_default
returns-in_default c = behind_unspaced _ _ (omega arith) (λ z. omega arith) c.refused.ensures

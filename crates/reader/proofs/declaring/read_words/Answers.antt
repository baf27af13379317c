-- The tokens, and whether there is room for them.
use mathlib.Core.Path.{sym, ◌∙◌, ap}
use native.Mathlib.Omega.{arith}
use lib.ListN.{length}
use Rattle.format.proofs.Padded.{stored-size}
use Rattle.reader.proofs.Behind.{no_words, words_over, words_few}
use Rattle.reader.proofs.declaring.read_words.Goals as goal

pub returns-in_default : goal.returns-in_default
returns-in_default c = let read = c.read_tokens.ensures in no_words _ _ read.1 (sym read.0 ∙ c.in_default.is) c.refused.ensures

pub returns-then-out-n : goal.returns-then-out-n
returns-then-out-n c =
    let read = c.read_tokens.ensures in
    let kept = ap length read.1 ∙ stored-size _ _ _ in
    words_over _ _ read.1 (sym read.0 ∙ c.in-Some.is) (omega arith) c.refused-then-out-n.ensures

pub returns : goal.returns
returns c =
    let read = c.read_tokens.ensures in
    let kept = ap length read.1 ∙ stored-size _ _ _ in words_few _ _ read.1 (sym read.0 ∙ c.in-Some.is) (omega arith)

-- What is left of the words is copied; past them there is nothing to copy.
use mathlib.Core.Path.{◌∙◌, ap}
use Rattle.words.specs.Words.{overlaid}
use Rattle.words.proofs.Runs.{to_end}
use Rattle.rulebook.proofs.Copied.{none_left}
use Rattle.rulebook.proofs.copy_behind.Goals as goal

pub returns-then-from-words : goal.returns-then-from-words
returns-then-from-words c =
    let args = c.args in
    c.copy_words.ensures.1 ∙ ap (overlaid _) (to_end args.words.now args.from)

pub returns-else-from-words : goal.returns-else-from-words
returns-else-from-words c = none_left _ _ _ c.if-from-words.false

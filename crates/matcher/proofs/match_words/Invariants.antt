-- The invariant: to match all the words is to match those that are left, from where the walk stands.
use Rattle.matcher.specs.Matching.{Standing}
use Rattle.matcher.proofs.Walks.{Asked}
use Rattle.matcher.proofs.match_words.Given as goal

abbrev pub invariant-loop-word : goal.invariant-loop-word
invariant-loop-word l = record { standing : Standing l.ws l.found; asked : Asked l.side l.ws l.found l.word-index }

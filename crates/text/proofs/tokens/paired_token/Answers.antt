-- A head that is known with a part, or a word that is not known.
use Rattle.text.specs.Numbers.{told}
use Rattle.text.proofs.Tokened.{found-known, pair_carrying, pair-known, pair-unknown}
use Rattle.text.proofs.tokens.paired_token.Goals as goal
use Rattle.text.proofs.tokens.paired_token.Goals.{then-is_known-via-then-is_known, then-is_known-via-else-is_known+then-not-is_known}

pub returns-then-is_known : goal.returns-then-is_known
unfolding told
returns-then-is_known c =
    let word = c.word_of-word.ensures in
    elim c.then-is_known.branch [
      | then-is_known-via-then-is_known w ↦ rw (pair_carrying _ _ (found-known c.is_known.ensures c.word_of.ensures w.if-is_known.true), word)
      | then-is_known-via-else-is_known+then-not-is_known w ↦
          let bare = found-known c.is_known.ensures c.word_of.ensures w.if-is_known.false in
          rw (pair-unknown _ _ bare (found-known w.is_known-else-is_known.ensures word w.if-not-is_known.true), word)
    ]

pub returns : goal.returns
unfolding told
returns c =
    let bare = found-known c.is_known.ensures c.word_of.ensures c.if-is_known.false in
    rw (pair-known _ _ bare (found-known c.is_known-else-is_known.ensures c.word_of-word.ensures c.if-not-is_known.false))

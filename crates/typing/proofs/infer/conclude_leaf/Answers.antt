-- A bound basis has the index of its sum, a type name's own word is its index; of any other name the declarations have the words.
use mathlib.Core.List.{[]}
use Rattle.typing.proofs.Putting.{entry-holds, leaf_put, word-none, word-put, bound-put}
use Rattle.typing.proofs.Lying.{answers_none}
use Rattle.typing.proofs.infer.conclude_leaf.Goals as goal

pub put_bound-requires : goal.put_bound-requires
put_bound-requires c = let h = c.requires in (h.1, h.0.long, (_, h.0.held))

pub returns-then-word-eq28 : goal.returns-then-word-eq28
returns-then-word-eq28 c x = bound-put _ x.trees _ c.if-word-eq28.true (rw c.from.ensures at (c.put_bound.ensures _ x))

pub returns-then-word_at-word : goal.returns-then-word_at-word
returns-then-word_at-word c x = word-none _ x.trees _ _ _ c.if-word-eq1.true (rw c.word_at.ensures at c.if-word_at-word.true)

pub returns-then-word-eq1 : goal.returns-then-word-eq1
returns-then-word-eq1 c x = word-put _ x.trees _ _ _ c.if-word-eq1.true (rw c.word_at.ensures at c.if-word_at-word.false) c.requires.1

pub returns-in_err-e : goal.returns-in_err-e
returns-in_err-e c x = rw c.from_residual.ensures (answers_none (rw (← c.in_err-e.ensures) at (entry-holds _ x.trees c.args.word c.requires.0.good c.if-word-eq1.false c.if-word-eq28.false)))

pub put_both-requires : goal.put_both-requires
put_both-requires c =
    let h = c.requires in
    let t = (rw (← c.in_ok-e.ensures) at (entry-holds _ [] c.args.word h.0.good c.if-word-eq1.false c.if-word-eq28.false)).two in
    (t.0, t.1, t.2, t.3, h.1)

pub returns : goal.returns
returns c x =
    let h = c.requires in
    leaf_put _ c.in_ok-e.e (rw (← c.in_ok-e.ensures) at (entry-holds _ x.trees c.args.word h.0.good c.if-word-eq1.false c.if-word-eq28.false)) h.1 c.put_both.ensures

-- Runs of other lengths differ, and two of one length are the same where all their words are.
use mathlib.Core.Path.{sym, ◌∙◌}
use native.Mathlib.Omega.{arith}
use borrow.Author.Rules.{rules}
use lib.Seq.{take_all}
use Rattle.words.specs.Words.{same_words}
use Rattle.words.proofs.Runs.{same-lengths, same_more}
use Rattle.words.proofs.same.Goals as goal

pub returns-then-a-b : goal.returns-then-a-b
returns-then-a-b c = sym (same-lengths _ _ c.if-a-b.true)

pub loop-i-init : goal.loop-i-init
unfolding same_words
loop-i-init c = search rules

pub loop-i-preserved : goal.loop-i-preserved
loop-i-preserved c = rw c.loop-i.invariant (same_more c.args.a.now c.args.b.now c.loop-i.i (omega arith) (omega arith))

pub returns : goal.returns
returns c = let a = c.args in let i = c.loop-i.i in c.loop-i.invariant ∙ rw (take_all i a.a.now (omega arith), take_all i a.b.now (omega arith))

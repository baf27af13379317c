use mathlib.Core.Path.{sym, ◌∙◌}
use native.Mathlib.Omega.{arith}
use Rattle.families.proofs.Split.{some_word}
use Rattle.families.proofs.Walk.{read_first, walked_none, walked-past, walked_more, walked_here}
use Rattle.families.proofs.Whole.{whole}
use Rattle.families.proofs.children.Part.child.Goals as goal

pub bounds-self-0 : goal.bounds-self-0
bounds-self-0 c = some_word (whole c.args.self.whole)

pub returns-in_err-n : goal.returns-in_err-n
returns-in_err-n c = absurd (read_first (whole c.args.self.whole) (sym c.arity_of.ensures ∙ c.in_err-n.was))

pub returns-then-n-i : goal.returns-then-n-i
returns-then-n-i c = walked-past _ (whole c.args.self.whole) (sym c.arity_of.ensures ∙ c.in_ok-n.was) c.if-n-i.true

pub loop-init : goal.loop-init
loop-init c = walked_none _ (whole c.args.self.whole) (sym c.arity_of.ensures ∙ c.in_ok-n.was)

pub loop-preserved : goal.loop-preserved
loop-preserved c = walked_more c.loop.invariant (omega arith) (omega arith) c.part_end-start.ensures

pub returns : goal.returns
returns c = walked_here c.loop.invariant (omega arith) (omega arith) c.part_end-end.ensures

use mathlib.Core.Path.{◌∙◌}
use native.Mathlib.Omega.{arith}
use borrow.Author.Rules.{rules}
use Rattle.typing.proofs.Binding.{link_start, link_more, link_end}
use Rattle.typing.proofs.bodies.record_at.Goals as goal

pub loop-init : goal.loop-init
loop-init c = (omega arith, link_start _ _ _)

pub loop-preserved : goal.loop-preserved
loop-preserved c = (search rules, link_more _ _ _ _ c.loop-test.true c.loop.invariant.1 (c.from-at.ensures ∙ c.word_at.ensures))

pub returns : goal.returns
returns c = link_end _ _ _ _ c.loop-test.false c.loop.invariant.1

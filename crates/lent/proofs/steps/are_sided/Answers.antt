use mathlib.Core.Path.{◌∙◌}
use native.Mathlib.Omega.{arith}
use borrow.Author.Rules.{rules}
use Rattle.std.proofs.lemmas.Iterator.{YieldsList-from_range}
use Rattle.std.proofs.lemmas.Iterator.Search.{all_from_yields_List}
use Rattle.declarations.proofs.UpTo.{in_range}
use Rattle.lent.specs.Lent.{sided}
use Rattle.lent.proofs.steps.are_sided.Goals as goal

pub returns : goal.returns
unfolding sided
returns c =
    all_from_yields_List (sided c.args.steps.now) _ _ _ c.all.ensures.ran (YieldsList-from_range 0 c.args.n c.args.n (cc) (omega arith)) (λ x b q k. search rules)
    ∙ in_range _ _

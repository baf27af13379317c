use mathlib.Core.Path.{◌≡◌, refl, ◌∙◌}
use Prim.Native.Nat.{◌+◌, max}
use native.Mathlib.Omega.{arith}
use Rattle.std.proofs.Common.{rules}
use Rattle.term.specs.Code.Deepest.{deepest_in}
use Rattle.term.proofs.Levels.{level-few, deepest_more}
use Rattle.term.proofs.parts.deepest_of.Goals as goal

pub loop-k-init : goal.loop-k-init
unfolding deepest_in
loop-k-init c = refl

pub overflow_add-level_at : goal.overflow_add-level_at
overflow_add-level_at c = omega (arith, level-few c.args.part.now c.loop-k.k, c.level_at.ensures)

pub loop-k-preserved : goal.loop-k-preserved
loop-k-preserved c =
    let deeper : c.max-deepest.result ≡ max c.loop-k.deepest (c.level_at.result + 1) = search rules in
    deeper ∙ deepest_more _ _ _ _ c.loop-k.invariant c.level_at.ensures

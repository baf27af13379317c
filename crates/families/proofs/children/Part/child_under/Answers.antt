-- The part has a first word, and a child lies in the part's words.
use mathlib.Core.Path.{sym, ◌∙◌}
use native.Mathlib.Omega.{arith}
use Rattle.families.proofs.Split.{some_word, split, child-bounds}
use Rattle.families.proofs.Whole.{whole}
use Rattle.families.proofs.children.Part.child_under.Goals as goal

pub bounds-self-0 : goal.bounds-self-0
bounds-self-0 c = some_word (whole c.args.self.whole)

pub offset_bounds-self-c : goal.offset_bounds-self-c
offset_bounds-self-c c = omega (arith, child-bounds (split (whole c.args.self.whole) (sym c.in_ok-c.was ∙ c.child.ensures)))

pub bounds-self-c : goal.bounds-self-c
bounds-self-c c = omega (arith, child-bounds (split (whole c.args.self.whole) (sym c.in_ok-c.was ∙ c.child.ensures)))

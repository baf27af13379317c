-- The child is the one that the row names.
use mathlib.Core.Path.{sym, ◌∙◌}
use Rattle.families.proofs.Written.{refuses}
use Rattle.families.proofs.Dispatched.{spreads-any, spreads-none, spreads-fixed, result-small}
use Rattle.families.proofs.spread_by.Goals as goal

pub spread-requires : goal.spread-requires
spread-requires c = result-small c.requires.1

pub returns-then-which-eq-CHILD_I : goal.returns-then-which-eq-CHILD_I
returns-then-which-eq-CHILD_I c = λ rule x. spreads-any _ _ _ _ _ x (sym c.from-which.ensures ∙ c.if-which-eq-CHILD_I.true) c.spread.ensures

pub returns-then-i-ne0 : goal.returns-then-i-ne0
returns-then-i-ne0 c = λ rule x Γ. refuses _ (spreads-none Γ _ _ x (rw c.from-which.ensures at c.if-which-eq-CHILD_I.false) c.if-i-ne0.true)

pub spread-requires-2 : goal.spread-requires-2
spread-requires-2 c = result-small c.requires.1

pub returns : goal.returns
returns c = λ rule x. spreads-fixed _ _ _ _ _ x (rw c.from-which.ensures at c.if-which-eq-CHILD_I.false) c.if-i-ne0.false (rw c.from-which.ensures at c.spread-2.ensures)

-- One of the two spreadings, or none where an index is used.
use Rattle.families.proofs.Written.{refuses}
use Rattle.families.proofs.Distributed.{unusable, distributes-first, distributes-second, refused_otherwise}
use Rattle.families.proofs.distribute.Goals as goal

pub returns-then-i-ne0 : goal.returns-then-i-ne0
returns-then-i-ne0 c = λ Γ. refuses _ (unusable Γ _ _ c.if-i-ne0.true)

pub returns-in-Ok : goal.returns-in-Ok
returns-in-Ok c = distributes-first _ _ _ c.if-i-ne0.false _ _ c.in-Ok.ensures (λ z. cc)

pub returns-in-NoInstance : goal.returns-in-NoInstance
returns-in-NoInstance c = distributes-second _ _ _ c.if-i-ne0.false _ _ _ (rw c.in-NoInstance.is at c.in-Err.ensures) c.spread-in-NoInstance.ensures

pub returns-in_default : goal.returns-in_default
returns-in_default c = distributes-first _ _ _ c.if-i-ne0.false _ _ c.in-Err.ensures (refused_otherwise _ c.in_default.not-NoInstance)

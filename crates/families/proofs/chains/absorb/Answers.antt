-- The child is found or the part is refused, and the result is the word of 0.
use Rattle.words.proofs.Runs.{appended, added_as}
use Rattle.families.proofs.Written.{refuses_none, writes}
use Rattle.families.proofs.Absorbed.{absorbs-none, absorbs-child, zero-few, zero-words}
use Rattle.families.proofs.Whole.{whole}
use Rattle.families.proofs.chains.absorb.Goals as goal

pub returns-in_err-ok_or : goal.returns-in_err-ok_or
returns-in_err-ok_or c = λ Γ.
    let none = c.in_err-ok_or.ensures in
    refuses_none _ c.child_under.result c.from_residual.result (absorbs-none Γ (whole c.args.part.whole) (rw none.ok_part at c.child_under.ensures)) none.value c.from_residual.ensures.1

pub returns : goal.returns
returns c = λ Γ.
    let zero = absorbs-child Γ (whole c.args.part.whole) (rw c.in_ok-ok_or.ensures.ok_part at c.child_under.ensures) in
    writes _ _ zero zero-few (added_as zero-words (appended c.append_word.ensures))

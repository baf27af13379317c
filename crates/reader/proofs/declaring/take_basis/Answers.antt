-- There is room, the tokens are of the form, and what is put fits.
use borrow.Author.Rules.{rules}
use Rattle.reader.proofs.Named.{Told, wrong-line, passed_on, bases-full, basis_unread, basis_read}
use Rattle.reader.proofs.declaring.take_basis.Goals as goal

pub returns-then-ds-eq32 : goal.returns-then-ds-eq32
returns-then-ds-eq32 c = λ f s v e. wrong-line c.refused.ensures (bases-full f s e _ c.if-ds-eq32.true)

pub returns-in_err-n : goal.returns-in_err-n
returns-in_err-n c = λ f s v e. rw (passed_on c.from_residual.ensures) (basis_unread f s e _ c.if-ds-eq32.false c.in_err-n.ensures (search rules))

pub returns : goal.returns
returns c =
    let put = c.put_basis.ensures in
    let told : Told c.put_basis.result c.args.line c.map_err.result = search rules in
    λ f s v e. basis_read f s e _ c.if-ds-eq32.false c.in_ok-n.ensures v put.value put.ds_after told

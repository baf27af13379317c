-- There is room, the letter and the tokens are of the form, and what is put fits.
use borrow.Author.Rules.{rules}
use Rattle.reader.proofs.Named.{Told, wrong-line, passed_on, variables-full, letterless, kindless, variable_unread, variable_read}
use Rattle.reader.proofs.declaring.take_variable.Goals as goal

pub returns-then-ds-eq32 : goal.returns-then-ds-eq32
returns-then-ds-eq32 c = λ f s e. wrong-line c.refused.ensures (variables-full f s e _ c.if-ds-eq32.true)

pub returns-in_default : goal.returns-in_default
returns-in_default c = λ f s e. wrong-line c.refused-in_default.ensures (letterless f s e _ c.if-ds-eq32.false c.in_default.ensures.cases)

pub returns-in_default-kind_of : goal.returns-in_default-kind_of
returns-in_default-kind_of c =
    λ f s e. wrong-line c.refused-in_default-kind_of.ensures (kindless f s e _ c.if-ds-eq32.false c.in-Some.ensures.cases.0 c.in_default-kind_of.ensures)

pub returns-in_err-n : goal.returns-in_err-n
returns-in_err-n c =
    λ f s e. rw (passed_on c.from_residual.ensures)
    (variable_unread f s e _ c.if-ds-eq32.false c.in-Some.ensures.cases.0 _ c.in-Some-kind_of.ensures c.in_err-n.ensures (search rules))

pub returns : goal.returns
returns c =
    let put = c.put_words.ensures in
    let told : Told c.put_words.result c.args.line c.map_err.result = search rules in
    λ f s e. variable_read f s e _ c.if-ds-eq32.false c.in-Some.ensures.cases.0 _ c.in-Some-kind_of.ensures c.in_ok-n.ensures put.value put.ds_after told

-- Each answer is that of the first test that fails, or what the words are found to be.
use mathlib.Core.Path.{sym, ◌∙◌}
use native.Mathlib.Omega.{arith}
use lib.Seq.{length-take-le}
use Rattle.term.proofs.TermTest.{term-past}
use Rattle.typing.proofs.Answering.{wrong_size, bad_declarations, no_term}
use Rattle.typing.proofs.Deciding.{within}
use Rattle.typing.proofs.terms.type_term.Goals as goal

pub returns-then-ws-ne4096 : goal.returns-then-ws-ne4096
returns-then-ws-ne4096 c = c.refused_with.ensures ∙ sym (wrong_size _ _ _ c.if-ws-ne4096.true)

pub returns-then-not-are_good : goal.returns-then-not-are_good
returns-then-not-are_good c = c.refused_with-then-not-are_good.ensures ∙ sym (bad_declarations _ _ _ c.if-ws-ne4096.false (sym c.are_good.ensures ∙ c.if-not-are_good.true))

pub returns-then-n-gt4096 : goal.returns-then-n-gt4096
returns-then-n-gt4096 c = c.refused_with-then-n-gt4096.ensures ∙ sym (no_term _ _ _ c.if-ws-ne4096.false (sym c.are_good.ensures ∙ c.if-not-are_good.false) (term-past _ _ _ (omega arith)))

pub slice_bounds-typed_in-end : goal.slice_bounds-typed_in-end
slice_bounds-typed_in-end c = sym (length-take-le _ _ (omega arith))

pub typed_in-requires : goal.typed_in-requires
typed_in-requires c =
    let args = c.args in
    rw (length-take-le args.n args.ws.now (omega arith)) (sym c.are_good.ensures ∙ c.if-not-are_good.false, omega arith)

pub returns : goal.returns
returns c = c.typed_in.ensures ∙ within _ _ _ c.if-ws-ne4096.false (sym c.are_good.ensures ∙ c.if-not-are_good.false) (omega arith)

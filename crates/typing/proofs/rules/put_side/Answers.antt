-- One run behind the other.
use mathlib.Core.Logic.{inl, inr}
use Rattle.typing.proofs.Concluding.{added-run, put-plain, put-product}
use Rattle.typing.proofs.rules.put_side.Goals as goal
use Rattle.typing.proofs.rules.put_side.Goals.{else-product-via-then-product+else-p-ne0, else-product-via-else-product}

pub returns-then-p-ne0 : goal.returns-then-p-ne0
returns-then-p-ne0 c =
    let args = c.args in
    put-product args.stack.now args.p args.q c.if-product.true c.if-p-ne0.true c.requires.1 c.requires.0 (added-run c.of.ensures c.append-end.ensures)
    (added-run c.of-then-p-ne0.ensures c.append.ensures)

pub returns : goal.returns
returns c =
    let args = c.args in
    put-plain args.stack.now args.p args.q (elim c.else-product.branch [ else-product-via-then-product+else-p-ne0 w ↦ inr w.if-p-ne0.false | else-product-via-else-product w ↦ inl w.if-product.false ])
    (added-run c.of-2.ensures c.append-2.ensures)

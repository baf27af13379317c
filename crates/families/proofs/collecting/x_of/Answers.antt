-- Each answer is what its tests say.
use lib.ListN.{get_or}
use borrow.Author.Tests.{eq-eqb, ne_eqb}
use Rattle.families.proofs.collecting.x_of.Goals as goal

pub returns-then-not-scaled : goal.returns-then-not-scaled
returns-then-not-scaled c = rw c.if-not-scaled.true

pub returns-then-ws-start-ne-SCALING : goal.returns-then-ws-start-ne-SCALING
returns-then-ws-start-ne-SCALING c =
    let args = c.args in
    rw (c.if-not-scaled.false, ne_eqb (get_or args.ws.now args.start 0) 4864 c.if-ws-start-ne-SCALING.true)

pub returns : goal.returns
returns c =
    let args = c.args in
    rw (c.if-not-scaled.false, eq-eqb (get_or args.ws.now args.start 0) 4864 c.if-ws-start-ne-SCALING.false, c.part_end.ensures)

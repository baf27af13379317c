-- One run behind the other.
use Rattle.typing.proofs.Putting.{both-put}
use Rattle.typing.proofs.lookup.put_both.Goals as goal

pub returns : goal.returns
returns c =
    let args = c.args in
    let h = c.requires in
    both-put args.ds.now args.left args.right (h.0, h.1, h.2, h.3) args.top args.stack.now h.4 c.of.ensures c.of-2.ensures c.append-end.ensures c.append.ensures.1

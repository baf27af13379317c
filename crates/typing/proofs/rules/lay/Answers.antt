-- Where the sides stand already, nothing is to be done, and two factors that stand one behind the other move up; else the sides are made apart, one behind the other, and laid.
use mathlib.Core.Path.{sym, ◌∙◌}
use native.Mathlib.Omega.{arith}
use borrow.Author.Rules.{rules}
use lib.Seq.{length-take-le}
use Rattle.typing.proofs.Concluding.{placed, in_place, inserted, made_room, sides_made}
use Rattle.typing.proofs.rules.lay.Goals as goal

pub returns-then-g-left : goal.returns-then-g-left
returns-then-g-left c = c.insert.ensures ∙ inserted c.requires c.if-p.true (sym c.stands.ensures ∙ c.if-stands.true)
    c.if-left-ne0.true c.if-right-eq0.true
    c.if-g-left.true

pub returns-then-stands-2 : goal.returns-then-stands-2
returns-then-stands-2 c = in_place c.requires c.if-p.false (sym c.stands.ensures ∙ c.if-stands.true)
    (sym c.stands-else-p.ensures ∙ c.if-stands-2.true)

pub put_side-n-requires : goal.put_side-n-requires
put_side-n-requires c = let h = c.requires in
    (search rules, h.left_inside, rw c.piece.ensures (placed h.ready 3).inside)

pub put_side-end-requires : goal.put_side-end-requires
put_side-end-requires c = let h = c.requires in
    (made_room _ _ (rw c.piece.ensures at c.put_side-n.ensures) h.few (search rules), h.right_inside, rw c.piece-2.ensures (placed h.ready 4).inside)

pub slice_bounds-made-end : goal.slice_bounds-made-end
slice_bounds-made-end c = let h = c.requires in
    (sides_made h c.piece.ensures c.piece-2.ensures (omega arith) c.put_side-n.ensures c.put_side-end.ensures).inside

pub slice_bounds-append-end : goal.slice_bounds-append-end
slice_bounds-append-end c = let h = c.requires in
    sym (length-take-le _ _ (sides_made h c.piece.ensures c.piece-2.ensures (omega arith) c.put_side-n.ensures c.put_side-end.ensures).inside)

pub returns : goal.returns
returns c = let h = c.requires in
    c.append.ensures.1
    ∙ rw (sides_made h c.piece.ensures c.piece-2.ensures (omega arith) c.put_side-n.ensures c.put_side-end.ensures).is

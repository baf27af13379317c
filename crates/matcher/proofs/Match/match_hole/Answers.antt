-- Each answer is a case of the definition: a hole that is too many, no part, a hole met first, and one met before with the same words or with others.
use mathlib.Core.Path.{sym, ap, ◌∙◌}
use Rattle.std.specs.Prelude.{Ok, Err}
use native.Mathlib.Omega.{arith}
use lib.Seq.{length-take-le}
use Rattle.matcher.proofs.Walks.{here_end, here_room, here_same, hole-many, no_part, hole-new, hole_again, hole_differs}
use Rattle.matcher.proofs.Match.match_hole.Goals as goal

pub returns-then-hole-ge5 : goal.returns-then-hole-ge5
returns-then-hole-ge5 c = ap Err c.miss.ensures ∙ hole-many _ _ _ (rw c.from-hole.ensures at c.if-hole-ge5.true)

pub returns-then-size-eq0 : goal.returns-then-size-eq0
returns-then-size-eq0 c =
    let r = c.requires in
    ap Err c.miss-then-size-eq0.ensures ∙ no_part _ _ _ (rw c.from-hole.ensures at c.if-hole-ge5.false) (here_end r.0 r.1 c.part_end-size.ensures) (omega (arith, c.if-size-eq0.true))

pub overflow_add-end : goal.overflow_add-end
overflow_add-end c =
    let r = c.requires in
    omega (arith, (here_room r.0 r.1 c.part_end-size.ensures).0)

pub returns-then-hole-self : goal.returns-then-hole-self
returns-then-hole-self c =
    let r = c.requires in
    ap Ok (rw c.from-hole.ensures at c.take.ensures) ∙ hole-new _ _ _ (rw c.from-hole.ensures at c.if-hole-ge5.false) (here_end r.0 r.1 c.part_end-size.ensures) (λ z. c.if-size-eq0.false (omega arith)) (rw c.from-hole.ensures at c.if-hole-self.true)

pub slice_bounds-same-end : goal.slice_bounds-same-end
slice_bounds-same-end c =
    let r = c.requires in
    sym (length-take-le _ _ (here_room r.0 r.1 c.part_end-size.ensures).1)

pub returns-then-same : goal.returns-then-same
returns-then-same c =
    let r = c.requires in
    let same = here_same r.0 r.1 c.part_end-size.ensures _ _ (rw (c.part.ensures, c.from-hole.ensures) at c.same.ensures) in
    ap Ok c.pass.ensures ∙ hole_again _ _ _ (rw c.from-hole.ensures at c.if-hole-ge5.false) (here_end r.0 r.1 c.part_end-size.ensures) (λ z. c.if-size-eq0.false (omega arith)) (rw c.from-hole.ensures at c.if-hole-self.false) (same ∙ c.if-same.true)

pub returns : goal.returns
returns c =
    let r = c.requires in
    let same = here_same r.0 r.1 c.part_end-size.ensures _ _ (rw (c.part.ensures, c.from-hole.ensures) at c.same.ensures) in
    ap Err c.miss-2.ensures ∙ hole_differs _ _ _ (rw c.from-hole.ensures at c.if-hole-ge5.false) (here_end r.0 r.1 c.part_end-size.ensures) (λ z. c.if-size-eq0.false (omega arith)) (rw c.from-hole.ensures at c.if-hole-self.false) (same ∙ c.if-same.false)

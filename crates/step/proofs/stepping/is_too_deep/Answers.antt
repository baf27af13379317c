-- The rule, then the words, then the place, then the part that is there, then the level tell.
use mathlib.Core.Path.{◌≡◌, sym}
use mathlib.Core.Bool.{false}
use Prim.Native.Nat.{ℕ, ◌+◌, ◌≤◌}
use native.Mathlib.Omega.{arith}
use borrow.Author.Tests.{le-ltb}
use lib.Dec.{ltb}
use Rattle.term.specs.Parts.{part_depth}
use Rattle.term.specs.Terms.{level_at}
use Rattle.step.proofs.Limits.{part-shallow, seat_below, seat_fits, seat_flat}
use Rattle.step.proofs.stepping.is_too_deep.Goals as goal

-- a part that fits is not too deep
fits : (level depth : ℕ) → level + depth ≤ 64 → false ≡ ltb 64 (level + depth)
fits level depth h = sym (le-ltb 64 (level + depth) h)

pub returns-in_default : goal.returns-in_default
returns-in_default c = fits (level_at c.args.term.now c.args.place) (part_depth c.args.part.now 0) (seat_flat c.requires.0 c.in_default.is)

pub returns-then-place-part-le64 : goal.returns-then-place-part-le64
returns-then-place-part-le64 c = fits (level_at c.args.term.now c.args.place) (part_depth c.args.part.now 0) (omega (arith, seat_below c.requires.0, part-shallow c.args.part.now))

pub returns-then-part-old : goal.returns-then-part-old
returns-then-part-old c =
    fits (level_at c.args.term.now c.args.place) (part_depth c.args.part.now 0) (omega (arith, seat_fits c.requires.0 c.in-Some.is, part-shallow c.args.part.now))

pub overflow_add-place-2 : goal.overflow_add-place-2
overflow_add-place-2 c = omega (arith, c.part_at.ensures.depth, part-shallow c.args.part.now, c.requires)

pub returns-then-place-deep-le64 : goal.returns-then-place-deep-le64
returns-then-place-deep-le64 c = fits (level_at c.args.term.now c.args.place) (part_depth c.args.part.now 0) (omega (arith, seat_below c.requires.0, c.part_at.ensures.depth))

pub returns-then-deep-old : goal.returns-then-deep-old
returns-then-deep-old c =
    fits (level_at c.args.term.now c.args.place) (part_depth c.args.part.now 0) (omega (arith, seat_fits c.requires.0 c.in-Some.is, c.part_at.ensures.depth, c.if-deep-old.true))

pub overflow_add-result : goal.overflow_add-result
overflow_add-result c =
    let args = c.args in
    omega (arith, seat_below c.requires.0, c.level_at.ensures, c.requires, c.part_at.ensures.depth, part-shallow args.part.now)

pub returns : goal.returns
returns c = rw (c.level_at.ensures, c.part_at.ensures.depth)

-- The second child begins where the first ends, if there is one.
use mathlib.Core.Path.{◌≡◌}
use mathlib.Core.Logic.{◌≢◌}
use Prim.Native.Nat.{ℕ, ◌+◌}
use native.Mathlib.Omega.{arith}
use borrow.Author.Tests.{eq-eqb, ne_eqb}
use borrow.Author.Rules.{rules}
use Rattle.shapes.specs.Reading.{child_at}
use Rattle.shapes.proofs.child_at.Goals as goal

none : {e a n : ℕ} → e ≡ a + n → e ≡ a → n ≡ 0
none h k = omega arith

some : {e a n : ℕ} → e ≡ a + n → e ≢ a → n ≢ 0
some h k z = k (omega arith)

pub overflow_add-from : goal.overflow_add-from
unfolding child_at
overflow_add-from c = search rules

pub part_end-end-requires : goal.part_end-end-requires
unfolding child_at
part_end-end-requires c = search rules

pub overflow_add-from-then-second : goal.overflow_add-from-then-second
unfolding child_at
overflow_add-from-then-second c = search rules

pub returns-then-end-from : goal.returns-then-end-from
unfolding child_at
returns-then-end-from c = rw (c.if-second.true, eq-eqb _ 0 (none c.part_end-end.ensures c.if-end-from.true))

pub returns-then-second : goal.returns-then-second
unfolding child_at
returns-then-second c = rw (c.if-second.true, ne_eqb _ 0 (some c.part_end-end.ensures c.if-end-from.false)) c.part_end-end.ensures

pub overflow_add-result : goal.overflow_add-result
unfolding child_at
overflow_add-result c = search rules

pub returns : goal.returns
unfolding child_at
returns c = rw c.if-second.false

-- A leaf, or a head over leaves.
use native.Mathlib.Omega.{arith}
use borrow.Author.Tests.{eq-eqb, ne_eqb}
use Rattle.term.proofs.parts.depth_over.Goals as goal

pub returns-then-n-eq0 : goal.returns-then-n-eq0
returns-then-n-eq0 c = (rw (eq-eqb _ 0 c.if-n-eq0.true), omega arith)

pub returns-else-n-eq0 : goal.returns-else-n-eq0
returns-else-n-eq0 c = (rw (ne_eqb _ 0 c.if-n-eq0.false), omega arith)

-- The test by its digit.
use mathlib.Core.Path.{sym, ◌∙◌}
use native.Mathlib.Omega.{arith}
use borrow.Author.Tests.{ne_eqb}
use Rattle.typebook.specs.Code.Lines.{met}
use Rattle.typing.proofs.Lying.{same_class}
use Rattle.typing.proofs.Concluding.{placed, met-run}
use Rattle.typing.proofs.rules.meets.Goals as goal

pub returns-in-1 : goal.returns-in-1
returns-in-1 c =
    let t = c.args.test in
    rw (c.of.ensures, c.of-in-1.ensures, c.piece.ensures, c.piece-in-1.ensures, (placed c.requires t).is) at c.same.ensures
    ∙ sym (met-run t _ _ _ (λ z. omega (arith, c.in-1)) (omega (arith, c.in-1)))

pub returns-in-3 : goal.returns-in-3
unfolding met
returns-in-3 c = rw c.in-3.is

pub returns-in-5 : goal.returns-in-5
unfolding met
returns-in-5 c = rw c.in-5.is (c.eq.ensures ∙ same_class _ _)

pub returns-in_default : goal.returns-in_default
unfolding met
returns-in_default c =
    let t = c.args.test in
    rw (ne_eqb t 1 (λ z. omega (arith, c.in_default)), ne_eqb t 2 (λ z. omega (arith, c.in_default)), ne_eqb t 3 (λ z. omega (arith, c.in_default)), ne_eqb t 5 (λ z. omega (arith, c.in_default)))

pub returns-in_default-2 : goal.returns-in_default-2
unfolding met
returns-in_default-2 c =
    let t = c.args.test in
    rw (ne_eqb t 1 (λ z. omega (arith, c.in_default)), ne_eqb t 2 (λ z. omega (arith, c.in_default)), ne_eqb t 3 (λ z. omega (arith, c.in_default)), ne_eqb t 5 (λ z. omega (arith, c.in_default)))

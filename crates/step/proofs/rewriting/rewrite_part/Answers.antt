-- Equations are matched here; a family finds its row by the number.
use mathlib.Core.Path.{ap}
use lib.ListN.{length}
use Rattle.lent.specs.Lent.{asked}
use Rattle.step.proofs.Dispatched.{equation_of, equation_deepens, equates, at_site, refused_up}
use Rattle.step.proofs.rewriting.rewrite_part.Goals as goal

pub returns-in_err-end-in_default : goal.returns-in_err-end-in_default
returns-in_err-end-in_default c =
    refused_up (asked c.args.s) _ _ _ _ _ c.from_residual-in_err-end-in_default.result c.from_residual-in_err-end-in_default.ensures.1
    (at_site (asked c.args.s) _ c.requires.2 _ _ _ _ _ c.in_default.not-Equation (λ Γ. rw c.in_err-end-in_default.was at (c.rewrite_family-made.ensures.0 Γ)))

pub returns-in_ok-end-in_default : goal.returns-in_ok-end-in_default
returns-in_ok-end-in_default c =
    (at_site (asked c.args.s) _ c.requires.2 _ _ _ _ _ c.in_default.not-Equation (λ Γ. rw c.in_ok-end-in_default.was at (c.rewrite_family-made.ensures.0 Γ)), c.rewrite_family-made.ensures.1)

pub equate-requires : goal.equate-requires
equate-requires c = let pre = c.requires in (pre.0, equation_of _ _ pre.2 c.in-Equation.is)

pub returns-in_err-end-in-Equation : goal.returns-in_err-end-in-Equation
returns-in_err-end-in-Equation c =
    refused_up (asked c.args.s) _ _ _ _ _ c.from_residual.result c.from_residual.ensures.1 (equates (asked c.args.s) _ c.requires.2 _ _ _ _ _ c.in-Equation.is c.in_err-end-in-Equation.ensures)

pub returns-in_ok-end-in-Equation : goal.returns-in_ok-end-in-Equation
returns-in_ok-end-in-Equation c =
    let found = c.part_at-part.ensures in
    let may = equation_deepens _ _ c.requires.2 c.in-Equation.is in
    (equates (asked c.args.s) _ c.requires.2 _ _ _ _ _ c.in-Equation.is c.in_ok-end-in-Equation.ensures, record { size = ap length found.same; depth = rw (may, found.depth) })

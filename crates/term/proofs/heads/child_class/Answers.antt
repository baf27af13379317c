-- `heads::child_class` meets its contract: the third digit of the line for a first or a counted child, the fourth for a second.
use mathlib.Core.Path.{sym, ◌∙◌, ap}
use Prim.Native.Nat.{◌≤◌}
use native.Mathlib.Omega.{arith}
use Rattle.term.specs.Heads.{child_of}
use Rattle.term.proofs.Lines.{child-line, second-line, counted-line, others_line}
use Rattle.term.proofs.heads.child_class.Goals as goal
use Rattle.term.proofs.heads.child_class.Goals.{in-2-1, in_default+in-0-1}

pub returns-in-2-default : goal.returns-in-2-default
returns-in-2-default c =
    let e = c.line_of-line.ensures in
    elim c.in-2-default-1.branch [
      | in-2-1 w ↦ c.class_of-in-2-default.ensures ∙ child-line _ _ e ∙ sym (counted-line _ _ _ e (omega arith))
      | in_default+in-0-1 w ↦ c.class_of-in-2-default.ensures ∙ child-line _ _ e ∙ ap (child_of _) (omega arith)
    ]

pub returns-in_default-eq1 : goal.returns-in_default-eq1
returns-in_default-eq1 c = c.class_of.ensures ∙ second-line _ _ c.line_of-line.ensures c.in_default-eq1.is-0.1 ∙ ap (child_of _) (sym c.in_default-eq1.is-1)

pub returns-in_default : goal.returns-in_default
returns-in_default c =
    let k : 2 ≤ c.args.child = omega arith in
    sym (others_line _ _ _ c.line_of-line.ensures c.in_default.is-0.1 k)

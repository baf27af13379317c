-- Each answer is that of the first test that fails, or what the walk found.
use mathlib.Core.Path.{◌∙◌}
use Rattle.typing.proofs.Deciding.{part_only, undeclared, typed-term, no_term, stray-term, untyped-term}
use Rattle.typing.proofs.terms.typed_in.Goals as goal
use Rattle.typing.proofs.terms.typed_in.Goals.{then-part-n-via-then-part-n, then-part-n-via-else-part-n+then-not-all_declared}

pub returns-then-part-n : goal.returns-then-part-n
returns-then-part-n c =
    let pre = c.requires in
    elim c.then-part-n.branch [
      | then-part-n-via-then-part-n w ↦ c.refused_with.ensures ∙ part_only _ pre.0 c.in-Ok.ensures pre.1 w.if-part-n.true
      | then-part-n-via-else-part-n+then-not-all_declared w ↦
          c.refused_with.ensures ∙ undeclared _ pre.0 c.in-Ok.ensures pre.1 w.if-part-n.false w.names_of.ensures w.all_declared.ensures w.if-not-all_declared.true
    ]

pub returns-else-not-all_declared : goal.returns-else-not-all_declared
returns-else-not-all_declared c =
    let pre = c.requires in
    typed-term _ pre.0 c.in-Ok.ensures pre.1 c.if-part-n.false c.names_of.ensures c.all_declared.ensures c.if-not-all_declared.false c.answered.ensures

pub returns-then-not-is_term : goal.returns-then-not-is_term
returns-then-not-is_term c = c.refused_with-then-not-is_term.ensures ∙ no_term _ c.in-Err.ensures c.names_of-in-Err.ensures c.is_term.ensures c.if-not-is_term.true

pub returns-in-Err-stray_in : goal.returns-in-Err-stray_in
returns-in-Err-stray_in c =
    c.refused_with-in-Err-stray_in.ensures ∙ stray-term _ c.in-Err.ensures c.names_of-in-Err.ensures c.is_term.ensures c.if-not-is_term.false c.in-Err-stray_in.ensures

pub returns-in_default : goal.returns-in_default
returns-in_default c = c.refused_with-in-Err.ensures ∙ untyped-term _ c.in-Err.ensures c.names_of-in-Err.ensures c.is_term.ensures c.if-not-is_term.false c.in_default.ensures

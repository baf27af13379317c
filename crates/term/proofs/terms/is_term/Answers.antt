-- Each answer is the first condition of the definition that fails, or the last one.
use mathlib.Core.Path.{sym, ◌∙◌, ap}
use native.Mathlib.Omega.{arith}
use lib.ListN.{length}
use lib.Seq.{length-take-le}
use Rattle.term.proofs.TermTest.{term_in, term-past, term_empty, term-long, term-end, term_deep, term-names}
use Rattle.term.proofs.terms.is_term.Goals as goal
use Rattle.term.proofs.terms.is_term.Goals.{then-ws-n-via-then-ws-n, then-ws-n-via-else-ws-n+then-n-eq0, then-ws-n-via-else-ws-n+else-n-eq0+then-n-gt4096}
use Rattle.term.proofs.terms.is_term.Goals.{then-part-n-via-then-part-n, then-part-n-via-else-part-n+then-depth-gt64}

pub returns-then-ws-n : goal.returns-then-ws-n
returns-then-ws-n c =
    let args = c.args in
    elim c.then-ws-n.branch [
      | then-ws-n-via-then-ws-n w ↦ sym (term-past _ _ _ w.if-ws-n.true)
      | then-ws-n-via-else-ws-n+then-n-eq0 w ↦
          let l = length-take-le args.n args.ws.now (omega arith) in
          sym (term_in _ _ _ (omega arith) ∙ term_empty _ _ (omega arith))
      | then-ws-n-via-else-ws-n+else-n-eq0+then-n-gt4096 w ↦
          let l = length-take-le args.n args.ws.now (omega arith) in
          sym (term_in _ _ _ (omega arith) ∙ term-long _ _ (omega arith) (omega arith))
    ]

pub returns-then-part-n : goal.returns-then-part-n
returns-then-part-n c =
    let args = c.args in
    let l = length-take-le args.n args.ws.now (omega arith) in
    let whole = ap length c.part_at-part.ensures.same in
    let depth = c.part_at-part.ensures.depth in
    elim c.then-part-n.branch [
      | then-part-n-via-then-part-n w ↦ sym (term_in _ _ _ (omega arith) ∙ term-end _ _ (omega arith) (omega arith) (λ e. w.if-part-n.true (omega arith)))
      | then-part-n-via-else-part-n+then-depth-gt64 w ↦ sym (term_in _ _ _ (omega arith) ∙ term_deep _ _ (omega arith) (omega arith) (omega arith) (omega arith))
    ]

pub returns : goal.returns
returns c =
    let args = c.args in
    let l = length-take-le args.n args.ws.now (omega arith) in
    let whole = ap length c.part_at-part.ensures.same in
    let depth = c.part_at-part.ensures.depth in
    c.all_declared.ensures ∙ sym (term_in _ _ _ (omega arith) ∙ term-names _ _ (omega arith) (omega arith) (omega arith) (omega arith))

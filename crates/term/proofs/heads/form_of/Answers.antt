-- The digits of the two numbers are the first digits of the table's lines.
use mathlib.Core.Path.{refl, sym, ap}
use Prim.Native.Nat.{◌/◌}
use native.Mathlib.Omega.{arith}
use Rattle.words.specs.Listed.{all_up_to}
use Rattle.term.specs.Code.Lines.{line_at}
use Rattle.term.proofs.Lines.{line-past, form-at}
use Rattle.term.proofs.heads.form_of.Goals as goal

pub returns-then-head-lt16 : goal.returns-then-head-lt16
unfolding all_up_to line_at
returns-then-head-lt16 c = form-at _ 0 16 refl _ c.args.head c.if-head-lt16.true (omega arith)

pub returns-then-head-lt29 : goal.returns-then-head-lt29
unfolding all_up_to line_at
returns-then-head-lt29 c = form-at _ 16 13 refl _ c.args.head (omega arith) (omega arith)

pub returns : goal.returns
returns c = sym (ap (λ x. x / 4096) (line-past c.args.head (omega arith)))

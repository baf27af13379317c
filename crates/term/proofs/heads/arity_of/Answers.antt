-- Each answer is what the line's first digit and the low byte say.
use mathlib.Core.Path.{◌≡◌, refl, sym, ◌∙◌}
use mathlib.Core.Bool.{cond}
use Prim.Native.Nat.{◌≤◌, ◌-◌, ◌%◌}
use native.Mathlib.Omega.{arith}
use lib.Dec.{eqb}
use Rattle.std.proofs.Common.{rules}
use Rattle.std.specs.Prelude.{Some, None}
use Rattle.term.specs.Heads.{arity_of}
use Rattle.term.proofs.Lines.{arity_form, arity_fixed}
use Rattle.term.proofs.heads.arity_of.Goals as goal

pub returns-in-0 : goal.returns-in-0
returns-in-0 c = sym (arity_form _ _ 0 (rw c.from.ensures at c.form_of.ensures) c.in-0.is)

pub returns-in-1 : goal.returns-in-1
returns-in-1 c = sym (arity_form _ _ 1 (rw c.from.ensures at c.form_of.ensures) c.in-1.is)

pub returns-in-2 : goal.returns-in-2
returns-in-2 c =
    let e : arity_of c.args.word ≡ cond (eqb (c.args.word % 256) 0) None (Some (c.args.word % 256)) = arity_form _ _ 2 (rw c.from.ensures at c.form_of.ensures) c.in-2.is in
    rw e (search rules)

pub returns-in_default : goal.returns-in_default
returns-in_default c =
    let f : 3 ≤ c.form_of.result = omega arith in
    let e : arity_of c.args.word ≡ cond (eqb (c.args.word % 256) 0) (Some (c.form_of.result - 3)) None = arity_form _ _ _ (rw c.from.ensures at c.form_of.ensures) refl ∙ arity_fixed _ _ f in
    rw e (search rules)

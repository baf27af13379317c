-- In the slice where it stands.
use mathlib.Core.Path.{◌≡◌, sym, ◌∙◌}
use mathlib.Core.List.{◌++◌}
use Prim.Native.Nat.{◌+◌, ◌≤◌}
use native.Mathlib.Omega.{arith}
use lib.ListN.{length, length-append}
use Rattle.std.proofs.Common.{rules}
use Rattle.std.specs.Prelude.{None}
use Rattle.term.proofs.Scan.{arity_past}
use Rattle.term.proofs.parts.arity_at.Goals as goal

pub returns-in_err-get : goal.returns-in_err-get
returns-in_err-get c =
    let args = c.args in
    let past : length args.front.now + length args.back.now ≤ args.i = search rules in
    let none : c.from_residual.result ≡ None = search rules in
    none ∙ sym (arity_past (args.front.now ++ args.back.now) args.i (omega (arith, length-append args.front.now args.back.now)))

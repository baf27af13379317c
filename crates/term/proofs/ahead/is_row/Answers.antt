-- The row stands in the words.
use mathlib.Core.Path.{◌≡◌}
use Prim.Native.Nat.{◌+◌, ◌-◌, ◌≤◌}
use native.Mathlib.Omega.{arith}
use lib.ListN.{length}
use Rattle.term.proofs.Rows.{leaves-within}
use Rattle.term.proofs.ahead.is_row.Goals as goal

pub returns : goal.returns
returns c e =
    let args = c.args in
    let room : args.at + args.n ≤ length args.ws.now = omega arith in
    let size : args.at + args.n - args.at ≡ args.n = omega arith in
    (room, leaves-within args.ws.now args.at args.n room _ (rw size) (c.are_variables.ensures e))

-- In the slice where they begin, or from one into the other.
use mathlib.Core.Path.{◌≡◌, refl}
use Prim.Native.Nat.{◌+◌, ◌-◌, ◌≤◌}
use native.Mathlib.Omega.{arith}
use lib.ListN.{length}
use Rattle.term.proofs.Rows.{leaves-within, leaves-back, leaves-join}
use Rattle.term.proofs.ahead.are_leaves.Goals as goal

pub returns-then-front-at : goal.returns-then-front-at
returns-then-front-at c e =
    let args = c.args in
    let row = c.is_row.ensures e in
    let past = c.if-front-at.true in
    (omega (arith, row.0), leaves-back args.front.now args.back.now args.at _ past row.1)

pub returns-then-are_variables : goal.returns-then-are_variables
returns-then-are_variables c e =
    let args = c.args in
    let here = length args.front.now - args.at in
    let ends : args.at + here ≡ length args.front.now = omega arith in
    let long : here ≤ args.n = omega arith in
    let front = leaves-within args.front.now args.at here (omega arith) _ refl (c.are_variables.ensures c.if-are_variables.true) in
    let back = leaves-within args.back.now 0 (args.n - here) (omega arith) _ refl (c.are_variables-then-are_variables.ensures e) in
    (omega arith, leaves-join args.front.now args.back.now args.at here args.n ends long front back)

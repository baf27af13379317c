-- Under any other head, and before the first child, nothing is written; else two words, one behind the other.
use mathlib.Core.Path.{sym, ◌∙◌}
use Prim.Native.Nat.{◌+◌, ◌-◌, ◌≤◌, ◌<◌}
use native.Mathlib.Omega.{arith}
use Rattle.typing.specs.Code.Chains.{record_at, entered, entered_on}
use Rattle.typing.proofs.Binding.{two-set}
use Rattle.typing.proofs.Packing.{one_less, unpacked}
use Rattle.typing.proofs.bodies.enter.Goals as goal

pub returns-then-not-enters : goal.returns-then-not-enters
unfolding entered entered_on
returns-then-not-enters c =
    let l = one_less _ c.requires.some in
    let no' = sym c.enters.ensures ∙ c.if-not-enters.true in
    record { around_is = rw no' l.0; budget_is = l.1; stack_is = rw no' }

pub returns : goal.returns
unfolding entered entered_on
returns c =
    let few : (c.budget_of.result ≤ 64) × (c.bodies_of.result < 64) = let h = c.requires in let e = c.budget_of.ensures in let f = c.bodies_of.ensures in (omega arith, omega arith) in
    let h = c.requires in
    let f = few in
    let l = unpacked (c.budget_of.result - 1) (c.bodies_of.result + 1) (record_at c.args.top c.args.first) (omega arith) (omega arith) in
    let yes = sym c.enters.ensures ∙ c.if-not-enters.false in
    record {
      around_is = rw yes (l.0 ∙ rw c.bodies_of.ensures);
      budget_is = l.1 ∙ rw c.budget_of.ensures;
      stack_is = rw (yes, c.index_len.ensures, c.inner_of.ensures) (two-set _ _ _ _ (omega arith));
    }

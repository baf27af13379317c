-- The links that are left lead from here to the record that was asked for.
use mathlib.Core.Path.{◌≡◌}
use Prim.Native.Nat.{◌-◌, ◌≤◌}
use Rattle.typing.specs.Code.Chains.{link_at}
use Rattle.typing.proofs.bodies.record_at.Given as goal

abbrev pub invariant-loop : goal.invariant-loop
invariant-loop l = (l.at ≤ 65535) × (link_at l.stack l.inner l.a ≡ link_at l.stack l.at (l.a - l.counter))

-- What a part is typed within, as one number: the child's has a budget less by one, and the bodies and the record that the sum around it brings.
use mathlib.Core.Path.{◌≡◌}
use Prim.Native.Nat.{ℕ, ◌+◌, ◌-◌, ◌*◌, ◌/◌, ◌%◌, ◌<◌}
use native.Mathlib.Omega.{arith}
use Rattle.typing.specs.Code.Chains.{budget_of, around_of}

pub one_less : (w : ℕ) → 0 < budget_of w → (around_of (w - 1) ≡ around_of w) × (budget_of (w - 1) ≡ budget_of w - 1)
unfolding budget_of around_of
one_less w h =
    let b : (w - 1) / 128 % 128 ≡ w / 128 % 128 = omega arith in
    let i : (w - 1) / 16384 ≡ w / 16384 = omega arith in
    (rw (b, i), omega arith)

pub unpacked : (budget bodies inner : ℕ) → budget < 128 → bodies < 128
    → (around_of (budget + 128 * bodies + 16384 * inner) ≡ record { bodies = bodies; inner = inner }) × (budget_of (budget + 128 * bodies + 16384 * inner) ≡ budget)
unfolding budget_of around_of
unpacked budget bodies inner h k =
    let b : (budget + 128 * bodies + 16384 * inner) / 128 % 128 ≡ bodies = omega arith in
    let i : (budget + 128 * bodies + 16384 * inner) / 16384 ≡ inner = omega arith in
    (rw (b, i), omega arith)

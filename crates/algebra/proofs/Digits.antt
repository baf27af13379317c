-- A number below m · n as a pair of digits: the high one below m, the low one below n.
use Prim.Native.Nat.{ℕ, zero, suc, ◌*◌, ◌/◌, ◌%◌, ◌<◌}
use native.Mathlib.Nat.{mul-zero, mod-lt, div-lt_iff_lt-mul}
use native.Mathlib.Omega.{arith}

-- there is no number below m · 0
positive : (m n i : ℕ) → i < m * n → zero < n
positive m zero i h = let z = rw (mul-zero m) at h in absurd (omega arith)
positive m (suc n) i h = omega arith

pub high : (m n : ℕ) {i : ℕ} → i < m * n → i / n < m
high m n {i} h = (div-lt_iff_lt-mul (positive m n i h)).1 h

pub low : (m n : ℕ) {i : ℕ} → i < m * n → i % n < n
low m n {i} h = mod-lt i (positive m n i h)

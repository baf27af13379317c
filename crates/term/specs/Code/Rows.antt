-- What a scan may pass at once: a row of words without children.
use Rattle.std.specs.Prelude.{◌≡◌, List, ℕ, ◌+◌, ◌<◌, get_or, Some}
use Rattle.term.specs.Heads.{arity_of}

-- the k words from an offset on
abbrev pub Leaves : List ℕ → ℕ → ℕ → Type 0
Leaves ws at k = (j : ℕ) → j < k → arity_of (get_or ws (at + j) 0) ≡ Some 0

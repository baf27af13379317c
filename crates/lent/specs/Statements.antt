-- What is proved of what is lent: the first fault in document 01's order is found, and a step that is put is read back.
use Rattle.std.specs.Prelude.{◌≡◌, true, List, [], ◌∷◌, ◌++◌, ℕ, ◌+◌}
use Rattle.rules.specs.Steps.{Move}
use Rattle.lent.specs.Lent.{Derivation, moves_in, has_room, step_put}
use Rattle.lent.specs.Faults.{fault_in}
use Rattle.lent.specs.Refusals.{Judged}

-- 01: "then left 10, 11, right 10, 11, then 12", behind 1, 7, 8 and the steps' own; 02, CR 1: "a side's 13 tested before its 10"
abbrev pub Judges : Type 0
Judges = (d : Derivation) → Judged d (fault_in d)

-- ---- the constructor: a step put behind others is read back, and they stay
abbrev pub Puts : Type 0
Puts = (ws : List ℕ) (k : ℕ) (m : Move) → has_room ws k ≡ true → moves_in (step_put ws k m) (k + 1) ≡ moves_in ws k ++ m ∷ []

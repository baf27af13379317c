-- What a `Part` keeps of its words, that they are one whole part, as laws ask for it.
use mathlib.Core.Path.{◌≡◌, sym, subst}
use mathlib.Core.List.{List, [], append-nil}
use Prim.Native.Nat.{ℕ, ◌<◌}
use lib.ListN.{length}
use denote.Struct.Props.{props}
use Rattle.std.proofs.Math.Logic.{∥∥₁_elim}
use Rattle.term.specs.Parts.{Whole, part}
use Rattle.term.proofs.Scan.{part-whole, whole_part}
use Rattle.families.proofs.Split.{some_word}

pub whole : {ws : List ℕ} → ∥ Whole ws ∥₁ → Whole ws
whole {ws} w =
    let some : 0 < length ws = ∥∥₁_elim w (search props) some_word in
    let same : part ws 0 ≡ ws = ∥∥₁_elim w (search props) (λ v. whole_part ws 0 ws [] v (sym (append-nil ws))) in
    subst Whole same (part-whole ws 0 (subst (λ p. 0 < length p) (sym same) some))

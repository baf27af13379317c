-- The definitions, computed at small inputs.
use mathlib.Core.Path.{◌≡◌, refl}
use mathlib.Core.List.{[], ◌∷◌}
use Rattle.words.specs.Words.{cleared, overlaid, agreeing}

the-edges :
    (cleared (1 ∷ 2 ∷ 3 ∷ []) 1 ≡ 1 ∷ 0 ∷ 0 ∷ [])
    × (overlaid (1 ∷ 2 ∷ 3 ∷ []) (7 ∷ []) ≡ 7 ∷ 2 ∷ 3 ∷ [])
    × (agreeing (1 ∷ 2 ∷ 3 ∷ []) (1 ∷ 2 ∷ 4 ∷ []) ≡ 2)
unfolding cleared overlaid agreeing
the-edges = (refl, refl, refl)

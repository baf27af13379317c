-- What is proved of meanings, whatever the entries are reckoned with, and once more for the Gaussian integers.
use Rattle.std.specs.Prelude.{◌≡◌, [], ℕ}
use Rattle.algebra.specs.Semirings.{Arithmetic, StarSemiring}
use Rattle.algebra.specs.Gaussian.{Gaussian, gaussian}
use Rattle.term.specs.Trees.{Tree, found, subtree, replace}
use Rattle.types.specs.Sorts.{Sort, IsType, Context}
use Rattle.types.specs.Inside.{inside}
use Rattle.types.specs.Rules.{◌⊢◌∶◌, WellFormed}
use Rattle.meaning.specs.Choices.{Choice}
use Rattle.meaning.specs.Meaning.{stands, mean}
use Rattle.meaning.specs.Sorted.{Shaped, Fits, EveryChoice, SomeUnitary, ProperMeaning, Same}

module _ {R : Type 0} (𝓐 : Arithmetic R) where
  -- no dimension from 1 up, no position inside its range and no entry is left out, where nothing is bound and marked matrices are unitary
  abbrev pub Chooses : Type 0
  Chooses = (Γ : Context) → WellFormed Γ → Γ.bound ≡ [] → EveryChoice 𝓐 Γ

  -- choices that fit exist, whatever is marked
  abbrev pub UnitaryExist : Type 0
  UnitaryExist = StarSemiring 𝓐 → (Γ : Context) → WellFormed Γ → Γ.bound ≡ [] → SomeUnitary 𝓐 Γ

  -- a part of a sort stands for what its sort says: a term has the shape of its type, a basis lies below its dimension
  abbrev pub KeepsShape : Type 0
  KeepsShape = (Γ : Context) (χ : Choice R) → WellFormed Γ → Fits 𝓐 Γ χ → (t : Tree) (S : Sort) → Γ ⊢ t ∶ S → ProperMeaning 𝓐 χ S (stands 𝓐 Γ χ t)

  -- Where the part at an offset gives way to one of its sort that stands for the same, under every choice that fits the context there, the whole keeps its sort and stands for the same
  abbrev pub Congruent : Type 0
  Congruent =
      (Γ : Context) (χ : Choice R) → WellFormed Γ → Fits 𝓐 Γ χ
      → (t : Tree) (S : Sort) (at : ℕ) (s u : Tree) (Q : Sort)
      → Γ ⊢ t ∶ S → subtree t at ≡ found s → inside Γ t at ⊢ s ∶ Q → inside Γ t at ⊢ u ∶ Q
      → ((φ : Choice R) → Fits 𝓐 (inside Γ t at) φ → Same Q (stands 𝓐 (inside Γ t at) φ s) (stands 𝓐 (inside Γ t at) φ u))
      → (Γ ⊢ replace t at u ∶ S) × Same S (stands 𝓐 Γ χ t) (stands 𝓐 Γ χ (replace t at u))

-- ---- over the Gaussian integers
abbrev pub GaussianShape : Type 0
GaussianShape =
    (Γ : Context) (χ : Choice Gaussian) → WellFormed Γ → Fits gaussian Γ χ
    → (t : Tree) (S : Sort) → IsType S → Γ ⊢ t ∶ S → Shaped gaussian χ S (mean gaussian Γ χ t)

-- When two terms of one type are alike. Demand 3: "alike in shape and in every such number".
use Rattle.algebra.specs.Semirings.{Arithmetic, StarSemiring}
use Rattle.algebra.specs.Gaussian.{Gaussian, gaussian}
use Rattle.term.specs.Trees.{Tree}
use Rattle.types.specs.Sorts.{Sort, Context}
use Rattle.types.specs.Rules.{Typed}
use Rattle.meaning.specs.Choices.{Choice}
use Rattle.meaning.specs.Meaning.{stands, mean}
use Rattle.meaning.specs.Sorted.{Shaped, Fits, Same, EqualNumbers}

-- u has the type of t too, and stands for the same: in shape and in the number at each row and column. 01: "Both terms are read under the same choice". The numbers may be of any
-- star semiring; `numbers` says it once more of the Gaussian integers. Demand 3: "with the shapes as declared": the shape is that of the type
pub record Alike (Γ : Context) (S : Sort) (t u : Tree) : Type 1 where
  pub typed : Typed Γ S u
  pub same : (R : Type 0) (𝓐 : Arithmetic R) → StarSemiring 𝓐 → (χ : Choice R) → Fits 𝓐 Γ χ → Same S (stands 𝓐 Γ χ t) (stands 𝓐 Γ χ u)
  pub numbers : (χ : Choice Gaussian) → Fits gaussian Γ χ → EqualNumbers (mean gaussian Γ χ t) (mean gaussian Γ χ u)
  pub shapes : (χ : Choice Gaussian) → Fits gaussian Γ χ → Shaped gaussian χ S (mean gaussian Γ χ t) × Shaped gaussian χ S (mean gaussian Γ χ u)

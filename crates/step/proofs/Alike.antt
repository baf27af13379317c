-- Two typed terms that stand for the same whatever the entries are reckoned with are alike.
use Rattle.algebra.specs.Semirings.{Arithmetic, StarSemiring}
use Rattle.algebra.specs.Gaussian.{gaussian}
use Rattle.algebra.proofs.Gaussian.{gaussian_laws}
use Rattle.term.specs.Trees.{Tree}
use Rattle.types.specs.Sorts.{Sort, IsType, Context}
use Rattle.types.specs.Rules.{WellFormed, Typed}
use Rattle.meaning.specs.Choices.{Choice}
use Rattle.meaning.specs.Meaning.{stands, mean}
use Rattle.meaning.specs.Sorted.{Fits, Same}
use Rattle.meaning.proofs.Theorems.{same_alike, alike-numbers, gaussian-shape}
use Rattle.step.specs.Alike.{Alike}

pub alike : {Γ : Context} {S : Sort} {t u : Tree} → WellFormed Γ → IsType S → Typed Γ S t → Typed Γ S u
    → ((R : Type 0) (𝓐 : Arithmetic R) → StarSemiring 𝓐 → (χ : Choice R) → Fits 𝓐 Γ χ → Same S (stands 𝓐 Γ χ t) (stands 𝓐 Γ χ u)) → Alike Γ S t u
unfolding mean
alike {Γ} {S} {t} {u} W h d k same =
    record {
      typed = k;
      same = same;
      numbers = λ χ F. (alike-numbers _ _).0 ((same_alike S _ _ h).0 (same _ gaussian gaussian_laws χ F));
      shapes = λ χ F. (gaussian-shape Γ χ W F t S h d.rules, gaussian-shape Γ χ W F u S h k.rules);
    }

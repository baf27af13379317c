-- The witnesses of `specs/Statements`.
use mathlib.Core.Path.{◌≡◌}
use mathlib.Core.Logic.{◌↔◌}
use Rattle.algebra.specs.Semirings.{Arithmetic}
use Rattle.algebra.specs.Matrices.{Matrix, ◌≈◌}
use Rattle.algebra.specs.Gaussian.{Gaussian, gaussian}
use Rattle.types.specs.Sorts.{Sort, index, basis, scalar, ket, bra, operator, IsType}
use Rattle.types.proofs.Complete.{unique}
use Rattle.types.proofs.Replace.{inside_well}
use Rattle.meaning.specs.Choices.{Meaning}
use Rattle.meaning.specs.Meaning.{mean}
use Rattle.meaning.specs.Sorted.{Same, EqualNumbers}
use Rattle.meaning.specs.Statements.{KeepsShape, Congruent, GaussianShape}
use Rattle.meaning.proofs.Shapes.{at-type, shape}
use Rattle.meaning.proofs.Congruence.{replace_serves}

pub keeps-shape : {R : Type 0} (𝓐 : Arithmetic R) → KeepsShape 𝓐
keeps-shape 𝓐 Γ χ W F t S d = shape 𝓐 W F d

pub congruent : {R : Type 0} (𝓐 : Arithmetic R) → Congruent 𝓐
congruent 𝓐 Γ χ W F t S at s u Q d e old new same =
    let r = replace_serves 𝓐 s u W t at e (λ P p. let z : Q ≡ P = unique (inside_well W t at) old p in rw (← z) (new, same)) S d in
    (r.0, r.1 χ F)

-- ---- at a type, a meaning is its matrix
pub same_alike : {R : Type 0} (S : Sort) (x y : Meaning R) → IsType S → Same S x y ↔ (x.matrix ≈ y.matrix)
same_alike (index σ) x y h = absurd h
same_alike (basis σ) x y h = absurd h
same_alike scalar x y h = (λ p. p, λ p. p)
same_alike (ket σ) x y h = (λ p. p, λ p. p)
same_alike (bra σ) x y h = (λ p. p, λ p. p)
same_alike (operator σ τ) x y h = (λ p. p, λ p. p)

pub alike-numbers : (A B : Matrix Gaussian) → (A ≈ B) ↔ EqualNumbers A B
alike-numbers A B = (
  λ p. record {
    rows = p.rows;
    columns = p.columns;
    re = λ i j h k. cc (p.entries i j h k);
    im = λ i j h k. cc (p.entries i j h k);
  },
  λ q. record { rows = q.rows; columns = q.columns; entries = λ i j h k. λ l. record { re = q.re i j h k l; im = q.im i j h k l } },
)

pub gaussian-shape : GaussianShape
unfolding mean
gaussian-shape Γ χ W F t S h d = (at-type gaussian χ S _ h).0 (keeps-shape gaussian Γ χ W F t S d)

-- Operations that are additive in a matrix of one shape.
use mathlib.Core.Path.{◌≡◌, refl}
use Prim.Native.Nat.{ℕ, ◌*◌}
use Rattle.algebra.specs.Semirings.{Arithmetic, StarSemiring}
use Rattle.algebra.specs.Matrices.{Matrix, ◌≈◌, HasShape, number, scalar, add, scale, mul, adjoint, kronecker}
use Rattle.algebra.proofs.Alike.{≈-refl, ≡→≈, number-≈, everywhere, scale-≈, mul-≈, adjoint-≈, kronecker-≈}
use Rattle.algebra.proofs.Shapes.{same_rows, same-columns, conformable, shape-scalar, shape-scale, shape-mul, shape-adjoint, shape-kronecker}
use Rattle.algebra.proofs.Linear as Linear
use Rattle.algebra.proofs.Products as Products
use Rattle.algebra.proofs.Kronecker as Kronecker

module _ {R : Type 0} {𝓐 : Arithmetic R} (𝓡 : StarSemiring 𝓐) where
  -- from matrices of m by n to matrices of m' by n'
  pub record Additive (m n m' n' : ℕ) (Φ : Matrix R → Matrix R) : Type 0 where
    pub shaped : (A : Matrix R) → HasShape A m n → HasShape (Φ A) m' n'
    pub alike : (A B : Matrix R) → HasShape A m n → A ≈ B → Φ A ≈ Φ B
    pub adds : (A B : Matrix R) → HasShape A m n → HasShape B m n → Φ (add 𝓐 A B) ≈ add 𝓐 (Φ A) (Φ B)

  pub times-right : {m n k : ℕ} (K : Matrix R) → HasShape K n k → Additive m n m k (λ A. mul 𝓐 A K)
  times-right K s =
      record {
        shaped = λ A a. shape-mul 𝓐 a s;
        alike = λ A B a p. mul-≈ 𝓐 (conformable a s) p (≈-refl K);
        adds = λ A B a b. Products.add-mul 𝓡 A B K (same-columns a b);
      }

  pub times-left : {m n k : ℕ} (O : Matrix R) → HasShape O m n → Additive n k m k (λ A. mul 𝓐 O A)
  times-left O s =
      record {
        shaped = λ A a. shape-mul 𝓐 s a;
        alike = λ A B a p. mul-≈ 𝓐 (conformable s a) (≈-refl O) p;
        adds = λ A B a b. Products.mul_add 𝓡 O A B;
      }

  pub scaled : {m n : ℕ} (x : R) → Additive m n m n (λ A. scale 𝓐 x A)
  scaled x =
      record { shaped = λ A a. shape-scale 𝓐 x a; alike = λ A B a p. scale-≈ 𝓐 refl p; adds = λ A B a b. Linear.scale-add 𝓡 x A B }

  pub adjoined : {m n : ℕ} → Additive m n n m (λ A. adjoint 𝓐 A)
  adjoined = record { shaped = λ A a. shape-adjoint 𝓐 a; alike = λ A B a p. adjoint-≈ 𝓐 p; adds = λ A B a b. Linear.adjoint-add 𝓡 A B }

  pub kronecker-right : {m n k l : ℕ} (B : Matrix R) → HasShape B k l → Additive m n (m * k) (n * l) (λ A. kronecker 𝓐 A B)
  kronecker-right K s =
      record {
        shaped = λ A a. shape-kronecker 𝓐 a s;
        alike = λ A B a p. kronecker-≈ 𝓐 p (≈-refl K);
        adds = λ A B a b. Kronecker.add-kronecker 𝓡 A B K;
      }

  pub kronecker-left : {m n k l : ℕ} (B : Matrix R) → HasShape B k l → Additive m n (k * m) (l * n) (λ A. kronecker 𝓐 B A)
  kronecker-left K s =
      record {
        shaped = λ A a. shape-kronecker 𝓐 s a;
        alike = λ A B a p. kronecker-≈ 𝓐 (≈-refl K) p;
        adds = λ A B a b. Kronecker.kronecker-add 𝓡 K A B (same_rows a b) (same-columns a b);
      }

  -- a function of the number of a 1 by 1 matrix
  pub numerical : (φ : R → R) → ((x y : R) → φ (𝓐.add x y) ≡ 𝓐.add (φ x) (φ y)) → Additive 1 1 1 1 (λ A. scalar 𝓐 (φ (number A)))
  unfolding number add scalar
  numerical φ e =
      record {
        shaped = λ A a. shape-scalar 𝓐 _;
        alike = λ A B a p. ≡→≈ (cc (number-≈ p a.rows a.columns));
        adds = λ A B a b. everywhere refl refl λ i j. e (number A) (number B);
      }

-- Sums and products of many as one thing: a commutative operation with a unit, up to `◌≈◌`, on matrices of one shape.
use mathlib.Core.Path.{refl}
use Prim.Native.Nat.{ℕ}
use Rattle.algebra.specs.Semirings.{Arithmetic, StarSemiring}
use Rattle.algebra.specs.Matrices.{Matrix, ◌≈◌, HasShape, number, zeros, scalar, add}
use Rattle.algebra.proofs.Alike.{≈-refl, ≈-sym, ≈-trans, ≡→≈, number-≈, add-≈}
use Rattle.algebra.proofs.Linear.{add_assoc, add_comm, add-zeros}
use Rattle.algebra.proofs.Scalars.{scalar-number}
use Rattle.algebra.proofs.Shapes.{same_rows, same-columns, shape-scalar, shape-zeros, shape-add}

pub record Gathering (R : Type 0) (m n : ℕ) : Type 0 where
  pub op : Matrix R → Matrix R → Matrix R
  pub unit : Matrix R
  pub op_shape : (A B : Matrix R) → HasShape A m n → HasShape B m n → HasShape (op A B) m n
  pub unit_shape : HasShape unit m n
  pub op-≈ : (A A' B B' : Matrix R) → HasShape A m n → HasShape B m n → A ≈ A' → B ≈ B' → op A B ≈ op A' B'
  pub assoc : (A B C : Matrix R) → op (op A B) C ≈ op A (op B C)
  pub comm : (A B : Matrix R) → HasShape A m n → HasShape B m n → op A B ≈ op B A
  pub op_unit : (A : Matrix R) → HasShape A m n → op A unit ≈ A

module _ {R : Type 0} {𝓐 : Arithmetic R} (𝓡 : StarSemiring 𝓐) where
  unfoldable pub sums : (m n : ℕ) → Gathering R m n
  sums m n =
      record {
        op = add 𝓐;
        unit = zeros 𝓐 m n;
        op_shape = λ A B a b. shape-add 𝓐 B a;
        unit_shape = shape-zeros 𝓐 refl refl;
        op-≈ = λ A A' B B' a b p q. add-≈ 𝓐 (same_rows a b) (same-columns a b) p q;
        assoc = add_assoc 𝓡;
        comm = λ A B a b. add_comm 𝓡 A B (same_rows a b) (same-columns a b);
        op_unit = λ A a. add-zeros 𝓡 A m n;
      }

  unfoldable pub products : Gathering R 1 1
  unfolding number scalar
  products =
      record {
        op = λ A B. scalar 𝓐 (𝓐.mul (number A) (number B));
        unit = scalar 𝓐 𝓐.one;
        op_shape = λ A B a b. shape-scalar 𝓐 _;
        unit_shape = shape-scalar 𝓐 _;
        op-≈ = λ A A' B B' a b p q. ≡→≈ (cc (number-≈ p a.rows a.columns, number-≈ q b.rows b.columns));
        assoc = λ A B C. ≡→≈ (cc (𝓡.mul_assoc (number A) (number B) (number C)));
        comm = λ A B a b. ≡→≈ (cc (𝓡.mul_comm (number A) (number B)));
        op_unit = λ A a. ≈-trans (≡→≈ (cc (𝓡.mul_one (number A)))) (≈-sym (scalar-number 𝓡 A a.rows a.columns));
      }

module _ {R : Type 0} {m n : ℕ} (G : Gathering R m n) where
  -- A ∗ (B ∗ C) = B ∗ (A ∗ C)
  pub exchange : (A B C : Matrix R) → HasShape A m n → HasShape B m n → HasShape C m n → G.op A (G.op B C) ≈ G.op B (G.op A C)
  exchange A B C a b c =
      ≈-trans (≈-sym (G.assoc A B C))
      (≈-trans (G.op-≈ _ _ _ _ (G.op_shape A B a b) c (G.comm A B a b) (≈-refl C)) (G.assoc B A C))

  pub unit_op : (A : Matrix R) → HasShape A m n → G.op G.unit A ≈ A
  unit_op A a = ≈-trans (G.comm G.unit A G.unit_shape a) (G.op_unit A a)

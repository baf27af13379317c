-- Sorts as code holds them: a class, and the words of two indices.
use Rattle.std.specs.Prelude.{Bool, cond, ◌&&◌, List, [], ℕ, eqb, leb}
use Rattle.std.proofs.Math.Option.{Option, none}
use Rattle.term.specs.declared.heads.Class.{Class}
use Rattle.term.specs.declared.heads.Class.TheVariants.{Index, Basis, Scalar, Ket, Bra, Operator}
use Rattle.term.specs.Trees.{words}
pub use Rattle.term.specs.Code.Lines.{number_of}
use Rattle.types.specs.Sorts.{Sort, index, basis, scalar, ket, bra, operator}

pub record Shape : Type 0 where
  pub class : Class
  pub left : List ℕ
  pub right : List ℕ

abbrev pub shape : Class → List ℕ → List ℕ → Shape
shape c i j = record { class = c; left = i; right = j }

-- an index or a basis has its index on the left; a ket has its index on the left, a bra on the right, and an operator its rows on the left and its columns on the right
abbrev pub shape_of : Sort → Shape
shape_of (index σ) = shape Index (words σ) []
shape_of (basis σ) = shape Basis (words σ) []
shape_of scalar = shape Scalar [] []
shape_of (ket σ) = shape Ket (words σ) []
shape_of (bra σ) = shape Bra [] (words σ)
shape_of (operator σ τ) = shape Operator (words σ) (words τ)

-- a child's class is the one that is wanted: the same, or any array where an array is wanted, and any type where a term is
abbrev pub fitting : Class → Class → Bool
fitting c w =
    cond (eqb (number_of w) 7) (leb 4 (number_of c) && leb (number_of c) 6)
    (cond (eqb (number_of w) 8) (leb 3 (number_of c) && leb (number_of c) 6) (eqb (number_of c) (number_of w)))

-- ---- a shape, where a test holds
abbrev pub given : Bool → Option Shape → Option Shape
given b o = cond b o none

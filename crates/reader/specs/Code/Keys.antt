-- The keys, stages and kinds of the code as those of a file.
use Rattle.std.specs.Prelude.{ℕ}
use Rattle.format.specs.Files as F
use Rattle.reader.specs.declared.declaring.Kind.{Kind}
use Rattle.reader.specs.declared.declaring.Kind.TheVariants.{Scalar, Ket, Bra, Operator, Unitary}
use Rattle.reader.specs.declared.keys.Key.{Key}
use Rattle.reader.specs.declared.keys.Key.TheVariants.{Types, Basis, Var, LeftTerm, RightTerm, Step, End}
use Rattle.reader.specs.declared.keys.Stage.{Stage}
use Rattle.reader.specs.declared.keys.Stage.TheVariants as S

abbrev pub named : Key → F.Key
named Types = F.Types
named Basis = F.Basis
named Var = F.Var
named LeftTerm = F.LeftTerm
named RightTerm = F.RightTerm
named Step = F.Step
named End = F.End

-- the number that `format` has for a stage
abbrev pub number : Stage → ℕ
number S.Start = 0
number S.Bases = 1
number S.Variables = 2
number S.LeftSide = 3
number S.Steps = 4
number S.End = 5

-- the word that declarations have for a kind
abbrev pub word_of : Kind → ℕ
word_of Scalar = 0
word_of Ket = 1
word_of Bra = 2
word_of Operator = 3
word_of Unitary = 7

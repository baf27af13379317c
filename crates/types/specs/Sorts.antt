-- Sorts, and the context that declarations make.
use Rattle.std.specs.Prelude.{◌≡◌, Bool, true, false, List, ◌∷◌, ℕ, ◌≤◌, length, get_or}
use Rattle.term.specs.declared.terms.Names.{Names}
use Rattle.term.specs.Heads.{index_product}
use Rattle.term.specs.Trees.{Tree, node, none, ◌▹◌, words}
use Rattle.term.specs.Terms.{max_index}

-- What a part can be: an index, and which; a basis, and of which index; or a term with its type. 01: "its kind, which is scalar, ket, bra or operator"
pub data Sort : Type 0 where
  index basis : Tree → Sort
  scalar : Sort
  ket bra : Tree → Sort
  operator : Tree → Tree → Sort

-- a type: the sort of a term, and not of an index or a basis
abbrev pub IsType : Sort → Type 0
IsType (index σ) = ⊥
IsType (basis σ) = ⊥
IsType scalar = Unit {0}
IsType (ket σ) = Unit {0}
IsType (bra σ) = Unit {0}
IsType (operator σ τ) = Unit {0}

-- What is declared: how many type names, the index of each basis name, the type of each variable, and which variables are marked as unitary. And where a part stands: what the sums over a
-- basis around it have for an index, whatever it is, the innermost first
pub record Context : Type 0 where
  pub types : ℕ
  pub bases : List Tree
  pub variables : List Sort
  pub marks : List Bool
  pub bound : List Tree

-- the same with these around, and in the body of a sum over s
abbrev pub in_bodies : List Tree → Context → Context
in_bodies bs Γ = record { types = Γ.types; bases = Γ.bases; variables = Γ.variables; marks = Γ.marks; bound = bs }

abbrev pub bind : Tree → Context → Context
bind s Γ = in_bodies (s ∷ Γ.bound) Γ

-- 02, CR 7: "The declarations gain a mark". It is no part of a variable's type
abbrev pub Marked : Context → ℕ → Type 0
Marked Γ a = get_or Γ.marks a false ≡ true

-- how many names of each kind are declared
abbrev pub counts_of : Context → Names
counts_of Γ = record { types = Γ.types; bases = length Γ.bases; variables = length Γ.variables }

-- the product of two indices
infixr 30 ◌⊠◌
abbrev pub ◌⊠◌ : Tree → Tree → Tree
σ ⊠ τ = node index_product (σ ▹ τ ▹ none)

-- 01: "A type index has at most 63 words"
abbrev pub Short : Tree → Type 0
Short σ = length (words σ) ≤ max_index

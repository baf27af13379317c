-- What is proved of declarations: what nearly every theorem asks of a context, and what a call that is done adds to it.
use Rattle.std.specs.Prelude.{◌≡◌, Bool, true, List, [], ◌∷◌, ◌++◌, ℕ, get_or}
use Rattle.term.specs.Trees.{Tree}
use Rattle.term.specs.Parts.{parse, tree_in}
use Rattle.types.specs.Sorts.{Sort, Context}
use Rattle.types.specs.Rules.{WellFormed}
use Rattle.declarations.specs.Declarations.{type_in, marked, context_in, is_index, is_variable, good_declarations}
use Rattle.declarations.specs.Put.{done, start_answer, started, room, answer, basis_put, variable_put}

-- declarations that 7 does not refuse make a well-formed context
abbrev pub GoodContext : Type 0
GoodContext = (ds : List ℕ) → good_declarations ds ≡ true → WellFormed (context_in ds)

-- ---- a context of types alone, and one with one name more, behind those that are there
abbrev pub types_alone : ℕ → Context
types_alone n = record { types = n; bases = []; variables = []; marks = []; bound = [] }

abbrev pub with_basis : Context → Tree → Context
with_basis Γ σ = record { types = Γ.types; bases = Γ.bases ++ σ ∷ []; variables = Γ.variables; marks = Γ.marks; bound = Γ.bound }

abbrev pub with_variable : Context → Sort → Bool → Context
with_variable Γ S m = record { types = Γ.types; bases = Γ.bases; variables = Γ.variables ++ S ∷ []; marks = Γ.marks ++ m ∷ []; bound = Γ.bound }

-- the declarations are good and declare this
pub record Declares (ds : List ℕ) (Γ : Context) : Type 0 where
  pub good : good_declarations ds ≡ true
  pub context : context_in ds ≡ Γ

-- ---- a call that is done declares exactly what it was given beside what was declared: so many types, a basis's index, or a variable's type and mark
abbrev pub Starts : Type 0
Starts = (ds : List ℕ) (types : ℕ) → start_answer ds types ≡ done → Declares (started ds types) (types_alone types)

abbrev pub PutsBasis : Type 0
PutsBasis =
    (ds index : List ℕ) (Γ : Context) → Declares ds Γ → answer (room ds 1) (is_index (get_or ds 0 0) index) ≡ done → Declares (basis_put ds index) (with_basis Γ (tree_in (parse index)))

abbrev pub PutsVariable : Type 0
PutsVariable =
    (ds : List ℕ) (kind : ℕ) (first second : List ℕ) (Γ : Context) → Declares ds Γ → answer (room ds 2) (is_variable (get_or ds 0 0) kind first second) ≡ done
    → Declares (variable_put ds kind first second) (with_variable Γ (type_in kind (tree_in (parse first)) (tree_in (parse second))) (marked kind))

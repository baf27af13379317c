-- The context after a put: the new name stands behind those that were there, and these declare what they did.
use mathlib.Core.Path.{◌≡◌, refl}
use mathlib.Core.Bool.{true}
use mathlib.Core.List.{List}
use Prim.Native.Nat.{ℕ}
use native.Mathlib.Numerals.{add-one}
use native.Mathlib.Omega.{arith}
use lib.ListN.{length, get_or}
use Rattle.words.proofs.Listed.{up_to-same, up_to-more}
use Rattle.term.specs.Parts.{parse, tree_in}
use Rattle.types.specs.Sorts.{Context}
use Rattle.declarations.specs.Declarations.{size, type_in, marked, context_in, is_index, is_variable, good_declarations}
use Rattle.declarations.specs.Put.{done, started, room, basis_put, variable_put}
use Rattle.declarations.specs.Statements.{types_alone, with_basis, with_variable}
use Rattle.declarations.proofs.Kept.{basis_tree, variable_type, variable_mark, basis_kept, variable_kept, mark_kept, basis_put-kept, basis_put-new, variable_put-kept, variable_put-new, started-types, started_none}

context-same : {Γ Δ : Context} → Γ.types ≡ Δ.types → Γ.bases ≡ Δ.bases → Γ.variables ≡ Δ.variables → Γ.marks ≡ Δ.marks → Γ.bound ≡ Δ.bound → Γ ≡ Δ
context-same p q r m s = λ i. record { types = p i; bases = q i; variables = r i; marks = m i; bound = s i }

-- ---- the contexts
pub started-context : (ds : List ℕ) (types : ℕ) → length ds ≡ size → context_in (started ds types) ≡ types_alone types
unfolding context_in
started-context ds types l =
    rw (started-types ds types l, started_none ds types l 1 (omega arith) (omega arith), started_none ds types l 2 (omega arith) (omega arith))

pub basis_context : (ds index : List ℕ) → good_declarations ds ≡ true → room ds 1 ≡ done → is_index (get_or ds 0 0) index ≡ true
    → context_in (basis_put ds index) ≡ with_basis (context_in ds) (tree_in (parse index))
unfolding context_in
basis_context ds index e r f =
    let k = basis_put-kept ds index e r f in
    let bases = up_to-more _ (basis_kept e k) (basis_tree (basis_put-new ds index e r f)) in
    context-same k.types (rw (k.bases, add-one) bases) (rw k.variables (up_to-same _ (variable_kept e k))) (rw k.variables (up_to-same _ (mark_kept e k))) refl

pub variable_context : (ds : List ℕ) (kind : ℕ) (first second : List ℕ) → good_declarations ds ≡ true → room ds 2 ≡ done → is_variable (get_or ds 0 0) kind first second ≡ true
    → context_in (variable_put ds kind first second) ≡ with_variable (context_in ds) (type_in kind (tree_in (parse first)) (tree_in (parse second))) (marked kind)
unfolding context_in
variable_context ds kind first second e r f =
    let k = variable_put-kept ds kind first second e r f in
    let new = variable_put-new ds kind first second e r f in
    let variables = up_to-more _ (variable_kept e k) (variable_type new) in
    let marks = up_to-more _ (mark_kept e k) (variable_mark new) in
    context-same k.types (rw k.bases (up_to-same _ (basis_kept e k))) (rw (k.variables, add-one) variables) (rw (k.variables, add-one) marks) refl

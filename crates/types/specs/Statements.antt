-- What is proved of typing: the function that the code equals and the published rules are one, and code 10's place is the one that document 01 names.
use Rattle.std.specs.Prelude.{◌≡◌, ◌↔◌, ℕ, length}
use Rattle.std.proofs.Math.Option.{some, none as nothing}
use Rattle.term.specs.Trees.{Tree, found, subtree}
use Rattle.types.specs.Sorts.{Sort, Context}
use Rattle.types.specs.Rules.{◌⊢◌∶◌, Proper, WellFormed}
use Rattle.types.specs.Inside.{inside}
use Rattle.types.specs.First.{FirstUntyped}
use Rattle.types.specs.Strays.{FirstStray, NoStray, stray_of}
use Rattle.types.specs.TypeOf.{typed, untyped, type_of}

-- what the function types has that sort by the rules, wherever the part stands
abbrev pub Sound : Type 0
Sound = (Γ : Context) → WellFormed Γ → (at : ℕ) (t : Tree) (S : Sort) → type_of Γ at t ≡ typed S → Γ ⊢ t ∶ S

-- what has a sort by the rules, the function types
abbrev pub Complete : Type 0
Complete = (Γ : Context) → WellFormed Γ → (at : ℕ) (t : Tree) (S : Sort) → Γ ⊢ t ∶ S → type_of Γ at t ≡ typed S

-- a part has at most one sort
abbrev pub Unique : Type 0
Unique = (Γ : Context) → WellFormed Γ → (t : Tree) (S T : Sort) → Γ ⊢ t ∶ S → Γ ⊢ t ∶ T → S ≡ T

-- where there is no sort, the function names exactly the part of 01's code 10: "at is the offset of the untyped part that ends first, among equal ends the one with the
-- greatest offset"
abbrev pub Places : Type 0
Places = (Γ : Context) → WellFormed Γ → (t : Tree) (k : ℕ) → (type_of Γ 0 t ≡ untyped k) ↔ FirstUntyped Γ t k

-- a part of a typed term is typed in the context at its place, which is well-formed: 02, CR 1, "Parts inside a body are typed with the bases bound around them"
abbrev pub PartTyped : Type 0
PartTyped =
    (Γ : Context) → WellFormed Γ → (t : Tree) (S : Sort) → Γ ⊢ t ∶ S → (k : ℕ) (s : Tree) → subtree t k ≡ found s
    → WellFormed (inside Γ t k) × ((R : Sort) × (inside Γ t k ⊢ s ∶ R))

-- the indices of a sort are indices of the context, and so short: 01, "an index over 63 words, or a part whose type needs one, counts as untyped"
abbrev pub Indices : Type 0
Indices = (Γ : Context) → WellFormed Γ → (t : Tree) (S : Sort) → Γ ⊢ t ∶ S → Proper Γ S

-- code 13's place is named where there is one, and a part that has a sort has none
abbrev pub Strays : Type 0
Strays =
    (Γ : Context) (t : Tree)
    → ((k : ℕ) → (stray_of (length Γ.bound) 0 t ≡ some k) ↔ FirstStray Γ t k) × ((stray_of (length Γ.bound) 0 t ≡ nothing) ↔ NoStray Γ t)

abbrev pub TypedNoStray : Type 0
TypedNoStray = (Γ : Context) → WellFormed Γ → (t : Tree) (S : Sort) → Γ ⊢ t ∶ S → NoStray Γ t

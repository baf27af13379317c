-- The answer of typing a part, as the code gives it.
use Rattle.std.specs.Prelude.{◌≡◌, true, cond, List, [], ◌∷◌, ℕ, ◌+◌, ◌*◌, ◌/◌, ◌%◌, ◌≤◌, ◌<◌, min, eqb, ltb, length, get_or, Option as CodeOption, Some, None, Result, Ok, Err}
use Rattle.std.proofs.Math.Option.{Option, some, none as nothing}
use Rattle.std.proofs.Math.ListN.{get_elem?}
use Rattle.term.specs.declared.heads.Class.{Class}
use Rattle.term.specs.declared.heads.Class.TheVariants.{Index, Basis, Scalar, Ket, Bra, Operator}
use Rattle.term.specs.Parts.{parse, tree_in, part, part_depth}
use Rattle.term.specs.Terms.{term_words, max_bodies}
use Rattle.term.specs.Trees.{Tree}
use Rattle.typing.specs.declared.sorts.Sorted as S
use Rattle.typing.specs.declared.lookup.Entry as E
use Rattle.typing.specs.declared.infer.Part as P
use Rattle.typing.specs.declared.terms.Kind as K
use Rattle.typing.specs.declared.terms.Kind.TheVariants as Kinds
use Rattle.typing.specs.declared.terms.Typing as A
use Rattle.typing.specs.Answers.{refuse, strayed, answer_of}
use Rattle.typebook.specs.Code.Shapes.{Shape, shape, shape_of, given}
use Rattle.typing.specs.Code.Shapes.{shape_at, Small, Above, Answers, plain}
use Rattle.typing.specs.Code.Chains.{Around, Held}
use Rattle.typing.specs.Code.Conclude.{run_of}
use Rattle.declarations.specs.Declarations.{good_declarations, basis_at, variable_at, basis_in, variable_in, context_in, context_at, names_in}
use Rattle.types.specs.Sorts.{Sort, basis, Context}
use Rattle.types.specs.Strays.{stray_of}
use Rattle.types.specs.TypeOf.{index_tree, typed, untyped, type_of}

-- a part of so many words and so deep, by the sort that is concluded of it; it is itself the first untyped one where it has none
abbrev pub settlement : ℕ → ℕ → CodeOption S.Sorted → Result P.Part ℕ
settlement n d None = Err 0
settlement n d (Some s) = Ok (record { size = n; depth = d; sorted = s })

-- ---- a head without children, by its word: a name as declared, a bound basis, or the scalar 0 or 1
-- a bound basis has the index of its sum, where that has one
unfoldable pub index_shape : ℕ → Option Tree → Option Shape
unfolding index_tree
index_shape types nothing = nothing
index_shape types (some σ) = given (index_tree types σ) (some (shape_of (basis σ)))

unfoldable pub bound_shape : ℕ → ℕ → List Tree → Option Shape
unfolding index_shape
bound_shape types a bs = given (ltb a max_bodies) (index_shape types (get_elem? bs a))

unfoldable pub leaf_of : List ℕ → List Tree → ℕ → Option Shape
unfolding bound_shape
leaf_of ds bs w =
    cond (eqb (w / 256) 1) (given (ltb (w % 256) (get_or ds 0 0)) (some (shape Index (w ∷ []) [])))
    (cond (eqb (w / 256) 3) (given (ltb (w % 256) (get_or ds 1 0)) (some (shape_of (basis (basis_in ds (w % 256))))))
    (cond (eqb (w / 256) 26) (given (ltb (w % 256) (get_or ds 2 0)) (some (shape_of (variable_in ds (w % 256)))))
    (cond (eqb (w / 256) 28) (bound_shape (get_or ds 0 0) (w % 256) bs)
    (some (shape Scalar [] [])))))

-- a variable's sort in numbers, by its kind and the lengths of its two indices
abbrev pub sorted_by : ℕ → ℕ → ℕ → S.Sorted
sorted_by k n m =
    cond (eqb k 0) plain
    (cond (eqb k 1) (record { class = Ket; left = n; right = 0 })
    (cond (eqb k 2) (record { class = Bra; left = 0; right = n })
    (record { class = Operator; left = n; right = m })))

-- what is declared of a name, in numbers
abbrev pub bare_entry : E.Entry
bare_entry = record { sorted = plain; left = run_of 0 0; right = run_of 0 0 }

unfoldable pub basis_entry : List ℕ → ℕ → E.Entry
basis_entry ds a =
    let n = get_or ds (basis_at a) 0 in
    record { sorted = record { class = Basis; left = n; right = 0 }; left = run_of (basis_at a + 1) n; right = run_of 0 0 }

unfoldable pub variable_entry : List ℕ → ℕ → E.Entry
variable_entry ds a =
    let at = variable_at a in
    let n = get_or ds (at + 1) 0 in
    let m = get_or ds (at + 2) 0 in
    record { sorted = sorted_by (get_or ds at 0 % 4) n m; left = run_of (at + 3) n; right = run_of (at + 66) m }

unfoldable pub entry_of : List ℕ → ℕ → CodeOption E.Entry
entry_of ds w =
    cond (eqb (w / 256) 3) (cond (ltb (w % 256) (get_or ds 1 0)) (Some (basis_entry ds (w % 256))) None)
    (cond (eqb (w / 256) 26) (cond (ltb (w % 256) (get_or ds 2 0)) (Some (variable_entry ds (w % 256))) None) (Some bare_entry))

-- the words of the stack that the typing of a part of at most n words, no deeper than the budget, may take: a child's sort stays where another follows it, with a record of two words
-- behind it where it is the first of a sum over a basis. So at most one a level, and one for two words of the term
abbrev pub need : ℕ → ℕ → ℕ
need n budget = min (64 * n + 128) (128 * budget + 128)

-- a typed part: it is whole and no deeper than the budget, and its words stand on the stack
pub record Settled (Γ : Context) (ws : List ℕ) (budget top : ℕ) (p : P.Part) (st : List ℕ) : Type 0 where
  pub sort : Sort
  pub whole : 0 < length (part ws 0)
  pub is : type_of Γ 0 (tree_in (parse ws)) ≡ typed sort
  pub size : p.size ≡ length (part ws 0)
  pub depth : p.depth ≡ part_depth ws 0
  pub shallow : part_depth ws 0 ≤ budget
  pub small : Small p.sorted
  pub sorted : shape_at st top p.sorted ≡ shape_of sort

-- any other: no whole part, or a deeper one, or untyped, at this offset
pub record Unsettled (Γ : Context) (ws : List ℕ) (budget k : ℕ) : Type 0 where
  pub inside : k ≤ length ws
  pub is : 0 < length (part ws 0) → part_depth ws 0 ≤ budget → type_of Γ 0 (tree_in (parse ws)) ≡ untyped k

abbrev pub Judged : Context → List ℕ → ℕ → ℕ → Result P.Part ℕ → List ℕ → Type 0
Judged Γ ws budget top (Ok p) st = Settled Γ ws budget top p st
Judged Γ ws budget top (Err k) st = Unsettled Γ ws budget k

pub record Found (Γ : Context) (ws : List ℕ) (budget top : ℕ) (r : Result P.Part ℕ) (st st' : List ℕ) : Type 0 where
  pub kept : Above top st st'
  pub told : Judged Γ ws budget top r st'

-- ---- a part is typed under good declarations, with the trees of the sums around it on the stack
pub record Under (ds st : List ℕ) (top : ℕ) (a : Around) : Type 0 where
  pub good : good_declarations ds ≡ true
  pub long : length st ≤ 8320
  pub held : Held (get_or ds 0 0) st top a

-- and there is room for what it may take
pub record Typable (ds ws st : List ℕ) (top budget : ℕ) (a : Around) : Type 0 where
  pub under : Under ds st top a
  pub room : top + need (length ws) budget ≤ length st
  pub few : a.bodies + budget ≤ 64

-- what is found of a head without children, and of a part, whatever those trees are
abbrev pub LeafFound : List ℕ → ℕ → ℕ → Around → CodeOption S.Sorted → List ℕ → List ℕ → Type 0
LeafFound ds w top a r st st' = (x : Held (get_or ds 0 0) st top a) → Answers (leaf_of ds x.trees w) r top st st'

abbrev pub PartFound : List ℕ → List ℕ → ℕ → ℕ → Around → Result P.Part ℕ → List ℕ → List ℕ → Type 0
PartFound ds ws budget top a r st st' = (x : Held (get_or ds 0 0) st top a) → Found (context_at ds x.trees) ws budget top r st st'

-- the answer for words that are all of them the term's, or none: the tests 8, 13, 10 and 11
unfoldable pub typing_in : List ℕ → List ℕ → A.Typing
unfolding term_words names_in part_depth stray_of type_of context_in tree_in strayed answer_of refuse
typing_in ds ws =
    cond (term_words (names_in ds) ws)
    (strayed (stray_of 0 0 (tree_in (parse ws))) (answer_of (length ws) (part_depth ws 0) (type_of (context_in ds) 0 (tree_in (parse ws)))))
    (refuse 8 0)

-- the kind of a type with such a sort; an index or a basis is no type
abbrev pub kind_of : Class → ℕ → ℕ → CodeOption K.Kind
kind_of Scalar n m = Some Kinds.Scalar
kind_of Ket n m = Some (Kinds.Ket n)
kind_of Bra n m = Some (Kinds.Bra m)
kind_of Operator n m = Some (Kinds.Operator n m)
kind_of _ n m = None

-- What a file says, and how it is written: document 01, "The file". A file of the form is what `print` writes of a `File` that is in order.
use Rattle.std.specs.Prelude.{◌≡◌, Bool, true, cond, ◌&&◌, List, [], ◌∷◌, ◌++◌, map, ℕ, ◌≤◌, eqb, leb, length}
use Rattle.term.specs.declared.parts.Side.{Side}
use Rattle.term.specs.declared.parts.Side.TheVariants.{Left, Right}
use Rattle.term.specs.declared.terms.Names.{Names}
use Rattle.term.specs.Parts.{parse, tree_in}
use Rattle.term.specs.Terms.{max_names, term_words}
use Rattle.types.specs.Sorts.{Context}
use Rattle.declarations.specs.Declarations.{is_index, is_variable, type_in, marked}
use Rattle.rules.specs.Steps.{Move}
use Rattle.lent.specs.Lent.{max_steps}
use Rattle.text.specs.Pieces.{Text, space, ended}
use Rattle.text.specs.Numbers.{decimal}
use Rattle.text.specs.Tokens.{spaced, tokens}

-- a variable's kind (0 scalar, 1 ket, 2 bra, 3 operator, 7 an operator marked as unitary) and the words of its indices
pub record Variable : Type 0 where
  pub kind : ℕ
  pub first : List ℕ
  pub second : List ℕ

pub record File : Type 0 where
  pub types : ℕ
  pub bases : List (List ℕ)
  pub variables : List Variable
  pub left : List ℕ
  pub right : List ℕ
  pub steps : List Move

-- ---- written. The keys, with their `=`; `Other` stands for no key of a file
pub data Key : Type 0 where
  Types Basis Var LeftTerm RightTerm Step End Other : Key

abbrev pub key_text : Key → Text
key_text Types = 116 ∷ 121 ∷ 112 ∷ 101 ∷ 115 ∷ 61 ∷ []
key_text Basis = 98 ∷ 97 ∷ 115 ∷ 105 ∷ 115 ∷ 61 ∷ []
key_text Var = 118 ∷ 97 ∷ 114 ∷ 61 ∷ []
key_text LeftTerm = 108 ∷ 101 ∷ 102 ∷ 116 ∷ 61 ∷ []
key_text RightTerm = 114 ∷ 105 ∷ 103 ∷ 104 ∷ 116 ∷ 61 ∷ []
key_text Step = 115 ∷ 116 ∷ 101 ∷ 112 ∷ 61 ∷ []
key_text End = 101 ∷ 110 ∷ 100 ∷ 61 ∷ []
key_text Other = []

-- "var=S, var=K INDEX, var=B INDEX or var=O INDEX INDEX"; 02, CR 7: "var=U INDEX: an operator on that index"
abbrev pub letter : ℕ → ℕ
letter kind = cond (eqb kind 0) 83 (cond (eqb kind 1) 75 (cond (eqb kind 2) 66 (cond (eqb kind 3) 79 85)))

-- "SIDE L or R"
abbrev pub side_letter : Side → ℕ
side_letter Left = 76
side_letter Right = 82

-- the index of a marked operator, which is both, is written once
abbrev pub written_words : Variable → List ℕ
written_words v = cond (marked v.kind) v.first (v.first ++ v.second)

unfoldable pub variable_text : Variable → Text
unfolding spaced
variable_text v = letter v.kind ∷ spaced (written_words v)

unfoldable pub step_text : Move → Text
unfolding decimal
step_text m =
    let s = m.step in
    side_letter m.side ∷ space ∷ decimal s.rule ++ space ∷ decimal s.place ++ space ∷ decimal s.i ++ space ∷ decimal s.j

-- "in this order: one types=N (0 to 32); up to 32 basis=INDEX; up to 32 var=..; left=TERM; right=TERM; up to 1,000 step=SIDE RULE PLACE I J ..; end=number of steps"
unfoldable pub header : File → List Text
unfolding decimal tokens variable_text
header f = (key_text Types ++ decimal f.types) ∷ map (λ b. key_text Basis ++ tokens b) f.bases ++ map (λ v. key_text Var ++ variable_text v) f.variables

unfoldable pub lines : File → List Text
unfolding header tokens step_text decimal
lines f =
    header f
    ++ (key_text LeftTerm ++ tokens f.left) ∷ (key_text RightTerm ++ tokens f.right) ∷ map (λ m. key_text Step ++ step_text m) f.steps
    ++ (key_text End ++ decimal (length f.steps)) ∷ []

unfoldable pub print : File → Text
unfolding ended lines
print f = ended (lines f)

-- ---- in order
-- how many names are declared
abbrev pub names_of : File → Names
names_of f = record { types = f.types; bases = length f.bases; variables = length f.variables }

unfoldable pub all_indices : ℕ → List (List ℕ) → Bool
all_indices N [] = true
all_indices N (b ∷ bs) = is_index N b && all_indices N bs

unfoldable pub all_variables : ℕ → List Variable → Bool
all_variables N [] = true
all_variables N (v ∷ vs) = is_variable N v.kind v.first v.second && all_variables N vs

abbrev pub max_field : ℕ
max_field = 65535

-- "a step field over 65,535" is malformed
unfoldable pub is_step : Move → Bool
is_step m = let s = m.step in leb s.rule max_field && (leb s.place max_field && (leb s.i max_field && leb s.j max_field))

unfoldable pub all_steps : List Move → Bool
unfolding is_step
all_steps [] = true
all_steps (m ∷ ms) = is_step m && all_steps ms

abbrev pub max_bytes : ℕ
max_bytes = 65536

-- declarations within the limits of "The file", each exactly the indices wanted (7)
pub record DeclaredBy (N : ℕ) (bs : List (List ℕ)) (vs : List Variable) : Type 0 where
  pub few_types : N ≤ max_names
  pub few_bases : length bs ≤ max_names
  pub bases : all_indices N bs ≡ true
  pub few_variables : length vs ≤ max_names
  pub variables : all_variables N vs ≡ true

abbrev pub WellDeclared : File → Type 0
WellDeclared f = DeclaredBy f.types f.bases f.variables

-- so declared, each side a term (8), and steps within the limits
pub record InOrder (f : File) : Type 0 where
  pub declared : WellDeclared f
  pub left : term_words (names_of f) f.left ≡ true
  pub right : term_words (names_of f) f.right ≡ true
  pub few_steps : length f.steps ≤ max_steps
  pub steps : all_steps f.steps ≡ true

-- bytes of "document 01's form" (demand 2): "At most 65,536 bytes"
pub record Written (bytes : Text) (f : File) : Type 0 where
  pub printed : bytes ≡ print f
  pub order : InOrder f
  pub small : length bytes ≤ max_bytes

-- ---- what it declares
unfoldable pub context_of : File → Context
unfolding type_in tree_in parse
context_of f = record {
  types = f.types;
  bases = map (λ b. tree_in (parse b)) f.bases;
  variables = map (λ v. type_in v.kind (tree_in (parse v.first)) (tree_in (parse v.second))) f.variables;
  marks = map (λ v. marked v.kind) f.variables;
  bound = [];
}

-- How a file is read, as a function for the code to equal: a walk over its lines, up to the first fault. Of a file that is read the relation to believe is `Written` of `Files`, and
-- `Reads` of `Statements` says that the two agree; of a fault it is this order. Document 01: "Codes 2, 3 come first, then the file by lines (in a line 4, 6, 5, then 7, 8 or 9)".
use Rattle.std.specs.Prelude.{Bool, false, cond, ◌||◌, List, [], ◌∷◌, ◌++◌, ℕ, ◌+◌, eqb, leb, length, take, drop, get_or}
use Rattle.std.specs.Prelude as Code
use Rattle.std.specs.Prelude.{Some, None}
use Rattle.std.proofs.Math.Option.{Option, some, none}
use Rattle.term.specs.declared.parts.Side.{Side}
use Rattle.term.specs.declared.parts.Side.TheVariants.{Left, Right}
use Rattle.term.specs.Parts.{part}
use Rattle.term.specs.Terms.{max_names, term_words}
use Rattle.declarations.specs.Declarations.{is_index, is_variable, marked}
use Rattle.rules.specs.Steps.{Move}
use Rattle.lent.specs.Lent.{max_steps}
use Rattle.text.specs.Bytes.{bad_line}
use Rattle.text.specs.Pieces.{Text, space, parted, lines_of, pieces, starts}
use Rattle.text.specs.Numbers.{number_in, limited_to, at_most}
use Rattle.text.specs.Tokens.{tokens_in}
use Rattle.format.specs.Files.{Variable, File, Key, Types, Basis, Var, LeftTerm, RightTerm, Step, End, Other, key_text, names_of, max_field, max_bytes}

-- ---- keys
unfoldable pub first_key : List Key → Text → Key
unfolding starts
first_key [] l = Other
first_key (k ∷ ks) l = cond (starts (key_text k) l) k (first_key ks l)

-- the key that a line begins with; `Other` for no key of a file, as in a line without `=`
unfoldable pub key_of : Text → Key
unfolding first_key
key_of l = first_key (Types ∷ Basis ∷ Var ∷ LeftTerm ∷ RightTerm ∷ Step ∷ End ∷ []) l

-- The stages of a file: before its types, among its bases, among its variables, behind its left side, among its steps, at its end. Which key may come in which stage, and which stage is then
unfoldable pub fits : Key → ℕ → Bool
fits Types s = eqb s 0
fits Basis s = eqb s 1
fits Var s = eqb s 1 || eqb s 2
fits LeftTerm s = eqb s 1 || eqb s 2
fits RightTerm s = eqb s 3
fits Step s = eqb s 4
fits End s = eqb s 4
fits Other s = false

abbrev pub stage_after : Key → ℕ
stage_after Types = 1
stage_after Basis = 1
stage_after Var = 2
stage_after LeftTerm = 3
stage_after RightTerm = 4
stage_after Step = 4
stage_after End = 5
stage_after Other = 0

-- "6 one basis, var or step line too many"
unfoldable pub full : Key → File → Bool
full Types f = false
full Basis f = eqb (length f.bases) max_names
full Var f = eqb (length f.variables) max_names
full LeftTerm f = false
full RightTerm f = false
full Step f = eqb (length f.steps) max_steps
full End f = false
full Other f = false

-- ---- values
-- "var=S, var=K INDEX, var=B INDEX or var=O INDEX INDEX"; 02, CR 7: "var=U INDEX". The tokens stand behind the letter, each behind a space
unfoldable pub kind_of_letter : ℕ → Option ℕ
kind_of_letter b = cond (eqb b 83) (some 0) (cond (eqb b 75) (some 1) (cond (eqb b 66) (some 2) (cond (eqb b 79) (some 3) (cond (eqb b 85) (some 7) none))))

unfoldable pub words_behind : Text → Option (List ℕ)
unfolding tokens_in
words_behind [] = some []
words_behind (b ∷ bs) = cond (eqb b space) (tokens_in bs) none

-- an operator's second index begins where its first one ends; a marked operator's is the first once more
abbrev pub variable_with : ℕ → List ℕ → Variable
variable_with kind ws =
    let n = cond (eqb kind 3) (length (part ws 0)) (length ws) in
    record { kind = kind; first = take n ws; second = cond (marked kind) ws (drop n ws) }

unfoldable pub variable_of : Option ℕ → Option (List ℕ) → Option Variable
unfolding part
variable_of none ws = none
variable_of (some kind) none = none
variable_of (some kind) (some ws) = some (variable_with kind ws)

unfoldable pub variable_in : Text → Option Variable
unfolding variable_of kind_of_letter words_behind
variable_in [] = none
variable_in (b ∷ bs) = variable_of (kind_of_letter b) (words_behind bs)

unfoldable pub side_in : Text → Option Side
side_in s = cond (eqb (length s) 1) (cond (eqb (get_or s 0 0) 76) (some Left) (cond (eqb (get_or s 0 0) 82) (some Right) none)) none

unfoldable pub move_of : Option Side → Option ℕ → Option ℕ → Option ℕ → Option ℕ → Option Move
move_of none r p i j = none
move_of (some side) none p i j = none
move_of (some side) (some r) none i j = none
move_of (some side) (some r) (some p) none j = none
move_of (some side) (some r) (some p) (some i) none = none
move_of (some side) (some r) (some p) (some i) (some j) = some (record { side = side; step = record { rule = r; place = p; i = i; j = j } })

-- "step=SIDE RULE PLACE I J": five fields and no more
unfoldable pub move_in : List Text → Option Move
unfolding move_of side_in number_in limited_to
move_in fs =
    let field : ℕ → Option ℕ = λ k. at_most max_field (get_or fs k []) in
    cond (eqb (length fs) 5) (move_of (side_in (get_or fs 0 [])) (field 1) (field 2) (field 3) (field 4)) none

-- ---- a line: a code, or what is read with it
pub data Line : Type 0 where
  wrong : ℕ → Line
  good : File → Line

-- "5 .. types over 32"
unfoldable pub take_types : File → Option ℕ → Line
take_types f none = wrong 5
take_types f (some n) = good (record { types = n; bases = f.bases; variables = f.variables; left = f.left; right = f.right; steps = f.steps })

-- "7 a declaration is not exactly the indices wanted, or breaks a limit or a name"
abbrev pub and_basis : File → List ℕ → File
and_basis f b = record { types = f.types; bases = f.bases ++ b ∷ []; variables = f.variables; left = f.left; right = f.right; steps = f.steps }

unfoldable pub take_basis : File → Option (List ℕ) → Line
take_basis f none = wrong 5
take_basis f (some b) = cond (is_index f.types b) (good (and_basis f b)) (wrong 7)

abbrev pub and_variable : File → Variable → File
and_variable f v = record { types = f.types; bases = f.bases; variables = f.variables ++ v ∷ []; left = f.left; right = f.right; steps = f.steps }

unfoldable pub take_variable : File → Option Variable → Line
take_variable f none = wrong 5
take_variable f (some v) = cond (is_variable f.types v.kind v.first v.second) (good (and_variable f v)) (wrong 7)

-- "8 a term has an unknown head, n = 0, a wrong end, over 4,096 words, over 64 deep, or an undeclared name"
abbrev pub and_left : File → List ℕ → File
and_left f ws = record { types = f.types; bases = f.bases; variables = f.variables; left = ws; right = f.right; steps = f.steps }

abbrev pub and_right : File → List ℕ → File
and_right f ws = record { types = f.types; bases = f.bases; variables = f.variables; left = f.left; right = ws; steps = f.steps }

unfoldable pub take_term : File → (List ℕ → File) → Option (List ℕ) → Line
take_term f put none = wrong 5
take_term f put (some ws) = cond (term_words (names_of f) ws) (good (put ws)) (wrong 8)

abbrev pub and_step : File → Move → File
and_step f m = record { types = f.types; bases = f.bases; variables = f.variables; left = f.left; right = f.right; steps = f.steps ++ m ∷ [] }

unfoldable pub take_step : File → Option Move → Line
take_step f none = wrong 5
take_step f (some m) = good (and_step f m)

-- "9 end differs from the steps present"
unfoldable pub take_end : File → Option ℕ → Line
take_end f none = wrong 5
take_end f (some n) = cond (eqb n (length f.steps)) (good f) (wrong 9)

unfoldable pub take_value : Key → File → Text → Line
unfolding take_types take_basis take_variable take_term take_step take_end variable_in move_in tokens_in number_in limited_to pieces
take_value Types f v = take_types f (at_most max_names v)
take_value Basis f v = take_basis f (tokens_in v)
take_value Var f v = take_variable f (variable_in v)
take_value LeftTerm f v = take_term f (and_left f) (tokens_in v)
take_value RightTerm f v = take_term f (and_right f) (tokens_in v)
take_value Step f v = take_step f (move_in (parted space v))
take_value End f v = take_end f (number_in v)
take_value Other f v = wrong 4

-- ---- the file
-- "in a line 4, 6, 5, then 7, 8 or 9"
unfoldable pub key_line : Key → ℕ → File → Text → Line
unfolding fits full take_value
key_line key stage f value = cond (fits key stage) (cond (full key f) (wrong 6) (take_value key f value)) (wrong 4)

unfoldable pub line_taken : ℕ → File → Text → Line
unfolding key_of key_line
line_taken stage f l = let key = key_of l in key_line key stage f (drop (length (key_text key)) l)

-- a code with its line, or what the file says
pub data Reading : Type 0 where
  fault : ℕ → ℕ → Reading
  read : File → Reading

unfoldable pub on_line : Line → (ℕ → Reading) → (File → Reading) → Reading
on_line (wrong c) f g = f c
on_line (good x) f g = g x

-- from line n on, in a stage. "4 key missing or out of order, or a line after end; with no end line, at is one past the last line"
unfoldable pub read_from : ℕ → ℕ → File → List Text → Reading
unfolding on_line line_taken key_of
read_from n stage f [] = cond (eqb stage 5) (read f) (fault 4 n)
read_from n stage f (l ∷ ls) = on_line (line_taken stage f l) (λ c. fault c n) λ g. read_from (n + 1) (stage_after (key_of l)) g ls

abbrev pub nothing : File
nothing = record { types = 0; bases = []; variables = []; left = []; right = []; steps = [] }

-- a line of bad bytes comes before all that is read
unfoldable pub behind_bytes : Code.Option ℕ → Reading → Reading
behind_bytes None r = r
behind_bytes (Some n) r = fault 3 n

-- 01: "2 over 65,536 bytes; at 0", "3 a byte other than LF and 32 to 126, or no LF as last byte"; "Codes 2, 3 come first, then the file by lines"
unfoldable pub read_of : Text → Reading
unfolding behind_bytes read_from bad_line pieces
read_of bytes = cond (leb (length bytes) max_bytes) (behind_bytes (bad_line 1 false bytes) (read_from 1 0 nothing (lines_of bytes))) (fault 2 0)

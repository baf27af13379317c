-- What the code keeps of a file from line to line, and what it answers to a line.
use Rattle.std.specs.Prelude.{◌≡◌, true, cond, List, [], ◌∷◌, ℕ, ◌+◌, ◌≤◌, ◌<◌, length, take, get_or, Option, Some, None, Result, Ok, Err}
use Rattle.std.proofs.Math.Option as O
use Rattle.std.proofs.Math.Option.{some, none}
use Rattle.term.specs.declared.parts.Side.{Side}
use Rattle.term.specs.Terms.{term_words}
use Rattle.declarations.specs.declared.constructor.PutError.{PutError}
use Rattle.declarations.specs.declared.constructor.PutError.TheVariants.{WrongSize, Full, Bad}
use Rattle.lent.specs.Lent.{max_steps}
use Rattle.text.specs.Pieces.{Text, fields_from}
use Rattle.text.specs.Numbers.{at_most}
use Rattle.text.specs.Tokens.{tokens_in}
use Rattle.format.specs.Files.{Key, Step, File, names_of, max_field}
use Rattle.format.specs.Reading.{Line, wrong, good, full, take_term, take_value, side_in}
use Rattle.format.specs.Kept.{padded, steps_of}
use Rattle.reader.specs.declared.faults.Fault.{Fault}
use Rattle.reader.specs.declared.stepping.Field.{Field}

abbrev pub fault : ℕ → ℕ → Fault
fault code at = record { code = code; at = at }

-- what is answered to line n: its fault, or any value
pub data Answers {A : Type 0} (n : ℕ) : Line → Result A Fault → Type 0 where
  refused : {c : ℕ} → Answers n (wrong c) (Err (fault c n))
  taken : {f : File} {x : A} → Answers n (good f) (Ok x)

-- the value of a key in order, which is tested for fullness first
abbrev pub ordered : Key → File → Text → Line
ordered k f v = cond (full k f) (wrong 6) (take_value k f v)

-- a line that puts something into a slice: its fault, and the words of the file that is then read
pub record Put {A : Type 0} (made : File → List ℕ) (n : ℕ) (l : Line) (r : Result A Fault) (out : List ℕ) : Type 0 where
  pub answer : Answers n l r
  pub words : (g : File) → l ≡ good g → out ≡ made g

-- the words of a name, read to the front of a slice that has room for so many
pub data WordsRead (o : O.Option (List ℕ)) (line : ℕ) (out out' : List ℕ) : Result ℕ Fault → Type 0 where
  malformed : length out' ≡ length out → o ≡ none → WordsRead o line out out' (Err (fault 5 line))
  too_many : {ws : List ℕ} → length out' ≡ length out → o ≡ some ws → length out < length ws → WordsRead o line out out' (Err (fault 7 line))
  few : {ws : List ℕ} {n : ℕ} → length out' ≡ length out → o ≡ some ws → n ≡ length ws → n ≤ length out → take n out' ≡ ws → WordsRead o line out out' (Ok n)

-- a term's line: its fault, or how many words the term has; and those words, with zeros behind
pub record Placed (f : File) (n : ℕ) (s : Text) (r : Result ℕ Fault) (out : List ℕ) : Type 0 where
  pub answer : (put : List ℕ → File) → Answers n (take_term f put (tokens_in s)) r
  pub words : (ws : List ℕ) → tokens_in s ≡ some ws → term_words (names_of f) ws ≡ true → (out ≡ padded ws) × (r ≡ Ok (length ws))

-- the side of a step line, its first field
pub data SideRead (s : Text) : Option Side → Type 0 where
  known : {d : Side} (p : Text) → fields_from 0 s ≡ p ∷ fields_from 2 s → side_in p ≡ some d → SideRead s (Some d)
  unknown : side_in (get_or (fields_from 0 s) 0 []) ≡ none → SideRead s None

-- a field of a step line that begins at an offset: its number, and where the next begins
pub data FieldRead (s : Text) (at : ℕ) : Option Field → Type 0 where
  field : {x : Field} (p : Text) → fields_from at s ≡ p ∷ fields_from x.next s → at_most max_field p ≡ some x.number → x.next ≤ length s + 1 → FieldRead s at (Some x)
  no_field : at_most max_field (get_or (fields_from at s) 0 []) ≡ none → FieldRead s at None

-- a step line behind k steps
abbrev pub StepTaken : {A : Type 0} → Text → ℕ → ℕ → List ℕ → Result A Fault → List ℕ → Type 0
StepTaken s line k ws r out =
    (f : File) → length f.steps ≤ max_steps → k ≡ length f.steps → ws ≡ steps_of f → Put steps_of line (ordered Step f s) r out

-- the code of a line whose name cannot be put
abbrev pub put_code : PutError → ℕ
put_code WrongSize = 7
put_code Full = 6
put_code Bad = 7

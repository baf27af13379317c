-- A fault of the reading has a code from 2 to 9.
use mathlib.Core.Path.{◌≡◌}
use mathlib.Core.Bool.{Bool, true, false, cond}
use mathlib.Core.List.{List, [], ◌∷◌}
use mathlib.Core.Option.{Option, some, none}
use Prim.Native.Nat.{ℕ, ◌+◌, ◌≤◌}
use native.Mathlib.Omega.{arith}
use lib.Dec.{eqb, leb}
use lib.ListN.{length}
use Rattle.term.specs.Terms.{max_names, term_words}
use Rattle.declarations.specs.Declarations.{is_index, is_variable}
use Rattle.rules.specs.Steps.{Move}
use Rattle.std.specs.Prelude as Code
use Rattle.std.specs.Prelude.{Some, None}
use Rattle.text.specs.Bytes.{bad_line}
use Rattle.text.specs.Pieces.{Text, space, parted, lines_of}
use Rattle.text.specs.Numbers.{number_in, at_most}
use Rattle.text.specs.Tokens.{tokens_in}
use Rattle.format.specs.Files.{Variable, File, Key, Types, Basis, Var, LeftTerm, RightTerm, Step, End, Other, names_of, max_bytes}
use Rattle.format.specs.Reading.{Line, wrong, good, Reading, fault, read, fits, full, key_of, take_types, take_basis, take_variable, take_term}
use Rattle.format.specs.Reading.{take_step, take_end, take_value, and_left, and_right, variable_in, move_in, key_line, line_taken, on_line, stage_after, behind_bytes, read_from, nothing, read_of}

pub data Marked : Line → Type 0 where
  marked : (c : ℕ) → (2 ≤ c) × (c ≤ 9) → Marked (wrong c)
  fine : {f : File} → Marked (good f)

data Coded : Reading → Type 0 where
  coded : {n : ℕ} (c : ℕ) → (2 ≤ c) × (c ≤ 9) → Coded (fault c n)
  whole : {f : File} → Coded (read f)

-- ---- a line
either : (b : Bool) {x y : Line} → Marked x → Marked y → Marked (cond b x y)
either true m k = m
either false m k = k

module _ (f : File) where
  types : (o : Option ℕ) → Marked (take_types f o)
  unfolding take_types
  types none = marked 5 (omega arith)
  types (some n) = fine

  basis : (o : Option (List ℕ)) → Marked (take_basis f o)
  unfolding take_basis
  basis none = marked 5 (omega arith)
  basis (some b) = either (is_index f.types b) fine (marked 7 (omega arith))

  variable : (o : Option Variable) → Marked (take_variable f o)
  unfolding take_variable
  variable none = marked 5 (omega arith)
  variable (some v) = either (is_variable f.types v.kind v.first v.second) fine (marked 7 (omega arith))

  term : (put : List ℕ → File) (o : Option (List ℕ)) → Marked (take_term f put o)
  unfolding take_term
  term put none = marked 5 (omega arith)
  term put (some ws) = either (term_words (names_of f) ws) fine (marked 8 (omega arith))

  step : (o : Option Move) → Marked (take_step f o)
  unfolding take_step
  step none = marked 5 (omega arith)
  step (some m) = fine

  end : (o : Option ℕ) → Marked (take_end f o)
  unfolding take_end
  end none = marked 5 (omega arith)
  end (some n) = either (eqb n (length f.steps)) fine (marked 9 (omega arith))

  value : (k : Key) (v : Text) → Marked (take_value k f v)
  unfolding take_value
  value Types v = types (at_most max_names v)
  value Basis v = basis (tokens_in v)
  value Var v = variable (variable_in v)
  value LeftTerm v = term (and_left f) (tokens_in v)
  value RightTerm v = term (and_right f) (tokens_in v)
  value Step v = step (move_in (parted space v))
  value End v = end (number_in v)
  value Other v = marked 4 (omega arith)

  key_line_lem : (k : Key) (stage : ℕ) (v : Text) → Marked (key_line k stage f v)
  unfolding key_line
  key_line_lem k stage v = either (fits k stage) (either (full k f) (marked 6 (omega arith)) (value k v)) (marked 4 (omega arith))

  pub line : (stage : ℕ) (l : Text) → Marked (line_taken stage f l)
  unfolding line_taken
  line stage l = key_line_lem (key_of l) stage _

-- ---- the file
one_of : (b : Bool) {x y : Reading} → Coded x → Coded y → Coded (cond b x y)
one_of true m k = m
one_of false m k = k

on_line_lem : {l : Line} (n : ℕ) {g : File → Reading} → Marked l → ((f : File) → Coded (g f)) → Coded (on_line l (λ c. fault c n) g)
unfolding on_line
on_line_lem n (marked c h) g = coded c h
on_line_lem n (fine {f}) g = g f

from : (n stage : ℕ) (f : File) (ls : List Text) → Coded (read_from n stage f ls)
unfolding read_from
from n stage f [] = one_of (eqb stage 5) whole (coded 4 (omega arith))
from n stage f (l ∷ ls) = on_line_lem n (line f stage l) (λ g. from (n + 1) (stage_after (key_of l)) g ls)

bytes_lem : (o : Code.Option ℕ) {x : Reading} → Coded x → Coded (behind_bytes o x)
unfolding behind_bytes
bytes_lem None m = m
bytes_lem (Some n) m = coded 3 (omega arith)

all : (bytes : Text) → Coded (read_of bytes)
unfolding read_of
all bytes =
    one_of (leb (length bytes) max_bytes) (bytes_lem (bad_line 1 false bytes) (from 1 0 nothing (lines_of bytes))) (coded 2 (omega arith))

in_range : {c n : ℕ} → Coded (fault c n) → (2 ≤ c) × (c ≤ 9)
in_range (coded c h) = h

pub fault-code : (bytes : Text) {c n : ℕ} → read_of bytes ≡ fault c n → (2 ≤ c) × (c ≤ 9)
fault-code bytes e = in_range (rw e at (all bytes))

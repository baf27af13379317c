-- The bytes of lines that are taken: each is printable, so that the lines are found again and the bytes have no fault.
use mathlib.Core.Path.{◌≡◌, refl, ◌∙◌}
use mathlib.Core.Bool.{Bool, true, false, cond, ◌&&◌, and-eq-true_iff}
use mathlib.Core.List.{List, [], ◌∷◌, ◌++◌}
use Prim.Native.Nat.{ℕ, ◌+◌, ◌/◌, ◌%◌}
use native.Mathlib.Omega.{arith}
use borrow.Author.Tests.{leb-true, le-leb, ne_eqb}
use lib.Dec.{eqb, leb}
use Rattle.words.specs.Listed.{lacks, all}
use Rattle.term.specs.declared.parts.Side.{Side}
use Rattle.term.specs.declared.parts.Side.TheVariants.{Left, Right}
use Rattle.rules.specs.Steps.{Move}
use Rattle.std.specs.Prelude.{None}
use Rattle.text.specs.Bytes.{line_feed, printable, bad_line}
use Rattle.text.specs.Pieces.{Text, space, colon, ended}
use Rattle.text.specs.Numbers.{is_digit, all_digits, decimal}
use Rattle.text.specs.Tokens.{carries, token, spaced, tokens}
use Rattle.text.proofs.Decimals.{digit-is, decimal_digits}
use Rattle.text.proofs.Cutting.{all_lack}
use Rattle.format.specs.Files.{Key, Variable, File, key_text, letter, side_letter, written_words, variable_text, step_text}
use Rattle.format.proofs.Values.{Value, types, basis, variable, left, right, step, end}
use Rattle.format.proofs.Lines.{Taken, taken}
use Rattle.format.proofs.Runs.{Run, stop, more}

unfoldable plain : Text → Bool
unfolding printable
plain [] = true
plain (b ∷ bs) = printable b && plain bs

plain-append : (p r : Text) → plain p ≡ true → plain r ≡ true → plain (p ++ r) ≡ true
unfolding plain
plain-append [] r h k = k
plain-append (b ∷ p) r h k = let q = (and-eq-true_iff (printable b) (plain p)).0 h in (and-eq-true_iff (printable b) _).1 (q.0, plain-append p r q.1 k)

-- ---- what is written
digits_plain : (p : Text) → all_digits p ≡ true → plain p ≡ true
unfolding plain all
digits_plain [] h = refl
digits_plain (b ∷ p) h =
    let q = (and-eq-true_iff (is_digit b) (all_digits p)).0 h in
    let d = digit-is b q.0 in
    rw (le-leb 32 b (omega arith), le-leb b 126 (omega arith)) (digits_plain p q.1)

decimal-plain : (n : ℕ) → plain (decimal n) ≡ true
decimal-plain n = digits_plain (decimal n) (decimal_digits n)

token-plain : (w : ℕ) → plain (token w) ≡ true
unfolding token plain
token-plain w = go (carries (w / 256))
  where
    go : (t : Bool) → plain (cond t (decimal (w / 256) ++ colon ∷ decimal (w % 256)) (decimal (w / 256))) ≡ true
    go true = plain-append (decimal (w / 256)) (colon ∷ decimal (w % 256)) (decimal-plain (w / 256)) (decimal-plain (w % 256))
    go false = decimal-plain (w / 256)

spaced-plain : (ws : List ℕ) → plain (spaced ws) ≡ true
unfolding spaced plain
spaced-plain [] = refl
spaced-plain (w ∷ ws) = plain-append (token w) (spaced ws) (token-plain w) (spaced-plain ws)

tokens-plain : (ws : List ℕ) → plain (tokens ws) ≡ true
unfolding tokens plain
tokens-plain [] = refl
tokens-plain (w ∷ ws) = plain-append (token w) (spaced ws) (token-plain w) (spaced-plain ws)

letter-plain : (kind : ℕ) → printable (letter kind) ≡ true
unfolding printable
letter-plain kind = go (eqb kind 0) (eqb kind 1) (eqb kind 2) (eqb kind 3)
  where
    go : (s t u v : Bool) → printable (cond s 83 (cond t 75 (cond u 66 (cond v 79 85)))) ≡ true
    go true t u v = refl
    go false true u v = refl
    go false false true v = refl
    go false false false true = refl
    go false false false false = refl

variable_plain : (v : Variable) → plain (variable_text v) ≡ true
unfolding variable_text plain
variable_plain v = (and-eq-true_iff (printable (letter v.kind)) _).1 (letter-plain v.kind, spaced-plain (written_words v))

side-plain : (s : Side) (n : ℕ) → plain (side_letter s ∷ space ∷ decimal n) ≡ true
unfolding plain
side-plain Left n = decimal-plain n
side-plain Right n = decimal-plain n

field_plain : (p : Text) (n : ℕ) → plain p ≡ true → plain (p ++ space ∷ decimal n) ≡ true
unfolding plain
field_plain p n h = plain-append p (space ∷ decimal n) h (decimal-plain n)

step-plain : (m : Move) → plain (step_text m) ≡ true
unfolding step_text
step-plain m = let s = m.step in field_plain _ s.j (field_plain _ s.i (field_plain _ s.place (side-plain m.side s.rule)))

value_plain : {k : Key} {f g : File} {v : Text} → Value k f v g → plain (key_text k ++ v) ≡ true
unfolding plain
value_plain (types n h) = decimal-plain n
value_plain (basis b h) = tokens-plain b
value_plain (variable v h) = variable_plain v
value_plain (left ws h) = tokens-plain ws
value_plain (right ws h) = tokens-plain ws
value_plain (step m h) = step-plain m
value_plain (end {f}) = decimal-plain _

taken-plain : {s t : ℕ} {f g : File} {l : Text} → Taken s f l t g → plain l ≡ true
taken-plain (taken h n x) = value_plain x

-- ---- no byte of it ends a line
no_feed : (b : ℕ) → printable b ≡ true → eqb b line_feed ≡ false
unfolding printable
no_feed b h = let q = leb-true 32 b ((and-eq-true_iff (leb 32 b) (leb b 126)).0 h).0 in ne_eqb b line_feed (λ e. omega arith)

plain-lacks : (p : Text) → plain p ≡ true → lacks line_feed p ≡ true
unfolding plain lacks
plain-lacks [] h = refl
plain-lacks (b ∷ p) h = let q = (and-eq-true_iff (printable b) (plain p)).0 h in rw (no_feed b q.0) (plain-lacks p q.1)

bad-behind : (n : ℕ) (f : Bool) (p r : Text) → plain p ≡ true → bad_line n f (p ++ line_feed ∷ r) ≡ bad_line (n + 1) true r
unfolding plain bad_line
bad-behind n f [] r h = refl
bad-behind n f (b ∷ p) r h =
    let q = (and-eq-true_iff (printable b) (plain p)).0 h in
    rw (no_feed b q.0, q.0) (bad-behind n false p r q.1)

-- ---- the lines of a run
pub run-lacks : {s t : ℕ} {f g : File} {ls : List Text} → Run s f ls t g → all_lack line_feed ls ≡ true
unfolding all_lack
run-lacks stop = refl
run-lacks (more {l} x r) = rw (plain-lacks l (taken-plain x)) (run-lacks r)

run-fine : {s t : ℕ} {f g : File} {ls : List Text} → Run s f ls t g → (n : ℕ) → bad_line n true (ended ls) ≡ None
unfolding ended bad_line
run-fine stop n = refl
run-fine (more {l} {ls} x r) n = bad-behind n true l (ended ls) (taken-plain x) ∙ run-fine r (n + 1)

pub run-fault : {f g : File} {ls : List Text} → Run 0 f ls 5 g → bad_line 1 false (ended ls) ≡ None
unfolding ended
run-fault (more {l} {ls} x r) = bad-behind 1 false l (ended ls) (taken-plain x) ∙ run-fine r 2

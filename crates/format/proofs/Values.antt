-- The value of a line: what is taken is exactly what is written of an item that passes its test.
use mathlib.Core.Path.{◌≡◌, refl}
use mathlib.Core.Bool.{Bool, true, false, cond}
use mathlib.Core.List.{List}
use mathlib.Core.Option.{Option, some, none}
use Prim.Native.Nat.{ℕ, ◌≤◌}
use native.Mathlib.Omega.{arith}
use borrow.Author.Tests.{eqb-true, eq-eqb}
use lib.Dec.{eqb}
use lib.ListN.{length}
use Rattle.term.specs.Terms.{max_names, term_words}
use Rattle.declarations.specs.Declarations.{is_index, is_variable}
use Rattle.rules.specs.Steps.{Move}
use Rattle.text.specs.Pieces.{Text, space, parted}
use Rattle.text.specs.Numbers.{decimal, number_in, at_most}
use Rattle.text.specs.Tokens.{tokens, tokens_in}
use Rattle.text.proofs.Decimals.{number-decimal, decimal-number}
use Rattle.format.specs.Files.{Key, Types, Basis, Var, LeftTerm, RightTerm, Step, End, Other, Variable, File, names_of, variable_text, step_text, is_step}
use Rattle.format.specs.Reading.{wrong, good, variable_in, move_in, and_basis, and_variable, and_left, and_right, and_step}
use Rattle.format.specs.Reading.{take_types, take_basis, take_variable, take_term, take_step, take_end, take_value}
use Rattle.format.proofs.Known.{index_told, term_told, told-read, told-written}
use Rattle.format.proofs.Limits.{limit_read, limit_written}
use Rattle.format.proofs.Variables.{variable_read, variable_written}
use Rattle.format.proofs.Moves.{move_read, move-written}

abbrev pub and_types : File → ℕ → File
and_types f n = record { types = n; bases = f.bases; variables = f.variables; left = f.left; right = f.right; steps = f.steps }

-- a key's value with the file before it and after it
pub data Value : Key → File → Text → File → Type 0 where
  types : {f : File} (n : ℕ) → n ≤ max_names → Value Types f (decimal n) (and_types f n)
  basis : {f : File} (b : List ℕ) → is_index f.types b ≡ true → Value Basis f (tokens b) (and_basis f b)
  variable : {f : File} (v : Variable) → is_variable f.types v.kind v.first v.second ≡ true → Value Var f (variable_text v) (and_variable f v)
  left : {f : File} (ws : List ℕ) → term_words (names_of f) ws ≡ true → Value LeftTerm f (tokens ws) (and_left f ws)
  right : {f : File} (ws : List ℕ) → term_words (names_of f) ws ≡ true → Value RightTerm f (tokens ws) (and_right f ws)
  step : {f : File} (m : Move) → is_step m ≡ true → Value Step f (step_text m) (and_step f m)
  end : {f : File} → Value End f (decimal (length f.steps)) f

-- ---- each is taken
pub value_taken : {k : Key} {f g : File} {s : Text} → Value k f s g → take_value k f s ≡ good g
unfolding take_value
value_taken (types n h) = rw (limit_read max_names n h)
value_taken (basis {f} b h) = rw (told-read b (index_told f.types b h), h)
value_taken (variable {f} v h) = rw (variable_read f.types v h, h)
value_taken (left {f} ws h) = rw (told-read ws (term_told (names_of f) ws h), h)
value_taken (right {f} ws h) = rw (told-read ws (term_told (names_of f) ws h), h)
value_taken (step m h) = rw (move_read m h)
value_taken (end {f}) = rw (number-decimal, eq-eqb (length f.steps) (length f.steps) refl)

-- ---- nothing else is
passed : (x g : File) (c : ℕ) (t : Bool) → cond t (good x) (wrong c) ≡ good g → (t ≡ true) × (x ≡ g)
passed x g c true e = (refl, cc)
passed x g c false e = absurd (let z : ◌≡◌ {A = ℕ} 0 1 = cc in omega arith)

module _ (f g : File) (s : Text) where
  types_value : (o : Option ℕ) → at_most max_names s ≡ o → take_types f o ≡ good g → Value Types f s g
  unfolding take_types
  types_value none q e = absurd (let z : ◌≡◌ {A = ℕ} 0 1 = cc in omega arith)
  types_value (some n) q e = let w = limit_written max_names s n q in let z : and_types f n ≡ g = cc in rw (w.0, ← z) (types n w.1)

  basis_value : (o : Option (List ℕ)) → tokens_in s ≡ o → take_basis f o ≡ good g → Value Basis f s g
  unfolding take_basis
  basis_value none q e = absurd (let z : ◌≡◌ {A = ℕ} 0 1 = cc in omega arith)
  basis_value (some b) q e =
      let p = passed (and_basis f b) g 7 (is_index f.types b) e in
      rw (told-written s b q (index_told f.types b p.0), ← p.1) (basis b p.0)

  variable_value : (o : Option Variable) → variable_in s ≡ o → take_variable f o ≡ good g → Value Var f s g
  unfolding take_variable
  variable_value none q e = absurd (let z : ◌≡◌ {A = ℕ} 0 1 = cc in omega arith)
  variable_value (some v) q e =
      let p = passed (and_variable f v) g 7 (is_variable f.types v.kind v.first v.second) e in
      rw (variable_written f.types s v q p.0, ← p.1) (variable v p.0)

  term_value : (put : List ℕ → File) (o : Option (List ℕ)) → tokens_in s ≡ o → take_term f put o ≡ good g
      → (ws : List ℕ) × (s ≡ tokens ws) × (term_words (names_of f) ws ≡ true) × (put ws ≡ g)
  unfolding take_term
  term_value put none q e = absurd (let z : ◌≡◌ {A = ℕ} 0 1 = cc in omega arith)
  term_value put (some ws) q e =
      let p = passed (put ws) g 8 (term_words (names_of f) ws) e in
      (ws, told-written s ws q (term_told (names_of f) ws p.0), p.0, p.1)

  left_value : (ws : List ℕ) → s ≡ tokens ws → term_words (names_of f) ws ≡ true → and_left f ws ≡ g → Value LeftTerm f s g
  left_value ws w h q = rw (w, ← q) (left ws h)

  right_value : (ws : List ℕ) → s ≡ tokens ws → term_words (names_of f) ws ≡ true → and_right f ws ≡ g → Value RightTerm f s g
  right_value ws w h q = rw (w, ← q) (right ws h)

  step_value : (o : Option Move) → move_in (parted space s) ≡ o → take_step f o ≡ good g → Value Step f s g
  unfolding take_step
  step_value none q e = absurd (let z : ◌≡◌ {A = ℕ} 0 1 = cc in omega arith)
  step_value (some m) q e = let w = move-written s m q in let z : and_step f m ≡ g = cc in rw (w.0, ← z) (step m w.1)

  end_value : (o : Option ℕ) → number_in s ≡ o → take_end f o ≡ good g → Value End f s g
  unfolding take_end
  end_value none q e = absurd (let z : ◌≡◌ {A = ℕ} 0 1 = cc in omega arith)
  end_value (some n) q e =
      let p = passed f g 9 (eqb n (length f.steps)) e in
      rw (decimal-number s n q, eqb-true n (length f.steps) p.0, ← p.1) end

pub taken_value : (k : Key) (f : File) (s : Text) (g : File) → take_value k f s ≡ good g → Value k f s g
unfolding take_value
taken_value Types f s g e = types_value f g s (at_most max_names s) refl e
taken_value Basis f s g e = basis_value f g s (tokens_in s) refl e
taken_value Var f s g e = variable_value f g s (variable_in s) refl e
taken_value LeftTerm f s g e = let t = term_value f g s (and_left f) (tokens_in s) refl e in left_value f g s t.0 t.1 t.2 t.3
taken_value RightTerm f s g e = let t = term_value f g s (and_right f) (tokens_in s) refl e in right_value f g s t.0 t.1 t.2 t.3
taken_value Step f s g e = step_value f g s (move_in (parted space s)) refl e
taken_value End f s g e = end_value f g s (number_in s) refl e
taken_value Other f s g e = absurd (let z : ◌≡◌ {A = ℕ} 0 1 = cc in omega arith)

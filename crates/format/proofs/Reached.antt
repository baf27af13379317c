-- Each line that is taken leads from a stage to the next: the file so far is in order, and the lines so far are those written of it.
use mathlib.Core.Path.{◌≡◌, refl}
use mathlib.Core.Bool.{true, false}
use mathlib.Core.List.{List, [], ◌∷◌, ◌++◌, append-nil}
use Prim.Native.Nat.{ℕ, ◌≤◌}
use native.Mathlib.Omega.{arith}
use borrow.Author.Tests.{eqb-false}
use lib.Seq.{append_snoc}
use Rattle.term.specs.Terms.{max_names, term_words}
use Rattle.declarations.specs.Declarations.{is_index, is_variable}
use Rattle.rules.specs.Steps.{Move}
use Rattle.lent.specs.Lent.{max_steps}
use Rattle.text.specs.Pieces.{Text}
use Rattle.text.specs.Numbers.{decimal}
use Rattle.format.specs.Files.{Types, Basis, Var, Step, Variable, File, key_text, header, lines, names_of, all_indices, all_variables, is_step, all_steps, WellDeclared, InOrder}
use Rattle.format.specs.Code.Reached.{basis_line, variable_line, left_line, right_line, step_line, step_lines, Reached, start, bases, variables, left_side, steps, done}
use Rattle.format.specs.Reading.{full, nothing, and_basis, and_variable, and_left, and_right, and_step}
use Rattle.format.proofs.Declared.{indices_more, variables-good-more}
use Rattle.format.proofs.Values.{types, basis, variable, left, right, step, end, and_types}
use Rattle.format.proofs.Lines.{types-first, in_bases, first_variable, more-variables, behind-bases, behind-variables, behind-left, in_steps, behind-steps, Taken, taken}
use Rattle.format.proofs.Runs.{Run, stop, more}
use Rattle.format.proofs.Stated.{one_more_lem, steps-more, header_basis, header_variable, lines-right, lines_step}

-- ---- by a line of each key
with_types : (n : ℕ) → n ≤ max_names → Reached 1 (and_types nothing n) ((key_text Types ++ decimal n) ∷ [])
unfolding header all_indices all_variables
with_types n h = bases {f = and_types nothing n} (record { few_types = h; few_bases = omega arith; bases = refl; few_variables = omega arith; variables = refl }) refl refl

module _ (f : File) (d : WellDeclared f) where
  with_basis_lem : (b : List ℕ) → f.variables ≡ [] → f.steps ≡ [] → full Basis f ≡ false → is_index f.types b ≡ true
      → Reached 1 (and_basis f b) (header f ++ basis_line b ∷ [])
  unfolding full
  with_basis_lem b v s n h =
      let x : WellDeclared (and_basis f b) = record {
        few_types = d.few_types;
        few_bases = one_more_lem f.bases b max_names d.few_bases (eqb-false _ _ n);
        bases = indices_more f.types f.bases b d.bases h;
        few_variables = d.few_variables;
        variables = d.variables;
      } in
      rw (header_basis f b v) (bases x v s)

  with_variable_lem : (v : Variable) → f.steps ≡ [] → full Var f ≡ false → is_variable f.types v.kind v.first v.second ≡ true
      → Reached 2 (and_variable f v) (header f ++ variable_line v ∷ [])
  unfolding full
  with_variable_lem v s n h =
      let x : WellDeclared (and_variable f v) = record {
        few_types = d.few_types;
        few_bases = d.few_bases;
        bases = d.bases;
        few_variables = one_more_lem f.variables v max_names d.few_variables (eqb-false _ _ n);
        variables = variables-good-more f.types f.variables v d.variables h;
      } in
      rw (header_variable f v) (variables x s)

  with_left : (ws : List ℕ) → f.steps ≡ [] → term_words (names_of f) ws ≡ true → Reached 3 (and_left f ws) (header f ++ left_line (and_left f ws) ∷ [])
  unfolding header
  with_left ws s h = left_side {f = and_left f ws} d s h

  with_right : (ws : List ℕ) → f.steps ≡ [] → term_words (names_of f) f.left ≡ true → term_words (names_of f) ws ≡ true
      → Reached 4 (and_right f ws) (header f ++ left_line f ∷ [] ++ right_line (and_right f ws) ∷ [])
  unfolding header all_steps
  with_right ws s l h = rw (lines-right f ws s) (steps {f = and_right f ws} (record { declared = d; left = l; right = h; few_steps = rw s (omega arith); steps = rw s }))

with_step : (f : File) (m : Move) → InOrder f → full Step f ≡ false → is_step m ≡ true
    → Reached 4 (and_step f m) (header f ++ left_line f ∷ right_line f ∷ step_lines f ++ step_line m ∷ [])
unfolding full header
with_step f m d n h =
    let x : InOrder (and_step f m) = record {
      declared = d.declared;
      left = d.left;
      right = d.right;
      few_steps = one_more_lem f.steps m max_steps d.few_steps (eqb-false _ _ n);
      steps = steps-more f.steps m d.steps h;
    } in
    rw (lines_step f m) (steps x)

pub goes_on : {s t : ℕ} {f g : File} {l : Text} {ls : List Text} → Taken s f l t g → Reached s f ls → Reached t g (ls ++ l ∷ [])
unfolding lines
goes_on (taken types-first n (types k h)) start = with_types k h
goes_on (taken in_bases n (basis b h)) (bases {f} d v s) = with_basis_lem f d b v s n h
goes_on (taken first_variable n (variable x h)) (bases {f} d v s) = with_variable_lem f d x s n h
goes_on (taken more-variables n (variable x h)) (variables {f} d s) = with_variable_lem f d x s n h
goes_on (taken behind-bases n (left ws h)) (bases {f} d v s) = with_left f d ws s h
goes_on (taken behind-variables n (left ws h)) (variables {f} d s) = with_left f d ws s h
goes_on (taken behind-left n (right ws h)) (left_side {f} d s l) = with_right f d ws s l h
goes_on (taken in_steps n (step m h)) (steps {f} x) = with_step f m x n h
goes_on (taken behind-steps n end) (steps {f} x) = done x

run-reached : {s t : ℕ} {f g : File} {ls : List Text} → Run s f ls t g → (ks : List Text) → Reached s f ks → Reached t g (ks ++ ls)
run-reached stop ks r = rw append-nil r
run-reached (more {l} {ls} x y) ks r = rw append_snoc at (run-reached y (ks ++ l ∷ []) (goes_on x r))

-- what is read to its end is the file's lines, and the file is in order
end-reached : {f : File} {ls : List Text} → Reached 5 f ls → (ls ≡ lines f) × InOrder f
end-reached (done x) = (refl, x)

pub run-lines : {f : File} {ls : List Text} → Run 0 nothing ls 5 f → (ls ≡ lines f) × InOrder f
run-lines r = end-reached (run-reached r [] start)

-- A file as far as it is read: its lines, and what is in order of it, with one more item.
use mathlib.Core.Path.{◌≡◌}
use mathlib.Core.Bool.{true, and-eq-true_iff}
use mathlib.Core.List.{List, [], ◌∷◌, ◌++◌, append_assoc, append-nil, map, map-append}
use Prim.Native.Nat.{ℕ, ◌≤◌}
use native.Mathlib.Omega.{arith}
use lib.ListN.{length, length-append}
use Rattle.rules.specs.Steps.{Move}
use Rattle.text.specs.Pieces.{Text}
use Rattle.format.specs.Files.{Variable, File, header, is_step, all_steps}
use Rattle.format.specs.Code.Reached.{basis_line, variable_line, left_line, right_line, step_line, step_lines}
use Rattle.format.specs.Reading.{and_basis, and_variable, and_right, and_step}

-- ---- one more
pub steps-more : (ms : List Move) (m : Move) → all_steps ms ≡ true → is_step m ≡ true → all_steps (ms ++ m ∷ []) ≡ true
unfolding all_steps
steps-more [] m h k = rw k
steps-more (n ∷ ms) m h k = let p = (and-eq-true_iff (is_step n) (all_steps ms)).0 h in rw p.0 (steps-more ms m p.1 k)

pub one_more_lem {ℓ} : {A : Type ℓ} (xs : List A) (x : A) (n : ℕ) → length xs ≤ n → (length xs ≡ n → ⊥) → length (xs ++ x ∷ []) ≤ n
one_more_lem xs x n h k = rw length-append (omega (arith, k))

-- ---- the lines with one more
before-none : (xs ys zs : List Text) → ys ≡ [] → xs ++ ys ++ zs ≡ xs ++ zs ++ ys
before-none xs [] zs e = simp append-nil
before-none xs (y ∷ ys) zs e = cc

module _ (f : File) where
  pub header_basis : (b : List ℕ) → f.variables ≡ [] → header f ++ basis_line b ∷ [] ≡ header (and_basis f b)
  unfolding header
  header_basis b e = rw (map-append basis_line f.bases (b ∷ [])) (before-none (_ ∷ map basis_line f.bases) (map variable_line f.variables) (basis_line b ∷ []) (rw e))

  pub header_variable : (v : Variable) → header f ++ variable_line v ∷ [] ≡ header (and_variable f v)
  unfolding header
  header_variable v = simp (map-append, append_assoc)

  pub lines-right : (ws : List ℕ) → f.steps ≡ []
      → header f ++ left_line f ∷ [] ++ right_line (and_right f ws) ∷ [] ≡ header f ++ left_line f ∷ right_line (and_right f ws) ∷ step_lines f
  lines-right ws e = simp (e, append_assoc)

  pub lines_step : (m : Move)
      → header f ++ left_line f ∷ right_line f ∷ step_lines f ++ step_line m ∷ [] ≡ header f ++ left_line f ∷ right_line f ∷ step_lines (and_step f m)
  lines_step m = simp (map-append, append_assoc)

-- The lines of a file in order are taken one after the other.
use mathlib.Core.Path.{◌≡◌, refl}
use mathlib.Core.Bool.{true, and-eq-true_iff}
use mathlib.Core.List.{List, [], ◌∷◌, ◌++◌, append_assoc, append-nil, map}
use Prim.Native.Nat.{ℕ, ◌+◌, ◌≤◌}
use native.Mathlib.Omega.{arith}
use borrow.Author.Tests.{ne_eqb}
use lib.ListN.{length, length-append}
use lib.Seq.{append_snoc}
use Rattle.term.specs.Terms.{max_names}
use Rattle.declarations.specs.Declarations.{is_index, is_variable}
use Rattle.rules.specs.Steps.{Move}
use Rattle.lent.specs.Lent.{max_steps}
use Rattle.text.specs.Pieces.{Text}
use Rattle.text.specs.Numbers.{decimal}
use Rattle.format.specs.Files.{Types, Var, LeftTerm, End, Variable, File, key_text, lines, all_indices, all_variables, is_step, all_steps, InOrder}
use Rattle.format.specs.Reading.{full, nothing, and_basis, and_variable, and_left, and_right, and_step}
use Rattle.format.proofs.Values.{types, basis, variable, left, right, step, end, and_types}
use Rattle.format.proofs.Lines.{Fit, types-first, in_bases, first_variable, more-variables, behind-bases, behind-variables, behind-left, in_steps, behind-steps, taken}
use Rattle.format.proofs.Runs.{Run, stop, more}
use Rattle.format.specs.Code.Reached.{basis_line, variable_line, left_line, right_line, step_line}

abbrev and_bases : File → List (List ℕ) → File
and_bases f bs = record { types = f.types; bases = f.bases ++ bs; variables = f.variables; left = f.left; right = f.right; steps = f.steps }

abbrev and_variables : File → List Variable → File
and_variables f vs = record { types = f.types; bases = f.bases; variables = f.variables ++ vs; left = f.left; right = f.right; steps = f.steps }

abbrev and_steps : File → List Move → File
and_steps f ms = record { types = f.types; bases = f.bases; variables = f.variables; left = f.left; right = f.right; steps = f.steps ++ ms }

-- ---- rows of lines, before a run that goes on behind them
module _ {ls : List Text} {u : ℕ} {g : File} where
  bases-run : (f : File) (bs : List (List ℕ)) → length f.bases + length bs ≤ max_names → all_indices f.types bs ≡ true → Run 1 (and_bases f bs) ls u g
      → Run 1 f (map basis_line bs ++ ls) u g
  unfolding all_indices full
  bases-run f [] n h r = rw append-nil at r
  bases-run f (b ∷ bs) n h r =
      let p = (and-eq-true_iff (is_index f.types b) (all_indices f.types bs)).0 h in
      let l = length-append f.bases (b ∷ []) in
      more (taken in_bases (ne_eqb (length f.bases) max_names (λ e. omega arith)) (basis b p.0)) (bases-run (and_basis f b) bs (omega arith) p.1 (rw append_snoc r))

  variables-run : (s : ℕ) (f : File) (vs : List Variable) → length f.variables + length vs ≤ max_names → all_variables f.types vs ≡ true
      → Fit Var s → Fit LeftTerm s → ((t : ℕ) → Fit LeftTerm t → Run t (and_variables f vs) ls u g) → Run s f (map variable_line vs ++ ls) u g
  unfolding all_variables full
  variables-run s f [] n h x y r = rw append-nil at (r s y)
  variables-run s f (v ∷ vs) n h x y r =
      let p = (and-eq-true_iff (is_variable f.types v.kind v.first v.second) (all_variables f.types vs)).0 h in
      let l = length-append f.variables (v ∷ []) in
      more (taken x (ne_eqb (length f.variables) max_names (λ e. omega arith)) (variable v p.0))
      (variables-run 2 (and_variable f v) vs (omega arith) p.1 more-variables behind-variables (rw append_snoc r))

  steps-run : (f : File) (ms : List Move) → length f.steps + length ms ≤ max_steps → all_steps ms ≡ true → Run 4 (and_steps f ms) ls u g
      → Run 4 f (map step_line ms ++ ls) u g
  unfolding all_steps full
  steps-run f [] n h r = rw append-nil at r
  steps-run f (m ∷ ms) n h r =
      let p = (and-eq-true_iff (is_step m) (all_steps ms)).0 h in
      let l = length-append f.steps (m ∷ []) in
      more (taken in_steps (ne_eqb (length f.steps) max_steps (λ e. omega arith)) (step m p.0)) (steps-run (and_step f m) ms (omega arith) p.1 (rw append_snoc r))

-- ---- the whole file
regroup : (t l r : Text) (ks bs cs ds : List Text) → t ∷ ks ++ bs ++ l ∷ r ∷ cs ++ ds ≡ t ∷ (ks ++ (bs ++ l ∷ r ∷ (cs ++ ds)))
regroup t l r ks bs cs ds = simp append_assoc

module _ (f : File) where
  abbrev sides : List Text
  sides = left_line f ∷ right_line f ∷ (map step_line f.steps ++ (key_text End ++ decimal (length f.steps)) ∷ [])

  lines-row : lines f ≡ (key_text Types ++ decimal f.types) ∷ (map basis_line f.bases ++ (map variable_line f.variables ++ sides))
  unfolding lines
  lines-row = regroup _ (left_line f) (right_line f) (map basis_line f.bases) (map variable_line f.variables) (map step_line f.steps) (_ ∷ [])

  abbrev declaring : File
  declaring = and_variables (and_bases (and_types nothing f.types) f.bases) f.variables

  sides-run : InOrder f → (t : ℕ) → Fit LeftTerm t → Run t declaring sides 5 f
  unfolding full
  sides-run x t h =
      let l = x.few_steps in
      more (taken h refl (left f.left x.left))
      (more (taken behind-left refl (right f.right x.right))
      (steps-run (and_right (and_left declaring f.left) f.right) f.steps (omega arith) x.steps (more (taken behind-steps refl end) stop)))

  pub lines-run : InOrder f → Run 0 nothing (lines f) 5 f
  unfolding full
  lines-run x =
      let d = x.declared in
      let l = d.few_bases in
      let k = d.few_variables in
      rw lines-row (more (taken types-first refl (types f.types d.few_types))
      (bases-run (and_types nothing f.types) f.bases (omega arith) d.bases
      (variables-run 1 (and_bases (and_types nothing f.types) f.bases) f.variables (omega arith) d.variables first_variable behind-bases (sides-run x))))

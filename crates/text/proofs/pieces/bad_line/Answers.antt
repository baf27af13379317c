-- No line is asked for where all bytes are fine and the last is a LF.
use mathlib.Core.Path.{refl, sym, ◌∙◌}
use native.Mathlib.Omega.{arith}
use Rattle.text.proofs.Scanned.{last-fed, none-bad}
use Rattle.text.proofs.pieces.bad_line.Goals as goal

pub returns-then-are_fine : goal.returns-then-are_fine
returns-then-are_fine c =
    let ends = c.if-ends_with.ensures in
    let some = ends.bound refl in
    sym (none-bad _ (omega arith) (last-fed _ some ends.value) (sym c.are_fine.ensures ∙ c.if-are_fine.true))

-- Slices of other sizes are refused; else they are filled from what is told, each index whole.
use mathlib.Core.Path.{◌≡◌, sym, ◌∙◌}
use borrow.Author.Rules.{rules}
use borrow.Author.Tests.{eq-eqb}
use lib.ListN.{length}
use Rattle.library.proofs.Copies.{overlaid-whole}
use Rattle.library.proofs.hand_out.Goals as goal

pub returns : goal.returns
returns c =
    let answer = eq-eqb _ _ c.if-answer-ne9.false in
    let rows = eq-eqb _ _ c.if-rows-ne63.false in
    let columns = eq-eqb _ _ c.if-columns-ne63.false in
    let n : length c.args.t.of.rows ≡ 63 = search rules in
    let m : length c.args.t.of.columns ≡ 63 = search rules in
    record {
      returned = rw (answer, rows, columns);
      numbers = rw (answer, rows, columns) c.put_numbers.ensures;
      row_words = rw (answer, rows, columns) (c.copy_words.ensures.1 ∙ overlaid-whole _ _ (c.if-rows-ne63.false ∙ sym n));
      column_words = rw (answer, rows, columns) (c.copy_words-2.ensures.1 ∙ overlaid-whole _ _ (c.if-columns-ne63.false ∙ sym m));
    }

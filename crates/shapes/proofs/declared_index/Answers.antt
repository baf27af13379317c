-- By the head of the word.
use borrow.Author.Tests.{eq-eqb, ne_eqb}
use borrow.Author.Rules.{rules}
use Rattle.shapes.specs.Reading.{basis_index, declared_index}
use Rattle.shapes.proofs.declared_index.Goals as goal

pub overflow_mul-name : goal.overflow_mul-name
unfolding basis_index declared_index
overflow_mul-name c = search rules

pub overflow_add-name : goal.overflow_add-name
unfolding basis_index declared_index
overflow_add-name c = search rules

pub overflow_add-name-then-word-eq3 : goal.overflow_add-name-then-word-eq3
unfolding basis_index declared_index
overflow_add-name-then-word-eq3 c = search rules

pub overflow_mul-name-then-word-eq3 : goal.overflow_mul-name-then-word-eq3
unfolding basis_index declared_index
overflow_mul-name-then-word-eq3 c = search rules

pub overflow_add-name-then-word-eq3-2 : goal.overflow_add-name-then-word-eq3-2
unfolding basis_index declared_index
overflow_add-name-then-word-eq3-2 c = search rules

pub word_at-requires : goal.word_at-requires
unfolding basis_index declared_index
word_at-requires c = search rules

pub run-requires : goal.run-requires
unfolding basis_index declared_index
run-requires c = search rules

pub returns-then-word-eq3 : goal.returns-then-word-eq3
unfolding basis_index declared_index
returns-then-word-eq3 c = let h = c.if-word-eq3.true in rw (eq-eqb _ 3 h) (rw (c.from.ensures, c.word_at.ensures, c.from-name.ensures) at c.run.ensures)

pub variable_index-requires : goal.variable_index-requires
unfolding basis_index declared_index
variable_index-requires c = search rules

pub returns-then-word-eq26 : goal.returns-then-word-eq26
unfolding basis_index declared_index
returns-then-word-eq26 c = rw (ne_eqb _ 3 c.if-word-eq3.false, eq-eqb _ 26 c.if-word-eq26.true) (rw c.from-name.ensures at c.variable_index.ensures)

pub returns : goal.returns
unfolding basis_index declared_index
returns c = rw (ne_eqb _ 3 c.if-word-eq3.false, ne_eqb _ 26 c.if-word-eq26.false)

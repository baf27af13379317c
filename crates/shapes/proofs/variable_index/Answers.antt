-- There are two indices, and the entry has room for both.
use native.Mathlib.Omega.{arith}
use borrow.Author.Rules.{rules}
use Rattle.shapes.specs.Reading.{at_right, variable_index}
use Rattle.shapes.proofs.Steps.{second-few}
use Rattle.shapes.proofs.variable_index.Goals as goal

pub overflow_mul-entry : goal.overflow_mul-entry
unfolding variable_index
overflow_mul-entry c = search rules

pub overflow_add-entry : goal.overflow_add-entry
unfolding variable_index
overflow_add-entry c = search rules

pub word_at-requires : goal.word_at-requires
unfolding variable_index
word_at-requires c = search rules

pub second_of-k-requires : goal.second_of-k-requires
unfolding variable_index
second_of-k-requires c = search rules

pub overflow_add-entry-2 : goal.overflow_add-entry-2
unfolding variable_index
overflow_add-entry-2 c = search rules

pub overflow_mul-k : goal.overflow_mul-k
unfolding variable_index
overflow_mul-k c = let b = second-few (at_right c.args.side) _ c.second_of-k.ensures in omega arith

pub overflow_add-entry-3 : goal.overflow_add-entry-3
unfolding variable_index
overflow_add-entry-3 c = let b = second-few (at_right c.args.side) _ c.second_of-k.ensures in omega arith

pub overflow_add-entry-4 : goal.overflow_add-entry-4
unfolding variable_index
overflow_add-entry-4 c = search rules

pub overflow_add-entry-5 : goal.overflow_add-entry-5
unfolding variable_index
overflow_add-entry-5 c = let b = second-few (at_right c.args.side) _ c.second_of-k.ensures in omega arith

pub word_at-requires-2 : goal.word_at-requires-2
unfolding variable_index
word_at-requires-2 c = search rules

pub run-requires : goal.run-requires
unfolding variable_index
run-requires c = search rules

pub returns : goal.returns
unfolding variable_index
returns c = rw (c.from.ensures, c.word_at-2.ensures, c.second_of-k.ensures, c.word_at.ensures) at c.run.ensures

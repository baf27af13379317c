-- Document 01's examples with [p] hold, by computing.
use mathlib.Core.Path.{refl}
use Rattle.words.specs.Words.{cleared}
use Rattle.term.specs.Heads.{read, word, head_of}
use Rattle.term.specs.Trees.{◌⧺◌, count, words, subtree, replace}
use Rattle.term.specs.Parts.{parse, part, tree_in}
use Rattle.term.specs.Terms.{declared}
use Rattle.types.specs.Inside.{inside, later, binds}
use Rattle.types.specs.TypeOf.{conclude, type_of}
use Rattle.declarations.specs.Declarations.{context_in, is_index, is_variable, good_declarations}
use Rattle.rules.specs.Table.{rule_of}
use Rattle.rules.specs.Rewrite.{is_head, and_then, hold, match, satisfied, filled, behind, open_at, remove_at, multiple_of, collected, collect_before, collect_at, rewrite}
use Rattle.rules.specs.Steps.{step_of}
use Rattle.typing.specs.Answers.{typing_of}
use Rattle.step.specs.Answers.{answer_to, words_left}
use Rattle.step.specs.Examples.{declarations, slice, Examples}

pub examples : Examples
unfolding declarations cleared slice answer_to words_left typing_of good_declarations is_index is_variable context_in declared step_of inside later binds type_of tree_in parse part read conclude
    word head_of words rule_of subtree rewrite satisfied filled match is_head and_then hold replace count ◌⧺◌ open_at behind remove_at collect_at collect_before collected multiple_of
examples = record {
  delta_of_one = (refl, refl);
  delta_of_two = refl;
  collected = (refl, refl);
  out_of_order = refl;
  zero_removed = (refl, refl);
  only_zero = refl;
  pair = (refl, refl);
  outer_times_ket = (refl, refl);
  scaled_by_zero = (refl, refl);
  untyped_from_the_start = refl;
  untyped_sum = (refl, refl);
  untyped_product = (refl, refl);
}

-- The chain's test of every word.
use Rattle.std.proofs.Common.{◌∙◌, rules, tests}
use Rattle.std.proofs.lemmas.Iterator.{YieldsList-from_slice}
use Rattle.std.proofs.lemmas.Iterator.Search.{all_from_yields_List}
use Rattle.term.specs.Terms.{index_word}
use Rattle.term.proofs.Passed.{all_is}
use Rattle.term.proofs.terms.are_index_words.Goals as goal

pub returns : goal.returns
returns c = all_from_yields_List (index_word c.args.types) _ _ _ c.all.ensures.ran (YieldsList-from_slice c.args.ws.now (cc)) (λ x b q k. search (rules, tests)) ∙ all_is _ _

-- A sort with no kind is no type's; the words of any other are laid over zeros.
use mathlib.Core.Path.{sym, ◌∙◌}
use native.Mathlib.Omega.{arith}
use lib.Seq.{length-take-le}
use Rattle.typing.proofs.Answering.{no_type, a_type}
use Rattle.typing.proofs.terms.answered.Goals as goal

pub returns-in_default : goal.returns-in_default
returns-in_default c T is = c.refused_with.ensures ∙ no_type _ _ _ _ c.requires c.in_default.ensures T is

pub slice_bounds-copy_words-end-2 : goal.slice_bounds-copy_words-end-2
slice_bounds-copy_words-end-2 c = sym (length-take-le _ _ (omega arith))

pub returns : goal.returns
returns c = a_type _ _ _ _ c.requires c.in-Some.ensures c.copy_words.ensures.1 c.copy_words-2.ensures.1

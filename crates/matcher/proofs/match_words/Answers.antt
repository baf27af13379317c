use mathlib.Core.Path.{◌≡◌, ◌∙◌}
use borrow.Author.Rules.{rules}
use Rattle.std.specs.Prelude.{Err}
use Rattle.matcher.proofs.Walks.{asked-first, asked_last, asked-more, asked-stops, standing_begun, standing_next}
use Rattle.matcher.proofs.match_words.Goals as goal

pub loop-word-init : goal.loop-word-init
loop-word-init c = record { standing = rw c.begin-found.ensures (standing_begun _); asked = rw c.begin-found.ensures (asked-first _ _) }

pub returns-in_err-found : goal.returns-in_err-found
returns-in_err-found c =
    let told : c.from_residual.result ≡ Err c.in_err-found.field-0.0 = search rules in
    told ∙ asked-stops _ _ c.loop-word.invariant.asked c.loop-word-test.true c.in_err-found.ensures

pub loop-word-preserved : goal.loop-word-preserved
loop-word-preserved c = record {
  standing = standing_next c.loop-word.invariant.standing _ c.in_ok-found.ensures;
  asked = asked-more _ _ c.loop-word.invariant.asked c.loop-word-test.true c.in_ok-found.ensures;
}

pub returns : goal.returns
returns c = asked_last _ _ c.loop-word.invariant.asked c.loop-word-test.false

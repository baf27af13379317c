-- The tokens are of the form, and their words a term.
use mathlib.Core.Path.{sym, ◌∙◌}
use Rattle.text.proofs.Told.{told-none, told_some}
use Rattle.reader.proofs.Behind.{no_tokens_placed, no_term_placed, term_placed}
use borrow.Author.Rules.{rules}
use Rattle.reader.proofs.terms.take_term.Goals as goal

pub returns-in_default : goal.returns-in_default
returns-in_default c = λ f s e. no_tokens_placed f _ (told-none _ _ (sym c.read_tokens.ensures.0 ∙ c.in_default.is)) c.refused.ensures

pub returns-then-not-is_term : goal.returns-then-not-is_term
returns-then-not-is_term c =
    let w = told_some _ _ (sym c.read_tokens.ensures.0 ∙ c.in-Some.is) in
    let told = rw c.clear_from.ensures at c.read_tokens.ensures.1 in
    let test = sym c.is_term.ensures ∙ c.if-not-is_term.true in
    λ f s e. no_term_placed _ _ _ w.1 w.2 (search rules) told f s _ e c.names_of.ensures test c.refused-then-not-is_term.ensures

pub returns : goal.returns
returns c =
    let w = told_some _ _ (sym c.read_tokens.ensures.0 ∙ c.in-Some.is) in
    let told = rw c.clear_from.ensures at c.read_tokens.ensures.1 in
    let test = sym c.is_term.ensures ∙ c.if-not-is_term.false in λ f s e. term_placed _ _ _ w.1 w.2 (search rules) told f s _ e c.names_of.ensures test

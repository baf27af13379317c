-- A hole is left to its function; any other word is a case of the definition.
use mathlib.Core.Path.{ap, sym, ◌∙◌}
use native.Mathlib.Omega.{arith}
use Rattle.std.specs.Prelude.{Ok, Err}
use Rattle.words.proofs.Runs.{to_end}
use Rattle.matcher.proofs.Walks.{here_word, at-hole, word-past, word_differs, word_same}
use Rattle.matcher.proofs.Match.match_word.Goals as goal
use Rattle.matcher.proofs.Match.match_word.Goals.{else-here-gt0-via-then-here-gt0+else-here-word, else-here-gt0-via-else-here-gt0}

pub match_hole-requires : goal.match_hole-requires
match_hole-requires c = (c.requires, to_end c.args.ws.now _)

pub returns-then-word-eq255 : goal.returns-then-word-eq255
returns-then-word-eq255 c = c.match_hole.ensures ∙ at-hole _ _ _ c.if-word-eq255.true

pub returns-then-here-word : goal.returns-then-here-word
returns-then-here-word c =
    let first = here_word c.args.ws.now _ _ (to_end c.args.ws.now _) in
    ap Ok c.pass.ensures ∙ word_same _ _ _ c.if-word-eq255.false (omega (arith, c.if-here-gt0.true, c.requires.inside)) (sym first ∙ c.if-here-word.true)

pub returns : goal.returns
returns c = ap Err c.miss.ensures ∙ elim c.else-here-gt0.branch [
  | else-here-gt0-via-then-here-gt0+else-here-word w ↦
      let first = here_word c.args.ws.now _ _ (to_end c.args.ws.now _) in
      word_differs _ _ _ c.if-word-eq255.false (omega (arith, w.if-here-gt0.true, c.requires.inside)) (λ z. w.if-here-word.false (first ∙ z))
  | else-here-gt0-via-else-here-gt0 w ↦ word-past _ _ _ c.if-word-eq255.false (omega (arith, w.if-here-gt0.false, c.requires.inside))
]

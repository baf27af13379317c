-- The classes by number, then the words of both indices.
use mathlib.Core.Path.{sym, ◌∙◌}
use borrow.Author.Tests.{not-true, not-false}
use Rattle.typebook.specs.Code.Lines.{alike_to}
use Rattle.typing.proofs.Lying.{same_class, other_lengths, both-same}
use Rattle.typing.proofs.sorts.are_alike.Goals as goal
use Rattle.typing.proofs.sorts.are_alike.Goals.{then-ne-via-then-ne, then-ne-via-else-ne+then-a-b}

pub returns-then-ne : goal.returns-then-ne
unfolding alike_to
returns-then-ne c =
    elim c.then-ne.branch [
      | then-ne-via-then-ne w ↦ rw (sym (same_class c.args.a.class c.args.b.class) ∙ not-true _ (sym c.ne.ensures ∙ w.if-ne.true))
      | then-ne-via-else-ne+then-a-b w ↦
          rw (sym (same_class c.args.a.class c.args.b.class) ∙ not-false _ (sym c.ne.ensures ∙ w.if-ne.false)) (other_lengths _ _ _ c.args.a c.args.b c.requires w.if-a-b.true)
    ]

pub returns : goal.returns
unfolding alike_to
returns c =
    rw (sym (same_class c.args.a.class c.args.b.class) ∙ not-false _ (sym c.ne.ensures ∙ c.if-ne.false)) (rw (c.of.ensures, c.of-2.ensures) at c.same.ensures ∙ both-same _ _ _ c.args.a c.args.b c.requires c.if-a-b.false)

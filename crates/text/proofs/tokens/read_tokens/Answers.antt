use mathlib.Core.Path.{◌≡◌, refl, sym, ◌∙◌}
use mathlib.Core.Bool.{false}
use mathlib.Core.List.{◌∷◌}
use Prim.Native.Nat.{◌+◌, ◌≤◌}
use native.Mathlib.Omega.{arith}
use borrow.Author.Rules.{rules}
use lib.Dec.{eqb}
use Rattle.std.proofs.lemmas.Fn.{always_returns_same}
use lib.ListN.{length}
use lib.Seq.{set_out}
use Rattle.text.specs.Tokens.{tokens_in}
use Rattle.text.specs.Pieces.{space}
use Rattle.text.proofs.Told.{told-none, told_same}
use Rattle.text.proofs.Tokened.{left, piece_split, left_shorter, counted-all, counted-more, counted_none, counted-end, stored_more, stored-none, stored-end}
use Rattle.text.proofs.tokens.read_tokens.Goals as goal
use Rattle.text.proofs.tokens.read_tokens.Goals.{then-n-out, else-n-out}

pub loop-piece-init : goal.loop-piece-init
unfolding tokens_in
loop-piece-init c =
    let rest = c.split-piece-items.ensures.rest in
    rw (c.into_iter-piece-iterator.ensures.into_iter_gives, rest, c.split-piece-items.ensures.done) (λ d. omega arith, counted-all _, refl)

pub returns-in_err-word : goal.returns-in_err-word
returns-in_err-word c =
    let s = c.in-Some.ensures.steps in
    let inv = c.loop-piece.invariant in
    let f : left c.loop-piece.piece-iterator.done c.loop-piece.piece-iterator.rest.now ≡ c.in-Some.piece.now ∷ left c.next.new.self.done c.next.new.self.rest.now
    = rw s.0 (piece_split _ _ _ _ s.1 (s.2 (λ x. eqb x space) (always_returns_same _ _ _ (λ a r f' k. search rules))).1) in
    let none = told-none _ _ (sym c.read_token.ensures ∙ c.in_err-word.was) in
    (c.from_residual.ensures ∙ sym (inv.1 ∙ rw f (counted_none _ _ _ none)), sym (inv.2 ∙ rw f (stored-none _ _ _ _ none)))

pub overflow_add-n : goal.overflow_add-n
overflow_add-n c = let s = c.in-Some.ensures.steps in let n = c.loop-piece.invariant.0 s.0 in search rules

pub loop-piece-preserved : goal.loop-piece-preserved
loop-piece-preserved c =
    let s = c.in-Some.ensures.steps in
    let inv = c.loop-piece.invariant in
    let f : left c.loop-piece.piece-iterator.done c.loop-piece.piece-iterator.rest.now ≡ c.in-Some.piece.now ∷ left c.next.new.self.done c.next.new.self.rest.now
    = rw s.0 (piece_split _ _ _ _ s.1 (s.2 (λ x. eqb x space) (always_returns_same _ _ _ (λ a r f' k. search rules))).1) in
    let word = told_same _ (sym c.read_token.ensures ∙ c.in_ok-word.was) in
    let few : c.next.new.self.done ≡ false → c.loop-piece.n + 1 + length c.next.new.self.rest.now ≤ length c.args.text.now = λ d. let n = inv.0 s.0 in let l = left_shorter _ _ _ _ s.1 d in omega arith in
    let told = (rw f at inv.1) ∙ counted-more _ _ _ word in
    let rest = (rw f at inv.2) ∙ stored_more _ _ _ _ word in
    elim c.if-n-out.branch [
      | then-n-out w ↦ (few, told, rest ∙ rw w.out-is)
      | else-n-out w ↦ (few, told, rest ∙ rw (w.out-is, set_out _ _ _ w.if-n-out.false))
    ]

pub returns : goal.returns
returns c =
    let inv = c.loop-piece.invariant in
    let s = c.in-None.ensures.steps in
    (sym (inv.1 ∙ rw s.0 (counted-end _)), sym (inv.2 ∙ rw s.0 (stored-end _ _)))

-- What a piece says that a reader of `s` at `at` read, for callers that have one from `next`.
use mathlib.Core.Path.{◌≡◌, sym, ap, ◌∙◌}
use Prim.Native.Nat.{ℕ, ◌+◌, ◌≤◌}
use borrow.Author.Tests.{le-leb}
use lib.ListN.{length}
use Rattle.text.specs.Pieces.{Text, piece_end}
use Rattle.cursor.specs.declared.Reader.{Reader}
use Rattle.cursor.specs.declared.Piece.{Piece}
use Rattle.cursor.specs.Reading.{past, at_end, next_of}

pub record Cut (s : Text) (at b : ℕ) (p : Piece) : Type 0 where
  pub end : p.end ≡ piece_end s at b
  pub next : p.end ≤ length s → p.rest.at ≡ p.end + 1
  pub last : at_end p.rest.bytes.now p.rest.at ≡ at_end s p.rest.at

pub cut : (r : Reader) (b : ℕ) {p : Piece} → p ≡ next_of r b → Cut r.bytes.now r.at b p
unfolding past
cut r b {p} e =
    let end = ap (λ x. x.end) e in
    record {
      end = end;
      next = λ h. ap (λ x. x.rest.at) e ∙ ap (past r.bytes.now) (sym end) ∙ rw (le-leb p.end (length r.bytes.now) h);
      last = ap (λ x. at_end x.rest.bytes.now p.rest.at) e;
    }

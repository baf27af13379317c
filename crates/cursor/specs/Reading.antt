-- Where a reader stands behind the piece that it reads, and whether it is at the end, as functions for the code to equal. What to believe of a file's lines and fields is `lines_of` and
-- `parted` of `text` Pieces. 01: "The reader holds the file's bytes and its own place".
use Rattle.std.specs.Prelude.{Bool, cond, ℕ, ◌+◌, leb, length}
use Rattle.text.specs.Pieces.{Text, piece_end}
use Rattle.cursor.specs.declared.Reader.{Reader}
use Rattle.cursor.specs.declared.Piece.{Piece}

-- behind the byte that ends a piece, and one past the end of the text where none does; a place that is there already stays
unfoldable pub past : Text → ℕ → ℕ
past s end = cond (leb end (length s)) (end + 1) end

abbrev pub at_end : Text → ℕ → Bool
at_end s at = leb (length s) at

-- the piece from the reader's place to the next byte b, and a reader of the same bytes behind it
abbrev pub next_of : Reader → ℕ → Piece
next_of r b =
    record {
      end = piece_end r.bytes.now r.at b;
      rest = record {
        bytes = r.bytes;
        at = past r.bytes.now (piece_end r.bytes.now r.at b);
      };
    }

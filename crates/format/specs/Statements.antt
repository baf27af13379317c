-- What is proved of the reading: it gives a file exactly where the bytes are that file's, written out, and it is in order.
use Rattle.std.specs.Prelude.{◌≡◌, ◌↔◌}
use Rattle.text.specs.Pieces.{Text}
use Rattle.format.specs.Files.{File, Written}
use Rattle.format.specs.Reading.{read, read_of}

abbrev pub Reads : Type 0
Reads = (bytes : Text) (f : File) → (read_of bytes ≡ read f) ↔ Written bytes f

-- An operator's first index is within its words.
use mathlib.Core.Path.{sym}
use native.Mathlib.Omega.{arith}
use lib.Seq.{length-take-le}
use Rattle.term.proofs.Scan.{part_length}
use Rattle.reader.proofs.declaring.put_words.Goals as goal

pub slice_bounds-put_variable-end-in-Operator : goal.slice_bounds-put_variable-end-in-Operator
slice_bounds-put_variable-end-in-Operator c = let within = part_length c.args.words.now 0 in sym (length-take-le _ _ (omega arith))

pub offset_bounds-words-n : goal.offset_bounds-words-n
offset_bounds-words-n c = let within = part_length c.args.words.now 0 in omega arith

pub slice_bounds-put_variable-count : goal.slice_bounds-put_variable-count
slice_bounds-put_variable-count c = let within = part_length c.args.words.now 0 in omega arith

pub slice_bounds-put_variable-start : goal.slice_bounds-put_variable-start
slice_bounds-put_variable-start c = let within = part_length c.args.words.now 0 in omega arith

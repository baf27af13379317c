-- The key is the first of those from the i-th on.
use mathlib.Core.Path.{◌≡◌}
use mathlib.Core.List.{map}
use lib.ListN.{drop}
use Rattle.format.specs.Reading.{first_key, key_of}
use Rattle.reader.specs.Code.Keys.{named}
use Rattle.reader.proofs.Keyed.{keys}
use Rattle.reader.proofs.keys.key_of.Given as goal

abbrev pub invariant-loop-key : goal.invariant-loop-key
invariant-loop-key l = key_of l.line ≡ first_key (map named (drop l.key-index keys)) l.line

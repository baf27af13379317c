-- What the test of a rule's condition may lean on.
use Rattle.std.specs.Prelude.{Bool, true, false, ℕ, ltb}
use Rattle.rules.specs.Table.{Condition, any, a_ket, a_bra, an_operator, unused, marked}

-- a condition other than `any` is on a hole, so there is one among the n that were met
unfoldable pub asked : Condition → ℕ → Bool
asked any n = true
asked a_ket n = ltb 0 n
asked a_bra n = ltb 0 n
asked an_operator n = ltb 0 n
asked unused n = ltb 1 n
asked marked n = ltb 0 n

-- whether a condition is met is told by words alone; else it asks for a type
unfoldable pub of_words : Condition → Bool
of_words any = true
of_words a_ket = false
of_words a_bra = false
of_words an_operator = false
of_words unused = true
of_words marked = true

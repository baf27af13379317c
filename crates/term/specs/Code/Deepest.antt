-- The depth of a part from the levels of its words, for the code to equal: the greatest of them, and one more.
use Rattle.std.specs.Prelude.{List, ℕ, zero, suc, max}
use Rattle.term.specs.Terms.{level_at}

-- of the first k words
unfoldable pub deepest_in : List ℕ → ℕ → ℕ
deepest_in ws zero = 0
deepest_in ws (suc k) = max (deepest_in ws k) (suc (level_at ws k))

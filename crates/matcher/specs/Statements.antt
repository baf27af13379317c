-- What is proved of the matcher.
use Rattle.std.specs.Prelude.{◌≡◌, true, List, [], ◌++◌, ℕ, length}
use Rattle.std.proofs.Math.Option.{some}
use Rattle.term.specs.Trees.{Tree, words, Formed}
use Rattle.rules.specs.Patterns.{Pattern}
use Rattle.rules.specs.Table.{Condition, ◌⇒◌▷◌, rule_of}
use Rattle.rules.specs.Rewrite.{match}
use Rattle.rulebook.specs.Code.Rows.{pattern_words}
use Rattle.matcher.specs.Matching.{heads_first, match_of, Found}

-- the words of an equation's left side, walked over the words of a part with any words behind, find what the left side matches of the part: the same trees in the same holes, or nothing
abbrev pub Matches : Type 0
Matches =
    (n : ℕ) (k : Condition) (l r : Pattern) → rule_of n ≡ some (k ⇒ l ▷ r) → (t : Tree) (rest : List ℕ) → Formed t
    → let ws = words t ++ rest in
    Found ws (length (words t)) (match_of (pattern_words l) ws) (match l t [])

-- where a walk stops it names the first head that is not the wanted one, if there is any: behind a hole that was met before, no left side has a head
abbrev pub HeadsFirst : Type 0
HeadsFirst = (n : ℕ) (k : Condition) (l r : Pattern) → rule_of n ≡ some (k ⇒ l ▷ r) → heads_first 0 (pattern_words l) ≡ true

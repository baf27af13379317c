-- The witnesses of `specs/Statements`.
use mathlib.Core.Path.{◌≡◌, refl, ap}
use mathlib.Core.List.{List, [], ◌++◌, append-nil}
use mathlib.Core.Option.{Option}
use Prim.Native.Nat.{ℕ}
use native.Mathlib.Omega.{arith}
use lib.ListN.{length, length-append, length-drop}
use Rattle.term.specs.Heads.{word}
use Rattle.term.specs.Trees.{Tree, words}
use Rattle.rules.specs.Table.{◌⇒◌▷◌}
use Rattle.rules.proofs.Every.{on_equations, equation_passes}
use Rattle.rules.proofs.Good.{in_order, good, both, every_good}
use Rattle.rules.proofs.Matching.{none-formed}
use Rattle.rulebook.specs.Code.Rows.{pattern_words}
use Rattle.rulebook.proofs.Made.{every_made}
use Rattle.matcher.specs.declared.Match.{Match}
use Rattle.matcher.specs.declared.Miss.{Miss}
use Rattle.std.specs.Prelude.{Result}
use Rattle.matcher.specs.Matching.{Holds, Found, holds, stops, began, match_from, match_of, only_holes, heads_first}
use Rattle.matcher.specs.Statements.{Matches, HeadsFirst}
use Rattle.matcher.proofs.Walks.{standing_begun}
use Rattle.matcher.proofs.Left.{Walked, went, halted, left-walked}

-- nothing is held before the first word
none-held : (ws : List ℕ) → Holds ws began []
none-held ws = record { standing = standing_begun ws; many = refl; few = omega arith; are = λ k h. absurd (omega (arith, h)) }

found_by : (t : Tree) (rest : List ℕ) {x : Result Match Miss} {o : Option (List Tree)} → Walked (words t ++ rest) rest [] x o → Found (words t ++ rest) (length (words t)) x o
unfolding match_from
found_by t rest (went r e h a) =
    let n : r.at ≡ length (words t) = omega (arith, ap length a, length-drop r.at (words t ++ rest), length-append (words t) rest, h.standing.inside) in
    rw e (holds h n)
found_by t rest (halted q e) = rw e (stops q)

pub matches : Matches
unfolding match_of good
matches n k l r rule t rest f =
    let b = both (in_order l 0) _ (every_good n (k ⇒ l ▷ r) rule) in
    rw (append-nil (pattern_words l)) at (found_by t rest (left-walked (words t ++ rest) l t [] [] rest began (none-held _) none-formed f refl b.0 (every_made n rule).0))

-- ---- heads first: a test of every equation
pub heads-first : HeadsFirst
unfolding on_equations heads_first only_holes pattern_words word
heads-first = equation_passes (λ l r. heads_first 0 (pattern_words l)) refl

-- The walk of a left side's words over the words of a term from a place on, as a function for the code to equal. What to believe is `match` of `rules` Rewrite, and of that the
-- instances: `Statements` says that the walk finds what `match` collects.
use Rattle.std.specs.Prelude.{◌≡◌, Bool, true, cond, ◌&&◌, List, [], ◌∷◌, ℕ, ◌+◌, ◌-◌, ◌/◌, ◌%◌, ◌≤◌, ◌<◌, eqb, ltb, length, take, drop, get_or, set, Result, Ok, Err}
use Rattle.std.proofs.Math.Option.{Option, some, none}
use Rattle.words.specs.Words.{same_words}
use Rattle.term.specs.Trees.{Tree, words}
use Rattle.term.specs.Parts.{part}
use Rattle.rules.specs.Rewrite.{holes}
use Rattle.matcher.specs.declared.Hole.{Hole}
use Rattle.matcher.specs.declared.Match.{Match}
use Rattle.matcher.specs.declared.Miss.{Miss}

-- ---- where a walk stands
-- a hole that was not met yet is empty
abbrev pub empty : Hole
empty = record { start = 0; end = 0 }

abbrev pub hole_of : Match → ℕ → Hole
hole_of m k = get_or m.holes k empty

abbrev pub start_of : Match → ℕ → ℕ
start_of m k = (hole_of m k).start

abbrev pub end_of : Match → ℕ → ℕ
end_of m k = (hole_of m k).end

-- the words that a hole holds
abbrev pub held_in : List ℕ → Match → ℕ → List ℕ
held_in ws m k = take (end_of m k - start_of m k) (drop (start_of m k) ws)

-- in the words, and its holes in those that it has passed; one that was not met yet is empty
pub record Standing (ws : List ℕ) (m : Match) : Type 0 where
  pub size : length m.holes ≡ 5
  pub inside : m.at ≤ length ws
  pub spans : (k : ℕ) → k < 5 → (start_of m k ≤ end_of m k) × (end_of m k ≤ m.at)

-- the trees that the holes hold, in their order, stand where the walk says
pub record Holds (ws : List ℕ) (m : Match) (c : List Tree) : Type 0 where
  pub standing : Standing ws m
  pub many : m.held ≡ length c
  pub few : length c ≤ 5
  pub are : (k : ℕ) → k < length c → held_in ws m k ≡ words (holes c k)

-- what a walk over a part of n words found is what a match collects, and it came to the part's end; or it stopped
pub data Found (ws : List ℕ) (n : ℕ) : Result Match Miss → Option (List Tree) → Type 0 where
  holds : {m : Match} {c : List Tree} → Holds ws m c → m.at ≡ n → Found ws n (Ok m) (some c)
  stops : (e : Miss) → Found ws n (Err e) none

-- ---- one word
abbrev pub began : Match
began = record { at = 0; held = 0; holes = empty ∷ empty ∷ empty ∷ empty ∷ empty ∷ [] }

abbrev pub missed : Match → ℕ → Miss
missed m p = record { wanted = p; found = m }

abbrev pub passed : Match → ℕ → Match
passed m next = record { at = next; held = m.held; holes = m.holes }

abbrev pub taken : Match → ℕ → ℕ → Match
taken m k end = record { at = end; held = k + 1; holes = set m.holes k (record { start = m.at; end = end }) }

-- A hole that is met first takes the part that begins there; one that was met before wants the same part again. There are five at most
unfoldable pub hole_matched : List ℕ → Match → ℕ → Result Match Miss
hole_matched ws m p =
    let k = p % 256 in
    let here = part ws m.at in
    let end = m.at + length here in
    cond (ltb k 5 && ltb 0 (length here))
    (cond (eqb k m.held) (Ok (taken m k end)) (cond (same_words (held_in ws m k) here) (Ok (passed m end)) (Err (missed m p))))
    (Err (missed m p))

-- the word of a hole: 255:k
abbrev pub is_hole : ℕ → Bool
is_hole p = eqb (p / 256) 255

-- any other word is wanted as it is
unfoldable pub word_matched : List ℕ → Match → ℕ → Result Match Miss
unfolding hole_matched
word_matched ws m p =
    cond (is_hole p) (hole_matched ws m p) (cond (ltb m.at (length ws) && eqb p (get_or ws m.at 0)) (Ok (passed m (m.at + 1))) (Err (missed m p)))

-- ---- all words, up to the first that is not met
unfoldable pub on_met : Result Match Miss → (Match → Result Match Miss) → Result Match Miss
on_met (Ok m) next = next m
on_met (Err e) next = Err e

unfoldable pub match_from : List ℕ → List ℕ → Match → Result Match Miss
unfolding word_matched on_met
match_from [] ws m = Ok m
match_from (p ∷ ps) ws m = on_met (word_matched ws m p) λ r. match_from ps ws r

unfoldable pub match_of : List ℕ → List ℕ → Result Match Miss
unfolding match_from
match_of ps ws = match_from ps ws began

-- ---- the order of a left side's words: no head behind a hole that was met before, of which there are n
unfoldable pub only_holes : List ℕ → Bool
only_holes [] = true
only_holes (p ∷ ps) = is_hole p && only_holes ps

unfoldable pub heads_first : ℕ → List ℕ → Bool
unfolding only_holes
heads_first n [] = true
heads_first n (p ∷ ps) = cond (is_hole p) (cond (ltb (p % 256) n) (only_holes ps) (heads_first (n + 1) ps)) (heads_first n ps)

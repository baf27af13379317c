-- The limits of a term, its names, and what a term is.
use Rattle.std.specs.Prelude.{◌≡◌, Bool, true, cond, ◌&&◌, List, [], ◌∷◌, ℕ, suc, ◌+◌, ◌-◌, ◌/◌, ◌%◌, ◌≤◌, eqb, leb, ltb, length, take}
use Rattle.words.specs.Listed.{all}
use Rattle.term.specs.declared.terms.Names.{Names}
use Rattle.term.specs.Heads.{Reading, unread, labelled, read}
use Rattle.term.specs.Trees.{Tree, words, Formed, depth}
use Rattle.term.specs.Parts.{part, part_depth}

-- 01: "A term has at most 4,096 words and is at most 64 deep", "A type index has at most 63 words", "n is 1 to 255", "Names are 0 to 31"
abbrev pub max_words : ℕ
max_words = 4096

abbrev pub max_depth : ℕ
max_depth = 64

abbrev pub max_index : ℕ
max_index = 63

abbrev pub max_children : ℕ
max_children = 255

abbrev pub max_names : ℕ
max_names = 32

-- 02, CR 1: "at most 8 bodies nested"
abbrev pub max_bodies : ℕ
max_bodies = 8

-- How many heads stand above the place behind a run of words, and how many whole parts stand between it and the nearest of them. From right to left, as `parse`: a head that
-- wants more parts than stand behind it has the place below it, any other is a whole part with those that it wants
pub record Above : Type 0 where
  pub level : ℕ
  pub parts : ℕ

unfoldable pub under : Reading → Above → Above
under unread a = a
under (labelled l n) a = cond (ltb a.parts n) (record { level = suc a.level; parts = 0 }) (record { level = a.level; parts = a.parts - n + 1 })

unfoldable pub above : List ℕ → Above
unfolding under
above [] = record { level = 0; parts = 0 }
above (w ∷ ws) = under (read w) (above ws)

unfoldable pub level_at : List ℕ → ℕ → ℕ
unfolding above
level_at ws at = (above (take at ws)).level

-- 01: "Names are 0 to 31 and must be declared", where so many are
unfoldable pub known : ℕ → ℕ → Bool
known a n = ltb a n && ltb a max_names

-- the name in a word of head 1, 3 or 26 is declared; other words have no name
unfoldable pub declared : Names → ℕ → Bool
unfolding known
declared N w =
    cond (eqb (w / 256) 1) (known (w % 256) N.types)
    (cond (eqb (w / 256) 3) (known (w % 256) N.bases)
    (cond (eqb (w / 256) 26) (known (w % 256) N.variables) true))

abbrev pub all_declared : Names → List ℕ → Bool
all_declared N ws = all (declared N) ws

-- a word of an index over N types: a type name, or a product's head
unfoldable pub index_word : ℕ → ℕ → Bool
index_word N w = cond (eqb (w / 256) 1) (ltb (w % 256) N) (eqb w 512)

abbrev pub all_index_words : ℕ → List ℕ → Bool
all_index_words N ws = all (index_word N) ws

-- What a term is, of a tree: document 01's limits and its declared names
pub record IsTerm (N : Names) (t : Tree) : Type 0 where
  pub formed : Formed t
  pub short : length (words t) ≤ max_words
  pub shallow : depth t ≤ max_depth
  pub named : all_declared N (words t) ≡ true

-- What a term is, of words, as a test for the code to equal: they are one whole part to their end, within the limits and with declared names. What to believe is `IsTerm`;
-- `TermTest` of `Statements` says that the test passes exactly a term's words
unfoldable pub term_words : Names → List ℕ → Bool
unfolding part part_depth all
term_words N ws =
    ltb 0 (length ws)
    && (leb (length ws) max_words
    && (eqb (length (part ws 0)) (length ws)
    && (leb (part_depth ws 0) max_depth
    && all_declared N ws)))

-- code 8's test, of the first n words of a slice: 01, "also for a length that is not the term's"
unfoldable pub is_term : Names → List ℕ → ℕ → Bool
unfolding term_words
is_term N ws n = leb n (length ws) && term_words N (take n ws)

-- What is proved of terms as words. Document 01, "Terms as words".
use Rattle.std.specs.Prelude.{◌≡◌, ◌↔◌, true, List, [], ◌++◌, ℕ, ◌+◌, ◌≤◌, ◌<◌, length, take, drop, get_or}
use Rattle.term.specs.declared.heads.Class.{Class}
use Rattle.term.specs.declared.terms.Names.{Names}
use Rattle.term.specs.Heads.{Label, unknown, named, fixed, counted, heads, word, labelled, read}
use Rattle.term.specs.Trees.{Tree, none, ◌▹◌, words, words*, Formed, Formed*, depth, found, subtree, replace}
use Rattle.term.specs.Parts.{parse, Whole, part, part_depth}
use Rattle.term.specs.Terms.{max_children, IsTerm, is_term}

-- ---- words and trees
-- 01: "A word is head × 256 + a". What a word reads as is what it is written for
abbrev pub WordRead : Type 0
WordRead = (w : ℕ) (l : Label) (n : ℕ) → read w ≡ labelled l n → word l n ≡ w

-- what is written for a label of the table, over as many children as its line wants, is read as it: with a name of one byte, with the line's children, with "n is 1 to 255"
abbrev pub LabelRead : Type 0
LabelRead =
    ((k a : ℕ) (l : ℕ → Label) (c : Class) → get_or heads k unknown ≡ named l c → a < 256 → read (word (l a) 0) ≡ labelled (l a) 0)
    × ((k : ℕ) (l : Label) (c : Class) (cs : List Class) → get_or heads k unknown ≡ fixed l c cs → read (word l (length cs)) ≡ labelled l (length cs))
    × ((k n : ℕ) (l : Label) (c c' : Class) → get_or heads k unknown ≡ counted l c c' → 1 ≤ n → n ≤ max_children → read (word l n) ≡ labelled l n)

-- 01: "A term is a run of 16-bit words in prefix order". Reading a tree's words gives the tree back, whatever stands behind them
abbrev pub TreeRead : Type 0
TreeRead = (t : Tree) → Formed t → (ws : List ℕ) → parse (words t ++ ws) ≡ t ▹ parse ws

-- what is read is the words of its result, up to a word at which no whole part begins
abbrev pub RowRead : Type 0
RowRead = (ws : List ℕ) → Formed* (parse ws) × (rest : List ℕ) × (words* (parse ws) ++ rest ≡ ws) × (parse rest ≡ none)

-- a run of words has one reading. 01: "Indices are equal only when their words are"
abbrev pub OneReading : Type 0
OneReading = (t u : Tree) → Formed t → Formed u → words t ≡ words u → t ≡ u

-- ---- parts
-- 01: "the part of the caller's words that begins at an offset". What is handed back is whole and stands there, and what is whole and stands there is handed back
abbrev pub WholePart : Type 0
WholePart = (ws : List ℕ) (at : ℕ) (p : List ℕ) → 0 < length p → (part ws at ≡ p) ↔ (Whole p × (rest : List ℕ) × (drop at ws ≡ p ++ rest))

-- 01: "an empty part when the offset is not below the length or no whole part begins there; this is their only empty answer"
abbrev pub EmptyPart : Type 0
EmptyPart = (ws : List ℕ) (at : ℕ) → (part ws at ≡ []) ↔ ((p rest : List ℕ) → Whole p → drop at ws ≡ p ++ rest → ⊥)

-- 02, CR 4: "the depth of the part too, as defined in document 01, and 0 for the empty answer". What a lookup tells is the depth of the tree whose words it hands back, however deep
abbrev pub DepthHanded : Type 0
DepthHanded =
    ((ws : List ℕ) (at : ℕ) (t : Tree) → Formed t → part ws at ≡ words t → part_depth ws at ≡ depth t)
    × ((ws : List ℕ) (at : ℕ) → part ws at ≡ [] → part_depth ws at ≡ 0)

-- 01: "Every offset inside a term begins a part"
abbrev pub EveryOffset : Type 0
EveryOffset = (t : Tree) (k : ℕ) → Formed t → k < length (words t) → (s : Tree) × Formed s × (subtree t k ≡ found s) × (part (words t) k ≡ words s)

-- 01: "A step rewrites the part that starts at its place and keeps all words before and behind it"
abbrev pub Replaces : Type 0
Replaces =
    (t : Tree) (k : ℕ) (s u : Tree) → subtree t k ≡ found s → words (replace t k u) ≡ take k (words t) ++ (words u ++ drop (k + length (words s)) (words t))

-- ---- terms
-- code 8's test passes exactly the words of a term, at its length
abbrev pub TermTest : Type 0
TermTest = (N : Names) (ws : List ℕ) (n : ℕ) → (is_term N ws n ≡ true) ↔ ((n ≤ length ws) × (t : Tree) × (words t ≡ take n ws) × IsTerm N t)

-- The table of rules as the code holds it: a row of five numbers for each rule number, and the words of the equations one side behind the other, in groups of fifty rule numbers. Both are
-- made of `table` of `rules` Table, which is the one to believe.
use Rattle.std.specs.Prelude.{cond, List, [], ◌∷◌, ◌++◌, ℕ, ◌+◌, ◌*◌, ◌/◌, eqb, length, get_or}
use Rattle.std.proofs.Math.Option.{Option, some, none}
use Rattle.term.specs.Heads.{Label, word}
use Rattle.rules.specs.Patterns.{Pattern, #◌, first, second, ◌⟨⟩, ◌⟨◌⟩, ◌⟨◌∣◌⟩}
use Rattle.rules.specs.Table.{Condition, any, a_ket, a_bra, an_operator, unused, marked, Which, child, child_i, Summand, plain, scaled, Rule, ◌⇒◌▷◌, spreading, removing, absorbing, merging}
use Rattle.rules.specs.Table.{collecting, swapping, distributing, Line, ◌∶◌, table, rule_of}
use Rattle.rulebook.specs.declared.Row.{Row}
use Rattle.rulebook.specs.declared.Family.{Family}
use Rattle.rulebook.specs.declared.Family.TheVariants.{NoRule, Equation, Spread, Remove, Absorb, Merge, Collect, Swap, Distribute}

-- ---- the words of a pattern: in document 01's encoding, with words of unknown heads for hole k (255:k), `first k` (254:k) and `second k` (253:k)
unfoldable pub pattern_words : Pattern → List ℕ
pattern_words (# k) = (255 * 256 + k) ∷ []
pattern_words (first k) = (254 * 256 + k) ∷ []
pattern_words (second k) = (253 * 256 + k) ∷ []
pattern_words (l ⟨⟩) = word l 0 ∷ []
pattern_words (l ⟨ p ⟩) = word l 1 ∷ pattern_words p
pattern_words (l ⟨ p ∣ q ⟩) = word l 2 ∷ (pattern_words p ++ pattern_words q)

-- both sides of an equation
unfoldable pub rule_words : Rule → List ℕ
unfolding pattern_words
rule_words (k ⇒ l ▷ r) = pattern_words l ++ pattern_words r
rule_words (spreading l w s r) = []
rule_words (removing l c) = []
rule_words absorbing = []
rule_words merging = []
rule_words (collecting u v) = []
rule_words swapping = []
rule_words distributing = []

unfoldable pub words_of : List Line → List ℕ
unfolding rule_words
words_of [] = []
words_of ((n ∶ r) ∷ ls) = rule_words r ++ words_of ls

-- ---- groups: the lines whose number divided by 50 is the group's
unfoldable pub grouped : ℕ → List Line → List Line
grouped g [] = []
grouped g ((n ∶ r) ∷ ls) = cond (eqb (n / 50) g) ((n ∶ r) ∷ grouped g ls) (grouped g ls)

unfoldable pub lines_in : ℕ → List Line
lines_in g = grouped g table

unfoldable pub words_in : ℕ → List ℕ
words_in g = words_of (lines_in g)

-- where the words of a rule begin among those of some lines
unfoldable pub start_among : ℕ → List Line → ℕ
unfolding rule_words
start_among n [] = 0
start_among n ((k ∶ r) ∷ ls) = cond (eqb n k) 0 (length (rule_words r) + start_among n ls)

-- and among those of its group
unfoldable pub start_in : ℕ → List Line → ℕ
start_in n ls = start_among n (grouped (n / 50) ls)

-- ---- numbers for what a rule is made of
abbrev pub head_number : Label → ℕ
head_number l = word l 0 / 256

abbrev pub condition_number : Condition → ℕ
condition_number any = 0
condition_number a_ket = 1
condition_number a_bra = 2
condition_number an_operator = 3
condition_number unused = 4
condition_number marked = 5

-- the child that is spread over, by its number; 2 is child i
abbrev pub which_number : Which → ℕ
which_number (child k) = k
which_number child_i = 2

abbrev pub summand_number : Summand → ℕ
summand_number plain = 0
summand_number scaled = 1

-- ---- a row: the family, and what it asks
-- an equation: where its words begin in its group, how many its left and its right side have, its condition; spreading: the head, which child, the sum's head,
-- the result's; removing: the parent's head, the child's; collecting: whether each summand is scaled; the others nothing
abbrev pub row : Family → ℕ → ℕ → ℕ → ℕ → Row
row f a b c d = record { family = f; a = a; b = b; c = c; d = d }

unfoldable pub row_for : ℕ → Option Rule → Row
unfolding pattern_words
row_for at none = row NoRule 0 0 0 0
row_for at (some (k ⇒ l ▷ r)) = row Equation at (length (pattern_words l)) (length (pattern_words r)) (condition_number k)
row_for at (some (spreading l w s r)) = row Spread (head_number l) (which_number w) (head_number s) (head_number r)
row_for at (some (removing l c)) = row Remove (head_number l) (head_number c) 0 0
row_for at (some absorbing) = row Absorb 0 0 0 0
row_for at (some merging) = row Merge 0 0 0 0
row_for at (some (collecting u v)) = row Collect (summand_number u) (summand_number v) 0 0
row_for at (some swapping) = row Swap 0 0 0 0
row_for at (some distributing) = row Distribute 0 0 0 0

-- the row of a rule's number
unfoldable pub row_of : ℕ → Row
unfolding row_for start_in
row_of n = row_for (start_in n table) (rule_of n)

-- the digit of a family, and the family of a digit
abbrev pub digit_of : Family → ℕ
digit_of NoRule = 0
digit_of Equation = 1
digit_of Spread = 2
digit_of Remove = 3
digit_of Absorb = 4
digit_of Merge = 5
digit_of Collect = 6
digit_of Swap = 7
digit_of Distribute = 8

abbrev pub family_of : ℕ → Family
family_of n = get_or (NoRule ∷ Equation ∷ Spread ∷ Remove ∷ Absorb ∷ Merge ∷ Collect ∷ Swap ∷ Distribute ∷ []) n NoRule

-- a row in hexadecimal digits: one for the family, two for a, one for b, two each for c and d
unfoldable pub row_line : Row → ℕ
row_line r = digit_of r.family * 268435456 + r.a * 1048576 + r.b * 65536 + r.c * 256 + r.d

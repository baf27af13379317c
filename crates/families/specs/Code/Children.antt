-- The children of a part by their offsets, and the test of a head by its number.
use Rattle.std.specs.Prelude.{◌≡◌, Bool, true, false, cond, ◌&&◌, Option, Some, None, List, ◌++◌, ℕ, ◌+◌, ◌-◌, ◌/◌, eqb, length, take, drop, get_or}
use Rattle.term.specs.Trees.{Tree, Forest, node, words, words*}
use Rattle.term.specs.Parts.{parse, tree_in, part}
use Rattle.rules.specs.Rewrite.{Opened, outside, opened, open_at}
use Rattle.families.specs.declared.children.Child.{Child}

unfoldable pub kids : Tree → Forest
kids (node l cs) = cs

-- a child as the code finds it: the part's head is one word, and the children stand one behind the other
unfoldable pub child_of : Opened → Option Child
child_of outside = None
child_of (opened b t a) = Some (record { start = 1 + length (words* b); end = 1 + length (words* b) + length (words t) })

-- the words of a part's children without two of them
abbrev pub without_both : List ℕ → Child → Child → List ℕ
without_both ws c d = take (c.start - 1) (drop 1 ws) ++ (take (d.start - c.end) (drop c.end ws) ++ drop d.end ws)

-- where the X of a summand that begins at `start` does: X itself, or behind the factor of a.X, whose word is 19:0
abbrev pub x_in : List ℕ → ℕ → Bool → Option ℕ
x_in ws start false = Some start
x_in ws start true = cond (eqb (get_or ws start 0) 4864) (Some (start + 1 + length (part ws (start + 1)))) None

-- child i of the part that words are
abbrev pub child_in : List ℕ → ℕ → Option Child
child_in ws i = child_of (open_at (kids (tree_in (parse ws))) i)

-- the same, where the part's words and the child's begin with the heads of these numbers
abbrev pub fits : List ℕ → ℕ → ℕ → Option Child → Bool
fits ws parent child None = false
fits ws parent child (Some c) = eqb (get_or ws 0 0 / 256) parent && eqb (get_or ws c.start 0 / 256) child

pub record Under (ws : List ℕ) (parent i child : ℕ) (r : Option Child) : Type 0 where
  pub is : r ≡ cond (fits ws parent child (child_in ws i)) (child_in ws i) None

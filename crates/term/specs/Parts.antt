-- Parts of a run of words as functions for the code to equal, and what a lookup hands back. What to believe of a part is `Whole`; `WholePart` and `EmptyPart` of `Statements` say that
-- `part` answers so.
use Rattle.std.specs.Prelude.{◌≡◌, List, [], ◌∷◌, ℕ, zero, suc, ◌+◌, ◌*◌, drop}
use Rattle.std.specs.Borrow.{Bor}
use Rattle.term.specs.declared.parts.Side.{Side}
use Rattle.term.specs.declared.parts.Side.TheVariants.{Left, Right}
use Rattle.term.specs.Heads.{Label, scalar_zero, Reading, unread, labelled, read}
use Rattle.term.specs.Trees.{Tree, Forest, node, none, ◌▹◌, words, Formed, depth}

-- the first n trees of a row, and those behind them; `short` where there are fewer
pub data Cut : Type 0 where
  short : Cut
  cut : Forest → Forest → Cut

unfoldable pub behind : Tree → Cut → Cut
behind t short = short
behind t (cut a b) = cut (t ▹ a) b

unfoldable pub chop : ℕ → Forest → Cut
unfolding behind
chop zero f = cut none f
chop (suc n) none = short
chop (suc n) (t ▹ f) = behind t (chop n f)

unfoldable pub plant : Label → Cut → Forest
plant l short = none
plant l (cut a b) = node l a ▹ b

unfoldable pub grow : Reading → Forest → Forest
unfolding chop plant
grow unread f = none
grow (labelled l n) f = plant l (chop n f)

-- The row of whole parts that stand one behind the other from the first word on, up to the first word at which none begins. From right to left: each
-- word takes its children off the front of the row behind it. 01: "A part is whole when its heads are known, each n is from 1 and the words suffice"
unfoldable pub parse : List ℕ → Forest
unfolding grow
parse [] = none
parse (w ∷ ws) = grow (read w) (parse ws)

-- The same said of the words alone: they are a tree's, whose labels have the children that the table wants
abbrev pub Whole : List ℕ → Type 0
Whole p = (t : Tree) × Formed t × (words t ≡ p)

unfoldable pub first : Forest → List ℕ
first none = []
first (t ▹ f) = words t

-- the same as a tree, where there is one
unfoldable pub tree_in : Forest → Tree
tree_in none = node scalar_zero none
tree_in (t ▹ f) = t

-- The part that begins at an offset. 01: "an empty part when the offset is not below the length or no whole part begins there; this is their only empty answer"
unfoldable pub part : List ℕ → ℕ → List ℕ
unfolding first parse
part ws at = first (parse (drop at ws))

-- Its depth. 02, CR 4: "the depth of the part too, as defined in document 01, and 0 for the empty answer"
unfoldable pub first_depth : Forest → ℕ
first_depth none = 0
first_depth (t ▹ f) = depth t

unfoldable pub part_depth : List ℕ → ℕ → ℕ
unfolding first_depth parse
part_depth ws at = first_depth (parse (drop at ws))

-- where it begins; an empty part begins at 0
unfoldable pub start : Forest → ℕ → ℕ
start none at = 0
start (t ▹ f) at = at

-- What a lookup hands back, for all that is lent: the part's words, and no copy of them but the place in the caller's own; and its depth beside them. A word is two bytes.
-- 01: "Start and end of the result are fixed by this"
pub record Handed (ws : Bor (List ℕ)) (at : ℕ) (r : Bor (List ℕ)) (deep : ℕ) : Type 0 where
  pub same : r.now ≡ part ws.now at
  pub depth : deep ≡ part_depth ws.now at
  pub block : r.ref_ptr.0 ≡ ws.ref_ptr.0
  pub offset : r.ref_ptr.1 ≡ ws.ref_ptr.1 + start (parse (drop at ws.now)) at * 2

-- 01: "is lent both sides and shows the part of whichever side is named"
unfoldable pub side : {A : Type 0} → Side → A → A → A
side Left a b = a
side Right a b = b

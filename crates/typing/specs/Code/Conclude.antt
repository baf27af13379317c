-- What the code makes of a part's children, in numbers and on the stack.
use Rattle.std.specs.Prelude.{Bool, true, cond, ◌&&◌, List, [], ◌∷◌, ◌++◌, ℕ, ◌+◌, ◌/◌, ◌%◌, ◌≤◌, eqb, length, get_or, Option as CodeOption, Some, None}
use Rattle.typebook.specs.Code.Lines.{rule_at, alike_to, is_sum, fitted, class_by, is_product, side_of, short_both, children_of}
use Rattle.typing.specs.declared.sorts.Plan as P
use Rattle.typing.specs.declared.sorts.Run as R
use Rattle.typing.specs.declared.sorts.Sorted as S
use Rattle.typing.specs.declared.sorts.Gathered as G
use Rattle.typing.specs.Code.Shapes.{shape_at, run_at, plain, Inside, Ready, Answers}

abbrev pub run_of : ℕ → ℕ → R.Run
run_of at n = record { at = at; len = n }

-- where a child's index stands, by its digit in the line of the head
abbrev pub place_of : ℕ → G.Gathered → R.Run
place_of k g =
    get_or
    (run_of g.top 0
    ∷ run_of g.top g.first.left
    ∷ run_of (g.top + g.first.left) g.first.right
    ∷ run_of g.at g.latest.left
    ∷ run_of (g.at + g.latest.left) g.latest.right
    ∷ [])
    k
    (run_of g.top 0)

-- how many words an index of the result has, or the product of two
unfoldable pub side_size : Bool → ℕ → ℕ → ℕ
side_size p n m = cond p (cond (eqb n 0) 0 (n + m + 1)) n

-- ---- a part's children as they come: before the first one, and one more, behind k others
abbrev pub none_yet : ℕ → ℕ → G.Gathered
none_yet h top = record { top = top; first = plain; latest = plain; at = top; free = top; alike = is_sum h }

-- the words of a record behind the first child's, under a sum over a basis
unfoldable pub gap_of : ℕ → ℕ
gap_of h = cond (eqb h 27) 2 0

unfoldable pub one_more : ℕ → ℕ → List ℕ → G.Gathered → S.Sorted → G.Gathered
one_more h k st g child =
    cond (eqb k 0) (record { top = g.top; first = child; latest = child; at = g.top; free = g.top + child.left + child.right + gap_of h; alike = g.alike })
    (record { top = g.top; first = g.first; latest = child; at = g.free; free = g.free; alike = g.alike && alike_to (shape_at st g.top g.first) (shape_at st g.free child) })

-- ---- what is made of n children, in numbers, where they meet as the line asks or not
-- the line of a head says whether indices are multiplied, and where the sides stand, or their first factors
abbrev pub product : ℕ → Bool
product rule = is_product (rule / 4096)

abbrev pub left_at : ℕ → G.Gathered → R.Run
left_at rule g = place_of (rule / 16 % 16) g

abbrev pub right_at : ℕ → G.Gathered → R.Run
right_at rule g = place_of (rule % 16) g

abbrev pub rows_of : ℕ → G.Gathered → ℕ
rows_of rule g = side_size (product rule) (left_at rule g).len g.latest.left

abbrev pub columns_of : ℕ → G.Gathered → ℕ
columns_of rule g = side_size (product rule) (right_at rule g).len g.latest.right

-- whether there is a sort: the children are such as the line asks for, and no product is too long
unfoldable pub well_made : ℕ → ℕ → Bool → G.Gathered → Bool
well_made h n m g =
    let r = rule_at h in
    fitted h n g.first.class g.latest.class && (m && short_both (product r) (rows_of r g) (columns_of r g))

unfoldable pub made_of : ℕ → G.Gathered → P.Plan
made_of h g =
    let r = rule_at h in
    record {
      sorted = record { class = class_by (r / 256 % 16) h g.first.class g.latest.class; left = rows_of r g; right = columns_of r g };
      product = product r;
      left = left_at r g;
      right = right_at r g;
    }

unfoldable pub plan_of : ℕ → ℕ → Bool → G.Gathered → CodeOption P.Plan
unfolding well_made made_of
plan_of h n m g = cond (well_made h n m g) (Some (made_of h g)) None

-- words stand where they are wanted, so far as there are any
abbrev pub standing : R.Run → ℕ → Bool
standing r at = cond (eqb r.len 0) true (eqb r.at at)

-- both sides as they are laid on the stack
abbrev pub sides_of : List ℕ → P.Plan → G.Gathered → List ℕ
sides_of st p g = side_of p.product (run_at st p.left) (run_at st (place_of 3 g)) ++ side_of p.product (run_at st p.right) (run_at st (place_of 4 g))

-- they are read off the stack, and few
pub record Laying (st : List ℕ) (p : P.Plan) (g : G.Gathered) : Type 0 where
  pub ready : Ready g st
  pub left_inside : Inside p.left st
  pub right_inside : Inside p.right st
  pub few : length (sides_of st p g) ≤ 126

-- ---- what a head concludes of its n children: the rule on their shapes
abbrev pub Concludes : ℕ → ℕ → G.Gathered → List ℕ → CodeOption S.Sorted → List ℕ → Type 0
Concludes h n g st r st' = Answers (children_of h n (shape_at st g.top g.first) (shape_at st g.at g.latest) g.alike) r g.top st st'

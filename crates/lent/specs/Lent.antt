-- Steps as a caller lends them: words of fixed layout, 8 a step, so that a step is found by its number.
--     word 0        the side: 1 left, 2 right
--     word 1        the rule
--     word 2        the place
--     words 3, 4    i and j
--     from 5        not looked at: room for what a step may carry later
use Rattle.std.specs.Prelude.{Bool, cond, ◌&&◌, ◌||◌, List, [], ◌∷◌, ℕ, ◌+◌, ◌*◌, eqb, leb, ltb, length, get_or, Result, Ok, Err}
use Rattle.words.specs.Words.{laid}
use Rattle.words.specs.Listed.{up_to, all_up_to}
use Rattle.term.specs.declared.parts.Side.{Side}
use Rattle.term.specs.declared.parts.Side.TheVariants.{Left, Right}
use Rattle.rules.specs.Steps as R
use Rattle.rules.specs.Steps.{Move, side_number}
use Rattle.lent.specs.declared.steps.Step as S
use Rattle.lent.specs.declared.steps.StepsFault.{StepsFault}
use Rattle.lent.specs.declared.steps.StepsFault.TheVariants.{TooMany, Missing, NoSide}

-- What is lent for a derivation: declarations, two work slices with the lengths of the terms in them, and the steps with their count
pub record Derivation : Type 0 where
  pub ds : List ℕ
  pub left : List ℕ
  pub n : ℕ
  pub right : List ℕ
  pub m : ℕ
  pub steps : List ℕ
  pub count : ℕ

abbrev pub lent : List ℕ → List ℕ → ℕ → List ℕ → ℕ → List ℕ → ℕ → Derivation
lent ds left n right m steps count = record { ds = ds; left = left; n = n; right = right; m = m; steps = steps; count = count }

abbrev pub step_words : ℕ
step_words = 8

-- 01: "up to 1,000 step=SIDE RULE PLACE I J with SIDE L or R"
abbrev pub max_steps : ℕ
max_steps = 1000

abbrev pub step_at : ℕ → ℕ
step_at k = k * step_words

-- the rule, the place and the two indices that are handed over
abbrev pub asked : S.Step → R.Step
asked s = record { rule = s.rule; place = s.place; i = s.i; j = s.j }

-- ---- what the words say
unfoldable pub side_in : ℕ → Side
side_in w = cond (eqb w 2) Right Left

unfoldable pub lent_step : List ℕ → ℕ → R.Step
lent_step ws k = let at = step_at k in record { rule = get_or ws (at + 1) 0; place = get_or ws (at + 2) 0; i = get_or ws (at + 3) 0; j = get_or ws (at + 4) 0 }

unfoldable pub move_in : List ℕ → ℕ → Move
unfolding side_in lent_step
move_in ws k = record { side = side_in (get_or ws (step_at k) 0); step = lent_step ws k }

unfoldable pub moves_in : List ℕ → ℕ → List Move
unfolding up_to move_in
moves_in ws n = up_to n (move_in ws)

-- ---- when so many steps are in order, and why they are not
abbrev pub is_side : ℕ → Bool
is_side w = eqb w 1 || eqb w 2

unfoldable pub sided : List ℕ → ℕ → Bool
sided ws k = is_side (get_or ws (step_at k) 0)

abbrev pub Order : Type 0
Order = Result (Unit {0}) StepsFault

abbrev pub in_order : Order
in_order = Ok tt

abbrev pub out_of_order : StepsFault → Order
out_of_order f = Err f

unfoldable pub steps_order : List ℕ → ℕ → Order
unfolding all_up_to sided
steps_order ws n =
    cond (leb n max_steps) (cond (leb (step_at n) (length ws)) (cond (all_up_to n (sided ws)) in_order (out_of_order NoSide)) (out_of_order Missing)) (out_of_order TooMany)

-- The codes are those of the file: 6 "one .. step line too many", 9 "end differs from the steps present", 5 "not of the form above", which has "SIDE L or R"
abbrev pub fault_number : StepsFault → ℕ
fault_number TooMany = 6
fault_number Missing = 9
fault_number NoSide = 5

abbrev pub order_number : Order → ℕ
order_number (Ok u) = 0
order_number (Err f) = fault_number f

unfoldable pub steps_fault : List ℕ → ℕ → ℕ
unfolding steps_order
steps_fault ws n = order_number (steps_order ws n)

-- ---- the constructor: a step put as the k-th, where there is room for it
unfoldable pub step_words_of : Move → List ℕ
step_words_of m = side_number m.side ∷ m.step.rule ∷ m.step.place ∷ m.step.i ∷ m.step.j ∷ 0 ∷ 0 ∷ 0 ∷ []

unfoldable pub has_room : List ℕ → ℕ → Bool
has_room ws k = ltb k max_steps && leb (step_at k + step_words) (length ws)

unfoldable pub step_put : List ℕ → ℕ → Move → List ℕ
unfolding has_room laid step_words_of
step_put ws k m = cond (has_room ws k) (laid ws (step_at k) (step_words_of m)) ws

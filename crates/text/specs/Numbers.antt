-- Decimal numbers, read by a function for the code to equal, and written. What to believe is `decimal`; `Decimals` of the proofs shows that each undoes the other. Document 01, "The file":
-- "Numbers are decimal without leading zeros".
use Rattle.std.specs.Prelude.{Bool, true, false, cond, ◌&&◌, not, List, [], ◌∷◌, ◌++◌, ℕ, zero, suc, ◌+◌, ◌-◌, ◌*◌, ◌/◌, ◌%◌, min, eqb, leb, ltb}
use Rattle.std.proofs.Math.Option.{Option, some, none}
use Rattle.std.specs.Prelude as Code
use Rattle.std.specs.Prelude.{Some, None}
use Rattle.words.specs.Listed.{all}

-- ---- read
unfoldable pub is_digit : ℕ → Bool
is_digit b = leb 48 b && leb b 57

abbrev pub all_digits : List ℕ → Bool
all_digits bs = all is_digit bs

unfoldable pub value_from : ℕ → List ℕ → ℕ
value_from n [] = n
value_from n (b ∷ bs) = value_from (n * 10 + (b - 48)) bs

-- at least one byte; the first of several is no 0
unfoldable pub well_begun : List ℕ → Bool
well_begun [] = false
well_begun (b ∷ []) = true
well_begun (b ∷ c ∷ bs) = not (eqb b 48)

unfoldable pub is_number : List ℕ → Bool
unfolding well_begun is_digit all
is_number bs = well_begun bs && all_digits bs

unfoldable pub number_in : List ℕ → Option ℕ
unfolding is_number value_from
number_in bs = cond (is_number bs) (some (value_from 0 bs)) none

-- a number up to a limit: 01, 5, "a step field over 65,535, a token part over 255, types over 32"
unfoldable pub limited_to : ℕ → Option ℕ → Option ℕ
limited_to limit none = none
limited_to limit (some n) = cond (leb n limit) (some n) none

abbrev pub at_most : ℕ → List ℕ → Option ℕ
at_most limit bs = limited_to limit (number_in bs)

-- ---- written
unfoldable pub digits_by : ℕ → ℕ → List ℕ
digits_by zero n = []
digits_by (suc k) n = cond (ltb n 10) ((48 + n) ∷ []) (digits_by k (n / 10) ++ (48 + n % 10) ∷ [])

unfoldable pub decimal : ℕ → List ℕ
unfolding digits_by
decimal n = digits_by (suc n) n

-- ---- as the code answers, whose `Option` is a type of its own: what is there, by a function of what it is
unfoldable pub told : {A B : Type 0} → (A → B) → Option A → Code.Option B
told f none = None
told f (some x) = Some (f x)

-- no limit is above 65,535, so all numbers above say the same
abbrev pub most : ℕ
most = 65536

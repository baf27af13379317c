-- Lent steps: the tests of their number, their room and their sides, and a step put behind others.
use mathlib.Core.Path.{◌≡◌, refl, sym, ◌∙◌, ap}
use mathlib.Core.Bool.{Bool, true, false, cond, and-eq-true_iff}
use mathlib.Core.List.{List, [], ◌∷◌, ◌++◌}
use Prim.Native.Nat.{ℕ, ◌+◌, ◌≤◌, ◌<◌, min}
use native.Mathlib.Numerals.{add-one}
use native.Mathlib.Omega.{arith}
use borrow.Author.Tests.{leb-true, leb-false, le-leb, lt-leb, lt-ltb, le-ltb}
use lib.Dec.{leb, ltb}
use lib.ListN.{length, take, drop, get_or, get_or-append}
use lib.Seq.{length-take-le, get_or-take, get_or-append-add}
use Rattle.words.specs.Words.{laid}
use Rattle.words.specs.Listed.{all_up_to}
use Rattle.words.proofs.Runs.{laid_in, added}
use Rattle.words.proofs.Listed.{up_to-more}
use Rattle.term.specs.declared.parts.Side.{Side}
use Rattle.term.specs.declared.parts.Side.TheVariants.{Left, Right}
use Rattle.rules.specs.Steps.{Move, side_number}
use Rattle.lent.specs.declared.steps.StepsFault.TheVariants.{TooMany, Missing, NoSide}
use Rattle.lent.specs.Lent.{step_words, max_steps, step_at, side_in, lent_step, move_in, moves_in, sided, in_order, out_of_order, steps_order, step_words_of, has_room, step_put}
use Rattle.lent.specs.Statements.{Puts}

-- ---- the tests in their order
module _ (ws : List ℕ) (n : ℕ) where
  pub too_many : max_steps < n → steps_order ws n ≡ out_of_order TooMany
  unfolding steps_order
  too_many h = rw (lt-leb n max_steps h)

  module _ (few : n ≤ max_steps) where
    pub too_short : length ws < step_at n → steps_order ws n ≡ out_of_order Missing
    unfolding steps_order
    too_short h = rw (le-leb n max_steps few, lt-leb (step_at n) (length ws) h)

    pub sides-told : step_at n ≤ length ws → {b : Bool} → all_up_to n (sided ws) ≡ b → steps_order ws n ≡ cond b in_order (out_of_order NoSide)
    unfolding steps_order
    sides-told h e = rw (le-leb n max_steps few, le-leb (step_at n) (length ws) h, e)

-- ---- the constructor
module _ (ws : List ℕ) (k : ℕ) (m : Move) where
  pub past_all : max_steps ≤ k → (false ≡ has_room ws k) × (ws ≡ step_put ws k m)
  unfolding step_put has_room
  past_all h = (rw (le-ltb k max_steps h), rw (le-ltb k max_steps h))

  put_by : (b : Bool) → k < max_steps → leb (step_at k + step_words) (length ws) ≡ b → laid ws (step_at k) (step_words_of m) ≡ step_put ws k m
  unfolding step_put has_room laid step_words_of
  put_by true h e = rw (lt-ltb k max_steps h, e)
  put_by false h e = rw (lt-ltb k max_steps h, e)

  room_by : (b : Bool) → k < max_steps → leb (step_at k + step_words) (length ws) ≡ b → (end : ℕ) → end ≡ min (step_at k + step_words) (length ws + 1)
      → leb end (length ws) ≡ has_room ws k
  unfolding has_room
  room_by true h e end f = rw (lt-ltb k max_steps h, e) (le-leb end (length ws) (omega (arith, leb-true (step_at k + step_words) (length ws) e)))
  room_by false h e end f = rw (lt-ltb k max_steps h, e) (lt-leb end (length ws) (omega (arith, leb-false (step_at k + step_words) (length ws) e)))

  pub put_down : (ws' : List ℕ) (end side : ℕ) → k < max_steps → side ≡ side_number m.side → end ≡ min (step_at k + step_words) (length ws + 1)
      → ws' ≡ laid ws (step_at k) (side ∷ m.step.rule ∷ m.step.place ∷ m.step.i ∷ m.step.j ∷ 0 ∷ 0 ∷ 0 ∷ [])
      → (leb end (length ws') ≡ has_room ws k) × (ws' ≡ step_put ws k m)
  unfolding step_words_of
  put_down ws' end side h e f g =
      let w : ws' ≡ laid ws (step_at k) (step_words_of m) = rw e at g in
      let l : length ws' ≡ length ws = (added ws (step_at k) (step_words_of m) ws' end f w).size in
      (rw l (room_by _ h refl end f), w ∙ put_by _ h refl)

-- ---- a step that was put is read back, and those before it stay
module _ (ws : List ℕ) (k : ℕ) (m : Move) (room : has_room ws k ≡ true) where
  fits : step_at k + step_words ≤ length ws
  unfolding has_room
  fits = leb-true (step_at k + step_words) (length ws) ((and-eq-true_iff (ltb k max_steps) (leb (step_at k + step_words) (length ws))).0 room).1

  abbrev behind : List ℕ
  behind = drop (step_at k + step_words) ws

  put_is : step_put ws k m ≡ take (step_at k) ws ++ (step_words_of m ++ behind)
  unfolding step_put step_words_of
  put_is = rw room (laid_in ws (step_at k) (step_words_of m) fits)

  front_long : length (take (step_at k) ws) ≡ step_at k
  front_long = length-take-le (step_at k) ws (omega (arith, fits))

  word-before : (i : ℕ) → i < step_at k → get_or (step_put ws k m) i 0 ≡ get_or ws i 0
  word-before i h = rw put_is (get_or-append (take (step_at k) ws) (step_words_of m ++ behind) 0 i (omega (arith, front_long)) ∙ get_or-take (step_at k) ws i 0 h)

  word-there : (i : ℕ) → get_or (step_put ws k m) (step_at k + i) 0 ≡ get_or (step_words_of m ++ behind) i 0
  word-there i =
      ap (λ (l : List ℕ). get_or l (step_at k + i) 0) put_is ∙ ap (λ (n : ℕ). get_or (take (step_at k) ws ++ (step_words_of m ++ behind)) (n + i) 0) (sym front_long)
      ∙ get_or-append-add (take (step_at k) ws) (step_words_of m ++ behind) i 0

  side-back : (s : Side) → side_in (side_number s) ≡ s
  unfolding side_in
  side-back Left = refl
  side-back Right = refl

  move-there : move_in (step_put ws k m) k ≡ m
  unfolding move_in lent_step step_words_of
  move-there =
      let z : step_at k + 0 ≡ step_at k = omega arith in
      let side : get_or (step_put ws k m) (step_at k) 0 ≡ side_number m.side = rw z at (word-there 0) in
      rw (side, word-there 1, word-there 2, word-there 3, word-there 4, side-back m.side)

  move-before : (j : ℕ) → j < k → move_in (step_put ws k m) j ≡ move_in ws j
  unfolding move_in lent_step
  move-before j h =
      rw (
        word-before (step_at j) (omega arith),
        word-before (step_at j + 1) (omega arith),
        word-before (step_at j + 2) (omega arith),
        word-before (step_at j + 3) (omega arith),
        word-before (step_at j + 4) (omega arith),
      )

pub puts : Puts
unfolding moves_in
puts ws k m room = rw add-one (up_to-more k (move-before ws k m room) (move-there ws k m room))

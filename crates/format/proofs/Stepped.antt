-- Steps put one after the other: they are read back, they are in order, and there is room for one more up to the limit.
use mathlib.Core.Path.{◌≡◌, refl, ◌∙◌, ap}
use mathlib.Core.Bool.{Bool, true, false, cond}
use mathlib.Core.List.{List, [], ◌∷◌, ◌++◌, append_assoc, append-nil}
use Prim.Native.Nat.{ℕ, suc, ◌+◌, ◌≤◌, ◌<◌}
use native.Mathlib.Nat.{zero-add}
use native.Mathlib.Omega.{arith}
use borrow.Author.Count.{below_none, below_more}
use borrow.Author.Tests.{le-leb, lt-ltb}
use lib.ListN.{length, take, drop, replicate, length-replicate, get_or-append}
use lib.Seq.{length-take-le, get_or-take, get_or_at}
use Rattle.words.specs.Words.{laid}
use Rattle.words.specs.Listed.{up_to}
use Rattle.words.proofs.Runs.{laid_in, added}
use Rattle.words.proofs.Listed.{all_up_to-all}
use Rattle.term.specs.declared.parts.Side.{Side}
use Rattle.term.specs.declared.parts.Side.TheVariants.{Left, Right}
use Rattle.rules.specs.Steps.{Move, side_number}
use Rattle.lent.specs.Lent.{step_words, max_steps, step_at, moves_in, is_side, sided, step_words_of, has_room, step_put}
use Rattle.lent.specs.Refusals.{InOrder}
use Rattle.lent.proofs.Lending.{puts}
use Rattle.format.specs.Files.{File}
use Rattle.format.specs.Kept.{put_steps, steps_size, steps_of}

-- ---- one step more
pub steps-more : (ws : List ℕ) (k : ℕ) (ms : List Move) (m : Move) → put_steps ws k (ms ++ m ∷ []) ≡ step_put (put_steps ws k ms) (k + length ms) m
unfolding put_steps
steps-more ws k [] m = let z : k + 0 ≡ k = omega arith in rw z
steps-more ws k (c ∷ ms) m =
    let z : k + 1 + length ms ≡ k + suc (length ms) = omega arith in
    steps-more (step_put ws k c) (k + 1) ms m ∙ ap (λ (n : ℕ). step_put (put_steps ws k (c ∷ ms)) n m) z

-- ---- their room stays
laid-size : (b : Bool) (ws : List ℕ) (at : ℕ) (src : List ℕ) → length (cond b (laid ws at src) ws) ≡ length ws
laid-size true ws at src = (added ws at src (laid ws at src) _ refl refl).size
laid-size false ws at src = refl

put-size : (ws : List ℕ) (k : ℕ) (m : Move) → length (step_put ws k m) ≡ length ws
unfolding step_put
put-size ws k m = laid-size (has_room ws k) ws (step_at k) (step_words_of m)

size-kept : (ws : List ℕ) (k : ℕ) (ms : List Move) → length (put_steps ws k ms) ≡ length ws
unfolding put_steps
size-kept ws k [] = refl
size-kept ws k (m ∷ ms) = size-kept (step_put ws k m) (k + 1) ms ∙ put-size ws k m

room_for : (ws : List ℕ) (k : ℕ) → length ws ≡ steps_size → k < max_steps → has_room ws k ≡ true
unfolding has_room
room_for ws k l h = rw (lt-ltb k max_steps h) (le-leb (step_at k + step_words) (length ws) (omega arith))

-- ---- they are read back
moves_put : (ws : List ℕ) (k : ℕ) (ms : List Move) → length ws ≡ steps_size → k + length ms ≤ max_steps → moves_in (put_steps ws k ms) (k + length ms) ≡ moves_in ws k ++ ms
unfolding put_steps
moves_put ws k [] l h = let z : k + 0 ≡ k = omega arith in rw (z, append-nil)
moves_put ws k (m ∷ ms) l h =
    let z : k + suc (length ms) ≡ k + 1 + length ms = omega arith in
    let r = moves_put (step_put ws k m) (k + 1) ms (put-size ws k m ∙ l) (omega arith) in
    rw z (r ∙ rw (puts ws k m (room_for ws k l (omega arith))) (append_assoc (moves_in ws k) (m ∷ []) ms))

-- ---- each is on the left or the right
side_of_lem : (s : Side) → is_side (side_number s) ≡ true
side_of_lem Left = refl
side_of_lem Right = refl

module _ (ws : List ℕ) (k : ℕ) (m : Move) (l : length ws ≡ steps_size) (h : k < max_steps) where
  put_is : step_put ws k m ≡ take (step_at k) ws ++ (step_words_of m ++ drop (step_at k + step_words) ws)
  unfolding step_put step_words_of
  put_is = rw (room_for ws k l h) (laid_in ws (step_at k) (step_words_of m) (omega arith))

  front : length (take (step_at k) ws) ≡ step_at k
  front = length-take-le (step_at k) ws (omega arith)

  side-there : sided (step_put ws k m) k ≡ true
  unfolding sided step_words_of
  side-there = rw (put_is, get_or_at (take (step_at k) ws) (side_number m.side) _ 0 (step_at k) front) (side_of_lem m.side)

  side_before : (j : ℕ) → j < k → sided (step_put ws k m) j ≡ sided ws j
  unfolding sided
  side_before j x = rw (put_is, get_or-append (take (step_at k) ws) _ 0 (step_at j) (omega (arith, front)), get_or-take (step_at k) ws (step_at j) 0 (omega arith))

abbrev Sided : List ℕ → ℕ → Type 0
Sided ws k = (j : ℕ) → j < k → sided ws j ≡ true

sides-put : (ws : List ℕ) (k : ℕ) (ms : List Move) → length ws ≡ steps_size → k + length ms ≤ max_steps → Sided ws k → Sided (put_steps ws k ms) (k + length ms)
unfolding put_steps
sides-put ws k [] l h s = let z : k + 0 ≡ k = omega arith in rw z s
sides-put ws k (m ∷ ms) l h s =
    let z : k + suc (length ms) ≡ k + 1 + length ms = omega arith in
    let x : k < max_steps = omega arith in
    let t = below_more (λ j. sided (step_put ws k m) j ≡ true) k (λ j y. side_before ws k m l x j y ∙ s j y) (side-there ws k m l x) in
    rw z (sides-put (step_put ws k m) (k + 1) ms (put-size ws k m ∙ l) (omega arith) t)

-- ---- the steps of a file
empty : length (replicate {A = ℕ} steps_size 0) ≡ steps_size
empty = length-replicate {A = ℕ} steps_size 0

module _ (f : File) where
  pub steps-size : length (steps_of f) ≡ steps_size
  unfolding steps_of
  steps-size = size-kept (replicate steps_size 0) 0 f.steps ∙ empty

  pub moves_kept : length f.steps ≤ max_steps → moves_in (steps_of f) (length f.steps) ≡ f.steps
  unfolding steps_of moves_in up_to
  moves_kept h = simp zero-add at (moves_put (replicate steps_size 0) 0 f.steps empty (omega arith))

  pub steps_in_order : length f.steps ≤ max_steps → InOrder (steps_of f) (length f.steps)
  unfolding steps_of
  steps_in_order h =
      record {
        few = h;
        inside = omega (arith, steps-size);
        sides = all_up_to-all _ _ (simp zero-add at (sides-put (replicate steps_size 0) 0 f.steps empty (omega arith) (below_none _)));
      }

-- Words on a stack: what stays and what changes when others are laid over it.
use mathlib.Core.Path.{◌≡◌, refl, sym, ◌∙◌, ap}
use mathlib.Core.Logic.{◌≢◌}
use mathlib.Core.Bool.{false, ◌&&◌}
use mathlib.Core.List.{List, [], ◌∷◌, ◌++◌, append_assoc}
use mathlib.Core.Option.{Option, none as nothing}
use Rattle.std.specs.Prelude.{None}
use denote.Enum.Bare.{sameb}
use denote.Enum.Declared.{tag_of}
use lib.Dec.{eqb}
use Prim.Native.Nat.{ℕ, zero, suc, ◌+◌, ◌≤◌, ◌<◌}
use native.Mathlib.Numerals.{add-one}
use native.Mathlib.Omega.{arith}
use lib.ListN.{length, take, drop, set, length-append, length-take, length-drop, take-append-drop}
use lib.Seq.{take_all, length-take-le, take-nil, take-append_seam, drop-append_seam, set_split, take-take, take_at, drop-drop, take-add, drop_at}
use Rattle.words.specs.Words.{overlaid, same_words, laid}
use Rattle.words.proofs.Runs.{same-both, same-lengths, laid_in}
use Rattle.term.specs.declared.heads.Class.{Class}
use Rattle.term.specs.declared.heads.Class.TheVariants.{Nothing, Index, Basis, Scalar, Ket, Bra, Operator, Array, Term}
use Rattle.term.specs.contracts.heads.Class.{the_type}
use Rattle.typing.specs.declared.sorts.Sorted as S
use Rattle.typebook.specs.Code.Shapes.{Shape, shape, number_of}
use Rattle.typing.specs.Code.Shapes.{run, shape_at, Small, Room, Above, Answers}

-- ---- tests
-- classes as the code compares them: by their numbers
number-is : (c : Class) → tag_of the_type c ≡ number_of c
number-is Nothing = refl
number-is Index = refl
number-is Basis = refl
number-is Scalar = refl
number-is Ket = refl
number-is Bra = refl
number-is Operator = refl
number-is Array = refl
number-is Term = refl

pub same_class : (a b : Class) → sameb the_type a b ≡ eqb (number_of a) (number_of b)
same_class a b = rw (number-is a, number-is b)

-- ---- runs
-- as many words as are asked for, where there are
pub run_length : (st : List ℕ) (at n : ℕ) → at + n ≤ length st → length (run st at n) ≡ n
run_length st at n h = length-take-le n (drop at st) (omega (arith, length-drop at st))

-- a run behind others, as a part of all
run_is : (at n : ℕ) (st : List ℕ) → run st at n ≡ drop at (take (at + n) st)
run_is zero n st = let z : 0 + n ≡ n = omega arith in rw z
run_is (suc at) n [] = rw (take-nil n, take-nil (suc at + n))
run_is (suc at) n (w ∷ st) = let z : suc at + n ≡ suc (at + n) = omega arith in rw z (run_is at n st)

-- one behind the other
pub run-both : (st : List ℕ) (at n m : ℕ) → run st at n ++ run st (at + n) m ≡ run st at (n + m)
run-both st at n m = rw (take-add, drop-drop)

-- the two indices of two sorts are the same: they have as many words each, and all of them are
module _ (st : List ℕ) (top at : ℕ) (a b : S.Sorted) (pre : Room top st × Room at st × Small a × Small b) where
  pub other_lengths : a.left ≢ b.left → false ≡ (same_words (run st top a.left) (run st at b.left) && same_words (run st (top + a.left) a.right) (run st (at + b.left) b.right))
  other_lengths h =
      let l = run_length st top a.left (omega arith) in
      let m = run_length st at b.left (omega arith) in
      rw (same-lengths (run st top a.left) (run st at b.left) (λ e. h (omega arith)))

  pub both-same : a.left ≡ b.left → same_words (run st top (a.left + a.right)) (run st at (b.left + b.right))
      ≡ (same_words (run st top a.left) (run st at b.left) && same_words (run st (top + a.left) a.right) (run st (at + b.left) b.right))
  both-same h =
      let l = run_length st top a.left (omega arith) in
      let m = run_length st at b.left (omega arith) in
      rw (← run-both st top a.left a.right, ← run-both st at b.left b.right) (same-both (run st top a.left) (run st at b.left) _ _ (omega arith))

-- ---- what did not change
pub above_refl : (top : ℕ) (st : List ℕ) → Above top st st
above_refl top st = record { long = refl; below = refl }

pub above_trans : {top : ℕ} {st st' st'' : List ℕ} → Above top st st' → Above top st' st'' → Above top st st''
above_trans p q = record { long = q.long ∙ p.long; below = q.below ∙ p.below }

-- no sort
pub answers_none : {o : Option Shape} {top : ℕ} {st : List ℕ} → o ≡ nothing → Answers o None top st st
answers_none {top} {st} e = record { told = sym e; small = tt; kept = above_refl top st }

-- what stays below an offset stays below a lower one
pub above_lower : {low top : ℕ} {st st' : List ℕ} → low ≤ top → Above top st st' → Above low st st'
above_lower {low} {top} {st} {st'} h a = record { long = a.long; below = sym (take-take low top st' h) ∙ ap (take low) a.below ∙ take-take low top st h }

module _ (top : ℕ) (st st' : List ℕ) (same : take top st' ≡ take top st) where
  pub run-kept : (at n : ℕ) → at + n ≤ top → run st' at n ≡ run st at n
  run-kept at n h = rw (run_is at n st', run_is at n st, ← take-take (at + n) top st' h, ← take-take (at + n) top st h, same)

  pub shape-kept : (at : ℕ) (s : S.Sorted) → at + s.left + s.right ≤ top → shape_at st' at s ≡ shape_at st at s
  shape-kept at s h = rw (run-kept at s.left (omega arith), run-kept (at + s.left) s.right h)

-- ---- words laid over a stack
module _ (st : List ℕ) (to : ℕ) (ws : List ℕ) where
  module _ (fits : to + length ws ≤ length st) where
    length-laid : length (laid st to ws) ≡ length st
    length-laid = rw (laid_in st to ws fits) (simp (length-append, length-take, length-drop) (omega arith))

    pub above-laid : Above to st (laid st to ws)
    above-laid = record { long = length-laid; below = rw (laid_in st to ws fits) (take_at (take to st) (ws ++ drop (to + length ws) st) to (length-take-le to st (omega arith))) }

    laid_from : drop to (laid st to ws) ≡ ws ++ drop (to + length ws) st
    laid_from = rw (laid_in st to ws fits) (drop_at (take to st) (ws ++ drop (to + length ws) st) to (length-take-le to st (omega arith)))

-- the first words of one stack over those of another
pub length-overlaid : (out ws : List ℕ) → length (overlaid out ws) ≡ length out
unfolding overlaid
length-overlaid out ws = simp (length-append, length-take, length-drop) (omega arith)

pub bottom_kept : (st out : List ℕ) (n : ℕ) → n ≤ length st → n ≤ length out → take n (overlaid out (take n st)) ≡ take n st
unfolding overlaid
bottom_kept st out n h k =
    let l = length-take-le n st h in
    rw (take_all (length out) (take n st) (omega arith)) (take_at (take n st) (drop (length (take n st)) out) n l)

-- one run behind another
pub laid_both : (st : List ℕ) (to : ℕ) (xs ys : List ℕ) → to + length xs + length ys ≤ length st → laid (laid st to xs) (to + length xs) ys ≡ laid st to (xs ++ ys)
laid_both st to xs ys h =
    let l = length-append xs ys in
    let s : length (take to st ++ xs) ≡ to + length xs = simp (length-append, length-take) (omega arith) in
    let rest = drop (to + length xs) st in
    let x : laid st to xs ≡ (take to st ++ xs) ++ rest = rw (laid_in st to xs (omega arith), append_assoc) in
    let n = length-laid st to xs (omega arith) in
    let d : drop (to + length xs + length ys) ((take to st ++ xs) ++ rest) ≡ drop (to + length (xs ++ ys)) st =
    sym (drop-drop (length ys) (to + length xs) ((take to st ++ xs) ++ rest)) ∙ ap (drop (length ys)) (drop_at (take to st ++ xs) rest (to + length xs) s)
    ∙ drop-drop (length ys) (to + length xs) st ∙ (let z : to + length xs + length ys ≡ to + length (xs ++ ys) = omega arith in rw z)
    in
    laid_in (laid st to xs) (to + length xs) ys (omega arith) ∙ rw (x, take_at (take to st ++ xs) rest (to + length xs) s, d, laid_in st to (xs ++ ys) (omega arith)) (simp append_assoc)

-- what is laid down is there
pub shape-laid : (c : Class) (st : List ℕ) (top : ℕ) (i j : List ℕ) → top + length (i ++ j) ≤ length st
    → shape_at (laid st top (i ++ j)) top (record { class = c; left = length i; right = length j }) ≡ shape c i j
shape-laid c st top i j h =
    let rest = drop (top + length (i ++ j)) st in
    let x : drop top (laid st top (i ++ j)) ≡ i ++ (j ++ rest) = laid_from st top (i ++ j) h ∙ append_assoc i j rest in
    let y : drop (top + length i) (laid st top (i ++ j)) ≡ j ++ rest = sym (drop-drop (length i) top (laid st top (i ++ j))) ∙ ap (drop (length i)) x ∙ drop-append_seam i (j ++ rest) in
    rw (x, y, take-append_seam i (j ++ rest), take-append_seam j rest)

-- and what is there already does not change
pub laid_same : (st : List ℕ) (top n m : ℕ) → top + n + m ≤ length st → laid st top (run st top n ++ run st (top + n) m) ≡ st
laid_same st top n m h =
    let l = run_length st top (n + m) (omega arith) in
    rw (run-both st top n m, laid_in st top (run st top (n + m)) (omega arith), l, ← drop-drop (n + m) top st, take-append-drop (n + m) (drop top st)) (take-append-drop top st)

pub set-laid : (st : List ℕ) (i w : ℕ) → i < length st → set st i w ≡ laid st i (w ∷ [])
set-laid st i w h = rw (laid_in st i (w ∷ []) (omega arith), add-one) (set_split st i w h)

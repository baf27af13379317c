-- Putting a name into declarations: the words stored one after the other, and what the answers tell.
use mathlib.Core.Path.{◌≡◌, refl, sym, ◌∙◌}
use mathlib.Core.Logic.{◌≢◌}
use mathlib.Core.Bool.{Bool, true, false, cond, not}
use mathlib.Core.List.{List, [], ◌∷◌, append_assoc}
use Prim.Native.Nat.{ℕ, suc, ◌+◌, ◌%◌, ◌≤◌}
use native.Mathlib.Numerals.{add-one}
use native.Mathlib.Omega.{arith}
use borrow.Author.Tests.{eqb-true, eqb-false, le-leb}
use lib.Dec.{eqb}
use lib.ListN.{length, get_or, set}
use lib.Seq.{sets, sets-eq}
use Rattle.std.specs.Prelude.{Ok, Err}
use Rattle.words.specs.Words.{laid}
use Rattle.term.specs.Terms.{max_index, max_names}
use Rattle.declarations.specs.declared.constructor.PutError.TheVariants.{WrongSize, Full, Bad}
use Rattle.declarations.specs.Declarations.{size, basis_at, variable_at, is_index, is_variable}
use Rattle.declarations.specs.Put.{Outcome, done, refused, room, answer, basis_put, variable_put}
use Rattle.declarations.proofs.Entries.{turned, counts, index_tests, variable_tests}

-- ---- words copied over a part of a slice are a run of stores
pub copied : (ds ws : List ℕ) (at : ℕ) → at + length ws ≤ length ds → laid ds at ws ≡ sets ds at ws
unfolding laid
copied ds ws at h = rw (le-leb _ _ h, sets-eq ws ds at h, append_assoc)

-- ---- an entry as the code stores it
pub basis_laid : (ds index : List ℕ) (a : ℕ) → get_or ds 1 0 ≡ a → sets (set (set ds 1 (a + 1)) (basis_at a) (length index)) (basis_at a + 1) index ≡ basis_put ds index
unfolding basis_put
basis_laid ds index a e = rw (e, add-one (basis_at a))

pub variable_laid : (ds : List ℕ) (kind : ℕ) (xs ys : List ℕ) (a : ℕ) → get_or ds 2 0 ≡ a
    → sets (sets (sets (set ds 2 (a + 1)) (variable_at a) (kind ∷ length xs ∷ length ys ∷ [])) (variable_at a + 3) xs) (variable_at a + 66) ys ≡ variable_put ds kind xs ys
unfolding variable_put
variable_laid ds kind xs ys a e = let z : variable_at a + 3 ≡ suc (suc (suc (variable_at a))) = omega arith in rw (e, z)

-- ---- where there is room
tests_of : (b d e : Bool) → cond b (cond d (cond e (refused Full) done) (refused Bad)) (refused WrongSize) ≡ done → (b ≡ true) × (d ≡ true) × (e ≡ false)
tests_of true true true h = cc
tests_of true true false h = (refl, refl, refl)
tests_of true false e h = cc
tests_of false d e h = cc

pub room-done : (ds : List ℕ) (k : ℕ) → room ds k ≡ done
    → (length ds ≡ size) × (get_or ds 1 0 ≤ max_names) × (get_or ds 2 0 ≤ max_names) × (get_or ds k 0 ≢ max_names)
unfolding room
room-done ds k h =
    let p = tests_of (eqb (length ds) size) _ (eqb (get_or ds k 0) max_names) h in
    let q = counts (get_or ds 0 0) (get_or ds 1 0) (get_or ds 2 0) p.1 in
    (eqb-true _ _ p.0, q.1, q.2, eqb-false _ _ p.2)

pub answer-done : (r : Outcome) (fits : Bool) → answer r fits ≡ done → (r ≡ done) × (fits ≡ true)
unfolding answer
answer-done (Ok u) true h = (refl, refl)
answer-done (Ok u) false h = cc
answer-done (Err e) fits h = cc

-- ---- what fits is short
wanted-few : (b : Bool) (N : ℕ) (ws : List ℕ) → cond b (eqb (length ws) 0) (is_index N ws) ≡ true → length ws ≤ max_index
wanted-few true N ws e = let z = eqb-true (length ws) 0 e in omega arith
wanted-few false N ws e = (index_tests N ws e).1

pub variable_few : (N kind : ℕ) (xs ys : List ℕ) → is_variable N kind xs ys ≡ true → (length xs ≤ max_index) × (length ys ≤ max_index)
variable_few N kind xs ys e =
    let p = variable_tests N kind xs ys e in
    (wanted-few (eqb (kind % 4) 0) N xs p.1, wanted-few (not (eqb (kind % 4) 3)) N ys (sym (turned (eqb (kind % 4) 3) (is_index N ys) (eqb (length ys) 0)) ∙ p.2))

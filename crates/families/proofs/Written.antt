-- The three ways in which a rewriting does what it promises.
use mathlib.Core.Path.{◌≡◌, refl, ap}
use mathlib.Core.Bool.{Bool, true, false}
use mathlib.Core.List.{List}
use mathlib.Core.Option.{Option, some, none}
use Prim.Native.Nat.{ℕ}
use lib.ListN.{length}
use Rattle.std.specs.Prelude.{Option as Found, Some, None, Result, Ok, Err, IsErrAnd, ok_or}
use Rattle.words.specs.Words.{Added}
use Rattle.term.specs.Trees.{Tree, words}
use Rattle.rules.specs.Steps.{few}
use Rattle.families.specs.declared.writing.Refusal.{Refusal}
use Rattle.families.specs.declared.writing.Refusal.TheVariants.{NoInstance, TooBig}
use Rattle.families.specs.Writing.{code_of, Wrote, Writes}

-- the error of an `ok_or`, and what a `?` makes of it
handed_on : {A : Type 0} (c : Found A) (e : Refusal) (r : Result ℕ Refusal) → Err e ≡ ok_or c NoInstance → IsErrAnd r (λ x. x ≡ e) → r ≡ Err NoInstance
handed_on c e (Ok end) h k = absurd k
handed_on None e (Err x) h k = cc
handed_on (Some a) e (Err x) h k = cc

module _ {o : Option Tree} (out : List ℕ) where
  -- the part is no instance
  pub refuses : o ≡ none → Writes o out out (Err NoInstance)
  unfolding Writes
  refuses e = rw e (refl, refl)

  -- and where a `?` tells so of a child that is sought
  pub refuses_none : {A : Type 0} (c : Found A) {e : Refusal} (r : Result ℕ Refusal) → o ≡ none → Err e ≡ ok_or c NoInstance → IsErrAnd r (λ x. x ≡ e) → Writes o out out r
  refuses_none c {e} r n h k = rw (handed_on c e r h k) (refuses n)

  -- the result has a node with too many children
  pub exceeds : (q : Tree) → o ≡ some q → few q ≡ false → Writes o out out (Err TooBig)
  unfolding Writes
  exceeds q e f = rw (e, f) (refl, refl)

  -- the result is written
  pub writes : {out' : List ℕ} {end : ℕ} (q : Tree) → o ≡ some q → few q ≡ true → Added out 0 (words q) out' end → Writes o out out' (Ok end)
  unfolding Writes
  writes q e f a = rw (e, f) a

-- a refusal that a `?` passes up
pub passed_up : {A : Type 0} (e : Refusal) (r : Result A Refusal) → IsErrAnd r (λ x. x ≡ e) → r ≡ Err e
passed_up e (Ok end) k = absurd k
passed_up e (Err x) k = ap Err k

-- and of a promise that is kept, which of the three it was
pub data Way (out out' : List ℕ) : Result ℕ Refusal → Option Tree → Type 0 where
  refused : (e : Refusal) → code_of e ≡ 22 → length out' ≡ length out → Way out out' (Err e) none
  done : {end : ℕ} (q : Tree) → few q ≡ true → Added out 0 (words q) out' end → Way out out' (Ok end) (some q)
  exceeded : (e : Refusal) (q : Tree) → few q ≡ false → code_of e ≡ 23 → length out' ≡ length out → Way out out' (Err e) (some q)

module _ {out out' : List ℕ} where
  way_by : (r : Result ℕ Refusal) (q : Tree) (b : Bool) → few q ≡ b → Wrote b (words q) out out' r → Way out out' r (some q)
  way_by (Ok end) q true f w = done q f w
  way_by (Ok end) q false f w = absurd w.0
  way_by (Err e) q true f w = absurd w
  way_by (Err e) q false f w = exceeded e q f w.0 (ap length w.1)

  pub way : (r : Result ℕ Refusal) (o : Option Tree) → Writes o out out' r → Way out out' r o
  unfolding Writes
  way (Ok end) none w = absurd w.0
  way (Err e) none w = refused e w.0 (ap length w.1)
  way r (some q) w = way_by r q (few q) refl w

  pub way_size : {r : Result ℕ Refusal} {o : Option Tree} → Way out out' r o → length out' ≡ length out
  way_size (refused e c l) = l
  way_size (done q f a) = a.size
  way_size (exceeded e q f c l) = l

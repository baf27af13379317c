-- The demands as clauses of the entry's contract.
use mathlib.Core.List.{List}
use Prim.Native.Nat.{ℕ}
use Rattle.step.specs.declared.run.Answer as A
use Rattle.file.specs.Demands.{Behind, Exactly, Named, EqualSides, EqualEnds}
use Rattle.file.proofs.Performed.{Replayed}
use Rattle.file.proofs.Demands.{demand1, demand2, demand3}

module _ {bytes left right : List ℕ} {a : A.Answer} {l r : List ℕ} (x : Replayed bytes left right a l r) where
  pub behind : Behind left right a l r
  behind = rw (x.answer, x.left_slice, x.right_slice) (demand1.replay_zeros bytes left right, demand1.replay_untouched bytes left right)

  pub exactly : Exactly bytes left right a
  exactly = rw x.answer (demand2.accepts bytes left right)

  pub named : Named bytes left right a l r
  named = rw (x.answer, x.left_slice, x.right_slice) (demand2.otherwise bytes left right)

  pub equal_ends : EqualEnds bytes a l r
  equal_ends =
      rw (x.answer, x.left_slice, x.right_slice)
      (λ h. let k = demand3.keeps bytes left right h in (k.ends, k.left_alike.numbers, k.right_alike.numbers))

pub equal_sides : (bytes : List ℕ) → EqualSides bytes
equal_sides bytes y = (demand3.proves bytes y).numbers

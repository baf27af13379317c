-- The witnesses of what `specs/Statements` says of typing.
use mathlib.Core.Path.{◌≡◌, ◌∙◌, ap}
use mathlib.Core.Logic.{inl, inr}
use Prim.Native.Nat.{ℕ, ◌+◌}
use native.Mathlib.Decide.{dec_lt}
use native.Mathlib.Omega.{arith}
use lib.ListN.{length}
use Rattle.term.specs.Trees.{Tree, words, Subtree}
use Rattle.types.specs.Sorts.{Context}
use Rattle.types.specs.Rules.{WellFormed}
use Rattle.types.specs.First.{First, FirstUntyped}
use Rattle.types.specs.TypeOf.{untyped, type_of}
use Rattle.types.specs.Statements.{Sound, Complete, Unique, Places, PartTyped, Indices}
use Rattle.types.proofs.Complete as C
use Rattle.types.proofs.Proper as P
use Rattle.types.proofs.Replace.{part-typed, inside_well}
use Rattle.types.proofs.Place.{first-untyped, no_sort}
use Rattle.types.proofs.Sound as S

pub sound : Sound
sound Γ W at t T e = S.sound W at t e

pub complete : Complete
complete Γ W at t T d = C.complete W d at

pub unique : Unique
unique Γ W t T U d e = C.unique W d e

pub parts_typed : PartTyped
parts_typed Γ W t S d k s e = (inside_well W t k, part-typed W t k s S d e)

pub indices : Indices
indices Γ W t T d = P.proper W d

-- of two untyped parts one is the earlier, unless they begin at the same offset
one-first : {Γs : ℕ → Context} {sub : ℕ → Subtree} {j k : ℕ} → First Γs sub j → First Γs sub k → j ≡ k
one-first {j = j} {k = k} x y =
    let e = j + length (words x.there) in
    let f = k + length (words y.there) in
    elim (dec_lt e f) [
      | yes h ↦ absurd (x.untyped (y.earlier j x.there x.is (inl h)))
      | no h ↦ elim (dec_lt f e) [
        | yes g ↦ absurd (y.untyped (x.earlier k y.there y.is (inl g)))
        | no g ↦ elim (dec_lt k j) [
          | yes b ↦ absurd (x.untyped (y.earlier j x.there x.is (inr (omega arith, b))))
          | no b ↦ elim (dec_lt j k) [
            | yes c ↦ absurd (y.untyped (x.earlier k y.there y.is (inr (omega arith, c))))
            | no c ↦ omega arith
          ]
        ]
      ]
    ]

-- a tree with an untyped part has no sort, so the function names a part, which is that one
named : {Γ : Context} → WellFormed Γ → (t : Tree) (k : ℕ) → FirstUntyped Γ t k → type_of Γ 0 t ≡ untyped k
named W t k x =
    let n = no_sort W t (λ s. x.untyped (part-typed W t k x.there s.0 s.1 x.is)) in
    n.1 ∙ ap untyped (one-first (first-untyped W t n.0 n.1) x)

pub places : Places
places Γ W t k = (first-untyped W t k, named W t k)

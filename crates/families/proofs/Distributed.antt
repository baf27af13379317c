-- Distributing is one of two spreadings: over a sum of scalars, or else over one of arrays.
use mathlib.Core.Path.{◌≡◌, refl}
use mathlib.Core.Logic.{◌≢◌}
use mathlib.Core.Bool.{Bool, true, false, cond, ◌&&◌}
use mathlib.Core.List.{List}
use mathlib.Core.Option.{Option, some, none}
use Prim.Native.Nat.{ℕ}
use native.Mathlib.Omega.{arith}
use borrow.Author.Tests.{ne_eqb, eq-eqb}
use lib.Dec.{eqb}
use Rattle.words.specs.Listed.{or_else}
use Rattle.term.specs.Heads.{Label, scalar_sum, add, big_sum, word}
use Rattle.term.specs.Trees.{Tree, node, count, words}
use Rattle.term.specs.Parts.{parse, tree_in}
use Rattle.types.specs.Sorts.{Context}
use Rattle.rules.specs.Table.{child, spreading, distributing}
use Rattle.rules.specs.Instances.{scalar_sums}
use Rattle.rules.specs.Steps.{few}
use Rattle.rules.specs.Rewrite.{is_head, open_at, place, usable, spread_at, distribute_at, rewrite}
use Rattle.std.specs.Prelude.{Result, Ok, Err, IsErrAnd}
use Rattle.families.specs.declared.writing.Refusal.{Refusal}
use Rattle.families.specs.Code.Families.{Does, Named, Counted, Spreads}
use Rattle.families.specs.declared.writing.Refusal.TheVariants.{NoRule, NoPart, NoInstance, TooBig}
use Rattle.families.specs.Writing.{code_of, Wrote, Writes}
use Rattle.families.proofs.Collected.{sum}

-- over one kind of sum
abbrev over : Context → Label → ℕ → Tree → Option Tree
over Γ s i t = rewrite Γ (spreading big_sum (child 1) s s) i 0 t

both-refused : (b : Bool) (x y : Option Tree) → cond b (or_else x y) none ≡ or_else (cond b x none) (cond b y none)
unfolding or_else
both-refused true x y = refl
both-refused false x y = refl

two_spreadings : (Γ : Context) (i : ℕ) (t : Tree) → rewrite Γ distributing i 0 t ≡ or_else (over Γ scalar_sum i t) (over Γ add i t)
unfolding rewrite distribute_at
two_spreadings Γ i (node m f) =
    let o = open_at f (place (child 1) i) in
    both-refused (eqb 0 0 && (usable (child 1) i && is_head big_sum m (count f))) (spread_at big_sum scalar_sum scalar_sum o) (spread_at big_sum add add o)

-- what is written is neither refused nor followed
module _ (out : List ℕ) where
  not-refused : (b : Bool) (ws out' : List ℕ) → Wrote b ws out out' (Err NoInstance) → ⊥
  not-refused true ws out' w = w
  not-refused false ws out' w = omega (arith, w.0)

  told : (r : Result ℕ Refusal) → IsErrAnd r (λ e. code_of e ≡ 22) → r ≡ Err NoInstance
  told (Ok end) h = absurd h
  told (Err NoRule) h = absurd (omega (arith, h))
  told (Err NoPart) h = absurd (omega (arith, h))
  told (Err NoInstance) h = refl
  told (Err TooBig) h = absurd (omega (arith, h))

  first_writes : (x y : Option Tree) (out' : List ℕ) (r : Result ℕ Refusal) → Writes x out out' r → (r ≡ Err NoInstance → ⊥) → Writes (or_else x y) out out' r
  unfolding Writes or_else
  first_writes none y out' r w h = absurd (h (told r w.0))
  first_writes (some q) y out' r w h = w

  second_writes : (x y : Option Tree) (mid out' : List ℕ) (r : Result ℕ Refusal) → Writes x out mid (Err NoInstance) → Writes y mid out' r → Writes (or_else x y) out out' r
  unfolding Writes or_else
  second_writes none y mid out' r w v = rw (← w.1) v
  second_writes (some q) y mid out' r w v = absurd (not-refused (few q) (words q) mid w)

-- a refusal that is another
pub refused_otherwise : (e : Refusal) → (e ≡ NoInstance → ⊥) → ◌≡◌ {A = Result ℕ Refusal} (Err e) (Err NoInstance) → ⊥
refused_otherwise e h z = h (cc)

pub unusable : (Γ : Context) (i : ℕ) (t : Tree) → i ≢ 0 → rewrite Γ distributing i 0 t ≡ none
unfolding rewrite usable
unusable Γ i (node m f) h = rw (ne_eqb i 0 h)

named : Named 27 big_sum
unfolding word
named = record { number = refl; nameless = refl }

scalars : Counted 7 scalar_sum
unfolding word
scalars = record { number = refl; chain = scalar_sums }

-- both spreadings are over child 1, with i unused
spreads : (Γ : Context) (ws out out' : List ℕ) (r : Result ℕ Refusal) (i : ℕ) → i ≡ 0 → {h : ℕ} {s : Label} → Counted h s → Spreads ws out out' r 27 1 h h → Writes (over Γ s i (tree_in (parse ws))) out out' r
unfolding usable place
spreads Γ ws out out' r i z c h = h big_sum _ _ (child 1) i named c c (eq-eqb i 0 z) refl Γ

module _ (ws out : List ℕ) (i : ℕ) (z : i ≡ 0) where
  pub distributes-first : (out' : List ℕ) (r : Result ℕ Refusal) → Spreads ws out out' r 27 1 7 7 → (r ≡ Err NoInstance → ⊥) → Does ws out out' r distributing i 0
  distributes-first out' r h n Γ = rw (two_spreadings Γ i (tree_in (parse ws))) (first_writes out _ _ out' r (spreads Γ ws out out' r i z scalars h) n)

  pub distributes-second : (mid out' : List ℕ) (r : Result ℕ Refusal) → Spreads ws out mid (Err NoInstance) 27 1 7 7 → Spreads ws mid out' r 27 1 20 20 → Does ws out out' r distributing i 0
  distributes-second mid out' r h k Γ =
      rw (two_spreadings Γ i (tree_in (parse ws))) (second_writes out _ _ mid out' r (spreads Γ ws out mid (Err NoInstance) i z scalars h) (spreads Γ ws mid out' r i z sum k))

-- What makes a rule decidable as `rewrite` does it, and that every rule of the table is so.
use mathlib.Core.Path.{◌≡◌, refl}
use mathlib.Core.Bool.{Bool, true, false, cond, not, ◌&&◌, ◌||◌, and-eq-true_iff}
use mathlib.Core.Option.{some}
use Prim.Native.Nat.{ℕ, suc}
use lib.Dec.{eqb, leb, ltb}
use Rattle.types.specs.Inside.{binds}
use Rattle.rules.specs.Patterns.{Pattern, #◌, first, second, ◌⟨⟩, ◌⟨◌⟩, ◌⟨◌∣◌⟩}
use Rattle.rules.specs.Table.{Condition, Rule, ◌⇒◌▷◌, spreading, removing, absorbing, merging, collecting, swapping, distributing, rule_of}
use Rattle.rules.specs.Rewrite.{nameless}
use Rattle.rules.specs.Code.Conditions.{asked, of_words}
use Rattle.rules.proofs.Known.{is_own}
use Rattle.rules.proofs.Every.{rule_passes}

-- ---- the holes of a pattern
-- n holes were met before: how many were met behind it
unfoldable pub met : Pattern → ℕ → ℕ
met (# k) n = cond (eqb k n) (suc n) n
met (first k) n = n
met (second k) n = n
met (h ⟨⟩) n = n
met (h ⟨ p ⟩) n = met p n
met (h ⟨ p ∣ q ⟩) n = met q (met p n)

-- a left side: the holes are met in the order of their numbers, and its heads are known by their words
unfoldable pub in_order : Pattern → ℕ → Bool
unfolding met is_own
in_order (# k) n = leb k n
in_order (first k) n = false
in_order (second k) n = false
in_order (h ⟨⟩) n = nameless h || is_own h
in_order (h ⟨ p ⟩) n = nameless h && in_order p n
in_order (h ⟨ p ∣ q ⟩) n = nameless h && (in_order p n && in_order q (met p n))

-- a right side: it asks for the first n holes only
unfoldable pub below : Pattern → ℕ → Bool
below (# k) n = ltb k n
below (first k) n = ltb k n
below (second k) n = ltb k n
below (h ⟨⟩) n = true
below (h ⟨ p ⟩) n = below p n
below (h ⟨ p ∣ q ⟩) n = below p n && below q n

-- A left side whose heads do not bind: what its holes hold stands where the whole does. Else no type of it is asked for
unfoldable pub flat : Pattern → Bool
unfolding binds
flat (# k) = true
flat (first k) = true
flat (second k) = true
flat (h ⟨⟩) = true
flat (h ⟨ p ⟩) = not (binds h) && flat p
flat (h ⟨ p ∣ q ⟩) = not (binds h) && (flat p && flat q)

unfoldable pub asks_none : Pattern → Bool
asks_none (# k) = true
asks_none (first k) = false
asks_none (second k) = false
asks_none (h ⟨⟩) = true
asks_none (h ⟨ p ⟩) = asks_none p
asks_none (h ⟨ p ∣ q ⟩) = asks_none p && asks_none q

-- ---- every rule
unfoldable pub good : Rule → Bool
unfolding met in_order below asked flat asks_none of_words
good (k ⇒ l ▷ r) = in_order l 0 && (below r (met l 0) && (asked k (met l 0) && (flat l || (of_words k && asks_none r))))
good (spreading l w s r) = nameless l && nameless s
good (removing l c) = nameless l && nameless c
good absorbing = true
good merging = true
good (collecting u v) = true
good swapping = true
good distributing = true

abbrev pub Good : Rule → Type 0
Good r = good r ≡ true

-- both sides of a passed `&&`
pub both : (a b : Bool) → a && b ≡ true → (a ≡ true) × (b ≡ true)
both a b e = (and-eq-true_iff a b).0 e

pub all_three : (a b c : Bool) → a && (b && c) ≡ true → (a ≡ true) × ((b ≡ true) × (c ≡ true))
all_three a b c e = let r = both a (b && c) e in (r.0, both b c r.1)

-- what the table's test says of an equation
pub record Fine (k : Condition) (l r : Pattern) : Type 0 where
  pub order : in_order l 0 ≡ true
  pub below_holes : below r (met l 0) ≡ true
  pub asks : asked k (met l 0) ≡ true
  pub flat-or : (flat l || (of_words k && asks_none r)) ≡ true

pub fine : (k : Condition) (l r : Pattern) → Good (k ⇒ l ▷ r) → Fine k l r
unfolding good
fine k l r g =
    let a = all_three (in_order l 0) (below r (met l 0)) _ g in
    let b = both (asked k (met l 0)) (flat l || (of_words k && asks_none r)) a.1.1 in
    record { order = a.0; below_holes = a.1.0; asks = b.0; flat-or = b.1 }

-- ---- the table
pub every_good : (n : ℕ) (r : Rule) → rule_of n ≡ some r → Good r
unfolding good
every_good = rule_passes good refl

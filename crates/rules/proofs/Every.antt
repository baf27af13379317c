-- Every line of the table keeps sort and meaning.
use mathlib.Core.Path.{◌≡◌, refl}
use mathlib.Core.Bool.{Bool, true, false, cond, ◌&&◌}
use mathlib.Core.List.{List, [], ◌∷◌}
use mathlib.Core.Option.{some}
use Prim.Native.Nat.{ℕ}
use native.Mathlib.Omega.{arith}
use lib.Dec.{eqb}
use Rattle.rules.specs.Patterns.{Pattern}
use Rattle.rules.specs.Table.{Condition, Rule, ◌⇒◌▷◌, spreading, removing, absorbing, merging, collecting, swapping, distributing, Line, ◌∶◌, table, find, rule_of}

-- one proof for each line, in the table's order
abbrev pub Every : (Rule → Type 0) → List Line → Type 0
Every P [] = Unit {0}
Every P ((n ∶ r) ∷ ls) = P r × Every P ls

infixr 5 ◌⨾◌
abbrev pub ◌⨾◌ : {A B : Type 0} → A → B → A × B
a ⨾ b = (a, b)

-- the line of a number
every_find : (P : Rule → Type 0) (n : ℕ) (r : Rule) (ls : List Line) → Every P ls → find n ls ≡ some r → P r
every_find P n r [] e f = absurd (let z : ◌≡◌ {A = ℕ} 0 1 = cc in omega arith)
every_find P n r ((k ∶ s) ∷ ls) e f = by_test (eqb n k) f (λ g. every_find P n r ls e.1 g)
  where
    by_test : (b : Bool) → cond b (some s) (find n ls) ≡ some r → (find n ls ≡ some r → P r) → P r
    by_test true g rest = let z : s ≡ r = cc in rw (← z) e.0
    by_test false g rest = rest g

pub every_rule : (P : Rule → Type 0) → Every P table → (n : ℕ) (r : Rule) → rule_of n ≡ some r → P r
unfolding rule_of
every_rule P e n r f = every_find P n r table e f

-- a test that every line passes, by computing
abbrev pub all_lines : (Rule → Bool) → List Line → Bool
all_lines f [] = true
all_lines f ((n ∶ r) ∷ ls) = f r && all_lines f ls

every_passes : (f : Rule → Bool) (ls : List Line) → all_lines f ls ≡ true → Every (λ r. f r ≡ true) ls
every_passes f [] e = tt
every_passes f ((n ∶ r) ∷ ls) e = split (f r) refl e (every_passes f ls)
  where
    split : (b : Bool) → f r ≡ b → b && all_lines f ls ≡ true → (all_lines f ls ≡ true → Every (λ r. f r ≡ true) ls) → Every (λ r. f r ≡ true) ((n ∶ r) ∷ ls)
    split true g h rest = (g, rest h)
    split false g h rest = absurd (let z : ◌≡◌ {A = ℕ} 0 1 = cc in omega arith)

pub rule_passes : (f : Rule → Bool) → all_lines f table ≡ true → (n : ℕ) (r : Rule) → rule_of n ≡ some r → f r ≡ true
rule_passes f e = every_rule (λ r. f r ≡ true) (every_passes f table e)

-- a test of both sides of every equation
unfoldable pub on_equations : (Pattern → Pattern → Bool) → Rule → Bool
on_equations f (k ⇒ l ▷ r) = f l r
on_equations f (spreading l w s r) = true
on_equations f (removing l c) = true
on_equations f absorbing = true
on_equations f merging = true
on_equations f (collecting u v) = true
on_equations f swapping = true
on_equations f distributing = true

pub equation_passes : (f : Pattern → Pattern → Bool) → all_lines (on_equations f) table ≡ true → (n : ℕ) (k : Condition) (l r : Pattern) → rule_of n ≡ some (k ⇒ l ▷ r) → f l r ≡ true
unfolding on_equations
equation_passes f e n k l r rule = rule_passes (on_equations f) e n (k ⇒ l ▷ r) rule

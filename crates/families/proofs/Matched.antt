-- Two summands that the code has looked at: they are of their forms and have the same X, or `collected` refuses them.
use mathlib.Core.Path.{◌≡◌, refl, sym}
use mathlib.Core.Bool.{Bool, true, false}
use mathlib.Core.List.{List}
use mathlib.Core.Option.{some, none as refused}
use Prim.Native.Nat.{ℕ, ◌-◌, ◌≤◌}
use lib.ListN.{take, drop}
use Rattle.words.specs.Words.{same_words}
use Rattle.term.specs.Heads.{scalar_sum, scale, add}
use Rattle.term.specs.Trees.{Tree, Forest, node, none, ◌▹◌, ◌⧺◌, words}
use Rattle.rules.specs.Rewrite.{Multiple, no_multiple, multiple, collected}
use Rattle.std.specs.Prelude.{Some, None}
use Rattle.rules.specs.Steps.{few}
use Rattle.families.proofs.Multiples.{factor_run, Located, missing, located}

-- whether the runs from x up to `ends` and from y up to `last` are the same
abbrev pub same_x : List ℕ → ℕ → ℕ → ℕ → ℕ → Bool
same_x ws x ends y last = same_words (take (ends - x) (drop x ws)) (take (last - y) (drop y ws))

-- the new summand: the sum of two factors over X
abbrev pub gathered : Tree → Tree → Tree → Tree
gathered f g t = node scale (node scalar_sum (f ▹ g ▹ none) ▹ t ▹ none)

-- the factors of both and the X of the first, where the summands stand from a up to b and from c up to d, and their X begin at x and y
pub record Matched (ws : List ℕ) (a b c d x y : ℕ) (before between after : Forest) (p q : Multiple) : Type 0 where
  pub one : Tree
  pub two : Tree
  pub body : Tree
  pub answer : collected before between after p q ≡ some (node add (before ⧺ between ⧺ after ⧺ gathered one two body ▹ none))
  pub bounds : (a ≤ x) × (x ≤ b) × (c ≤ y) × (y ≤ d)
  pub first-factor : factor_run ws a x ≡ words one
  pub second-factor : factor_run ws c y ≡ words two
  pub run : take (b - x) (drop x ws) ≡ words body
  pub few-parts : (few one ≡ true) × (few two ≡ true) × (few body ≡ true)

module _ {ws : List ℕ} (before between after : Forest) where
  pub matched : {a b c d x y : ℕ} {p q : Multiple} {r : Bool} → Located ws a b (Some x) p → Located ws c d (Some y) q → r ≡ same_x ws x b y d → r ≡ true
      → Matched ws a b c d x y before between after p q
  unfolding collected
  matched (located f s u v i r o) (located f' s' u' v' i' r' o') w t =
      let same : same_words (words s) (words s') ≡ true = rw (o, o', t) at (sym w) in
      record {
        one = f;
        two = f';
        body = s;
        answer = rw same;
        bounds = (i.0, i.1, i'.0, i'.1);
        first-factor = r;
        second-factor = r';
        run = o;
        few-parts = (u, u', v);
      }

  pub unmatched : {a b c d x y : ℕ} {p q : Multiple} {r : Bool} → Located ws a b (Some x) p → Located ws c d (Some y) q → r ≡ same_x ws x b y d → r ≡ false
      → collected before between after p q ≡ refused
  unfolding collected
  unmatched (located f s u v i r o) (located f' s' u' v' i' r' o') w t =
      let same : same_words (words s) (words s') ≡ false = rw (o, o', t) at (sym w) in rw same

  -- one of them is not of its form
  pub no_first : {a b : ℕ} {p : Multiple} (q : Multiple) → Located ws a b None p → collected before between after p q ≡ refused
  unfolding collected
  no_first q missing = refl

  pub no_second : {c d : ℕ} (p : Multiple) {q : Multiple} → Located ws c d None q → collected before between after p q ≡ refused
  unfolding collected
  no_second no_multiple missing = refl
  no_second (multiple f s) missing = refl

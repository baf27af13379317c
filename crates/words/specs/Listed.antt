-- Lists and tests by number, what a function gives for 0 .. n − 1; and what many speak of: a test of every word, a word that a list lacks, the first of two answers.
use Rattle.std.specs.Prelude.{Bool, true, not, ◌&&◌, List, [], ◌∷◌, ℕ, zero, suc, eqb}
use Rattle.std.proofs.Math.Option.{Option, some, none}

-- the items of 0 .. n − 1
unfoldable pub up_to : {A : Type 0} → ℕ → (ℕ → A) → List A
up_to zero f = []
up_to (suc n) f = f 0 ∷ up_to n λ k. f (suc k)

-- a test that all of 0 .. n − 1 pass
unfoldable pub all_up_to : ℕ → (ℕ → Bool) → Bool
all_up_to zero f = true
all_up_to (suc n) f = f 0 && all_up_to n λ k. f (suc k)

-- a test that all items of a list pass
unfoldable pub all : (ℕ → Bool) → List ℕ → Bool
all f [] = true
all f (w ∷ ws) = f w && all f ws

-- a test that a number stands nowhere in a list
unfoldable pub lacks : ℕ → List ℕ → Bool
lacks w [] = true
lacks w (v ∷ vs) = not (eqb v w) && lacks w vs

-- the first of two answers that is one
unfoldable pub or_else : {A : Type 0} → Option A → Option A → Option A
or_else none b = b
or_else (some a) b = some a

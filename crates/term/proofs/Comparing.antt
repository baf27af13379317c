-- Comparing terms: two different terms differ before either ends.
use mathlib.Core.Path.{◌≡◌, sym}
use mathlib.Core.List.{[], append-nil}
use Prim.Native.Nat.{ℕ, ◌≤◌, ◌<◌}
use native.Mathlib.Nat.{lt_of_not-le}
use lib.ListN.{length, take, drop, take-append-drop}
use lib.Seq.{take_all}
use Rattle.words.specs.Words.{agreeing}
use Rattle.words.proofs.Runs.{agreeing-take}
use Rattle.term.specs.Trees.{Tree, words, Formed}
use Rattle.term.proofs.Parsing.{prefix_free}

-- a term whose words all stand at the front of another's is that other
front_same : (t u : Tree) → Formed t → Formed u → (n : ℕ) → take n (words t) ≡ take n (words u) → length (words t) ≤ n → t ≡ u
front_same t u h k n e l =
    prefix_free t u h k (drop n (words u)) []
    (cc (take_all n (words t) l, take-append-drop n (words u), append-nil (words u)))

-- two different terms differ at a first offset below both lengths
pub first_difference : (t u : Tree) → Formed t → Formed u → (t ≡ u → ⊥) → (agreeing (words t) (words u) < length (words t)) × (agreeing (words t) (words u) < length (words u))
first_difference t u h k d =
    let e = agreeing-take (words t) (words u) in
    (lt_of_not-le (λ l. d (front_same t u h k _ e l)), lt_of_not-le (λ l. d (sym (front_same u t k h _ (sym e) l))))

-- The context at a place. 02, CR 1: "Parts inside a body are typed with the bases bound around them".
use Rattle.std.specs.Prelude.{Bool, cond, ℕ, zero, suc, ◌-◌, eqb, ltb, length}
use Rattle.term.specs.Heads.{Label, head_of}
use Rattle.term.specs.Trees.{Tree, Forest, node, none, ◌▹◌, words}
use Rattle.types.specs.Sorts.{Context, bind}

-- A 27 binds, for its body and not for its index: 02, CR 1, "the a-th 27 whose body holds it". The context of a head's children behind the first
unfoldable pub binds : Label → Bool
unfolding head_of
binds l = eqb (head_of l 0).0 27

unfoldable pub behind_first : Context → Forest → Context
behind_first Γ none = Γ
behind_first Γ (s ▹ f) = bind s Γ

unfoldable pub later : Context → Label → Forest → Context
unfolding binds behind_first
later Γ l cs = cond (binds l) (behind_first Γ cs) Γ

-- of a row of children, the first in one context and the others in another
unfoldable mutual
  unfolding words later

  pub inside : Context → Tree → ℕ → Context
  inside Γ (node l cs) zero = Γ
  inside Γ (node l cs) (suc k) = inside* Γ (later Γ l cs) cs k

  pub inside* : Context → Context → Forest → ℕ → Context
  inside* Γ Δ none k = Γ
  inside* Γ Δ (t ▹ f) k = cond (ltb k (length (words t))) (inside Γ t k) (inside* Δ Δ f (k - length (words t)))

-- Terms as trees: the words of a tree in prefix order, its depth, and the replacement of a subtree.
use Rattle.std.specs.Prelude.{◌≡◌, cond, List, [], ◌∷◌, ◌++◌, ℕ, zero, suc, ◌-◌, max, ltb, length}
use Rattle.term.specs.Heads.{Label, labelled, word, read}

infixr 25 ◌▹◌
infixr 20 ◌⧺◌
mutual
  pub data Tree : Type 0 where
    node : Label → Forest → Tree

  pub data Forest : Type 0 where
    none : Forest
    ◌▹◌ : Tree → Forest → Forest

unfoldable pub count : Forest → ℕ
count none = 0
count (t ▹ f) = suc (count f)

unfoldable pub ◌⧺◌ : Forest → Forest → Forest
none ⧺ g = g
(t ▹ f) ⧺ g = t ▹ (f ⧺ g)

-- 01: "A term is a run of 16-bit words in prefix order"
unfoldable mutual
  pub words : Tree → List ℕ
  words (node l cs) = word l (count cs) ∷ words* cs

  pub words* : Forest → List ℕ
  words* none = []
  words* (t ▹ f) = words t ++ words* f

-- each label has the children that the table wants: its word reads back as that label with that many children
unfoldable mutual
  pub Formed : Tree → Type 0
  Formed (node l cs) = (read (word l (count cs)) ≡ labelled l (count cs)) × Formed* cs

  pub Formed* : Forest → Type 0
  Formed* none = Unit {0}
  Formed* (t ▹ f) = Formed t × Formed* f

-- 01: "a leaf is 1 deep, index words count"
unfoldable mutual
  pub depth : Tree → ℕ
  depth (node l cs) = suc (depth* cs)

  pub depth* : Forest → ℕ
  depth* none = 0
  depth* (t ▹ f) = max (depth t) (depth* f)

-- A place in a tree is an offset in its words. The subtree at a place, if there is one
pub data Subtree : Type 0 where
  outside : Subtree
  found : Tree → Subtree

unfoldable mutual
  unfolding words

  pub subtree : Tree → ℕ → Subtree
  subtree (node l cs) zero = found (node l cs)
  subtree (node l cs) (suc k) = subtree* cs k

  pub subtree* : Forest → ℕ → Subtree
  subtree* none k = outside
  subtree* (t ▹ f) k = cond (ltb k (length (words t))) (subtree t k) (subtree* f (k - length (words t)))

-- the tree with u for the subtree at a place
unfoldable mutual
  unfolding words

  pub replace : Tree → ℕ → Tree → Tree
  replace (node l cs) zero u = u
  replace (node l cs) (suc k) u = node l (replace* cs k u)

  pub replace* : Forest → ℕ → Tree → Forest
  replace* none k u = none
  replace* (t ▹ f) k u = cond (ltb k (length (words t))) (replace t k u ▹ f) (t ▹ replace* f (k - length (words t)) u)

-- how many heads stand above a place
unfoldable mutual
  unfolding words

  pub level : Tree → ℕ → ℕ
  level (node l cs) zero = 0
  level (node l cs) (suc k) = suc (level* cs k)

  pub level* : Forest → ℕ → ℕ
  level* none k = 0
  level* (t ▹ f) k = cond (ltb k (length (words t))) (level t k) (level* f (k - length (words t)))

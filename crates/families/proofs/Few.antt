-- Trees with at most 255 children at each node.
use mathlib.Core.Path.{◌≡◌}
use mathlib.Core.Bool.{true, false, and-eq-true_iff}
use Prim.Native.Nat.{◌≤◌, ◌<◌}
use borrow.Author.Tests.{le-leb, lt-leb}
use Rattle.term.specs.Heads.{Label, word}
use Rattle.term.specs.Terms.{max_children}
use Rattle.term.specs.Trees.{Tree, Forest, node, none, ◌▹◌, count, ◌⧺◌, Formed}
use Rattle.term.proofs.Readings.{read-few}
use Rattle.rules.specs.Steps.{few, few*}

-- ---- forests
pub few*-⧺ : (f g : Forest) → few* f ≡ true → few* g ≡ true → few* (f ⧺ g) ≡ true
unfolding few ◌⧺◌
few*-⧺ none g p q = q
few*-⧺ (t ▹ f) g p q = let r = (and-eq-true_iff (few t) (few* f)).0 p in rw r.0 (few*-⧺ f g r.1 q)

pub few*-▹ : (t : Tree) (f : Forest) → few t ≡ true → few* f ≡ true → few* (t ▹ f) ≡ true
unfolding few
few*-▹ t f p q = rw (p, q)

-- ---- a formed node has at most 255 children
pub formed-count : (l : Label) (f : Forest) → Formed (node l f) → count f ≤ 255
unfolding Formed
formed-count l f h = read-few (word l (count f)) l (count f) h.0

-- ---- nodes: with few children, and with too many
pub few-node : (l : Label) (cs : Forest) → count cs ≤ 255 → few* cs ≡ true → few (node l cs) ≡ true
unfolding few
few-node l cs h p = rw (le-leb (count cs) max_children h, p)

pub many-node : (l : Label) (cs : Forest) → 255 < count cs → few (node l cs) ≡ false
unfolding few
many-node l cs h = rw (lt-leb (count cs) max_children h)

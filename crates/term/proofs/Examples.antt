-- The definitions, computed at small inputs. The answers are worked out by hand from document 01.
use mathlib.Core.Path.{◌≡◌, refl}
use mathlib.Core.Bool.{true, false}
use mathlib.Core.List.{List, [], ◌∷◌}
use Prim.Native.Nat.{ℕ, ◌+◌, ◌*◌}
use Rattle.term.specs.declared.terms.Names.{Names}
use Rattle.term.specs.Heads.{word, read, unread, labelled, scalar_sum, mulk, adjoint, identity, basis_ket, type_name, basis_name}
use Rattle.term.specs.Trees.{Tree, node, none, ◌▹◌, words, depth, replace}
use Rattle.term.specs.Parts.{part, part_depth}
use Rattle.term.specs.Terms.{declared, term_words, is_term}

-- 01, "One session, whole": left=22 18 15 1:0 16 3:0
abbrev left : List ℕ
left = 5632 ∷ 4608 ∷ 3840 ∷ 256 ∷ 4096 ∷ 768 ∷ []

abbrev left_tree : Tree
left_tree = node mulk (node adjoint (node identity (node (type_name 0) none ▹ none) ▹ none) ▹ node basis_ket (node (basis_name 0) none ▹ none) ▹ none)

abbrev names : Names
names = record { types = 1; bases = 1; variables = 1 }

the-session :
    (words left_tree ≡ left)
    × (depth left_tree ≡ 4)
    × (part left 0 ≡ left)
    × (part left 1 ≡ 4608 ∷ 3840 ∷ 256 ∷ [])
    × (part left 4 ≡ 4096 ∷ 768 ∷ [])
    × (part left 6 ≡ [])
    × (part_depth left 1 ≡ 3)
    × (term_words names left ≡ true)
    × (is_term names left 5 ≡ false)
    × (is_term names left 7 ≡ false)
    × (words (replace left_tree 1 (node identity (node (type_name 0) none ▹ none))) ≡ 5632 ∷ 3840 ∷ 256 ∷ 4096 ∷ 768 ∷ [])
unfolding words word depth part part_depth term_words is_term declared replace read
the-session = (refl, refl, refl, refl, refl, refl, refl, refl, refl, refl, refl)

-- 5:1 is unknown, 7:0 has no children, 7:255 has 255, 27 is no head; `2 1:0` does not suffice; garbage behind a part does no harm
the-edges :
    (read (5 * 256 + 1) ≡ unread)
    × (read (7 * 256) ≡ unread)
    × (read (7 * 256 + 255) ≡ labelled scalar_sum 255)
    × (read (29 * 256) ≡ unread)
    × (part (512 ∷ 256 ∷ []) 0 ≡ [])
    × (part (1536 ∷ 65535 ∷ []) 0 ≡ 1536 ∷ [])
    × (part [] 0 ≡ [])
    × (term_words names (257 ∷ []) ≡ false)
unfolding read part words word depth term_words declared
the-edges = (refl, refl, refl, refl, refl, refl, refl, refl)

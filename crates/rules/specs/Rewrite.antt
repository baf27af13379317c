-- What a part becomes by a rule, as a function for the code to equal: the relation to believe is `Instance` of `Instances`. `DecidesStep` of `Statements` says that
-- the function answers exactly the instances of a typed part.
use Rattle.std.specs.Prelude.{Bool, true, false, cond, ◌&&◌, ◌||◌, List, [], ◌∷◌, ◌++◌, ℕ, zero, suc, eqb, ltb, length, get_or}
use Rattle.std.proofs.Math.Option.{Option, some, none as refused}
use Rattle.words.specs.Listed.{or_else}
use Rattle.words.specs.Words.{same_words}
use Rattle.term.specs.Heads.{Label, type_name, basis_name, variable, index_product, pair, scalar_zero, scalar_one, scalar_sum, scalar_product, conjugate, delta, dot, zero_ket, zero_bra}
use Rattle.term.specs.Heads.{zero_operator, identity, basis_ket, basis_bra, adjoint, scale, add, tensor, mulk, mulb, outer, mulo, big_sum, bound_basis, head_of, word}
use Rattle.term.specs.Trees.{Tree, Forest, node, none, ◌▹◌, ◌⧺◌, count, words}
use Rattle.types.specs.Sorts.{Sort, index, basis, scalar, ket, bra, operator, Context}
use Rattle.types.specs.TypeOf.{Inferred, typed, untyped, type_of}
use Rattle.rules.specs.Patterns.{Pattern, #◌, first, second, ◌⟨⟩, ◌⟨◌⟩, ◌⟨◌∣◌⟩, no_index, first_index, second_index}
use Rattle.rules.specs.Table.{Condition, any, a_ket, a_bra, an_operator, unused, marked, Which, child, child_i, Summand, plain, scaled, Rule, ◌⇒◌▷◌, spreading, removing, absorbing, merging}
use Rattle.rules.specs.Table.{collecting, swapping, distributing}
use Rattle.rules.specs.Instances.{is_unused, spread, factor}

-- ---- heads
-- a head without a name is known by its word
abbrev pub nameless : Label → Bool
nameless (type_name a) = false
nameless (basis_name a) = false
nameless (variable a) = false
nameless index_product = true
nameless pair = true
nameless scalar_zero = true
nameless scalar_one = true
nameless scalar_sum = true
nameless scalar_product = true
nameless conjugate = true
nameless delta = true
nameless dot = true
nameless zero_ket = true
nameless zero_bra = true
nameless zero_operator = true
nameless identity = true
nameless basis_ket = true
nameless basis_bra = true
nameless adjoint = true
nameless scale = true
nameless add = true
nameless tensor = true
nameless mulk = true
nameless mulb = true
nameless outer = true
nameless mulo = true
nameless big_sum = true
nameless (bound_basis a) = false

-- a label is the one that is wanted: their words over n children are the same
unfoldable pub is_head : Label → Label → ℕ → Bool
is_head l m n = eqb (word l n) (word m n)

-- ---- the type of what a hole holds, and scalar for what has none
abbrev pub sort_in : Inferred → Sort
sort_in (typed S) = S
sort_in (untyped k) = scalar

abbrev pub sort_of : Context → Tree → Sort
sort_of Γ t = sort_in (type_of Γ 0 t)

abbrev pub is_ket : Sort → Bool
is_ket (index σ) = false
is_ket (basis σ) = false
is_ket scalar = false
is_ket (ket σ) = true
is_ket (bra σ) = false
is_ket (operator σ τ) = false

abbrev pub is_bra : Sort → Bool
is_bra (index σ) = false
is_bra (basis σ) = false
is_bra scalar = false
is_bra (ket σ) = false
is_bra (bra σ) = true
is_bra (operator σ τ) = false

abbrev pub is_operator : Sort → Bool
is_operator (index σ) = false
is_operator (basis σ) = false
is_operator scalar = false
is_operator (ket σ) = false
is_operator (bra σ) = false
is_operator (operator σ τ) = true

abbrev pub wanted : Condition → Sort → Bool
wanted any S = true
wanted a_ket S = is_ket S
wanted a_bra S = is_bra S
wanted an_operator S = is_operator S
wanted unused S = true
wanted marked S = true

-- ---- patterns
-- a pattern with trees in its holes
abbrev pub fill : Context → (ℕ → Tree) → Pattern → Tree
fill Γ θ (# k) = θ k
fill Γ θ (first k) = first_index (sort_of Γ (θ k))
fill Γ θ (second k) = second_index (sort_of Γ (θ k))
fill Γ θ (l ⟨⟩) = node l none
fill Γ θ (l ⟨ p ⟩) = node l (fill Γ θ p ▹ none)
fill Γ θ (l ⟨ p ∣ q ⟩) = node l (fill Γ θ p ▹ fill Γ θ q ▹ none)

-- What the holes hold so far, in their order. A new hole takes the part; one that was met before wants the same part
unfoldable pub and_then : Option (List Tree) → (List Tree → Option (List Tree)) → Option (List Tree)
and_then refused f = refused
and_then (some c) f = f c

unfoldable pub hold : ℕ → Tree → List Tree → Option (List Tree)
hold k t c = cond (eqb k (length c)) (some (c ++ t ∷ [])) (cond (same_words (words (get_or c k no_index)) (words t)) (some c) refused)

unfoldable pub match : Pattern → Tree → List Tree → Option (List Tree)
match (# k) t c = hold k t c
match (first k) t c = refused
match (second k) t c = refused
match (l ⟨⟩) (node m none) c = cond (is_head l m 0) (some c) refused
match (l ⟨⟩) (node m (t ▹ f)) c = refused
match (l ⟨ p ⟩) (node m none) c = refused
match (l ⟨ p ⟩) (node m (t ▹ none)) c = cond (is_head l m 1) (match p t c) refused
match (l ⟨ p ⟩) (node m (t ▹ u ▹ f)) c = refused
match (l ⟨ p ∣ q ⟩) (node m none) c = refused
match (l ⟨ p ∣ q ⟩) (node m (t ▹ none)) c = refused
match (l ⟨ p ∣ q ⟩) (node m (t ▹ u ▹ none)) c = cond (is_head l m 2) (and_then (match p t c) (λ d. match q u d)) refused
match (l ⟨ p ∣ q ⟩) (node m (t ▹ u ▹ v ▹ f)) c = refused

abbrev pub holes : List Tree → ℕ → Tree
holes c k = get_or c k no_index

-- a variable that is declared unitary
unfoldable pub is_marked : Context → Tree → Bool
unfolding head_of
is_marked Γ (node l none) = eqb (head_of l 0).0 26 && get_or Γ.marks (head_of l 0).1 false
is_marked Γ (node l (t ▹ f)) = false

-- whether what the holes hold meets the condition
unfoldable pub satisfied : Context → Condition → (ℕ → Tree) → Bool
unfolding is_unused is_marked
satisfied Γ any θ = true
satisfied Γ a_ket θ = wanted a_ket (sort_of Γ (θ 0))
satisfied Γ a_bra θ = wanted a_bra (sort_of Γ (θ 0))
satisfied Γ an_operator θ = wanted an_operator (sort_of Γ (θ 0))
satisfied Γ unused θ = is_unused (θ 1)
satisfied Γ marked θ = is_marked Γ (θ 0)

unfoldable pub filled : Context → Condition → Pattern → Option (List Tree) → Option Tree
filled Γ k r refused = refused
filled Γ k r (some c) = cond (satisfied Γ k (holes c)) (some (fill Γ (holes c) r)) refused

-- ---- children: those before child i, the child, and those behind it
pub data Opened : Type 0 where
  outside : Opened
  opened : Forest → Tree → Forest → Opened

unfoldable pub behind : Tree → Opened → Opened
behind t outside = outside
behind t (opened b u a) = opened (t ▹ b) u a

unfoldable pub open_at : Forest → ℕ → Opened
open_at none i = outside
open_at (t ▹ f) zero = opened none t f
open_at (t ▹ f) (suc i) = behind t (open_at f i)

-- ---- the families, each at an opened parent
unfoldable pub spread_at : Label → Label → Label → Opened → Option Tree
spread_at l s r outside = refused
spread_at l s r (opened b (node m f) a) = cond (is_head s m (count f)) (some (node r (spread l b f a))) refused

unfoldable pub remove_at : Label → Label → Opened → Option Tree
remove_at l c outside = refused
remove_at l c (opened b (node m f) a) = cond (is_head c m (count f) && ltb 0 (count (b ⧺ a))) (some (node l (b ⧺ a))) refused

unfoldable pub absorb_at : Opened → Option Tree
absorb_at outside = refused
absorb_at (opened b (node m f) a) = cond (is_head scalar_zero m (count f)) (some (node scalar_zero none)) refused

unfoldable pub merge_at : Label → Opened → Option Tree
merge_at l outside = refused
merge_at l (opened b (node m f) a) = cond (is_head l m (count f)) (some (node l (b ⧺ f ⧺ a))) refused

unfoldable pub swap_at : Label → Opened → Option Tree
swap_at l outside = refused
swap_at l (opened b t none) = refused
swap_at l (opened b t (u ▹ a)) = some (node l (b ⧺ u ▹ t ▹ a))

-- over a sum of scalars, or else over one of arrays
unfoldable pub distribute_at : Opened → Option Tree
unfolding spread_at or_else
distribute_at o = or_else (spread_at big_sum scalar_sum scalar_sum o) (spread_at big_sum add add o)

-- a summand as its factor and its X
pub data Multiple : Type 0 where
  no_multiple : Multiple
  multiple : Tree → Tree → Multiple

unfoldable pub multiple_of : Summand → Tree → Multiple
multiple_of plain t = multiple (factor plain t) t
multiple_of scaled (node m none) = no_multiple
multiple_of scaled (node m (a ▹ none)) = no_multiple
multiple_of scaled (node m (a ▹ x ▹ none)) = cond (is_head scale m 2) (multiple a x) no_multiple
multiple_of scaled (node m (a ▹ x ▹ t ▹ f)) = no_multiple

unfoldable pub collected : Forest → Forest → Forest → Multiple → Multiple → Option Tree
collected b m a no_multiple q = refused
collected b m a (multiple c x) no_multiple = refused
collected b m a (multiple c x) (multiple d y) =
    cond (same_words (words x) (words y)) (some (node add (b ⧺ m ⧺ a ⧺ node scale (node scalar_sum (c ▹ d ▹ none) ▹ x ▹ none) ▹ none))) refused

-- child j is opened first, and then child i among those before it
unfoldable pub collect_before : Summand → Summand → Tree → Forest → Opened → Option Tree
collect_before u v t a outside = refused
collect_before u v t a (opened b s m) = collected b m a (multiple_of u s) (multiple_of v t)

unfoldable pub collect_at : Summand → Summand → ℕ → Opened → Option Tree
collect_at u v i outside = refused
collect_at u v i (opened b t a) = collect_before u v t a (open_at b i)

-- ---- every rule
unfoldable pub is_chain : Label → ℕ → Bool
is_chain m n = is_head scalar_sum m n || (is_head scalar_product m n || is_head add m n)

unfoldable pub is_loose : Label → ℕ → Bool
unfolding is_chain
is_loose m n = is_head delta m n || is_chain m n

unfoldable pub place : Which → ℕ → ℕ
place (child k) i = k
place child_i i = i

unfoldable pub usable : Which → ℕ → Bool
usable (child k) i = eqb i 0
usable child_i i = true

unfoldable pub rewrite : Context → Rule → ℕ → ℕ → Tree → Option Tree
rewrite Γ (k ⇒ l ▷ r) i j t = cond (eqb i 0 && eqb j 0) (filled Γ k r (match l t [])) refused
rewrite Γ (spreading l w s r) i j (node m f) =
    cond (eqb j 0 && (usable w i && is_head l m (count f))) (spread_at l s r (open_at f (place w i))) refused
rewrite Γ (removing l c) i j (node m f) = cond (eqb j 0 && is_head l m (count f)) (remove_at l c (open_at f i)) refused
rewrite Γ absorbing i j (node m f) = cond (eqb j 0 && is_head scalar_product m (count f)) (absorb_at (open_at f i)) refused
rewrite Γ merging i j (node m f) = cond (eqb j 0 && is_chain m (count f)) (merge_at m (open_at f i)) refused
rewrite Γ (collecting u v) i j (node m f) = cond (is_head add m (count f)) (collect_at u v i (open_at f j)) refused
rewrite Γ swapping i j (node m f) = cond (eqb j 0 && is_loose m (count f)) (swap_at m (open_at f i)) refused
rewrite Γ distributing i j (node m f) = cond (eqb j 0 && (usable (child 1) i && is_head big_sum m (count f))) (distribute_at (open_at f (place (child 1) i))) refused

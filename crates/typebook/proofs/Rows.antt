-- The rules on shapes, for every head that has children: one line for each line of the table of heads.
use mathlib.Core.Path.{◌≡◌, refl, ◌∙◌}
use mathlib.Core.Bool.{true, ◌&&◌}
use mathlib.Core.List.{List, [], ◌∷◌}
use Prim.Native.Nat.{ℕ, zero, suc, ◌/◌, ◌%◌, ◌<◌}
use native.Mathlib.Nat.{zero-add}
use native.Mathlib.Omega.{arith}
use borrow.Author.Tests.{lt-ltb}
use lib.Dec.{eqb-suc-zero}
use lib.ListN.{length, get_or}
use Rattle.term.specs.declared.heads.Class.TheVariants.{Index, Basis}
use Rattle.words.specs.Words.{same_words}
use Rattle.term.specs.Heads.{Label, Head, unknown, named, fixed, counted, heads, unread, labelled, reading, read, result_of, child_of, index_product, pair, scalar_zero, scalar_one, conjugate}
use Rattle.term.specs.Heads.{delta, dot, zero_ket, zero_bra, zero_operator, identity, basis_ket, basis_bra, adjoint, scale, tensor, mulk, mulb, outer, mulo, big_sum}
use Rattle.term.specs.Terms.{max_bodies}
use Rattle.term.proofs.Readings.{Every, every_at, ◌⨾◌}
use Rattle.typebook.specs.Code.Shapes.{shape_of}
use Rattle.typebook.specs.Code.Lines.{concluded, rules, rule_at, all_alike, met, is_sum, class_by, pair_of, side_of, short_both, shaped, by_line, children_of}
use Rattle.types.specs.Sorts.{Sort, index, basis, Context}
use Rattle.types.specs.Inside.{binds}
use Rattle.types.specs.TypeOf.{conclude}
use Rattle.typebook.proofs.OnShapes.{shapes, ruled, ruled_is, on_index, on_basis, on_ket, on_bra, on_operator, on_scalar, on_same, on_array, on_body, left-product, one-adjoint}
use Rattle.typebook.proofs.OnShapes.{two_tensor, scalars_law, sum_law}

abbrev pub last_of : Sort → List Sort → Sort
last_of s [] = s
last_of s (t ∷ ts) = last_of t ts

-- a sum over a basis has room for one more body
abbrev pub Roomy : Context → Label → Type 0
Roomy Γ l = binds l ≡ true → length Γ.bound < max_bodies

abbrev Law : ℕ → Label → Sort → List Sort → Type 0
Law k l s ss = (Γ : Context) → Roomy Γ l → concluded (conclude Γ l (s ∷ ss)) ≡ ruled k (suc (length ss)) (shape_of s) (shape_of (last_of s ss)) (is_sum k && all_alike (shape_of s) (shapes ss))

abbrev RowLaw : ℕ → Head → Type 0
RowLaw k unknown = Unit {0}
RowLaw k (named l c) = Unit {0}
RowLaw k (fixed l c cs) = (s : Sort) (ss : List Sort) → length cs ≡ suc (length ss) → Law k l s ss
RowLaw k (counted l c c') = (s : Sort) (ss : List Sort) → Law k l s ss

-- a head of one child, one of two, and one of none
alone : (k : ℕ) (l : Label) → ((s : Sort) → Law k l s []) → (s : Sort) (ss : List Sort) → 1 ≡ suc (length ss) → Law k l s ss
alone k l r s [] e = r s
alone k l r s (t ∷ ts) e = absurd (omega arith)

paired : (k : ℕ) (l : Label) → ((s t : Sort) → Law k l s (t ∷ [])) → (s : Sort) (ss : List Sort) → 2 ≡ suc (length ss) → Law k l s ss
paired k l r s [] e = absurd (omega arith)
paired k l r s (t ∷ []) e = r s t
paired k l r s (t ∷ u ∷ ts) e = absurd (omega arith)

childless : (k : ℕ) (l : Label) (s : Sort) (ss : List Sort) → 0 ≡ suc (length ss) → Law k l s ss
childless k l s ss e = absurd (omega arith)

rows : Every RowLaw 0 heads
unfolding heads binds rule_at rules conclude child_of result_of by_line met class_by side_of pair_of shaped short_both same_words
rows =
    tt
    ⨾ tt
    ⨾ paired 2 index_product (λ s t Γ n. on_index concluded s λ σ e. on_index concluded t λ τ k. rw (e, k) (left-product Index index (λ ρ. refl) σ τ))
    ⨾ tt
    ⨾ paired 4 pair (λ s t Γ n. on_basis concluded s λ σ e. on_basis concluded t λ τ k. rw (e, k) (left-product Basis basis (λ ρ. refl) σ τ))
    ⨾ childless 5 scalar_zero
    ⨾ childless 6 scalar_one
    ⨾ (λ s ss Γ n. scalars_law s ss)
    ⨾ (λ s ss Γ n. scalars_law s ss)
    ⨾ alone 9 conjugate (λ s Γ n. on_scalar concluded s λ e. refl)
    ⨾ paired 10 delta (λ s t Γ n. on_basis concluded s λ σ e. on_basis concluded t λ τ k. rw (e, k) (on_same σ τ _))
    ⨾ paired 11 dot (λ s t Γ n. on_bra concluded s λ σ e. on_ket concluded t λ τ k. rw (e, k) (on_same σ τ _))
    ⨾ alone 12 zero_ket (λ s Γ n. on_index concluded s λ σ e. rw e)
    ⨾ alone 13 zero_bra (λ s Γ n. on_index concluded s λ σ e. rw e)
    ⨾ paired 14 zero_operator (λ s t Γ n. on_index concluded s λ σ e. on_index concluded t λ τ k. rw (e, k))
    ⨾ alone 15 identity (λ s Γ n. on_index concluded s λ σ e. rw e)
    ⨾ alone 16 basis_ket (λ s Γ n. on_basis concluded s λ σ e. rw e)
    ⨾ alone 17 basis_bra (λ s Γ n. on_basis concluded s λ σ e. rw e)
    ⨾ alone 18 adjoint (λ s Γ n. one-adjoint s Γ)
    ⨾ paired 19 scale (λ s t Γ n. on_scalar concluded s λ e. on_array t)
    ⨾ (λ s ss Γ n. sum_law s ss)
    ⨾ paired 21 tensor (λ s t Γ n. two_tensor s t Γ)
    ⨾ paired 22 mulk (λ s t Γ n. on_operator concluded s λ σ τ e. on_ket concluded t λ υ k. rw (e, k) (on_same τ υ _))
    ⨾ paired 23 mulb (λ s t Γ n. on_bra concluded s λ υ e. on_operator concluded t λ σ τ k. rw (e, k) (on_same υ σ _))
    ⨾ paired 24 outer (λ s t Γ n. on_ket concluded s λ σ e. on_bra concluded t λ τ k. rw (e, k))
    ⨾ paired 25 mulo (λ s t Γ n. on_operator concluded s λ σ τ e. on_operator concluded t λ υ ρ k. rw (e, k) (on_same τ υ _))
    ⨾ tt
    ⨾ paired 27 big_sum (λ s t Γ n. rw (lt-ltb _ _ (n refl)) (on_index concluded s λ σ e. on_body t))
    ⨾ tt
    ⨾ tt

row_law : (k : ℕ) (h : Head) → RowLaw k h → (a : ℕ) (l : Label) (s : Sort) (ss : List Sort) → reading h a ≡ labelled l (suc (length ss)) → Law k l s ss
unfolding reading
row_law k unknown x a l s ss e Γ n = cc
row_law k (named f c) x a l s ss e Γ n = cc
row_law k (fixed m c cs) x zero l s ss e Γ n = let y : length cs ≡ suc (length ss) = cc in let z : m ≡ l = cc in cc (x s ss y Γ (rw z n))
row_law k (fixed m c cs) x (suc a) l s ss e Γ n = let e' : unread ≡ labelled l (suc (length ss)) = rw eqb-suc-zero at e in cc
row_law k (counted m c c') x zero l s ss e Γ n = cc
row_law k (counted m c c') x (suc a) l s ss e Γ n = let e' : labelled m (suc a) ≡ labelled l (suc (length ss)) = rw eqb-suc-zero at e in let z : m ≡ l = cc in cc (x s ss Γ (rw z n))

-- what a word's head concludes of its children
pub children_law : (w : ℕ) (l : Label) (s : Sort) (ss : List Sort) → read w ≡ labelled l (suc (length ss))
    → (Γ : Context) → Roomy Γ l → concluded (conclude Γ l (s ∷ ss)) ≡ children_of (w / 256) (suc (length ss)) (shape_of s) (shape_of (last_of s ss)) (is_sum (w / 256) && all_alike (shape_of s) (shapes ss))
unfolding read
children_law w l s ss e Γ n = row_law (w / 256) (get_or heads (w / 256) unknown) (rw zero-add at (every_at RowLaw (λ k. tt) heads 0 rows (w / 256))) (w % 256) l s ss e Γ n ∙ ruled_is (w / 256) _ _ _ _

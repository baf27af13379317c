-- The rules on shapes are the rules on sorts.
use mathlib.Core.Path.{◌≡◌, refl, ◌∙◌, ap}
use mathlib.Core.Bool.{Bool, true, false, cond, ◌&&◌, and-true}
use mathlib.Core.List.{List, [], ◌∷◌, append-nil}
use mathlib.Core.Option.{Option, some, none}
use Prim.Native.Nat.{ℕ}
use lib.Dec.{eqb, leb}
use lib.ListN.{length}
use Rattle.words.specs.Words.{same_words}
use Rattle.term.specs.declared.heads.Class.{Class}
use Rattle.term.specs.declared.heads.Class.TheVariants.{Index, Basis, Scalar, Ket, Bra, Operator, Array, Term}
use Rattle.term.specs.Heads.{adjoint, tensor, word, child_of}
use Rattle.term.specs.Trees.{Tree, node, count, words}
use Rattle.typebook.specs.Code.Shapes.{Shape, shape, shape_of, number_of, fitting, given}
use Rattle.typebook.specs.Code.Lines.{concluded, rules, rule_at, alike_to, all_alike, met, second_fits, fitted, class_by, pair_of, side_of, short_both, shaped, by_line, children_of}
use Rattle.types.specs.Sorts.{Sort, index, basis, scalar, ket, bra, operator, IsType, Context, ◌⊠◌}
use Rattle.types.specs.TypeOf.{Conclusion, fails, gives, same, short, to_index, to_basis, to_scalar, to_ket, to_bra, to_operator, array_of, body_of, agree, and_then, agree_all, scalars_of, sum_of, conclude}

-- ---- each test on a sort is a test of its shape's class
module _ {A : Type 0} where
  -- o for the class that is wanted, and z for any other
  abbrev wanted : Class → A → A → Class → A
  wanted C o z c = cond (fitting c C) o z

  -- what is the same for each class of a sort is the same for a sort
  abbrev each : (Class → A) → List A
  each f = f Index ∷ f Basis ∷ f Scalar ∷ f Ket ∷ f Bra ∷ f Operator ∷ []

  by_class : (f g : Class → A) → each f ≡ each g → (s : Sort) → f (shape_of s).class ≡ g (shape_of s).class
  by_class f g e (index σ) = cc
  by_class f g e (basis σ) = cc
  by_class f g e scalar = cc
  by_class f g e (ket σ) = cc
  by_class f g e (bra σ) = cc
  by_class f g e (operator σ τ) = cc

-- what comes of s is o where its class is the one wanted, which makes it the sort of a tree, and else what comes of a failure
module _ {A : Type 0} (h : Conclusion → A) where
  abbrev Met : Class → Sort → Conclusion → A → Type 0
  Met C s c o = h c ≡ wanted C o (h fails) (shape_of s).class

  module _ {f : Tree → Conclusion} {o : A} where
    pub on_index : (s : Sort) → ((σ : Tree) → s ≡ index σ → h (f σ) ≡ o) → Met Index s (to_index s f) o
    on_index (index σ) k = k σ refl
    on_index (basis σ) k = refl
    on_index scalar k = refl
    on_index (ket σ) k = refl
    on_index (bra σ) k = refl
    on_index (operator σ τ) k = refl

    pub on_basis : (s : Sort) → ((σ : Tree) → s ≡ basis σ → h (f σ) ≡ o) → Met Basis s (to_basis s f) o
    on_basis (index σ) k = refl
    on_basis (basis σ) k = k σ refl
    on_basis scalar k = refl
    on_basis (ket σ) k = refl
    on_basis (bra σ) k = refl
    on_basis (operator σ τ) k = refl

    pub on_ket : (s : Sort) → ((σ : Tree) → s ≡ ket σ → h (f σ) ≡ o) → Met Ket s (to_ket s f) o
    on_ket (index σ) k = refl
    on_ket (basis σ) k = refl
    on_ket scalar k = refl
    on_ket (ket σ) k = k σ refl
    on_ket (bra σ) k = refl
    on_ket (operator σ τ) k = refl

    pub on_bra : (s : Sort) → ((σ : Tree) → s ≡ bra σ → h (f σ) ≡ o) → Met Bra s (to_bra s f) o
    on_bra (index σ) k = refl
    on_bra (basis σ) k = refl
    on_bra scalar k = refl
    on_bra (ket σ) k = refl
    on_bra (bra σ) k = k σ refl
    on_bra (operator σ τ) k = refl

  pub on_operator : {f : Tree → Tree → Conclusion} {o : A} (s : Sort) → ((σ τ : Tree) → s ≡ operator σ τ → h (f σ τ) ≡ o) → Met Operator s (to_operator s f) o
  on_operator (index σ) k = refl
  on_operator (basis σ) k = refl
  on_operator scalar k = refl
  on_operator (ket σ) k = refl
  on_operator (bra σ) k = refl
  on_operator (operator σ τ) k = k σ τ refl

  pub on_scalar : {c : Conclusion} {o : A} (s : Sort) → (s ≡ scalar → h c ≡ o) → Met Scalar s (to_scalar s c) o
  on_scalar (index σ) k = refl
  on_scalar (basis σ) k = refl
  on_scalar scalar k = k refl
  on_scalar (ket σ) k = refl
  on_scalar (bra σ) k = refl
  on_scalar (operator σ τ) k = refl

pub on_cond : (b : Bool) (c : Conclusion) → concluded (cond b c fails) ≡ given b (concluded c)
on_cond true c = refl
on_cond false c = refl

-- two tests, one after the other
both : (p q : Bool) (o : Option Shape) → given p (given q o) ≡ given (p && q) o
both true q o = refl
both false q o = refl

pub on_same : (σ τ : Tree) (c : Conclusion) → concluded (same σ τ c) ≡ given (same_words (words σ) (words τ)) (concluded c)
unfolding same
on_same σ τ c = on_cond (same_words (words σ) (words τ)) c

on_short : (σ : Tree) (c : Conclusion) → concluded (short σ c) ≡ given (leb (length (words σ)) 63) (concluded c)
unfolding short
on_short σ c = on_cond (leb (length (words σ)) 63) c

pub on_array : (s : Sort) → concluded (array_of s) ≡ given (fitting (shape_of s).class Array) (some (shape_of s))
unfolding array_of
on_array (index σ) = refl
on_array (basis σ) = refl
on_array scalar = refl
on_array (ket σ) = refl
on_array (bra σ) = refl
on_array (operator σ τ) = refl

pub on_body : (s : Sort) → concluded (body_of s) ≡ given (fitting (shape_of s).class Term) (some (shape_of s))
unfolding body_of
on_body (index σ) = refl
on_body (basis σ) = refl
on_body scalar = refl
on_body (ket σ) = refl
on_body (bra σ) = refl
on_body (operator σ τ) = refl

-- a head's rule with the tests of the classes one after the other
abbrev pub ruled : ℕ → ℕ → Shape → Shape → Bool → Option Shape
ruled h n a b alike = given (fitting a.class (child_of h 0)) (given (second_fits h n b.class) (by_line (rule_at h) h a b alike))

pub ruled_is : (h n : ℕ) (a b : Shape) (alike : Bool) → ruled h n a b alike ≡ children_of h n a b alike
unfolding children_of fitted
ruled_is h n a b alike = both (fitting a.class (child_of h 0)) (second_fits h n b.class) (by_line (rule_at h) h a b alike)

-- ---- products of indices: one that is there is multiplied
pair-words : (σ τ : Tree) → pair_of (words σ) (words τ) ≡ words (σ ⊠ τ)
unfolding words word count pair_of
pair-words (node l cs) τ = rw append-nil

-- on the left, on the right and on both sides
module _ (C : Class) where
  pub left-product : (F : Tree → Sort) → ((ρ : Tree) → shape_of (F ρ) ≡ shape C (words ρ) []) → (σ τ : Tree)
      → concluded (short (σ ⊠ τ) (gives (F (σ ⊠ τ)))) ≡ shaped C true (pair_of (words σ) (words τ)) []
  unfolding shaped short_both
  left-product F f σ τ = rw (pair-words σ τ, and-true (leb (length (words (σ ⊠ τ))) 63), ← f (σ ⊠ τ)) (on_short (σ ⊠ τ) _)

  right-product : (F : Tree → Sort) → ((ρ : Tree) → shape_of (F ρ) ≡ shape C [] (words ρ)) → (σ τ : Tree) → concluded (short (σ ⊠ τ) (gives (F (σ ⊠ τ)))) ≡ shaped C true [] (pair_of (words σ) (words τ))
  unfolding shaped short_both
  right-product F f σ τ = rw (pair-words σ τ, ← f (σ ⊠ τ)) (on_short (σ ⊠ τ) _)

both_products : (σ τ υ φ : Tree) → concluded (short (σ ⊠ τ) (short (υ ⊠ φ) (gives (operator (σ ⊠ τ) (υ ⊠ φ))))) ≡ shaped Operator true (pair_of (words σ) (words τ)) (pair_of (words υ) (words φ))
unfolding shaped short_both
both_products σ τ υ φ =
    rw (pair-words σ τ, pair-words υ φ)
    (on_short (σ ⊠ τ) _ ∙ ap (given (leb (length (words (σ ⊠ τ))) 63)) (on_short (υ ⊠ φ) _) ∙ both (leb (length (words (σ ⊠ τ))) 63) (leb (length (words (υ ⊠ φ))) 63) _)

-- ---- the tensor
-- what a tensor asks of a class: that it is an array's, and the first child's
abbrev tensored : Class → Option Shape → Class → Option Shape
tensored C o c = wanted Array (given (eqb (number_of C) (number_of c)) o) none c

pub two_tensor : (s t : Sort) (Γ : Context) → concluded (conclude Γ tensor (s ∷ t ∷ [])) ≡ ruled 21 2 (shape_of s) (shape_of t) false
unfolding conclude by_line rule_at rules child_of met class_by side_of pair_of
two_tensor (index σ) t Γ = refl
two_tensor (basis σ) t Γ = refl
two_tensor scalar t Γ = refl
two_tensor (ket σ) t Γ = on_ket concluded t (λ τ k. rw k (left-product Ket ket (λ ρ. refl) σ τ)) ∙ by_class (wanted Ket _ none) (tensored Ket _) refl t
two_tensor (bra σ) t Γ = on_bra concluded t (λ τ k. rw k (right-product Bra bra (λ ρ. refl) σ τ)) ∙ by_class (wanted Bra _ none) (tensored Bra _) refl t
two_tensor (operator σ υ) t Γ = on_operator concluded t (λ τ φ k. rw k (both_products σ τ υ φ)) ∙ by_class (wanted Operator _ none) (tensored Operator _) refl t

-- ---- the adjoint
pub one-adjoint : (s : Sort) (Γ : Context) → concluded (conclude Γ adjoint (s ∷ [])) ≡ ruled 18 1 (shape_of s) (shape_of s) false
unfolding conclude by_line rule_at rules child_of met class_by side_of shaped short_both
one-adjoint (index σ) Γ = refl
one-adjoint (basis σ) Γ = refl
one-adjoint scalar Γ = refl
one-adjoint (ket σ) Γ = refl
one-adjoint (bra σ) Γ = refl
one-adjoint (operator σ τ) Γ = refl

-- ---- sums: the first child's class, and whether the others are like it
-- what a sum asks of a class: that it is the first child's
abbrev summed : Sort → Bool → Class → Conclusion
summed s b c = cond (eqb (number_of (shape_of s).class) (number_of c) && b) (gives s) fails

on_and : (x y : Bool) (s : Sort) → cond x (cond y (gives s) fails) fails ≡ cond (x && y) (gives s) fails
on_and true y s = refl
on_and false y s = refl

agree-is : (s t : Sort) → IsType s → agree s t ≡ cond (alike_to (shape_of s) (shape_of t)) (gives s) fails
unfolding agree alike_to
agree-is (index σ) t y = absurd y
agree-is (basis σ) t y = absurd y
agree-is scalar t y = on_scalar (λ c. c) t (λ k. rw k) ∙ by_class (wanted Scalar _ fails) (summed scalar _) refl t
agree-is (ket σ) t y = on_ket (λ c. c) t (λ τ k. rw (k, and-true (same_words (words σ) (words τ)))) ∙ by_class (wanted Ket _ fails) (summed (ket σ) _) refl t
agree-is (bra σ) t y = on_bra (λ c. c) t (λ τ k. rw k) ∙ by_class (wanted Bra _ fails) (summed (bra σ) _) refl t
agree-is (operator σ υ) t y =
    on_operator (λ c. c) t (λ τ φ k. rw k (on_and (same_words (words σ) (words τ)) (same_words (words υ) (words φ)) (operator σ υ)))
    ∙ by_class (wanted Operator _ fails) (summed (operator σ υ) _) refl t

-- the shapes of a list of sorts
abbrev pub shapes : List Sort → List Shape
shapes [] = []
shapes (s ∷ ss) = shape_of s ∷ shapes ss

agree-all : (s : Sort) (ts : List Sort) → IsType s → agree_all s ts ≡ cond (all_alike (shape_of s) (shapes ts)) (gives s) fails
unfolding agree_all all_alike
agree-all s [] y = refl
agree-all s (t ∷ ts) y = rw (agree-is s t y) (go (alike_to (shape_of s) (shape_of t)) (agree-all s ts y))
  where
    go : (b : Bool) → agree_all s ts ≡ cond (all_alike (shape_of s) (shapes ts)) (gives s) fails
        → and_then (cond b (gives s) fails) (λ u. agree_all u ts) ≡ cond (b && all_alike (shape_of s) (shapes ts)) (gives s) fails
    go true e = e
    go false e = refl

on_all : (s : Sort) (ts : List Sort) → IsType s → concluded (agree_all s ts) ≡ given (all_alike (shape_of s) (shapes ts)) (some (shape_of s))
on_all s ts y = rw (agree-all s ts y) (on_cond (all_alike (shape_of s) (shapes ts)) (gives s))

-- 7 and 8 sum scalars, 20 arrays
-- however many there are, and whatever the latest is
pub scalars_law : (s : Sort) (ts : List Sort) → concluded (scalars_of (s ∷ ts)) ≡ ruled 7 0 (shape_of s) (shape_of s) (all_alike (shape_of s) (shapes ts))
unfolding scalars_of by_line rule_at rules child_of met class_by side_of shaped short_both
scalars_law s ts = on_scalar concluded s λ e. rw e (on_all scalar ts tt)

pub sum_law : (s : Sort) (ts : List Sort) → concluded (sum_of (s ∷ ts)) ≡ ruled 20 0 (shape_of s) (shape_of s) (all_alike (shape_of s) (shapes ts))
unfolding sum_of by_line rule_at rules child_of met class_by side_of shaped short_both
sum_law (index σ) ts = refl
sum_law (basis σ) ts = refl
sum_law scalar ts = refl
sum_law (ket σ) ts = on_all (ket σ) ts tt
sum_law (bra σ) ts = on_all (bra σ) ts tt
sum_law (operator σ τ) ts = on_all (operator σ τ) ts tt

-- What the children of a chain come to, wherever they stand.
use mathlib.Core.Path.{◌≡◌, refl}
use mathlib.Core.List.{List}
use Prim.Native.Nat.{ℕ, ◌<◌}
use native.Mathlib.Omega.{arith}
use Rattle.algebra.specs.Semirings.{Arithmetic, StarSemiring}
use Rattle.algebra.specs.Matrices.{Matrix, ◌≈◌, HasShape, number, scalar as scalar-matrix, add as add-matrix}
use Rattle.algebra.proofs.Alike.{≈-refl, ≈-sym, ≈-trans, ≡→≈, number-≈}
use Rattle.term.specs.Heads.{Label, scalar_sum, add}
use Rattle.term.specs.Trees.{Tree, Forest, node, none, ◌▹◌, ◌⧺◌, count}
use Rattle.term.proofs.Parsing.{⧺-none, ⧺-assoc}
use Rattle.types.specs.Sorts.{Sort, scalar, ket, bra, operator, Context}
use Rattle.types.specs.Rules.{◌⊢◌∶◌, ◌⊢*◌∶◌, every_none, every_more, WellFormed}
use Rattle.meaning.specs.Choices.{Choice, Meaning}
use Rattle.meaning.specs.Meaning.{plus, times, meanings, names}
use Rattle.meaning.specs.Sorted.{Fits}
use Rattle.meaning.proofs.Shapes.{plus-shape, shape}
use Rattle.rules.proofs.Forests.{Sum, scalars, arrays, Of, of_sum, of_product, of_kets, of_bras, of_operators, every-⧺}
use Rattle.rules.proofs.Gatherings.{Gathering, sums, products, exchange, unit_op}
use Rattle.rules.proofs.Lines.{value}

module _ {R : Type 0} {𝓐 : Arithmetic R} (𝓡 : StarSemiring 𝓐) {Γ : Context} {χ : Choice R} (W : WellFormed Γ) (F : Fits 𝓐 Γ χ) where
  module _ (S : Sort) {m n : ℕ} (G : Gathering R m n) (shaped : (t : Tree) → Γ ⊢ t ∶ S → HasShape (value Γ 𝓡 χ t) m n) where
    unfoldable pub gather : Forest → Matrix R
    gather none = G.unit
    gather (t ▹ f) = G.op (value Γ 𝓡 χ t) (gather f)

    pub gather_shape : {f : Forest} → Γ ⊢* f ∶ S → HasShape (gather f) m n
    unfolding gather
    gather_shape every_none = G.unit_shape
    gather_shape (every_more d xs) = G.op_shape _ _ (shaped _ d) (gather_shape xs)

    -- a row and a row behind it
    pub gather-⧺ : {f g : Forest} → Γ ⊢* f ∶ S → Γ ⊢* g ∶ S → gather (f ⧺ g) ≈ G.op (gather f) (gather g)
    unfolding gather ◌⧺◌
    gather-⧺ every_none ys = ≈-sym (unit_op G _ (gather_shape ys))
    gather-⧺ (every_more d xs) ys =
        ≈-trans (G.op-≈ _ _ _ _ (shaped _ d) (gather_shape (every-⧺ xs ys)) (≈-refl _) (gather-⧺ xs ys)) (≈-sym (G.assoc _ _ _))

    -- a child comes to the front
    pub gather_out : {b a : Forest} {t : Tree} → Γ ⊢* b ∶ S → Γ ⊢ t ∶ S → Γ ⊢* a ∶ S → gather (b ⧺ t ▹ a) ≈ G.op (value Γ 𝓡 χ t) (gather (b ⧺ a))
    unfolding gather ◌⧺◌
    gather_out every_none d ys = ≈-refl _
    gather_out (every_more c xs) d ys =
        ≈-trans (G.op-≈ _ _ _ _ (shaped _ c) (gather_shape (every-⧺ xs (every_more d ys))) (≈-refl _) (gather_out xs d ys))
        (exchange G _ _ _ (shaped _ c) (shaped _ d) (gather_shape (every-⧺ xs ys)))

    -- either operand gives way to one that is alike
    front-≈ : {A B : Matrix R} {f : Forest} → HasShape A m n → Γ ⊢* f ∶ S → A ≈ B → G.op A (gather f) ≈ G.op B (gather f)
    front-≈ a xs p = G.op-≈ _ _ _ _ a (gather_shape xs) p (≈-refl _)

    back-≈ : {A B C : Matrix R} → HasShape A m n → HasShape B m n → B ≈ C → G.op A B ≈ G.op A C
    back-≈ a b p = G.op-≈ _ _ _ _ a b (≈-refl _) p

    pub gather_swap : {b a : Forest} {t u : Tree} → Γ ⊢* b ∶ S → Γ ⊢ t ∶ S → Γ ⊢ u ∶ S → Γ ⊢* a ∶ S → gather (b ⧺ t ▹ u ▹ a) ≈ gather (b ⧺ u ▹ t ▹ a)
    gather_swap bs t u xs =
        let rest = every-⧺ bs xs in
        ≈-trans (gather_out bs t (every_more u xs))
        (≈-trans (back-≈ (shaped _ t) (gather_shape (every-⧺ bs (every_more u xs))) (gather_out bs u xs))
        (≈-trans (exchange G _ _ _ (shaped _ t) (shaped _ u) (gather_shape rest))
        (≈-trans (≈-sym (back-≈ (shaped _ u) (gather_shape (every-⧺ bs (every_more t xs))) (gather_out bs t xs))) (≈-sym (gather_out bs u (every_more t xs))))))

    -- a child gives way to a row that comes to the same
    pub gather_merge : {b f a : Forest} {t : Tree} → Γ ⊢* b ∶ S → Γ ⊢ t ∶ S → Γ ⊢* f ∶ S → Γ ⊢* a ∶ S → value Γ 𝓡 χ t ≈ gather f
        → gather (b ⧺ t ▹ a) ≈ gather (b ⧺ f ⧺ a)
    gather_merge bs t fs xs p =
        let B = gather_shape bs in
        let P = gather_shape fs in
        let A = gather_shape xs in
        ≈-trans (gather_out bs t xs)
        (≈-trans (front-≈ (shaped _ t) (every-⧺ bs xs) p)
        (≈-trans (back-≈ P (gather_shape (every-⧺ bs xs)) (gather-⧺ bs xs))
        (≈-trans (exchange G _ _ _ P B A)
        (≈-trans (≈-sym (back-≈ B (gather_shape (every-⧺ fs xs)) (gather-⧺ fs xs))) (≈-sym (gather-⧺ bs (every-⧺ fs xs)))))))

    -- two children give way to one behind all others
    pub gather_collect : {b c a : Forest} {t u v : Tree} → Γ ⊢* b ∶ S → Γ ⊢ t ∶ S → Γ ⊢* c ∶ S → Γ ⊢ u ∶ S → Γ ⊢* a ∶ S → Γ ⊢ v ∶ S
        → G.op (value Γ 𝓡 χ t) (value Γ 𝓡 χ u) ≈ value Γ 𝓡 χ v → gather (b ⧺ t ▹ c ⧺ u ▹ a) ≈ gather (b ⧺ c ⧺ a ⧺ v ▹ none)
    unfolding ◌⧺◌
    gather_collect {b} {c} {a} {t} {u} {v} bs t' cs u' xs v' p =
        let rest = every-⧺ bs (every-⧺ cs xs) in
        let second = rw (⧺-assoc b c (u ▹ a), ⧺-assoc b c a) at (gather_out (every-⧺ bs cs) u' xs) in
        let last = rw (⧺-assoc b (c ⧺ a) (v ▹ none), ⧺-assoc c a (v ▹ none), ⧺-none (b ⧺ c ⧺ a)) at (gather_out rest v' every_none) in
        let behind = every-⧺ cs (every_more u' xs) in
        ≈-trans (gather_out bs t' behind)
        (≈-trans (back-≈ (shaped _ t') (gather_shape (every-⧺ bs behind)) second)
        (≈-trans (≈-sym (G.assoc _ _ _))
        (≈-trans (front-≈ (G.op_shape _ _ (shaped _ t') (shaped _ u')) rest p) (≈-sym last))))

  -- ---- the chains
  -- what a chain of a sort comes to
  pub record Whole (l : Label) (S : Sort) : Type 0 where
    pub m : ℕ
    pub n : ℕ
    pub G : Gathering R m n
    pub shaped : (t : Tree) → Γ ⊢ t ∶ S → HasShape (value Γ 𝓡 χ t) m n
    pub whole : (f : Forest) → 0 < count f → Γ ⊢* f ∶ S → value Γ 𝓡 χ (node l f) ≈ gather S G shaped f

  abbrev all : Forest → List (Meaning R)
  all f = meanings 𝓐 (names 𝓐 Γ χ) f

  module _ (S : Sort) {m n : ℕ} (shaped : (t : Tree) → Γ ⊢ t ∶ S → HasShape (value Γ 𝓡 χ t) m n) where
    pub sum-whole : {f : Forest} (A : Matrix R) → HasShape A m n → Γ ⊢* f ∶ S → plus 𝓐 A (all f) ≈ (sums 𝓡 m n).op A (gather S (sums 𝓡 m n) shaped f)
    unfolding gather sums value
    sum-whole A a every_none = ≈-sym ((sums 𝓡 m n).op_unit A a)
    sum-whole {f = t ▹ f} A a (every_more d xs) =
        (sums 𝓡 m n).op-≈ _ _ _ _ a (plus-shape 𝓐 (all f) (shaped t d)) (≈-refl A) (sum-whole (value Γ 𝓡 χ t) (shaped t d) xs)

    -- the head is that of a sum: what it stands for is the total
    unfoldable pub sum-chain : (l : Label) → ((t : Tree) (f : Forest) → value Γ 𝓡 χ (node l (t ▹ f)) ≡ plus 𝓐 (value Γ 𝓡 χ t) (all f)) → Whole l S
    unfolding gather sums count
    sum-chain l total = record { m = m; n = n; G = sums 𝓡 m n; shaped = shaped; whole = sum_of }
      where
        sum_of : (f : Forest) → 0 < count f → Γ ⊢* f ∶ S → value Γ 𝓡 χ (node l f) ≈ gather S (sums 𝓡 m n) shaped f
        sum_of none h xs = absurd (omega arith)
        sum_of (t ▹ f) h (every_more d xs) = rw (total t f) (sum-whole (value Γ 𝓡 χ t) (shaped t d) xs)

  pub scalar-shape : (t : Tree) → Γ ⊢ t ∶ scalar → HasShape (value Γ 𝓡 χ t) 1 1
  unfolding value
  scalar-shape t d = shape 𝓐 W F d

  pub times-whole : {f : Forest} → Γ ⊢* f ∶ scalar → scalar-matrix 𝓐 (times 𝓐 (all f)) ≈ gather scalar (products 𝓡) scalar-shape f
  unfolding gather products value scalar-matrix number
  times-whole every_none = ≈-refl _
  times-whole (every_more d xs) = ≡→≈ (cc (number-≈ (times-whole xs) refl refl))

  unfoldable pub whole_of : {l : Label} {S : Sort} → Of l S → Whole l S
  unfolding value
  whole_of of_sum = sum-chain scalar scalar-shape scalar_sum (λ t f. refl)
  whole_of of_product = record { m = 1; n = 1; G = products 𝓡; shaped = scalar-shape; whole = λ f h xs. times-whole xs }
  whole_of of_kets = sum-chain (ket _) (λ t d. shape 𝓐 W F d) add (λ t f. refl)
  whole_of of_bras = sum-chain (bra _) (λ t d. shape 𝓐 W F d) add (λ t f. refl)
  whole_of of_operators = sum-chain (operator _ _) (λ t d. shape 𝓐 W F d) add (λ t f. refl)

  -- the operation of a sum adds
  pub op_add : {l : Label} {S : Sort} → Sum l → (o : Of l S) → (whole_of o).G.op ≡ add-matrix 𝓐
  unfolding whole_of sum-chain sums
  op_add scalars of_sum = refl
  op_add arrays of_kets = refl
  op_add arrays of_bras = refl
  op_add arrays of_operators = refl

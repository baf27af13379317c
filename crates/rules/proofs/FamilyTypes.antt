-- The rules that are no equations keep the sort of a typed part.
use mathlib.Core.Path.{◌≡◌, refl, ap}
use mathlib.Core.Bool.{false}
use mathlib.Core.List.{List}
use Prim.Native.Nat.{suc, ◌<◌}
use native.Mathlib.Omega.{arith}
use Rattle.term.specs.Heads.{Label, scalar_zero, scalar_sum, scalar_product, delta, scale, add, big_sum}
use Rattle.term.specs.Trees.{Tree, Forest, node, none, ◌▹◌, ◌⧺◌, count}
use Rattle.term.proofs.Parsing.{count-⧺}
use Rattle.types.specs.Sorts.{Sort, scalar, Context}
use Rattle.types.specs.Rules.{◌⊢◌∶◌, ◌⊢*◌∶◌, every_none, every_more, sca_0, sca_1, sca_add, sca_delta, ket_scr, bra_scr, opt_scr, sum_over, WellFormed}
use Rattle.types.specs.Inside.{binds}
use Rattle.types.proofs.Indices.{later_same}
use Rattle.types.proofs.Sound.{Each, each_more, node_of}
use Rattle.rules.specs.Table.{Summand, plain, scaled}
use Rattle.rules.specs.Instances.{ACSymbol, scalar_sums, sums, scalar_products, Loose, loose_chain, loose_delta, Sum, of_scalars, of_arrays, spread, summand, factor}
use Rattle.rules.proofs.Forests.{Of, of_product, of_kets, of_bras, of_operators, every-⧺, around, chained, links}

pub some_of : (f g : Forest) → 0 < count f → 0 < count (f ⧺ g)
some_of f g h = rw (count-⧺ f g) (omega arith)

pub some-behind : (f g : Forest) → 0 < count g → 0 < count (f ⧺ g)
some-behind f g h = rw (count-⧺ f g) (omega arith)

-- a delta has two children, of one sort
two : {Γ : Context} {S : Sort} {f : Forest} → Γ ⊢ node delta f ∶ S → count f ≡ 2
unfolding count
two (sca_delta x y) = refl

pub one-pair : {Γ : Context} {S : Sort} (b : Forest) (t u : Tree) (a : Forest) → Γ ⊢ node delta (b ⧺ t ▹ u ▹ a) ∶ S → (b ≡ none) × (a ≡ none)
unfolding count ◌⧺◌
one-pair none t u none d = (refl, refl)
one-pair none t u (v ▹ a) d = absurd (omega (arith, two d))
one-pair (s ▹ b) t u a d = absurd (omega (arith, two d, count-⧺ b (t ▹ u ▹ a)))

delta_keeps : {Γ : Context} {S : Sort} (t u : Tree) → Γ ⊢ node delta (t ▹ u ▹ none) ∶ S → Γ ⊢ node delta (u ▹ t ▹ none) ∶ S
delta_keeps t u (sca_delta x y) = sca_delta y x

module _ {Γ : Context} {S : Sort} where
  pub merge_keeps : {l : Label} (b f a : Forest) → ACSymbol l → Γ ⊢ node l (b ⧺ node l f ▹ a) ∶ S → Γ ⊢ node l (b ⧺ f ⧺ a) ∶ S
  merge_keeps {l} b f a c d =
      let k = links c d in
      let r = around b (node l f) a k.every in
      let m = links c r.here in
      chained k.of (some-behind b (f ⧺ a) (some_of f a m.some)) (every-⧺ r.front (every-⧺ m.every r.back))

  pub remove_keeps : {l : Label} (b : Forest) (t : Tree) (a : Forest) → ACSymbol l → 0 < count (b ⧺ a) → Γ ⊢ node l (b ⧺ t ▹ a) ∶ S → Γ ⊢ node l (b ⧺ a) ∶ S
  remove_keeps b t a c h d =
      let k = links c d in
      let r = around b t a k.every in
      chained k.of h (every-⧺ r.front r.back)

  pub swap_keeps : {l : Label} (b : Forest) (t u : Tree) (a : Forest) → Loose l → Γ ⊢ node l (b ⧺ t ▹ u ▹ a) ∶ S → Γ ⊢ node l (b ⧺ u ▹ t ▹ a) ∶ S
  unfolding count ◌⧺◌
  swap_keeps b t u a loose_delta d = let p = one-pair b t u a d in rw (p.0, p.1) (delta_keeps t u (rw (p.0, p.1) at d))
  swap_keeps b t u a (loose_chain c) d =
      let k = links c d in
      let r = around b t (u ▹ a) k.every in
      let q = around none u a r.back in
      chained k.of (some-behind b (u ▹ t ▹ a) (omega arith)) (every-⧺ r.front (every_more q.here (every_more r.here q.back)))

zero_of : {Γ : Context} {S : Sort} → Of scalar_product S → Γ ⊢ node scalar_zero none ∶ S
zero_of of_product = sca_0

pub absorb_keeps : {Γ : Context} {S : Sort} {f : Forest} → Γ ⊢ node scalar_product f ∶ S → Γ ⊢ node scalar_zero none ∶ S
absorb_keeps d = zero_of (links scalar_products d).of

-- ---- summands
pub scaling : {Γ : Context} {S : Sort} {a x : Tree} → Of add S → Γ ⊢ a ∶ scalar → Γ ⊢ x ∶ S → Γ ⊢ node scale (a ▹ x ▹ none) ∶ S
scaling of_kets a x = ket_scr a x
scaling of_bras a x = bra_scr a x
scaling of_operators a x = opt_scr a x

pub record Scaled (Γ : Context) (u : Summand) (a x : Tree) (S : Sort) : Type 0 where
  pub factor-typed : Γ ⊢ factor u a ∶ scalar
  pub rest_typed : Γ ⊢ x ∶ S

scaled_of : {Γ : Context} {a x : Tree} {S : Sort} → Γ ⊢ node scale (a ▹ x ▹ none) ∶ S → Scaled Γ scaled a x S
scaled_of (ket_scr a x) = record { factor-typed = a; rest_typed = x }
scaled_of (bra_scr a x) = record { factor-typed = a; rest_typed = x }
scaled_of (opt_scr a x) = record { factor-typed = a; rest_typed = x }

pub summand-typed : {Γ : Context} {a x : Tree} {S : Sort} (u : Summand) → Γ ⊢ summand u a x ∶ S → Scaled Γ u a x S
summand-typed plain d = record { factor-typed = sca_1; rest_typed = d }
summand-typed scaled d = scaled_of d

pub collected-typed : {Γ : Context} {S : Sort} (u v : Summand) (p q x : Tree) → Of add S → Γ ⊢ summand u p x ∶ S → Γ ⊢ summand v q x ∶ S
    → Γ ⊢ node scale (node scalar_sum (factor u p ▹ factor v q ▹ none) ▹ x ▹ none) ∶ S
collected-typed u v p q x o a b =
    let y = summand-typed u a in
    let z = summand-typed v b in
    scaling o (sca_add y.factor-typed (every_more z.factor-typed every_none)) y.rest_typed

pub collect_keeps : {Γ : Context} {S : Sort} (u v : Summand) (b m e : Forest) (p q x : Tree)
    → Γ ⊢ node add (b ⧺ summand u p x ▹ m ⧺ summand v q x ▹ e) ∶ S
    → Γ ⊢ node add (b ⧺ m ⧺ e ⧺ node scale (node scalar_sum (factor u p ▹ factor v q ▹ none) ▹ x ▹ none) ▹ none) ∶ S
unfolding count ◌⧺◌
collect_keeps u v b m e p q x d =
    let k = links sums d in
    let r = around b (summand u p x) (m ⧺ summand v q x ▹ e) k.every in
    let s = around m (summand v q x) e r.back in
    let new = collected-typed u v p q x k.of r.here s.here in
    chained k.of (some-behind b _ (some-behind m _ (some-behind e _ (omega arith)))) (every-⧺ r.front (every-⧺ s.front (every-⧺ s.back (every_more new every_none))))

pub sum-chain : {l : Label} → Sum l → ACSymbol l
sum-chain of_scalars = scalar_sums
sum-chain of_arrays = sums

-- ---- a child among others
pub record Hole (Γ : Context) (l : Label) (b : Forest) (t : Tree) (a : Forest) (S : Sort) : Type 0 where
  pub sort : Sort
  pub here : Γ ⊢ t ∶ sort
  pub again : (u : Tree) → Γ ⊢ u ∶ sort → Γ ⊢ node l (b ⧺ u ▹ a) ∶ S

each_around : {Γ : Context} (b : Forest) (t : Tree) (a : Forest) (ss : List Sort) → Each Γ (b ⧺ t ▹ a) ss
    → (T : Sort) × (Γ ⊢ t ∶ T) × ((u : Tree) → Γ ⊢ u ∶ T → Each Γ (b ⧺ u ▹ a) ss)
unfolding ◌⧺◌
each_around none t a ss (each_more {S} d xs) = (S, d, λ u e. each_more e xs)
each_around (s ▹ b) t a ss (each_more {ss = rest} d xs) =
    let r = each_around b t a rest xs in
    (r.0, r.1, λ u e. each_more d (r.2 u e))

-- of a head that does not bind
pub hole_of : {Γ : Context} (W : WellFormed Γ) {l : Label} {S : Sort} → binds l ≡ false → (b : Forest) (t : Tree) (a : Forest) → Γ ⊢ node l (b ⧺ t ▹ a) ∶ S → Hole Γ l b t a S
hole_of {Γ} W {l} z b t a d =
    let n = node_of W d in
    let e = later_same Γ l (b ⧺ t ▹ a) z in
    let r = each_around b t a n.list (rw e at n.each) in
    record { sort = r.0; here = r.1; again = λ u x. n.again (b ⧺ u ▹ a) (rw e (r.2 u x)) }

pub count-spread : (l : Label) (b f a : Forest) → count (spread l b f a) ≡ count f
unfolding count spread
count-spread l b none a = refl
count-spread l b (t ▹ f) a = ap suc (count-spread l b f a)

pub spread-typed : {Γ Δ : Context} {l : Label} {T S : Sort} (b : Forest) {f : Forest} (a : Forest) → ((u : Tree) → Δ ⊢ u ∶ T → Γ ⊢ node l (b ⧺ u ▹ a) ∶ S)
    → Δ ⊢* f ∶ T → Γ ⊢* spread l b f a ∶ S
unfolding spread
spread-typed b a again every_none = every_none
spread-typed b a again (every_more d xs) = every_more (again _ d) (spread-typed b a again xs)

pub spread-keeps : {Γ : Context} (W : WellFormed Γ) {l s r : Label} {S : Sort} → binds l ≡ false → (b f a : Forest) → ACSymbol s → Of r S
    → Γ ⊢ node l (b ⧺ node s f ▹ a) ∶ S → Γ ⊢ node r (spread l b f a) ∶ S
spread-keeps W {l} {s} z b f a c o d =
    let h = hole_of W z b (node s f) a d in
    let k = links c h.here in
    chained o (rw (count-spread l b f a) k.some) (spread-typed b a h.again k.every)

-- a sum over a basis has the sort of its body, and so has each over a summand of it
pub distribute_keeps : {Γ : Context} {l : Label} {S : Sort} (s : Tree) (f : Forest) → Sum l → Γ ⊢ node big_sum (s ▹ node l f ▹ none) ∶ S → Γ ⊢ node l (spread big_sum (s ▹ none) f none) ∶ S
unfolding ◌⧺◌
distribute_keeps {l} s f x (sum_over a d h n) =
    let k = links (sum-chain x) d in
    chained k.of (rw (count-spread big_sum (s ▹ none) f none) k.some) (spread-typed (s ▹ none) none (λ u e. sum_over a e h n) k.every)

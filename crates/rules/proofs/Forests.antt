-- Rows of children of one sort, and what a chain (7, 8 or 20) asks of them.
use Prim.Native.Nat.{◌<◌}
use native.Mathlib.Omega.{arith}
use Rattle.term.specs.Heads.{Label, scalar_zero, scalar_one, scalar_sum, scalar_product, zero_ket, zero_bra, zero_operator, add}
use Rattle.term.specs.Trees.{Tree, Forest, node, none, ◌▹◌, ◌⧺◌, count}
use Rattle.types.specs.Sorts.{Sort, scalar, ket, bra, operator, Context}
use Rattle.types.specs.Rules.{◌⊢◌∶◌, ◌⊢*◌∶◌, every_none, every_more, sca_add, sca_mul, ket_add, bra_add, opt_add}
use Rattle.rules.specs.Instances.{ACSymbol, scalar_sums, scalar_products, sums}

-- the chains that are sums
pub data Sum : Label → Type 0 where
  scalars : Sum scalar_sum
  arrays : Sum add

pub sum-is-chain : {l : Label} → Sum l → ACSymbol l
sum-is-chain scalars = scalar_sums
sum-is-chain arrays = sums

-- the zero or one that a chain can do without: 4, 6, 55 to 57
pub data Fitting : Label → Label → Type 0 where
  scalar-zeros : Fitting scalar_sum scalar_zero
  scalar_ones : Fitting scalar_product scalar_one
  ket_zeros : Fitting add zero_ket
  bra_zeros : Fitting add zero_bra
  operator-zeros : Fitting add zero_operator

pub fitting-chain : {l c : Label} → Fitting l c → ACSymbol l
fitting-chain scalar-zeros = scalar_sums
fitting-chain scalar_ones = scalar_products
fitting-chain ket_zeros = sums
fitting-chain bra_zeros = sums
fitting-chain operator-zeros = sums

-- which sorts a chain is of
pub data Of : Label → Sort → Type 0 where
  of_sum : Of scalar_sum scalar
  of_product : Of scalar_product scalar
  of_kets : {σ : Tree} → Of add (ket σ)
  of_bras : {σ : Tree} → Of add (bra σ)
  of_operators : {σ τ : Tree} → Of add (operator σ τ)

module _ {Γ : Context} {S : Sort} where
  pub every-⧺ : {f g : Forest} → Γ ⊢* f ∶ S → Γ ⊢* g ∶ S → Γ ⊢* f ⧺ g ∶ S
  unfolding ◌⧺◌
  every-⧺ every_none ys = ys
  every-⧺ (every_more d xs) ys = every_more d (every-⧺ xs ys)

  pub every_split : (f g : Forest) → Γ ⊢* f ⧺ g ∶ S → (Γ ⊢* f ∶ S) × (Γ ⊢* g ∶ S)
  unfolding ◌⧺◌
  every_split none g xs = (every_none, xs)
  every_split (t ▹ f) g (every_more d xs) = let r = every_split f g xs in (every_more d r.0, r.1)

-- a row in three: before a child, the child, behind it
pub record Around (Γ : Context) (S : Sort) (before : Forest) (t : Tree) (after : Forest) : Type 0 where
  pub front : Γ ⊢* before ∶ S
  pub here : Γ ⊢ t ∶ S
  pub back : Γ ⊢* after ∶ S

around_of_lem : {Γ : Context} {S : Sort} {before : Forest} {t : Tree} {after : Forest} → Γ ⊢* before ∶ S → Γ ⊢* t ▹ after ∶ S → Around Γ S before t after
around_of_lem b (every_more d a) = record { front = b; here = d; back = a }

pub around : {Γ : Context} {S : Sort} (before : Forest) (t : Tree) (after : Forest) → Γ ⊢* before ⧺ t ▹ after ∶ S → Around Γ S before t after
around before t after xs = let r = every_split before (t ▹ after) xs in around_of_lem r.0 r.1

-- a chain of its children's sort
pub chained : {Γ : Context} {S : Sort} {l : Label} {f : Forest} → Of l S → 0 < count f → Γ ⊢* f ∶ S → Γ ⊢ node l f ∶ S
unfolding count
chained o h every_none = absurd (omega arith)
chained of_sum h (every_more d xs) = sca_add d xs
chained of_product h (every_more d xs) = sca_mul d xs
chained of_kets h (every_more d xs) = ket_add d xs
chained of_bras h (every_more d xs) = bra_add d xs
chained of_operators h (every_more d xs) = opt_add d xs

-- what the children of a typed chain are
pub record Links (Γ : Context) (l : Label) (f : Forest) (S : Sort) : Type 0 where
  pub of : Of l S
  pub some : 0 < count f
  pub every : Γ ⊢* f ∶ S

pub links : {Γ : Context} {l : Label} {f : Forest} {S : Sort} → ACSymbol l → Γ ⊢ node l f ∶ S → Links Γ l f S
unfolding count
links scalar_sums (sca_add d xs) = record { of = of_sum; some = omega arith; every = every_more d xs }
links scalar_products (sca_mul d xs) = record { of = of_product; some = omega arith; every = every_more d xs }
links sums (ket_add d xs) = record { of = of_kets; some = omega arith; every = every_more d xs }
links sums (bra_add d xs) = record { of = of_bras; some = omega arith; every = every_more d xs }
links sums (opt_add d xs) = record { of = of_operators; some = omega arith; every = every_more d xs }

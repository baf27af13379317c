-- The laws of the integers that `lib.IntN` lacks: the product is associative and distributes over the sum.
use mathlib.Core.Path.{◌≡◌, ◌∙◌, ap}
use Prim.Native.Nat.{zero, suc}
use lib.IntN.{ℤ, pos, negsuc, one, suc_ℤ, pred_ℤ, neg_ℤ, ◌+ℤ◌, ◌*ℤ◌, +ℤ_assoc, +ℤ_comm, neg_ℤ-+ℤ, *ℤ_comm, *ℤ-one, zero-*ℤ, suc_ℤ-*ℤ, pred_ℤ-*ℤ}
use Rattle.algebra.proofs.Commutative.{left_comm}

-- a law that a step of one in either direction keeps
steps : (P : ℤ → Type 0) → P (pos 0) → ((k : ℤ) → P k → P (suc_ℤ k)) → ((k : ℤ) → P k → P (pred_ℤ k)) → (k : ℤ) → P k
steps P z s p (pos zero) = z
steps P z s p (pos (suc n)) = s (pos n) (steps P z s p (pos n))
steps P z s p (negsuc zero) = p (pos 0) z
steps P z s p (negsuc (suc n)) = p (negsuc n) (steps P z s p (negsuc n))

pub add_left_comm : (a b c : ℤ) → a +ℤ (b +ℤ c) ≡ b +ℤ (a +ℤ c)
add_left_comm = left_comm ◌+ℤ◌ +ℤ_comm +ℤ_assoc

pub mul_add : (a b c : ℤ) → a *ℤ (b +ℤ c) ≡ a *ℤ b +ℤ a *ℤ c
mul_add a b c =
    steps (λ k. k *ℤ (b +ℤ c) ≡ k *ℤ b +ℤ k *ℤ c)
    (simp zero-*ℤ)
    (λ k h. simp (suc_ℤ-*ℤ, h, +ℤ_assoc, add_left_comm))
    (λ k h. simp (pred_ℤ-*ℤ, h, neg_ℤ-+ℤ, +ℤ_assoc, add_left_comm)) a

pub add-mul : (a b c : ℤ) → (a +ℤ b) *ℤ c ≡ a *ℤ c +ℤ b *ℤ c
add-mul a b c = *ℤ_comm (a +ℤ b) c ∙ mul_add c a b ∙ cc (*ℤ_comm c a, *ℤ_comm c b)

pub mul_neg : (a b : ℤ) → a *ℤ neg_ℤ b ≡ neg_ℤ (a *ℤ b)
mul_neg a b =
    steps (λ k. k *ℤ neg_ℤ b ≡ neg_ℤ (k *ℤ b))
    (simp zero-*ℤ)
    (λ k h. simp (suc_ℤ-*ℤ, h, neg_ℤ-+ℤ))
    (λ k h. simp (pred_ℤ-*ℤ, h, neg_ℤ-+ℤ)) a

pub neg_mul : (a b : ℤ) → neg_ℤ a *ℤ b ≡ neg_ℤ (a *ℤ b)
neg_mul a b = *ℤ_comm (neg_ℤ a) b ∙ mul_neg b a ∙ ap neg_ℤ (*ℤ_comm b a)

pub mul_assoc : (a b c : ℤ) → (a *ℤ b) *ℤ c ≡ a *ℤ (b *ℤ c)
mul_assoc a b c =
    steps (λ k. (k *ℤ b) *ℤ c ≡ k *ℤ (b *ℤ c))
    (simp zero-*ℤ)
    (λ k h. simp (suc_ℤ-*ℤ, add-mul, h))
    (λ k h. simp (pred_ℤ-*ℤ, add-mul, neg_mul, h)) a

-- `lib.IntN` states this of a name for `pos 1`
pub mul_one : (a : ℤ) → a *ℤ pos 1 ≡ a
unfolding one
mul_one a = *ℤ-one a

pub mul_left_comm : (a b c : ℤ) → a *ℤ (b *ℤ c) ≡ b *ℤ (a *ℤ c)
mul_left_comm = left_comm ◌*ℤ◌ *ℤ_comm mul_assoc

-- Words that two runs have in common, and what a run of stores leaves of the words around it.
use mathlib.Core.Path.{◌≡◌, refl, sym, ◌∙◌, ap}
use mathlib.Core.List.{List, [], ◌∷◌, ◌++◌, append_assoc}
use Prim.Native.Nat.{ℕ, zero, suc, ◌+◌, ◌-◌, ◌≤◌, ◌<◌}
use native.Mathlib.Omega.{arith}
use lib.ListN.{length, take, drop, get_or, set}
use lib.Seq.{length-take-le, take-length, take-append_seam, take-take, drop_at, drop-drop, get_or-take, get_or-drop, drop-set-lt, drop-set-add, take-set-le, sets, sets-eq}

-- ---- the m words of l from i on are those of r from j on
pub record Same (l : List ℕ) (i : ℕ) (r : List ℕ) (j m : ℕ) : Type 0 where
  pub both : take m (drop i l) ≡ take m (drop j r)

pub same_then : {l : List ℕ} {i : ℕ} {r : List ℕ} {j : ℕ} {q : List ℕ} {k m : ℕ} → Same l i r j m → Same r j q k m → Same l i q k m
same_then s t = record { both = s.both ∙ t.both }

take-drop-take : (d n m : ℕ) (l : List ℕ) → d + n ≤ m → take n (drop d (take m l)) ≡ take n (drop d l)
take-drop-take zero n m l h = take-take n m l (omega arith)
take-drop-take (suc d) n zero l h = absurd (omega arith)
take-drop-take (suc d) n (suc m) [] h = refl
take-drop-take (suc d) n (suc m) (x ∷ l) h = take-drop-take d n m l (omega arith)

module _ {l : List ℕ} {i : ℕ} {r : List ℕ} {j m : ℕ} (s : Same l i r j m) where
  pub same-part : (d n : ℕ) → d + n ≤ m → Same l (i + d) r (j + d) n
  same-part d n h = record {
    both =
        rw (← drop-drop d i l, ← drop-drop d j r, ← take-drop-take d n m (drop i l) h, ← take-drop-take d n m (drop j r) h, s.both);
  }

  pub same_word : (d : ℕ) → d < m → get_or l (i + d) 0 ≡ get_or r (j + d) 0
  same_word d h =
      rw (← get_or-drop i l d 0, ← get_or-drop j r d 0, ← get_or-take m (drop i l) d 0 h, ← get_or-take m (drop j r) d 0 h, s.both)

  pub same_first : 0 < m → get_or l i 0 ≡ get_or r j 0
  same_first h = let y : i + 0 ≡ i = omega arith in let z : j + 0 ≡ j = omega arith in rw (y, z) at (same_word 0 h)

-- ---- a run of stores keeps what lies before it or behind it, and holds what was stored
set_before : (l : List ℕ) (i v k m : ℕ) → k + m ≤ i → take m (drop k (set l i v)) ≡ take m (drop k l)
set_before l i v k m h =
    let z : i ≡ k + (i - k) = omega arith in
    rw (z, drop-set-add k l (i - k) v) (take-set-le m (drop k l) (i - k) v (omega arith))

pub sets_before : (vs l : List ℕ) (i k m : ℕ) → k + m ≤ i → Same (sets l i vs) k l k m
sets_before [] l i k m h = record { both = refl }
sets_before (v ∷ vs) l i k m h = record { both = (sets_before vs (set l i v) (suc i) k m (omega arith)).both ∙ set_before l i v k m h }

sets_behind : (vs l : List ℕ) (i k m : ℕ) → i + length vs ≤ k → Same (sets l i vs) k l k m
sets_behind [] l i k m h = record { both = refl }
sets_behind (v ∷ vs) l i k m h = record {
  both = (sets_behind vs (set l i v) (suc i) k m (omega arith)).both ∙ ap (take m) (drop-set-lt k l i v (omega arith));
}

-- the m words from k on lie apart from the n words from i on
pub data Apart (i n k m : ℕ) : Type 0 where
  before : k + m ≤ i → Apart i n k m
  behind : i + n ≤ k → Apart i n k m

-- stores within the n words from j on keep what lies apart from these
pub sets_apart : (vs l : List ℕ) (i : ℕ) {j n k m : ℕ} → j ≤ i → i + length vs ≤ j + n → Apart j n k m → Same (sets l i vs) k l k m
sets_apart vs l i x y (before h) = sets_before vs l i _ _ (omega arith)
sets_apart vs l i x y (behind h) = sets_behind vs l i _ _ (omega arith)

pub sets_inside : (vs l : List ℕ) (i : ℕ) → i + length vs ≤ length l → Same (sets l i vs) i vs 0 (length vs)
sets_inside vs l i h = record {
  both =
      rw (sets-eq vs l i h, append_assoc, drop_at (take i l) (vs ++ drop (i + length vs) l) i (length-take-le i l (omega arith)), take-append_seam) (sym (take-length vs));
}

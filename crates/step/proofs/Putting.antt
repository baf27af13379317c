-- A result put into its slice: zeros behind its end, and then its words.
use mathlib.Core.Path.{◌≡◌, sym, ◌∙◌, ap}
use mathlib.Core.List.{List, ◌++◌, append_assoc}
use Prim.Native.Nat.{ℕ, ◌+◌, ◌-◌, ◌≤◌}
use native.Mathlib.Decide.{dec_le}
use native.Mathlib.Omega.{arith}
use lib.ListN.{length, take, drop, replicate, length-append, length-take, length-replicate, take-append-drop, replicate-append-replicate}
use lib.Seq.{drop_at, take-take, length-take-le, take-append-le}
use Rattle.words.specs.Words.{cleared, laid}
use Rattle.words.proofs.Runs.{laid_in, cleared-end, zeros_from}
use Rattle.step.specs.Answers.{between}

-- ---- a slice that has zeros behind its first `old` words, cleared as far as they go
module _ (ws : List ℕ) (old : ℕ) (inside : old ≤ length ws) (zeros : cleared ws old ≡ ws) (end : ℕ) where
  -- the new end is before the old one
  shorter : end ≤ old → cleared (take old ws) end ++ drop old ws ≡ between ws end
  unfolding cleared
  shorter h =
      let z : old - end + (length ws - old) ≡ length ws - end = omega arith in
      rw (take-take end old ws h, length-take-le old ws inside, zeros_from ws old old zeros (omega arith) inside)
      (append_assoc (take end ws) (replicate (old - end) 0) (replicate (length ws - old) 0)
      ∙ ap (λ (r : List ℕ). take end ws ++ r) (replicate-append-replicate (old - end) (length ws - old) 0 ∙ ap (λ (m : ℕ). replicate m 0) z))

  -- or behind it: then nothing is cleared
  same-behind : old ≤ end → end ≤ length ws → ws ≡ between ws end
  unfolding cleared
  same-behind h room = sym (take-append-drop end ws) ∙ ap (λ (r : List ℕ). take end ws ++ r) (zeros_from ws old end zeros h room)

  longer : old ≤ end → end ≤ length ws → cleared (take old ws) end ++ drop old ws ≡ between ws end
  longer h room = rw (cleared-end (take old ws) end (omega (arith, length-take old ws)), take-append-drop old ws) (same-behind h room)

  pub clear_words : end ≤ length ws → (ys : List ℕ) → ys ≡ cleared (take old ws) end → ys ++ drop old ws ≡ between ws end
  clear_words room ys e = rw e (elim (dec_le end old) [ yes d ↦ shorter d | no d ↦ longer (omega arith) room ])

-- ---- the result's words laid over what is left
pub put-words : (ws : List ℕ) (at : ℕ) (src : List ℕ) → at + length src ≤ length ws → (mid out : List ℕ) → mid ≡ between ws (at + length src) → out ≡ laid mid at src
    → out ≡ take at ws ++ (src ++ replicate (length ws - (at + length src)) 0)
unfolding cleared
put-words ws at src room mid out m e =
    let n = at + length src in
    let l : length (take n ws) ≡ n = length-take-le n ws room in
    let size : length mid ≡ length ws = ap length m ∙ length-append (take n ws) _ ∙ omega (arith, l, length-replicate {A = ℕ} (length ws - n) 0) in
    let t : take at mid ≡ take at ws = rw m (take-append-le at (take n ws) (replicate (length ws - n) 0) (omega (arith, l)) ∙ take-take at n ws (omega arith)) in
    let d : drop n mid ≡ replicate (length ws - n) 0 = rw m (drop_at (take n ws) (replicate (length ws - n) 0) n l) in
    e ∙ laid_in mid at src (omega (arith, size)) ∙ rw (t, d)

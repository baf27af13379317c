-- A term in its slice: its words stand in front, and zeros behind.
use mathlib.Core.Path.{◌≡◌, refl, ◌∙◌, ap}
use mathlib.Core.List.{List, [], ◌∷◌, ◌++◌}
use mathlib.Core.Option.{Option, some, none, Option-elim}
use Prim.Native.Nat.{ℕ, zero, suc, ◌+◌, ◌-◌, ◌≤◌}
use native.Mathlib.Numerals.{add-one}
use native.Mathlib.Omega.{arith}
use lib.ListN.{length, take, drop, set, replicate, length-append, length-replicate, length-set}
use lib.Seq.{sets, sets-eq, take-append_seam}
use Rattle.term.specs.Terms.{max_words}
use Rattle.text.specs.Pieces.{Text, space, parted}
use Rattle.text.specs.Tokens.{token_in, both, words_of, tokens_in, stored}
use Rattle.format.specs.Kept.{padded}

-- ---- words stored one after the other
sets_by : (p : Text) (ps : List Text) (o : Option ℕ) (q : Option (List ℕ)) (ws out : List ℕ) (k : ℕ) → token_in p ≡ o → both o q ≡ some ws
    → ((vs out : List ℕ) (k : ℕ) → q ≡ some vs → stored ps out k ≡ sets out k vs) → stored (p ∷ ps) out k ≡ sets out k ws
unfolding stored both Option-elim
sets_by p ps none q ws out k e f r = absurd (let z : ◌≡◌ {A = ℕ} 0 1 = cc in omega arith)
sets_by p ps (some w) none ws out k e f r = absurd (let z : ◌≡◌ {A = ℕ} 0 1 = cc in omega arith)
sets_by p ps (some w) (some vs) ws out k e f r =
    let z : ws ≡ w ∷ vs = cc in
    rw (e, z) (r vs (set out k w) (k + 1) refl ∙ rw add-one)

pub stored_sets : (ps : List Text) (ws out : List ℕ) (k : ℕ) → words_of ps ≡ some ws → stored ps out k ≡ sets out k ws
unfolding stored words_of
stored_sets [] ws out k e = let z : ws ≡ [] = cc in rw z
stored_sets (p ∷ ps) ws out k e = sets_by p ps (token_in p) (words_of ps) ws out k refl e (stored_sets ps)

size_by : (p : Text) (ps : List Text) (o : Option ℕ) (out : List ℕ) (k : ℕ) → token_in p ≡ o → ((out : List ℕ) (k : ℕ) → length (stored ps out k) ≡ length out)
    → length (stored (p ∷ ps) out k) ≡ length out
unfolding stored Option-elim
size_by p ps none out k e r = rw e
size_by p ps (some w) out k e r = rw e (r (set out k w) (k + 1) ∙ length-set out k w)

pub stored-size : (ps : List Text) (out : List ℕ) (k : ℕ) → length (stored ps out k) ≡ length out
unfolding stored
stored-size [] out k = refl
stored-size (p ∷ ps) out k = size_by p ps (token_in p) out k refl (stored-size ps)

-- ---- from the start of a slice
stored-whole : (s : Text) (ws out : List ℕ) → tokens_in s ≡ some ws → length ws ≤ length out → stored (parted space s) out 0 ≡ ws ++ drop (length ws) out
unfolding tokens_in
stored-whole s ws out e h =
    let z : 0 + length ws ≡ length ws = omega arith in
    stored_sets (parted space s) ws out 0 e ∙ sets-eq ws out 0 (omega arith) ∙ rw z

pub stored-front : (s : Text) (ws out : List ℕ) → tokens_in s ≡ some ws → length ws ≤ length out → take (length ws) (stored (parted space s) out 0) ≡ ws
stored-front s ws out e h = rw (stored-whole s ws out e h) (take-append_seam ws (drop (length ws) out))

drop-zeros : (k n : ℕ) → drop {A = ℕ} k (replicate n 0) ≡ replicate (n - k) 0
drop-zeros zero n = let z : n - 0 ≡ n = omega arith in rw z
drop-zeros (suc k) zero = let z : 0 - suc k ≡ 0 = omega arith in rw z
drop-zeros (suc k) (suc n) = let z : suc n - suc k ≡ n - k = omega arith in rw z (drop-zeros k n)

stored-zeros : (s : Text) (ws : List ℕ) (n : ℕ) → tokens_in s ≡ some ws → length ws ≤ n → stored (parted space s) (replicate n 0) 0 ≡ ws ++ replicate (n - length ws) 0
stored-zeros s ws n e h = stored-whole s ws (replicate n 0) e (rw length-replicate h) ∙ ap (λ (r : List ℕ). ws ++ r) (drop-zeros (length ws) n)

pub stored-words : (s : Text) (ws : List ℕ) → tokens_in s ≡ some ws → length ws ≤ max_words → stored (parted space s) (replicate max_words 0) 0 ≡ padded ws
unfolding padded
stored-words s ws = stored-zeros s ws max_words

-- ---- zeros behind
pub padded-front : (ws : List ℕ) → take (length ws) (padded ws) ≡ ws
unfolding padded
padded-front ws = take-append_seam ws (replicate (max_words - length ws) 0)

pub padded-size : (ws : List ℕ) → length ws ≤ max_words → length (padded ws) ≡ max_words
unfolding padded
padded-size ws h = simp (length-append, length-replicate) (omega arith)

-- Runs of words: what clearing, copying and comparing them come to, one word at a time and as a whole.
use mathlib.Core.Path.{◌≡◌, refl, sym, ◌∙◌, ap}
use mathlib.Core.Logic.{◌≢◌}
use mathlib.Core.Bool.{Bool, true, false, cond, ◌&&◌, and_assoc, and-true, and-eq-true_iff}
use mathlib.Core.List.{List, [], ◌∷◌, ◌++◌, append_assoc, append-nil}
use Prim.Native.Nat.{ℕ, zero, suc, ◌+◌, ◌-◌, ◌≤◌, ◌<◌, min}
use native.Mathlib.Nat.{zero-add}
use native.Mathlib.Numerals.{add-one}
use native.Mathlib.Decide.{dec_le}
use native.Mathlib.Omega.{arith}
use lib.Dec.{eqb}
use lib.ListN.{length, take, drop, replicate, get_or, set, length-append, length-take, length-drop, length-replicate, drop_of_length-le}
use lib.Seq.{take_all, take_at, length-take-le, get_or_at, drop-nil, drop-cons, drop-drop, drop-append-add, paste-suc}
use borrow.Author.Tests.{eqb-true, eqb-false, eq-eqb, ne_eqb, le-leb, lt-leb}
use Rattle.std.specs.Prelude.{}
use borrow.Rule.Slice.PartMut.{put_mid}
use Rattle.std.proofs.lemmas.List.{drop-replicate, replicate_more, take-take}
use Rattle.words.specs.Words.{cleared, overlaid, agreeing, same_words, laid, Added}

-- ---- clearing
pub length-cleared : (ws : List ℕ) (at : ℕ) → length (cleared ws at) ≡ length ws
unfolding cleared
length-cleared ws at = simp (length-append, length-take, length-replicate) (omega arith)

-- a run that ends before the offset has nothing to clear
pub cleared-end : (ws : List ℕ) (at : ℕ) → length ws ≤ at → cleared ws at ≡ ws
unfolding cleared
cleared-end ws at h = let z : length ws - at ≡ 0 = omega arith in rw (z, append-nil, take_all at ws)

-- one zero more
pub zeros_more : (zeros : List ℕ) (w : ℕ) → zeros ≡ replicate (length zeros) 0 → w ≡ 0 → zeros ++ w ∷ [] ≡ replicate (length (zeros ++ w ∷ [])) 0
zeros_more zeros w h z = rw (z, length-append) (ap (λ ws. ws ++ 0 ∷ []) h ∙ replicate_more (length zeros) 0)

-- zeros in the place of all that was there from the offset on
pub cleared_filled : (ws : List ℕ) (at : ℕ) (zeros : List ℕ) → length zeros ≡ length (take (length ws - at) (drop at ws)) → zeros ≡ replicate (length zeros) 0
    → at < length ws → put_mid at (length ws - at) ws zeros ≡ cleared ws at
unfolding cleared
cleared_filled ws at zeros n e h =
    let l = length-drop at ws in
    let m : length zeros ≡ length ws - at = n ∙ simp length-take (omega arith) in
    let z : length (drop at ws) ≤ length ws - at = omega arith in
    rw (e, m, drop_of_length-le (drop at ws) z, append-nil)

-- a run that is cleared from an offset on has zeros from any later one on
pub zeros_from : (ws : List ℕ) (old k : ℕ) → cleared ws old ≡ ws → old ≤ k → k ≤ length ws → drop k ws ≡ replicate (length ws - k) 0
unfolding cleared
zeros_from ws old k e h l =
    let f : length (take old ws) ≡ old = length-take-le old ws (omega arith) in
    let n : k ≡ length (take old ws) + (k - old) = omega arith in
    let z : length ws - old - (k - old) ≡ length ws - k = omega arith in
    ap (drop k) (sym e) ∙ ap (λ (m : ℕ). drop m (take old ws ++ replicate (length ws - old) 0)) n
    ∙ drop-append-add (take old ws) (replicate (length ws - old) 0) (k - old) ∙ drop-replicate (k - old) (length ws - old) 0 ∙ ap (λ (m : ℕ). replicate m 0) z

pub cleared_twice : (ws : List ℕ) (n : ℕ) → n ≤ length ws → cleared (cleared ws n) n ≡ cleared ws n
unfolding cleared
cleared_twice ws n h =
    let l : length (take n ws ++ replicate (length ws - n) 0) ≡ length ws = length-cleared ws n in
    rw (l, take_at (take n ws) (replicate (length ws - n) 0) n (length-take-le n ws h))

-- ---- copying
-- the run up to the very end is all that is left
pub to_end : (ws : List ℕ) (from : ℕ) → take (length ws - from) (drop from ws) ≡ drop from ws
to_end ws from = take_all (length ws - from) (drop from ws) (omega (arith, length-drop from ws))

-- with the number of words that both have: that many of the one, and the rest of the other
pub overlaid-is : (dst src : List ℕ) (i : ℕ) → i ≡ min (length dst) (length src) → overlaid dst src ≡ take i src ++ drop i dst
unfolding overlaid
overlaid-is [] src zero h = drop-nil (length src)
overlaid-is [] src (suc i) h = absurd (omega arith)
overlaid-is (d ∷ dst) [] zero h = refl
overlaid-is (d ∷ dst) [] (suc i) h = absurd (omega arith)
overlaid-is (d ∷ dst) (s ∷ src) zero h = absurd (omega arith)
overlaid-is (d ∷ dst) (s ∷ src) (suc i) h = cc (overlaid-is dst src i (omega arith))

-- one word more, copied over the first that is not yet
pub copied_more : (dst src : List ℕ) (i : ℕ) → i < length dst → i < length src → set (take i src ++ drop i dst) i (get_or src i 0) ≡ take (i + 1) src ++ drop (i + 1) dst
copied_more dst src i h k = rw add-one (simp zero-add at (paste-suc dst 0 src i 0 (omega arith) k))

-- what is carried on from a word that is copied over: the next of the run with one more in front
pub carried_on : (ws : List ℕ) (word i : ℕ) → i < length ws → get_or (take i (word ∷ ws) ++ drop i ws) i 0 ≡ get_or (word ∷ ws) (i + 1) 0
carried_on ws word i h = rw (add-one, drop-cons ws i 0 h, get_or_at (take i (word ∷ ws)) (get_or ws i 0) (drop (suc i) ws) 0 i (length-take-le i (word ∷ ws) (omega arith)))

-- ---- comparing
-- the ways in which two runs agree for n words and no further
pub data Agreed : List ℕ → List ℕ → ℕ → Type 0 where
  left-ends : {bs : List ℕ} → Agreed [] bs 0
  right-ends : {a : ℕ} {as' : List ℕ} → Agreed (a ∷ as') [] 0
  differ : {a b : ℕ} {as' bs : List ℕ} → (a ≡ b → ⊥) → Agreed (a ∷ as') (b ∷ bs) 0
  agree : {a b : ℕ} {as' bs : List ℕ} {n : ℕ} → a ≡ b → Agreed as' bs n → Agreed (a ∷ as') (b ∷ bs) (suc n)

agreed_more : {a b : ℕ} {as' bs : List ℕ} {n : ℕ} (t : Bool) → eqb a b ≡ t → Agreed as' bs n → Agreed (a ∷ as') (b ∷ bs) (cond t (suc n) 0)
agreed_more true e r = agree (eqb-true _ _ e) r
agreed_more false e r = differ (eqb-false _ _ e)

pub agreed : (as' bs : List ℕ) → Agreed as' bs (agreeing as' bs)
unfolding agreeing
agreed [] bs = left-ends
agreed (a ∷ as') [] = right-ends
agreed (a ∷ as') (b ∷ bs) = agreed_more (eqb a b) refl (agreed as' bs)

agreed_take : {as' bs : List ℕ} {n : ℕ} → Agreed as' bs n → take n as' ≡ take n bs
agreed_take left-ends = refl
agreed_take right-ends = refl
agreed_take (differ h) = refl
agreed_take (agree e r) = rw (e, agreed_take r)

agreed_differ : {as' bs : List ℕ} {n : ℕ} → Agreed as' bs n → n < length as' → n < length bs → get_or as' n 0 ≡ get_or bs n 0 → ⊥
agreed_differ left-ends p q e = omega arith
agreed_differ right-ends p q e = omega arith
agreed_differ (differ h) p q e = h e
agreed_differ (agree h r) p q e = agreed_differ r (omega arith) (omega arith) e

-- the words that agree are the same words
pub agreeing-take : (as' bs : List ℕ) → take (agreeing as' bs) as' ≡ take (agreeing as' bs) bs
agreeing-take as' bs = agreed_take (agreed as' bs)

-- where neither run ends, the next words differ
pub agreeing-differ : (as' bs : List ℕ) → agreeing as' bs < length as' → agreeing as' bs < length bs → get_or as' (agreeing as' bs) 0 ≡ get_or bs (agreeing as' bs) 0 → ⊥
agreeing-differ as' bs = agreed_differ (agreed as' bs)

-- the other way round: only one number is as these laws say
pub agreeing-is : (as' bs : List ℕ) (i : ℕ) → i ≤ length as' → i ≤ length bs → ((k : ℕ) → k < i → get_or as' k 0 ≡ get_or bs k 0)
    → (i < length as' → i < length bs → get_or as' i 0 ≡ get_or bs i 0 → ⊥) → agreeing as' bs ≡ i
unfolding agreeing
agreeing-is [] bs zero p q e d = refl
agreeing-is (a ∷ as') [] zero p q e d = refl
agreeing-is (a ∷ as') (b ∷ bs) zero p q e d = rw (ne_eqb a b (d (omega arith) (omega arith)))
agreeing-is [] bs (suc i) p q e d = omega arith
agreeing-is (a ∷ as') [] (suc i) p q e d = omega arith
agreeing-is (a ∷ as') (b ∷ bs) (suc i) p q e d =
    let r = agreeing-is as' bs i (omega arith) (omega arith) (λ k l. e (suc k) (omega arith)) (λ p' q'. d (omega arith) (omega arith)) in
    rw (eq-eqb a b (e 0 (omega arith)), r)

-- ---- sameness
pub same-words : (ws : List ℕ) → same_words ws ws ≡ true
unfolding same_words
same-words [] = refl
same-words (w ∷ ws) = rw (eq-eqb w w refl) (same-words ws)

pub same_words_eq : (vs ws : List ℕ) → same_words vs ws ≡ true → vs ≡ ws
unfolding same_words
same_words_eq [] [] e = refl
same_words_eq [] (w ∷ ws) e = cc
same_words_eq (v ∷ vs) [] e = cc
same_words_eq (v ∷ vs) (w ∷ ws) e =
    let r = (and-eq-true_iff (eqb v w) (same_words vs ws)).0 e in
    let h = eqb-true v w r.0 in
    let t = same_words_eq vs ws r.1 in cc

-- one word more of each
pub same_more : (xs ys : List ℕ) (i : ℕ) → i < length xs → i < length ys
    → (same_words (take i xs) (take i ys) && eqb (get_or xs i 0) (get_or ys i 0)) ≡ same_words (take (i + 1) xs) (take (i + 1) ys)
unfolding same_words
same_more xs ys i h k = rw add-one (go xs ys i h k)
  where
    go : (xs ys : List ℕ) (i : ℕ) → i < length xs → i < length ys
        → (same_words (take i xs) (take i ys) && eqb (get_or xs i 0) (get_or ys i 0)) ≡ same_words (take (suc i) xs) (take (suc i) ys)
    go [] ys i h k = absurd (omega arith)
    go (x ∷ xs) [] i h k = absurd (omega arith)
    go (x ∷ xs) (y ∷ ys) zero h k = sym (and-true (eqb x y))
    go (x ∷ xs) (y ∷ ys) (suc i) h k = rw (← go xs ys i (omega arith) (omega arith)) (and_assoc (eqb x y) (same_words (take i xs) (take i ys)) (eqb (get_or xs i 0) (get_or ys i 0)))

-- two runs that begin with as many words, at once
pub same-both : (xs zs ys ws : List ℕ) → length xs ≡ length zs → same_words (xs ++ ys) (zs ++ ws) ≡ (same_words xs zs && same_words ys ws)
unfolding same_words
same-both [] [] ys ws e = refl
same-both [] (z ∷ zs) ys ws e = absurd (omega arith)
same-both (x ∷ xs) [] ys ws e = absurd (omega arith)
same-both (x ∷ xs) (z ∷ zs) ys ws e = rw (same-both xs zs ys ws (omega arith)) (sym (and_assoc (eqb x z) (same_words xs zs) (same_words ys ws)))

-- runs of other lengths are not the same
pub same-lengths : (xs ys : List ℕ) → length xs ≢ length ys → same_words xs ys ≡ false
unfolding same_words
same-lengths [] [] h = absurd (h refl)
same-lengths [] (y ∷ ys) h = refl
same-lengths (x ∷ xs) [] h = refl
same-lengths (x ∷ xs) (y ∷ ys) h = rw (same-lengths xs ys (λ e. h (ap suc e))) (and_false (eqb x y))
  where
    and_false : (b : Bool) → (b && false) ≡ false
    and_false true = refl
    and_false false = refl

-- ---- laying a run over another from an offset on
-- nothing where it does not fit
pub laid_out : (out : List ℕ) (at : ℕ) (src : List ℕ) → length out < at + length src → laid out at src ≡ out
unfolding laid
laid_out out at src h = rw (lt-leb (at + length src) (length out) h)

pub laid_in : (out : List ℕ) (at : ℕ) (src : List ℕ) → at + length src ≤ length out → laid out at src ≡ take at out ++ (src ++ drop (at + length src) out)
unfolding laid
laid_in out at src h = rw (le-leb (at + length src) (length out) h)

-- as the code does it: copied over the n words from there on, which are all
pub laid_copied : (out : List ℕ) (at : ℕ) (src ys : List ℕ) (n : ℕ) → at + length src ≤ length out → n ≡ length out - at → ys ≡ overlaid (take n (drop at out)) src
    → take at out ++ (ys ++ drop n (drop at out)) ≡ laid out at src
unfolding overlaid
laid_copied out at src ys n h k e =
    let l = length-drop at out in
    let z : length (drop at out) ≤ n = omega arith in
    let d = drop at out in
    rw (laid_in out at src h, e, take_all n d (omega arith), take_all (length d) src (omega arith), drop_of_length-le d z, append-nil, drop-drop (length src) at out)

-- a word in front of n others, which move up by one: nothing where no word is behind them
module _ (ws : List ℕ) (at word n : ℕ) where
  pub no_room : length ws ≤ at + n → laid ws at (word ∷ take n (drop at ws)) ≡ ws
  no_room h = let l = length-take n (drop at ws) in let m = length-drop at ws in laid_out ws at (word ∷ take n (drop at ws)) (omega arith)

  -- the words up to the one behind them, with the word in front and without the last
  pub laid_first : (row : List ℕ) (k : ℕ) → at + n < length ws → k ≡ n + 1 → row ≡ take (length (take k (drop at ws))) (word ∷ take k (drop at ws))
      → put_mid at k ws row ≡ laid ws at (word ∷ take n (drop at ws))
  laid_first row k h kn e =
      let rest = drop at ws in
      let l = length-drop at ws in
      let r = length-take n rest in
      let long : length (take k rest) ≡ suc n = omega (arith, length-take k rest) in
      let front : take n (take k rest) ≡ take n rest = rw kn (take-take n (n + 1) rest (omega arith)) in
      let end : at + length (word ∷ take n rest) ≡ at + k = omega arith in
      rw (e, long, front, laid_in ws at (word ∷ take n rest) (omega arith), end, ← drop-drop k at ws)

-- ---- appending
-- a run behind a run
min-min : (a b n : ℕ) → min (min a n + b) n ≡ min (a + b) n
min-min a b n = omega arith

pub added_both : {out : List ℕ} {at : ℕ} {xs mid : List ℕ} {m : ℕ} {ys out' : List ℕ} {end : ℕ} → Added out at xs mid m → Added mid m ys out' end → Added out at (xs ++ ys) out' end
added_both {out} {at} {xs} {mid} {m} {ys} {out'} {end} p q =
    record {
      size = q.size ∙ p.size;
      end = rw (q.end, p.end, p.size, length-append, min-min) (omega arith);
      front = λ h.
          let l = length-append xs ys in
          let e : m ≡ at + length xs = omega (arith, p.end) in
          let z : at + length (xs ++ ys) ≡ m + length ys = omega arith in
          rw z (q.front (omega (arith, p.size)) ∙ rw (e, p.front (omega arith)) (append_assoc (take at out) xs ys));
    }

pub added : (out : List ℕ) (at : ℕ) (src out' : List ℕ) (e : ℕ) → e ≡ min (at + length src) (length out + 1) → out' ≡ laid out at src → Added out at src out' e
added out at src out' e h o = elim (dec_le (at + length src) (length out)) [
  | yes k ↦
      let w = laid_in out at src k in
      record {
        size = rw (o, w) (simp (length-append, length-take, length-drop) (omega arith));
        end = h;
        front = λ _. rw (o, w, ← append_assoc) (take_at (take at out ++ src) (drop (at + length src) out) (at + length src) (simp (length-append, length-take) (omega arith)));
      }
  | no k ↦ record { size = rw (o, laid_out out at src (omega arith)); end = h; front = λ x. absurd (k x) }
]

-- the empty run; `at` is an end that `append` answers, so it is at most one past the slice's
pub none_added : (out : List ℕ) (at : ℕ) → at ≤ length out + 1 → Added out at [] out at
none_added out at h =
    let z : at + 0 ≡ at = omega arith in
    record { size = refl; end = omega arith; front = λ k. rw z (sym (append-nil (take at out))) }

-- a run that is known by another name
pub added_as : {out : List ℕ} {at : ℕ} {xs ys out' : List ℕ} {e : ℕ} → xs ≡ ys → Added out at xs out' e → Added out at ys out' e
added_as h a = rw h at a

-- what `append` and its like answer
pub appended : {out : List ℕ} {at : ℕ} {src out' : List ℕ} {e : ℕ} → (e ≡ min (at + length src) (length out + 1)) × (out' ≡ laid out at src) → Added out at src out' e
appended {out} {at} {src} {out'} {e} h = added out at src out' e h.0 h.1

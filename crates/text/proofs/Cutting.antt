-- Laws of text cut at a separator: the first piece and those behind it, and the way back from pieces and lines to the text.
use mathlib.Core.Path.{◌≡◌, refl, sym, ◌∙◌, ap}
use mathlib.Core.Bool.{Bool, true, false, cond, not, ◌&&◌, and-eq-true_iff}
use mathlib.Core.List.{List, [], ◌∷◌, ◌++◌}
use Prim.Native.Nat.{ℕ, suc, ◌+◌, ◌≤◌, ◌<◌}
use native.Mathlib.Omega.{arith}
use lib.Dec.{eqb}
use lib.ListN.{length, take, drop, length-append}
use lib.Seq.{take-append_seam, drop-append-add}
use borrow.Author.Tests.{eqb-true, eqb-false, eq-eqb, ne_eqb, not-true}
use Rattle.std.specs.Prelude.{Some, None}
use Rattle.words.specs.Listed.{lacks, all}
use Rattle.text.specs.Bytes.{line_feed, printable, bad_line, index_of}
use Rattle.text.specs.Pieces.{Text, push, pieces, parted, lines_of, ended}
use Rattle.text.specs.Numbers.{is_digit, all_digits}

-- ---- a byte that a text lacks
lacks_head : (b x : ℕ) (xs : Text) → lacks b (x ∷ xs) ≡ true → eqb x b ≡ false
unfolding lacks
lacks_head b x xs h = not-true (eqb x b) ((and-eq-true_iff (not (eqb x b)) (lacks b xs)).0 h).0

lacks_tail : (b x : ℕ) (xs : Text) → lacks b (x ∷ xs) ≡ true → lacks b xs ≡ true
unfolding lacks
lacks_tail b x xs h = ((and-eq-true_iff (not (eqb x b)) (lacks b xs)).0 h).1

pub lacks-more : (b x : ℕ) (xs : Text) → eqb b x ≡ false → lacks b xs ≡ true → lacks b (x ∷ xs) ≡ true
unfolding lacks
lacks-more b x xs e h = rw (ne_eqb x b (λ q. eqb-false b x e (sym q)), h)

pub lacks-append : (b : ℕ) (p r : Text) → lacks b p ≡ true → lacks b r ≡ true → lacks b (p ++ r) ≡ true
unfolding lacks
lacks-append b [] r h k = k
lacks-append b (x ∷ p) r h k = rw (lacks_head b x p h) (lacks-append b p r (lacks_tail b x p h) k)

pub digits_lack : (b : ℕ) (p : Text) → is_digit b ≡ false → all_digits p ≡ true → lacks b p ≡ true
unfolding lacks all
digits_lack b [] d h = refl
digits_lack b (x ∷ p) d h =
    let r = (and-eq-true_iff (is_digit x) (all_digits p)).0 h in
    rw (ne_eqb x b (λ q. let z : ◌≡◌ {A = ℕ} 0 1 = cc (ap is_digit q) in omega arith)) (digits_lack b p d r.1)

-- ---- the first separator: the two answers of `index_of`, each with what it says of the text
pub data First (b : ℕ) : Text → ℕ → Type 0 where
  nowhere : (p : Text) → lacks b p ≡ true → First b p (length p)
  found : (p r : Text) → lacks b p ≡ true → First b (p ++ b ∷ r) (length p)

first_more : {b x k : ℕ} {s : Text} (t : Bool) → eqb x b ≡ t → First b s k → First b (x ∷ s) (cond t 0 (suc k))
unfolding lacks
first_more {b} {x} {k} {s} true e f = rw (eqb-true x b e) (found [] s refl)
first_more {b} {x} false e (nowhere p h) = nowhere (x ∷ p) (rw (e, h))
first_more {b} {x} false e (found p r h) = found (x ∷ p) r (rw (e, h))

pub first-at : (b : ℕ) (s : Text) → First b s (index_of b s)
unfolding index_of lacks
first-at b [] = nowhere [] refl
first-at b (x ∷ xs) = first_more (eqb x b) refl (first-at b xs)

pub index_within : (b : ℕ) (s : Text) → index_of b s ≤ length s
index_within b s = go (first-at b s)
  where
    go : {s : Text} {k : ℕ} → First b s k → k ≤ length s
    go (nowhere p h) = omega arith
    go (found p r h) = rw length-append (omega arith)

pub index_lacks : (b : ℕ) (p r : Text) → lacks b p ≡ true → index_of b (p ++ b ∷ r) ≡ length p
unfolding index_of
index_lacks b [] r h = rw (eq-eqb b b refl)
index_lacks b (x ∷ p) r h = rw (lacks_head b x p h, index_lacks b p r (lacks_tail b x p h))

pub index_none : (b : ℕ) (p : Text) → lacks b p ≡ true → index_of b p ≡ length p
unfolding index_of
index_none b [] h = refl
index_none b (x ∷ p) h = rw (lacks_head b x p h, index_none b p (lacks_tail b x p h))

-- ---- the first piece
pub pieces-join : (b : ℕ) (e : List Text) (p r : Text) → lacks b p ≡ true → pieces b e (p ++ b ∷ r) ≡ p ∷ pieces b e r
unfolding pieces
pieces-join b e [] r h = rw (eq-eqb b b refl)
pieces-join b e (x ∷ p) r h = rw (lacks_head b x p h, pieces-join b e p r (lacks_tail b x p h))

pub parted-one : (b : ℕ) (p : Text) → lacks b p ≡ true → parted b p ≡ p ∷ []
unfolding pieces
parted-one b [] h = refl
parted-one b (x ∷ p) h = rw (lacks_head b x p h, parted-one b p (lacks_tail b x p h))

-- a text that has a separator: its first piece, and the pieces behind
pub pieces_more : (b : ℕ) (e : List Text) (s : Text) → index_of b s < length s → pieces b e s ≡ take (index_of b s) s ∷ pieces b e (drop (index_of b s + 1) s)
pieces_more b e s = go (first-at b s)
  where
    go : {s : Text} {k : ℕ} → First b s k → k < length s → pieces b e s ≡ take k s ∷ pieces b e (drop (k + 1) s)
    go (nowhere p h) l = absurd (omega arith)
    go (found p r h) l = rw (take-append_seam, drop-append-add) (pieces-join b e p r h)

-- a text that has none is one piece
pub pieces_last : (b : ℕ) (s : Text) → length s ≤ index_of b s → parted b s ≡ s ∷ []
pieces_last b s = go (first-at b s)
  where
    go : {s : Text} {k : ℕ} → First b s k → length s ≤ k → parted b s ≡ s ∷ []
    go (nowhere p h) l = parted-one b p h
    go (found p r h) l = absurd (omega (arith, rw length-append at l))

-- a byte makes a piece
pub some-pieces : (b : ℕ) (e : List Text) (x : ℕ) (xs : Text) → 0 < length (pieces b e (x ∷ xs))
unfolding pieces
some-pieces b e x xs = go (eqb x b) (pieces b e xs)
  where
    go : (t : Bool) (ps : List Text) → 0 < length (cond t ([] ∷ ps) (push x ps))
    go true ps = omega arith
    go false [] = omega arith
    go false (p ∷ ps) = omega arith

pub some-parted : (b : ℕ) (s : Text) → 0 < length (parted b s)
unfolding pieces
some-parted b [] = omega arith
some-parted b (x ∷ xs) = some-pieces b ([] ∷ []) x xs

-- ---- the pieces joined again
unfoldable pub joined : ℕ → List Text → Text
joined b [] = []
joined b (p ∷ []) = p
joined b (p ∷ q ∷ ps) = p ++ b ∷ joined b (q ∷ ps)

joined_push : (b x : ℕ) (ps : List Text) → joined b (push x ps) ≡ x ∷ joined b ps
unfolding joined push
joined_push b x [] = refl
joined_push b x (p ∷ []) = refl
joined_push b x (p ∷ q ∷ ps) = refl

joined_more : (b : ℕ) (p : Text) (ps : List Text) → 0 < length ps → joined b (p ∷ ps) ≡ p ++ b ∷ joined b ps
unfolding joined
joined_more b p [] h = absurd (omega arith)
joined_more b p (q ∷ ps) h = refl

pub joined_parted : (b : ℕ) (s : Text) → joined b (parted b s) ≡ s
unfolding joined pieces
joined_parted b [] = refl
joined_parted b (x ∷ xs) = go (eqb x b) refl (joined_parted b xs)
  where
    go : (t : Bool) → eqb x b ≡ t → joined b (parted b xs) ≡ xs → joined b (cond t ([] ∷ parted b xs) (push x (parted b xs))) ≡ x ∷ xs
    go true e r = cc (eqb-true x b e, joined_more b [] (parted b xs) (some-parted b xs))
    go false e r = cc (joined_push b x (parted b xs))

-- ---- lines to text and back
unfoldable pub all_lack : ℕ → List Text → Bool
unfolding lacks
all_lack b [] = true
all_lack b (l ∷ ls) = lacks b l && all_lack b ls

pub lines-ended : (ls : List Text) → all_lack line_feed ls ≡ true → lines_of (ended ls) ≡ ls
unfolding ended pieces all_lack
lines-ended [] h = refl
lines-ended (l ∷ ls) h =
    let r = (and-eq-true_iff (lacks line_feed l) (all_lack line_feed ls)).0 h in
    pieces-join line_feed [] l (ended ls) r.0 ∙ ap (λ (k : List Text). l ∷ k) (lines-ended ls r.1)

ended-push : (x : ℕ) (ls : List Text) → 0 < length ls → ended (push x ls) ≡ x ∷ ended ls
unfolding ended push
ended-push x [] h = absurd (omega arith)
ended-push x (l ∷ ls) h = refl

-- bytes without a fault have none behind the first
bad_more : (n : ℕ) (f : Bool) (x : ℕ) (xs : Text) → bad_line n f (x ∷ xs) ≡ None → bad_line (cond (eqb x line_feed) (n + 1) n) (eqb x line_feed) xs ≡ None
unfolding bad_line
bad_more n f x xs h = go (eqb x line_feed) (printable x) h
  where
    go : (t u : Bool) → cond t (bad_line (n + 1) true xs) (cond u (bad_line n false xs) (Some n)) ≡ None → bad_line (cond t (n + 1) n) t xs ≡ None
    go true u h = h
    go false true h = h
    go false false h = absurd (let z : ◌≡◌ {A = ℕ} 0 1 = cc in omega arith)

ended-more : (x m : ℕ) (xs : Text) (t : Bool) → eqb x line_feed ≡ t → bad_line m t xs ≡ None → ended (lines_of xs) ≡ xs
    → ended (cond t ([] ∷ lines_of xs) (push x (lines_of xs))) ≡ x ∷ xs
unfolding bad_line ended
ended-more x m xs true e h r = cc (eqb-true x line_feed e)
ended-more x m [] false e h r = absurd (let z : ◌≡◌ {A = ℕ} 0 1 = cc in omega arith)
ended-more x m (y ∷ ys) false e h r = cc (ended-push x (lines_of (y ∷ ys)) (some-pieces line_feed [] y ys))

pub ended-lines : (n : ℕ) (f : Bool) (s : Text) → bad_line n f s ≡ None → ended (lines_of s) ≡ s
unfolding ended pieces
ended-lines n f [] h = refl
ended-lines n f (x ∷ xs) h =
    let m = bad_more n f x xs h in
    ended-more x _ xs (eqb x line_feed) refl m (ended-lines (cond (eqb x line_feed) (n + 1) n) (eqb x line_feed) xs m)

-- no piece has the separator
pub lines_lack : (b : ℕ) (s : Text) → all_lack b (pieces b [] s) ≡ true
unfolding pieces all_lack
lines_lack b [] = refl
lines_lack b (x ∷ xs) = by (eqb x b) refl (pieces b [] xs) (lines_lack b xs)
  where
    by : (t : Bool) → eqb x b ≡ t → (ps : List Text) → all_lack b ps ≡ true → all_lack b (cond t ([] ∷ ps) (push x ps)) ≡ true
    by true e ps h = h
    by false e [] h = rw e
    by false e (p ∷ ps) h = rw e h

-- Laws of tokens: reading what was written gives the words back, and of known words nothing else is read.
use mathlib.Core.Path.{◌≡◌, refl, sym, ◌∙◌, ap}
use mathlib.Core.Bool.{Bool, true, false, cond, ◌||◌, ◌&&◌, not, and-eq-true_iff}
use mathlib.Core.List.{List, [], ◌∷◌, ◌++◌, append-nil}
use mathlib.Core.Option.{Option, some, none}
use Prim.Native.Nat.{ℕ, zero, suc, ◌+◌, ◌*◌, ◌/◌, ◌%◌, ◌≤◌, ◌<◌}
use native.Mathlib.Omega.{arith}
use lib.Dec.{eqb, leb, eqb-suc-zero}
use lib.ListN.{length, get_or, length-append, get_or-eq_default}
use lib.Seq.{take-append_seam, drop-append-add}
use borrow.Author.Tests.{leb-true, leb-false, le-leb, lt-ltb, le-ltb}
use Rattle.words.specs.Listed.{lacks}
use Rattle.term.specs.Heads.{Head, unknown, named, fixed, counted, heads, reading, read}
use Rattle.term.proofs.Readings.{read_at}
use Rattle.text.specs.Pieces.{Text, space, colon, parted}
use Rattle.text.specs.Numbers.{is_digit, decimal, at_most, limited_to, number_in}
use Rattle.text.specs.Tokens.{is_labelled, known, carries, bare, paired, token_in, both, words_of, tokens_in, token, spaced, tokens}
use Rattle.text.proofs.Decimals.{number-decimal, decimal-number, decimal_digits}
use Rattle.text.proofs.Cutting.{First, nowhere, found, first-at, lacks-more, lacks-append, digits_lack, index_lacks, index_none}
use Rattle.text.proofs.Cutting.{pieces-join, parted-one, some-parted, joined, joined_parted}

-- ---- known words
bare_head : (h : Head) (a : ℕ) → is_labelled (reading h a) ≡ true → is_labelled (reading h 1) ≡ false → a ≡ 0
unfolding is_labelled reading
bare_head unknown a e f = cc
bare_head (named l c) a e f = cc
bare_head (fixed l c cs) zero e f = refl
bare_head (fixed l c cs) (suc a) e f = let z : false ≡ true = rw eqb-suc-zero at e in cc
bare_head (counted l c c') a e f = cc

-- a known word whose head is written bare carries 0
bare-word : (w : ℕ) → known w ≡ true → carries (w / 256) ≡ false → w % 256 ≡ 0
unfolding known carries read
bare-word w h f = bare_head (get_or heads (w / 256) unknown) (w % 256) h (sym (ap is_labelled (read_at (w / 256) 1 (omega arith))) ∙ f)

-- the table ends long before 255
known_head : (w : ℕ) → known w ≡ true → w / 256 ≤ 255
unfolding known read heads is_labelled reading
known_head w h = go (leb (w / 256) 255) refl
  where
    go : (t : Bool) → leb (w / 256) 255 ≡ t → w / 256 ≤ 255
    go true e = leb-true _ _ e
    go false e =
        let l : length heads ≤ w / 256 = omega (arith, leb-false (w / 256) 255 e) in
        let z : ◌≡◌ {A = ℕ} 0 1 = cc (get_or-eq_default heads unknown l) in omega arith

-- ---- a token read, by where its colon is
token-pair : (p r : Text) → lacks colon p ≡ true → token_in (p ++ colon ∷ r) ≡ paired (at_most 255 p) (at_most 255 r)
unfolding token_in
token-pair p r h = rw (index_lacks colon p r h, length-append, lt-ltb (length p) (length p + suc (length r)) (omega arith), take-append_seam, drop-append-add)

token-bare : (p : Text) → lacks colon p ≡ true → token_in p ≡ bare (at_most 255 p)
unfolding token_in
token-bare p h = rw (index_none colon p h, le-ltb (length p) (length p) (omega arith))

pub decimal-lacks : (b n : ℕ) → is_digit b ≡ false → lacks b (decimal n) ≡ true
decimal-lacks b n h = digits_lack b (decimal n) h (decimal_digits n)

decimal-part : (n : ℕ) → n ≤ 255 → at_most 255 (decimal n) ≡ some n
unfolding limited_to
decimal-part n h = rw (number-decimal, le-leb n 255 h)

pub token-read : (w : ℕ) → known w ≡ true → token_in (token w) ≡ some w
unfolding token is_digit paired bare
token-read w h = go (carries (w / 256)) refl
  where
    go : (t : Bool) → carries (w / 256) ≡ t → token_in (cond t (decimal (w / 256) ++ colon ∷ decimal (w % 256)) (decimal (w / 256))) ≡ some w
    go true e =
        let z : w / 256 * 256 + w % 256 ≡ w = omega arith in
        rw (token-pair _ _ (decimal-lacks colon (w / 256) refl), decimal-part _ (known_head w h), decimal-part (w % 256) (omega arith), e, z)
    go false e =
        let z : w / 256 * 256 ≡ w = omega (arith, bare-word w h e) in
        rw (token-bare _ (decimal-lacks colon (w / 256) refl), decimal-part _ (known_head w h), e, z)

-- ---- what a token was read from: the ways in which a part is read
data Part (s : Text) : Option ℕ → Type 0 where
  malformed : Part s none
  part : (n : ℕ) → s ≡ decimal n → n ≤ 255 → Part s (some n)

part_in : (s : Text) → Part s (at_most 255 s)
unfolding limited_to
part_in s = go (number_in s) refl
  where
    small : (n : ℕ) (t : Bool) → s ≡ decimal n → leb n 255 ≡ t → Part s (cond t (some n) none)
    small n true e h = part n e (leb-true n 255 h)
    small n false e h = malformed

    go : (o : Option ℕ) → number_in s ≡ o → Part s (limited_to 255 o)
    go none e = malformed
    go (some n) e = small n (leb n 255) (decimal-number s n e) refl

-- a word's token, by its two parts
token_of : (h a : ℕ) (t : Bool) → a ≤ 255 → carries h ≡ t → token (h * 256 + a) ≡ cond t (decimal h ++ colon ∷ decimal a) (decimal h)
unfolding token
token_of h a t l e =
    let q : (h * 256 + a) / 256 ≡ h = omega arith in
    let r : (h * 256 + a) % 256 ≡ a = omega arith in
    rw (q, r, e)

bare-written : {s : Text} {o : Option ℕ} (w : ℕ) → Part s o → bare o ≡ some w → s ≡ token w
unfolding bare
bare-written w malformed e = cc
bare-written {s} w (part h p l) e = go (carries h) refl e
  where
    go : (t : Bool) → carries h ≡ t → cond t none (some (h * 256)) ≡ some w → s ≡ token w
    go true c e = cc
    go false c e = let z : h * 256 + 0 ≡ h * 256 = omega arith in cc (token_of h 0 false (omega arith) c)

paired-written : {s r : Text} {o o' : Option ℕ} (w : ℕ) → known w ≡ true → Part s o → Part r o' → paired o o' ≡ some w → s ++ colon ∷ r ≡ token w
unfolding paired
paired-written w k malformed y e = cc
paired-written w k (part h p l) malformed e = cc
paired-written {s} {r} w k (part h p l) (part a q m) e = go (carries h) (known (h * 256 + a)) refl refl e
  where
    go : (t u : Bool) → carries h ≡ t → known (h * 256 + a) ≡ u → cond (t || not u) (some (h * 256 + a)) none ≡ some w → s ++ colon ∷ r ≡ token w
    go true u c d e = cc (token_of h a true m c)
    go false true c d e = cc
    go false false c d e = cc

pub token-written : (s : Text) (w : ℕ) → token_in s ≡ some w → known w ≡ true → s ≡ token w
token-written s w e k = go (first-at colon s) e
  where
    go : {s : Text} {i : ℕ} → First colon s i → token_in s ≡ some w → s ≡ token w
    go (nowhere p h) e = bare-written w (part_in p) (sym (token-bare p h) ∙ e)
    go (found p r h) e = paired-written w k (part_in p) (part_in r) (sym (token-pair p r h) ∙ e)

-- ---- the bytes of tokens
pub token-lacks : (b w : ℕ) → is_digit b ≡ false → eqb b colon ≡ false → lacks b (token w) ≡ true
unfolding token
token-lacks b w d c = go (carries (w / 256))
  where
    go : (t : Bool) → lacks b (cond t (decimal (w / 256) ++ colon ∷ decimal (w % 256)) (decimal (w / 256))) ≡ true
    go true = lacks-append b _ _ (decimal-lacks b (w / 256) d) (lacks-more b colon _ c (decimal-lacks b (w % 256) d))
    go false = decimal-lacks b (w / 256) d

pub spaced_lack : (b : ℕ) (ws : List ℕ) → is_digit b ≡ false → eqb b space ≡ false → eqb b colon ≡ false → lacks b (spaced ws) ≡ true
unfolding spaced lacks
spaced_lack b [] d s c = refl
spaced_lack b (w ∷ ws) d s c = lacks-more b space (token w ++ spaced ws) s (lacks-append b (token w) (spaced ws) (token-lacks b w d c) (spaced_lack b ws d s c))

-- ---- rows of tokens
unfoldable pub all_known : List ℕ → Bool
unfolding known
all_known [] = true
all_known (w ∷ ws) = known w && all_known ws

pub tokens-read : (w : ℕ) (ws : List ℕ) → all_known (w ∷ ws) ≡ true → tokens_in (tokens (w ∷ ws)) ≡ some (w ∷ ws)
unfolding all_known tokens_in words_of both tokens spaced is_digit
tokens-read w [] h = rw (append-nil, parted-one space (token w) (token-lacks space w refl refl), token-read w ((and-eq-true_iff (known w) true).0 h).0)
tokens-read w (v ∷ vs) h =
    let r = (and-eq-true_iff (known w) (all_known (v ∷ vs))).0 h in
    rw (pieces-join space ([] ∷ []) (token w) (token v ++ spaced vs) (token-lacks space w refl refl), token-read w r.0, tokens-read v vs r.1)

-- the pieces of a row beside the words read from them
data Row : List Text → List ℕ → Type 0 where
  end : Row [] []
  more : {p : Text} {ps : List Text} {w : ℕ} {ws : List ℕ} → token_in p ≡ some w → Row ps ws → Row (p ∷ ps) (w ∷ ws)

row_in_lem : (ps : List Text) (ws : List ℕ) → words_of ps ≡ some ws → Row ps ws
unfolding words_of both
row_in_lem [] [] e = end
row_in_lem [] (w ∷ ws) e = absurd (let z : ◌≡◌ {A = ℕ} 0 1 = cc in omega arith)
row_in_lem (p ∷ ps) ws e = go (token_in p) (words_of ps) refl e (row_in_lem ps)
  where
    go : (o : Option ℕ) (os : Option (List ℕ)) → token_in p ≡ o → both o os ≡ some ws → ((vs : List ℕ) → os ≡ some vs → Row ps vs) → Row (p ∷ ps) ws
    go none os f e r = absurd (let z : ◌≡◌ {A = ℕ} 0 1 = cc in omega arith)
    go (some w) none f e r = absurd (let z : ◌≡◌ {A = ℕ} 0 1 = cc in omega arith)
    go (some w) (some vs) f e r = let z : w ∷ vs ≡ ws = cc in rw (← z) (more f (r vs refl))

words-written : {ps : List Text} {ws : List ℕ} → Row ps ws → all_known ws ≡ true → joined space ps ≡ tokens ws
unfolding joined tokens spaced all_known
words-written end h = refl
words-written (more {p} {w = w} e end) h = rw append-nil (token-written p w e ((and-eq-true_iff (known w) true).0 h).0)
words-written (more {p} {w = w} e (more {w = v} {ws = vs} f r)) h =
    let k = (and-eq-true_iff (known w) (all_known (v ∷ vs))).0 h in
    cc (token-written p w e k.0, words-written (more f r) k.1)

pub tokens-written : (s : Text) (ws : List ℕ) → tokens_in s ≡ some ws → all_known ws ≡ true → s ≡ tokens ws
unfolding tokens_in
tokens-written s ws e h = sym (joined_parted space s) ∙ words-written (row_in_lem (parted space s) ws e) h

pub some-tokens : (s : Text) (ws : List ℕ) → tokens_in s ≡ some ws → 0 < length ws
unfolding tokens_in
some-tokens s ws e = go (row_in_lem (parted space s) ws e) (some-parted space s)
  where
    go : {ps : List Text} {vs : List ℕ} → Row ps vs → 0 < length ps → 0 < length vs
    go end h = h
    go (more f r) h = omega arith

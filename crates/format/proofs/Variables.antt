-- The text of a variable: it is read as that variable, and nothing else is.
use mathlib.Core.Path.{◌≡◌, refl, sym, ◌∙◌, ap}
use mathlib.Core.Bool.{Bool, true, false, cond, not}
use mathlib.Core.List.{List, [], ◌∷◌, ◌++◌, append-nil}
use mathlib.Core.Option.{Option, some, none}
use Prim.Native.Nat.{ℕ, zero, suc, ◌%◌, ◌≤◌, ◌<◌}
use native.Mathlib.Omega.{arith}
use borrow.Author.Tests.{eqb-true, ne_eqb, leb-true, le-leb}
use lib.Dec.{eqb}
use lib.ListN.{length, length-append, take-append-drop}
use lib.Seq.{take-length, drop-length, take-append_seam, drop-append_seam}
use Rattle.term.specs.Trees.{Forest, none as no-tree, ◌▹◌, words, Formed, Formed*}
use Rattle.term.specs.Parts.{parse, first, part}
use Rattle.term.proofs.Parsing.{accepted, parse-words}
use Rattle.declarations.specs.Declarations.{marked, is_index, is_variable}
use Rattle.declarations.proofs.Entries.{index_tests, variable_tests, square_told, turned}
use Rattle.text.specs.Pieces.{Text, space}
use Rattle.text.specs.Tokens.{spaced, tokens, tokens_in}
use Rattle.text.proofs.Written.{all_known, some-tokens, tokens-written}
use Rattle.format.specs.Files.{Variable, letter, written_words, variable_text}
use Rattle.format.specs.Reading.{kind_of_letter, words_behind, variable_with, variable_of, variable_in}
use Rattle.format.proofs.Known.{Told, index_told, told-read, part-whole, known-append}

empty : (xs : List ℕ) → length xs ≡ 0 → xs ≡ []
empty [] e = refl
empty (x ∷ xs) e = absurd (omega arith)

-- ---- the words behind the letter
tokens-spaced : (ws : List ℕ) → 0 < length ws → spaced ws ≡ space ∷ tokens ws
unfolding spaced tokens
tokens-spaced [] h = absurd (omega arith)
tokens-spaced (w ∷ ws) h = refl

behind-read : (ws : List ℕ) → Told ws → words_behind (spaced ws) ≡ some ws
unfolding words_behind
behind-read ws h = rw (tokens-spaced ws h.some_words) (told-read ws h)

behind-written : (s : Text) (ws : List ℕ) → words_behind s ≡ some ws → all_known ws ≡ true → s ≡ spaced ws
unfolding words_behind spaced
behind-written [] ws e h = let z : ws ≡ [] = cc in rw z
behind-written (b ∷ bs) ws e h = go (eqb b space) refl e
  where
    go : (t : Bool) → eqb b space ≡ t → cond t (tokens_in bs) none ≡ some ws → b ∷ bs ≡ spaced ws
    go true q e = cc (eqb-true b space q, tokens-written bs ws e h, tokens-spaced ws (some-tokens bs ws e))
    go false q e = cc

-- ---- an operator's first index is the first part
first-append : (xs ys : List ℕ) (f : Forest) → parse xs ≡ f → 0 < length xs → length (part xs 0) ≡ length xs → part (xs ++ ys) 0 ≡ xs
unfolding part first Formed
first-append xs ys no-tree e h k = absurd (omega (arith, ap (λ (g : Forest). length (first g)) e))
first-append xs ys (t ▹ f) e h k =
    let z : Formed* (t ▹ f) = rw e at (accepted xs).formed in
    let w : words t ≡ xs = sym (ap first e) ∙ part-whole xs k in
    ap first (rw w at (parse-words t z.0 ys)) ∙ w

both_told : (xs ys : List ℕ) → Told xs → Told ys → Told (xs ++ ys)
both_told xs ys h k =
    let l = h.some_words in
    record { some_words = rw length-append (omega arith); all_known_lem = known-append xs ys h.all_known_lem k.all_known_lem }

-- ---- read
module _ (N : ℕ) (xs ys : List ℕ) where
  abbrev read_as : ℕ → Variable
  read_as k = record { kind = k; first = xs; second = ys }

  abbrev Read : ℕ → Type 0
  Read k = variable_of (kind_of_letter (letter k)) (words_behind (spaced (written_words (read_as k)))) ≡ some (read_as k)

  one-read : (k : ℕ) → kind_of_letter (letter k) ≡ some k → eqb k 3 ≡ false → marked k ≡ false → Told xs → ys ≡ [] → Read k
  unfolding variable_of
  one-read k e n m h z = rw (e, m, z, append-nil xs, behind-read xs h, n, m, take-length, drop-length)

  marked-read : Told xs → xs ≡ ys → Read 7
  unfolding kind_of_letter variable_of
  marked-read h z = rw (behind-read xs h, take-length) (ap (λ (l : List ℕ). some (record { kind = 7; first = xs; second = l })) z)

  kind-read : (k : ℕ) → is_variable N k xs ys ≡ true → Read k
  unfolding kind_of_letter variable_of words_behind spaced
  kind-read zero e = let t = variable_tests N 0 xs ys e in rw (empty xs (eqb-true _ _ t.1), empty ys (eqb-true _ _ t.2))
  kind-read (suc zero) e = let t = variable_tests N 1 xs ys e in one-read 1 refl refl refl (index_told N xs t.1) (empty ys (eqb-true _ _ t.2))
  kind-read (suc (suc zero)) e = let t = variable_tests N 2 xs ys e in one-read 2 refl refl refl (index_told N xs t.1) (empty ys (eqb-true _ _ t.2))
  kind-read (suc (suc (suc zero))) e =
      let t = variable_tests N 3 xs ys e in
      let i = index_tests N xs t.1 in
      let b = both_told xs ys (index_told N xs t.1) (index_told N ys t.2) in
      rw (behind-read (xs ++ ys) b, first-append xs ys (parse xs) refl i.0 i.2, take-append_seam, drop-append_seam)
  kind-read (suc (suc (suc (suc k)))) e = by_mark (suc (suc (suc (suc k)))) (omega arith) e
    where
      by_mark : (n : ℕ) → 4 ≤ n → is_variable N n xs ys ≡ true → Read n
      by_mark n h e =
          let s = square_told n xs ys (variable_tests N n xs ys e).0 (le-leb 4 n h) in
          rw s.0 (marked-read (index_told N xs (variable_tests N 7 xs ys (rw s.0 at e)).1) s.1)

pub variable_read : (N : ℕ) (v : Variable) → is_variable N v.kind v.first v.second ≡ true → variable_in (variable_text v) ≡ some v
unfolding variable_in variable_text
variable_read N v e = kind-read N v.first v.second v.kind e

-- ---- written
wanted-known : (N : ℕ) (xs : List ℕ) (t : Bool) → cond t (eqb (length xs) 0) (is_index N xs) ≡ true → all_known xs ≡ true
unfolding all_known
wanted-known N xs true e = rw (empty xs (eqb-true _ _ e))
wanted-known N xs false e = (index_told N xs e).all_known_lem

variable_known : (N k : ℕ) (xs ys : List ℕ) → is_variable N k xs ys ≡ true → all_known (written_words (record { kind = k; first = xs; second = ys })) ≡ true
variable_known N k xs ys e = go (marked k)
  where
    first-known : all_known xs ≡ true
    first-known = wanted-known N xs (eqb (k % 4) 0) (variable_tests N k xs ys e).1

    second-known : all_known ys ≡ true
    second-known = wanted-known N ys (not (eqb (k % 4) 3)) (sym (turned (eqb (k % 4) 3) _ _) ∙ (variable_tests N k xs ys e).2)

    go : (m : Bool) → all_known (cond m xs (xs ++ ys)) ≡ true
    go true = first-known
    go false = known-append xs ys first-known second-known

kind-letter : (b k : ℕ) → kind_of_letter b ≡ some k → b ≡ letter k
unfolding kind_of_letter
kind-letter b k e = go (eqb b 83) (eqb b 75) (eqb b 66) (eqb b 79) (eqb b 85) refl refl refl refl refl e
  where
    is : (m : ℕ) → some m ≡ some k → b ≡ letter m → b ≡ letter k
    is m e h = let z : m ≡ k = cc in rw z at h

    go : (s t u v w : Bool) → eqb b 83 ≡ s → eqb b 75 ≡ t → eqb b 66 ≡ u → eqb b 79 ≡ v → eqb b 85 ≡ w
        → cond s (some 0) (cond t (some 1) (cond u (some 2) (cond v (some 3) (cond w (some 7) none)))) ≡ some k → b ≡ letter k
    go true t u v w p q r s x e = is 0 e (eqb-true _ _ p)
    go false true u v w p q r s x e = is 1 e (eqb-true _ _ q)
    go false false true v w p q r s x e = is 2 e (eqb-true _ _ r)
    go false false false true w p q r s x e = is 3 e (eqb-true _ _ s)
    go false false false false true p q r s x e = is 7 e (eqb-true _ _ x)
    go false false false false false p q r s x e = cc

made : (k : ℕ) (ws : List ℕ) (v : Variable) → variable_of (some k) (some ws) ≡ some v → (k ≡ v.kind) × (ws ≡ written_words v)
unfolding variable_of
made k ws v e =
    let z : variable_with k ws ≡ v = cc in
    (ap (λ (u : Variable). u.kind) z, split (marked k) refl ∙ ap written_words z)
  where
    split : (m : Bool) → marked k ≡ m → ws ≡ written_words (variable_with k ws)
    split true m = let h = leb-true 4 k m in rw (m, ne_eqb k 3 (λ z. omega arith)) (sym (take-length ws))
    split false m = rw (m) (sym (take-append-drop (cond (eqb k 3) (length (part ws 0)) (length ws)) ws))

pub variable_written : (N : ℕ) (s : Text) (v : Variable) → variable_in s ≡ some v → is_variable N v.kind v.first v.second ≡ true → s ≡ variable_text v
unfolding variable_in variable_text variable_of
variable_written N [] v e h = cc
variable_written N (b ∷ bs) v e h = go (kind_of_letter b) (words_behind bs) refl refl e
  where
    go : (o : Option ℕ) (os : Option (List ℕ)) → kind_of_letter b ≡ o → words_behind bs ≡ os → variable_of o os ≡ some v
        → b ∷ bs ≡ letter v.kind ∷ spaced (written_words v)
    go none os p q e = cc
    go (some k) none p q e = cc
    go (some k) (some ws) p q e =
        let m = made k ws v e in
        cc (kind-letter b v.kind (rw m.0 at p), behind-written bs (written_words v) (rw m.1 at q) (variable_known N v.kind v.first v.second h))

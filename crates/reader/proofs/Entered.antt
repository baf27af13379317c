-- The entry: codes 1, 2 and 3, and the words that a fault or a file leaves.
use mathlib.Core.Path.{◌≡◌, refl, sym, ◌∙◌, ap}
use mathlib.Core.Bool.{true, false}
use mathlib.Core.List.{List}
use Prim.Native.Nat.{ℕ, ◌≤◌, ◌<◌}
use native.Mathlib.Omega.{arith}
use borrow.Author.Tests.{le-leb, lt-leb, eq-eqb, ne_eqb}
use lib.ListN.{length, replicate}
use Rattle.std.specs.Prelude.{◌≢◌, Some, None, Result, Err, is_err}
use Rattle.words.specs.Words.{cleared}
use Rattle.term.specs.Terms.{max_words}
use Rattle.declarations.specs.Declarations.{size}
use Rattle.text.specs.Bytes.{bad_line}
use Rattle.text.specs.Pieces.{Text, lines_of}
use Rattle.format.specs.Files.{File, max_bytes}
use Rattle.format.specs.Kept.{steps_size}
use Rattle.format.specs.Reading.{behind_bytes, Reading, fault, read, read_from, nothing, read_of}
use Rattle.reader.specs.declared.files.Read.{Read}
use Rattle.reader.specs.Answers.{answer_of, slice, sized, read_answer, after, Done}
use Rattle.reader.specs.declared.faults.Fault.{Fault}
use Rattle.reader.specs.Code.Lines as L
use Rattle.reader.specs.Code.Holding.{Found}
use Rattle.reader.proofs.Behind.{cleared-all}

-- ---- 2 and 3
module _ (bytes : Text) where
  pub too_long : {e : Fault} → e ≡ L.fault 2 0 → max_bytes < length bytes → Err e ≡ answer_of (read_of bytes)
  unfolding read_of answer_of
  too_long e h = rw (e, lt-leb (length bytes) max_bytes h)

  pub bad_byte : {n : ℕ} {e : Fault} → length bytes ≤ max_bytes → bad_line 1 false bytes ≡ Some n → e ≡ L.fault 3 n → Err e ≡ answer_of (read_of bytes)
  unfolding read_of behind_bytes answer_of
  bad_byte h b e = rw (e, le-leb (length bytes) max_bytes h, b)

pub lines-found : (bytes : Text) {r : Result Read Fault} {ds ls rs ms : List ℕ} → length bytes ≤ max_bytes → bad_line 1 false bytes ≡ None → Found (read_from 1 0 nothing (lines_of bytes)) r ds ls rs ms
    → Found (read_of bytes) r ds ls rs ms
unfolding read_of behind_bytes
lines-found bytes few fine f = rw (le-leb (length bytes) max_bytes few, fine) f

-- ---- what a fault leaves, and what a file leaves
fault-slice : (n : ℕ) (ws : List ℕ) (made : File → List ℕ) (x : Reading) → is_err (answer_of x) ≡ true → length ws ≡ n → replicate n 0 ≡ slice x ws made
unfolding answer_of slice
fault-slice n ws made (fault c k) h l = rw l
fault-slice n ws made (read f) h l = absurd (let z : ◌≡◌ {A = ℕ} 0 1 = cc in omega arith)

file-slice : (bytes : Text) (ws : List ℕ) {out : List ℕ} (made : File → List ℕ) (x : Reading) → read_of bytes ≡ x → is_err (answer_of x) ≡ false
    → ((f : File) → read_of bytes ≡ read f → out ≡ made f) → out ≡ slice x ws made
unfolding answer_of slice
file-slice bytes ws made (fault c k) e h w = absurd (let z : ◌≡◌ {A = ℕ} 0 1 = cc in omega arith)
file-slice bytes ws made (read f) e h w = w f e

-- ---- the sizes
module _ (bytes ds left right steps : List ℕ) where
  -- the first slice of another size, of which none is then touched
  module _ {e : Fault} (a : e ≡ L.fault 1 0) where
    unsized : sized ds left right steps ≡ false → Done bytes ds left right steps (Err e) ds left right steps
    unfolding read_answer after
    unsized e = record { answer = rw (a, e); declarations = rw e; lefts = rw e; rights = rw e; moves = rw e }

    pub no_declarations : length ds ≢ size → Done bytes ds left right steps (Err e) ds left right steps
    unfolding sized
    no_declarations n = unsized (rw (ne_eqb _ _ n))

    module _ (d : length ds ≡ size) where
      pub no_left : length left ≢ max_words → Done bytes ds left right steps (Err e) ds left right steps
      unfolding sized
      no_left n = unsized (rw (eq-eqb _ _ d, ne_eqb _ _ n))

      module _ (l : length left ≡ max_words) where
        pub no_right : length right ≢ max_words → Done bytes ds left right steps (Err e) ds left right steps
        unfolding sized
        no_right n = unsized (rw (eq-eqb _ _ d, eq-eqb _ _ l, ne_eqb _ _ n))

        pub no_steps : length right ≡ max_words → length steps ≢ steps_size → Done bytes ds left right steps (Err e) ds left right steps
        unfolding sized
        no_steps r n = unsized (rw (eq-eqb _ _ d, eq-eqb _ _ l, eq-eqb _ _ r, ne_eqb _ _ n))

  -- all four of their sizes
  module _ (d : length ds ≡ size) (l : length left ≡ max_words) (r : length right ≡ max_words) (m : length steps ≡ steps_size) {a : Result Read Fault} {es ks qs ns : List ℕ}
      (x : Found (read_of bytes) a es ks qs ns) where
    all-sized : sized ds left right steps ≡ true
    unfolding sized
    all-sized = rw (eq-eqb _ _ d, eq-eqb _ _ l, eq-eqb _ _ r, eq-eqb _ _ m)

    answered : a ≡ read_answer bytes ds left right steps
    unfolding read_answer
    answered = x.answer ∙ rw all-sized

    -- a fault's zeros
    module _ (c : is_err a ≡ true) where
      zeros : (n : ℕ) (ws out : List ℕ) {out' : List ℕ} (made : File → List ℕ) → length ws ≡ n → length out ≡ n → out' ≡ cleared out 0
          → out' ≡ after bytes ds left right steps ws made
      unfolding after
      zeros n ws out made l m o = o ∙ cleared-all out n m ∙ rw all-sized (fault-slice n ws made (read_of bytes) (sym (ap is_err x.answer) ∙ c) l)

      pub done-fault : length es ≡ size → length ks ≡ max_words → length qs ≡ max_words → length ns ≡ steps_size → {es' ks' qs' ns' : List ℕ} → es' ≡ cleared es 0 → ks' ≡ cleared ks 0
          → qs' ≡ cleared qs 0 → ns' ≡ cleared ns 0 → Done bytes ds left right steps a es' ks' qs' ns'
      done-fault d' l' r' m' o p q s = record { answer = answered; declarations = zeros _ _ es _ d d' o; lefts = zeros _ _ ks _ l l' p; rights = zeros _ _ qs _ r r' q; moves = zeros _ _ ns _ m m' s }

    -- a file's words
    module _ (c : is_err a ≡ false) where
      words : (ws : List ℕ) {out : List ℕ} (made : File → List ℕ) → ((f : File) → read_of bytes ≡ read f → out ≡ made f) → out ≡ after bytes ds left right steps ws made
      unfolding after
      words ws made w = rw all-sized (file-slice bytes ws made (read_of bytes) refl (sym (ap is_err x.answer) ∙ c) w)

      pub done-file : Done bytes ds left right steps a es ks qs ns
      done-file =
          let w = x.words in
          record { answer = answered; declarations = words _ _ (λ f k. (w f k).0); lefts = words _ _ (λ f k. (w f k).1); rights = words _ _ (λ f k. (w f k).2); moves = words _ _ (λ f k. (w f k).3) }

-- The words of a name, and a term in its slice.
use mathlib.Core.Path.{◌≡◌, refl, sym, ◌∙◌, ap}
use mathlib.Core.Logic.{◌≢◌}
use mathlib.Core.Bool.{Bool, true, false}
use mathlib.Core.List.{List, [], ◌∷◌}
use mathlib.Core.Option.{some, none}
use Prim.Native.Nat.{ℕ, ◌-◌, ◌≤◌, ◌<◌}
use native.Mathlib.Omega.{arith}
use borrow.Author.Tests.{eq-eqb, ne_eqb, leb-true, leb-false}
use lib.Dec.{leb}
use lib.ListN.{length, take, drop, get_or, replicate, length-replicate}
use Rattle.std.specs.Prelude.{Ok, Err, Some, None}
use Rattle.words.specs.Words.{cleared}
use Rattle.term.specs.declared.terms.Names.{Names}
use Rattle.term.specs.Terms.{max_words, term_words, is_term}
use Rattle.term.proofs.TermTest.{term_in, term-past, term-long, term-tree}
use Rattle.declarations.specs.Declarations.{names_in}
use Rattle.text.specs.Pieces.{Text, space, parted}
use Rattle.text.specs.Numbers.{told}
use Rattle.text.specs.Tokens.{tokens_in, stored}
use Rattle.text.proofs.Told.{told-none, told_some}
use Rattle.format.specs.Files.{File, WellDeclared, names_of}
use Rattle.format.specs.Reading.{words_behind, take_term}
use Rattle.format.specs.Kept.{declarations_of, padded}
use Rattle.format.proofs.Declared.{names-declared}
use Rattle.format.proofs.Padded.{stored-front, stored-words, stored-size}
use Rattle.reader.specs.declared.faults.Fault.{Fault}
use Rattle.reader.specs.Code.Lines.{fault, refused, taken, WordsRead, malformed, too_many, few, Placed}

-- so many words of a slice, as they were read into it
front-words : (s : Text) (out : List ℕ) {ws out' : List ℕ} {n : ℕ} → tokens_in s ≡ some ws → n ≡ length ws → out' ≡ stored (parted space s) out 0 → n ≤ length out → take n out' ≡ ws
front-words s out {ws} e f g h = rw (g, f) (stored-front s ws out e (omega arith))

-- ---- the words of a name
module _ (s : Text) (out : List ℕ) {out' : List ℕ} (o : out' ≡ stored (parted space s) out 0) where
  size_kept : length out' ≡ length out
  size_kept = ap length o ∙ stored-size (parted space s) out 0

  pub no_words : {line : ℕ} {e : Fault} → told length (tokens_in s) ≡ None → e ≡ fault 5 line → WordsRead (tokens_in s) line out out' (Err e)
  no_words t e = rw e (malformed size_kept (told-none _ _ t))

  pub words_over : {line n : ℕ} {e : Fault} → told length (tokens_in s) ≡ Some n → length out < n → e ≡ fault 7 line → WordsRead (tokens_in s) line out out' (Err e)
  words_over t l e = let w = told_some _ _ t in let z = w.2 in rw e (too_many size_kept w.1 (omega arith))

  pub words_few : {line n : ℕ} → told length (tokens_in s) ≡ Some n → n ≤ length out → WordsRead (tokens_in s) line out out' (Ok n)
  words_few t l = let w = told_some _ _ t in let z = w.2 in few size_kept w.1 z l (front-words s out w.1 z o l)

-- ---- those behind a letter
pub behind-none : (s : Text) {line : ℕ} (out : List ℕ) → length s ≡ 0 → WordsRead (words_behind s) line out out (Ok 0)
unfolding words_behind
behind-none [] out h = few refl refl refl (omega arith) refl
behind-none (b ∷ s) out h = absurd (omega arith)

pub behind_unspaced : (s : Text) {line : ℕ} {e : Fault} (out : List ℕ) → 0 < length s → get_or s 0 0 ≢ 32 → e ≡ fault 5 line → WordsRead (words_behind s) line out out (Err e)
unfolding words_behind
behind_unspaced [] out h g e = absurd (omega arith)
behind_unspaced (b ∷ s) out h g e = rw e (malformed refl (rw (ne_eqb b space g)))

pub behind-tokens : (s : Text) → 0 < length s → get_or s 0 0 ≡ 32 → words_behind s ≡ tokens_in (drop 1 s)
unfolding words_behind
behind-tokens [] h g = absurd (omega arith)
behind-tokens (b ∷ s) h g = rw (eq-eqb b space g)

-- ---- a term in its slice
pub no_tokens_placed : (f : File) (s : Text) {line : ℕ} {e : Fault} {out : List ℕ} → tokens_in s ≡ none → e ≡ fault 5 line → Placed f line s (Err e) out
unfolding take_term
no_tokens_placed f s n a = record { answer = λ put. rw (n, a) refused; words = λ ws k t. absurd (let z : ◌≡◌ {A = ℕ} 0 1 = cc in omega arith) }

-- the slice was cleared before
pub cleared-all : (ws : List ℕ) (n : ℕ) → length ws ≡ n → cleared ws 0 ≡ replicate n 0
unfolding cleared
cleared-all ws n e = let z : length ws - 0 ≡ n = omega arith in rw z

term_few : (N : Names) (ws : List ℕ) → term_words N ws ≡ true → length ws ≤ max_words
term_few N ws e = let t = term-tree N ws e in rw (sym t.1) t.2.short

-- what is read into it, and the test of a term there, which is that of its words
module _ (s : Text) (before ws : List ℕ) {out : List ℕ} {n : ℕ} (k : tokens_in s ≡ some ws) (l : n ≡ length ws) (z : length before ≡ max_words)
    (o : out ≡ stored (parted space s) (cleared before 0) 0) where
  in_zeros : out ≡ stored (parted space s) (replicate max_words 0) 0
  in_zeros = rw (cleared-all before max_words z) at o

  size_is : length out ≡ max_words
  size_is = rw in_zeros (stored-size (parted space s) (replicate max_words 0) 0 ∙ length-replicate {A = ℕ} max_words 0)

  test_by : (N : Names) (t : Bool) → leb (length ws) max_words ≡ t → is_term N out n ≡ term_words N ws
  test_by N true f =
      let h = leb-true (length ws) max_words f in
      let i = size_is in
      term_in N out n (omega arith)
      ∙ ap (term_words N) (front-words s (replicate max_words 0) k l in_zeros (omega (arith, length-replicate {A = ℕ} max_words 0)))
  test_by N false f =
      let h = leb-false (length ws) max_words f in
      let i = size_is in term-past N out n (omega arith) ∙ sym (term-long N ws (omega arith) (omega arith))

  test_is : (N : Names) → is_term N out n ≡ term_words N ws
  test_is N = test_by N (leb (length ws) max_words) refl

  words_in_lem : (N : Names) → term_words N ws ≡ true → out ≡ padded ws
  words_in_lem N t = in_zeros ∙ stored-words s ws k (term_few N ws t)

  module _ (f : File) (sound : WellDeclared f) (ds : List ℕ) (e : ds ≡ declarations_of f) {N : Names} (m : N ≡ names_in ds) where
    names-are : N ≡ names_of f
    names-are = m ∙ rw e (names-declared f sound)

    pub no_term_placed : {line : ℕ} {x : Fault} → is_term N out n ≡ false → x ≡ fault 8 line → Placed f line s (Err x) out
    unfolding take_term
    no_term_placed t a =
        let u : term_words (names_of f) ws ≡ false = sym (test_is (names_of f)) ∙ (rw names-are at t) in
        record { answer = λ put. rw (k, u, a) refused; words = λ vs p q. absurd (let z : ws ≡ vs = cc in let y : ◌≡◌ {A = ℕ} 0 1 = cc in omega arith) }

    pub term_placed : {line : ℕ} → is_term N out n ≡ true → Placed f line s (Ok n) out
    unfolding take_term
    term_placed t =
        let u : term_words (names_of f) ws ≡ true = sym (test_is (names_of f)) ∙ (rw names-are at t) in
        record { answer = λ put. rw (k, u) taken; words = λ vs p q. let z : ws ≡ vs = cc in (words_in_lem (names_of f) u ∙ rw z, ap Ok (l ∙ rw z)) }

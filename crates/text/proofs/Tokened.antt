-- What the code finds of a token and of a row of them, and what the definition says.
use mathlib.Core.Path.{◌≡◌, refl, sym, ◌∙◌}
use mathlib.Core.Bool.{Bool, true, false, cond}
use mathlib.Core.List.{List, [], ◌∷◌, ◌++◌}
use mathlib.Core.Option.{Option, some, none, Option-elim}
use Prim.Native.Nat.{ℕ, suc, ◌+◌, ◌-◌, ◌*◌, ◌≤◌, ◌<◌}
use native.Mathlib.Omega.{arith}
use borrow.Author.Tests.{ltb-true, ltb-false, le-leb, lt-leb, eqb-true}
use lib.Dec.{eqb, ltb}
use lib.ListN.{length, take, drop, set, get_or, get_or-append, length-append, length-drop}
use lib.Seq.{take_all, drop-drop, get_or-append_seam}
use Rattle.words.specs.Listed.{lacks}
use Rattle.words.proofs.Runs.{to_end}
use Rattle.text.specs.Bytes.{index_of}
use Rattle.term.specs.Heads.{Reading, unread, labelled, read, arity_in, arity_of}
use Rattle.std.specs.Prelude as Code
use Rattle.std.specs.Prelude.{Some, None, is_some, position, MatchBool}
use Rattle.std.specs.List.{IsFirstMatchOrLen}
use Rattle.text.specs.Numbers.{at_most, told}
use Rattle.text.specs.Pieces.{Text, space, colon, parted, piece_end, fields_from}
use Rattle.text.specs.Tokens.{is_labelled, known, carries, bare, paired, token_in, both, words_of, stored}
use Rattle.text.proofs.Cutting.{index_within, parted-one, pieces-join, pieces_more, pieces_last}
use Rattle.text.proofs.Scanned.{find_is}

-- ---- a known word
pub known_is : (w : ℕ) → is_some (arity_of w) ≡ known w
unfolding known arity_of arity_in is_labelled
known_is w = go (read w)
  where
    go : (r : Reading) → is_some (arity_in r) ≡ is_labelled r
    go unread = refl
    go (labelled l m) = refl

-- ---- one token
pub bare-none : bare none ≡ none
unfolding bare
bare-none = refl

pub paired_none : (a : Option ℕ) → paired none a ≡ none
unfolding paired
paired_none a = refl

pub half_paired : (h : Option ℕ) {a : Option ℕ} → a ≡ none → paired h a ≡ none
unfolding paired
half_paired none e = refl
half_paired (some h) e = rw e

-- by whether it has a colon
pub token-bare : (s : Text) → position (λ x. eqb x colon) s ≡ None → token_in s ≡ bare (at_most 255 s)
unfolding token_in
token-bare s e = go (ltb (index_of colon s) (length s)) refl (sym (find_is colon s) ∙ e)
  where
    go : (t : Bool) → ltb (index_of colon s) (length s) ≡ t → cond t (Some (index_of colon s)) None ≡ None → token_in s ≡ bare (at_most 255 s)
    go true p q = absurd (let z : ◌≡◌ {A = ℕ} 0 1 = cc in omega arith)
    go false p q = rw p

pub token-paired : (s : Text) {i : ℕ} → position (λ x. eqb x colon) s ≡ Some i
    → token_in s ≡ paired (at_most 255 (take i s)) (at_most 255 (take (length s - (i + 1)) (drop (i + 1) s)))
unfolding token_in
token-paired s {i} e = go (ltb (index_of colon s) (length s)) refl (sym (find_is colon s) ∙ e)
  where
    go : (t : Bool) → ltb (index_of colon s) (length s) ≡ t → cond t (Some (index_of colon s)) None ≡ Some i
        → token_in s ≡ paired (at_most 255 (take i s)) (at_most 255 (take (length s - (i + 1)) (drop (i + 1) s)))
    go true p q = let z : index_of colon s ≡ i = cc in rw (p, z, to_end s (i + 1))
    go false p q = absurd (let z : ◌≡◌ {A = ℕ} 0 1 = cc in omega arith)

-- what the code finds of the word that it made
pub found-known : {w v : ℕ} {b t : Bool} → b ≡ known w → w ≡ v → b ≡ t → known v ≡ t
found-known e f g = cc

-- a head alone, and a head with its part; `carries h` as the code tests it
module _ (h : ℕ) where
  pub bare_carrying : known (h * 256 + 1) ≡ true → bare (some h) ≡ none
  unfolding bare carries
  bare_carrying e = rw e

  pub bare_other : known (h * 256 + 1) ≡ false → bare (some h) ≡ some (h * 256 + 0)
  unfolding bare carries
  bare_other e = let z : h * 256 + 0 ≡ h * 256 = omega arith in rw (e, z)

  module _ (a : ℕ) where
    pub pair_carrying : known (h * 256 + 1) ≡ true → paired (some h) (some a) ≡ some (h * 256 + a)
    unfolding paired carries
    pair_carrying e = rw e

    pub pair-known : known (h * 256 + 1) ≡ false → known (h * 256 + a) ≡ true → paired (some h) (some a) ≡ none
    unfolding paired carries
    pair-known e f = rw (e, f)

    pub pair-unknown : known (h * 256 + 1) ≡ false → known (h * 256 + a) ≡ false → paired (some h) (some a) ≡ some (h * 256 + a)
    unfolding paired carries
    pair-unknown e f = rw (e, f)

-- ---- a row of tokens: the first field from an offset on, and those behind it
first_field : (s : Text) (at i : ℕ) (t : Bool) → ltb i (length (drop at s)) ≡ t → i ≡ index_of space (drop at s) → at ≤ length s
    → parted space (drop at s) ≡ take i (drop at s) ∷ fields_from (at + i + 1) s
unfolding fields_from
first_field s at i true f e h =
    let l = length-drop at s in
    let g = ltb-true i (length (drop at s)) f in
    let z : at + i + 1 ≡ at + (i + 1) = omega arith in
    rw (le-leb (at + i + 1) (length s) (omega arith), z, ← drop-drop (i + 1) at s, e) (pieces_more space ([] ∷ []) (drop at s) (omega arith))
first_field s at i false f e h =
    let l = length-drop at s in
    let g = ltb-false i (length (drop at s)) f in
    let w = index_within space (drop at s) in
    rw (lt-leb (at + i + 1) (length s) (omega arith), take_all i (drop at s) g) (pieces_last space (drop at s) (omega arith))

pub fields_more : (s : Text) (at : ℕ) {end : ℕ} → end ≡ piece_end s at space → at ≤ length s → fields_from at s ≡ take (end - at) (drop at s) ∷ fields_from (end + 1) s
unfolding fields_from piece_end
fields_more s at {end} e h =
    let z : end - at ≡ index_of space (drop at s) = omega arith in
    rw (le-leb at (length s) h, z, e) (first_field s at _ (ltb (index_of space (drop at s)) (length (drop at s))) refl refl h)

pub piece-within : (s : Text) (at : ℕ) {end : ℕ} → end ≡ piece_end s at space → at ≤ length s → (at ≤ end) × (end ≤ length s)
unfolding piece_end
piece-within s at e h = let w = index_within space (drop at s) in let l = length-drop at s in (omega arith, omega arith)

pub fields_all : (s : Text) → fields_from 0 s ≡ parted space s
unfolding fields_from
fields_all s = rw (le-leb 0 (length s) (omega arith))

pub fields_end : (s : Text) (at : ℕ) → length s < at → fields_from at s ≡ []
unfolding fields_from
fields_end s at h = rw (lt-leb at (length s) h)

-- what `split` has left, by whether it is done
abbrev pub left : Bool → Text → List Text
left done rest = cond done [] (parted space rest)

lacks-by : (b : ℕ) (x : Text) → ((k d : ℕ) → 0 ≤ k → k < length x → eqb (get_or x k d) b ≡ false) → lacks b x ≡ true
unfolding lacks
lacks-by b [] h = refl
lacks-by b (c ∷ x) h = rw (h 0 0 (omega arith) (omega arith)) (lacks-by b x (λ k d l m. h (suc k) d (omega arith) (omega arith)))

-- the piece that it gives
pub piece_split : (done : Bool) (rest rest' x : Text) → MatchBool done (rest ≡ x) ((y : ℕ) × (rest ≡ x ++ (y ∷ rest'))) → IsFirstMatchOrLen (λ c. eqb c space) rest (length x)
    → parted space rest ≡ x ∷ left done rest'
piece_split true rest r x e f = let g = rw e at f in rw e (parted-one space x (lacks-by space x (λ k d l m. g.0 k d l m)))
piece_split false rest r x e f =
    let y = e.0 in
    let g = rw e.1 at f in
    let s = eqb-true y space (rw (get_or-append_seam x y r 0) at (g.1 (omega (arith, length-append x (y ∷ r))) 0)) in
    rw (e.1, s) (pieces-join space ([] ∷ []) x r (lacks-by space x (λ k d l m. rw (get_or-append x (y ∷ r) d k m) at (g.0 k d l m))))

-- what is left behind a piece is shorter
pub left_shorter : (done : Bool) (rest rest' x : Text) → MatchBool done (rest ≡ x) ((y : ℕ) × (rest ≡ x ++ (y ∷ rest'))) → done ≡ false → length rest' < length rest
left_shorter true rest r x e f = absurd (let z : ◌≡◌ {A = ℕ} 0 1 = cc in omega arith)
left_shorter false rest r x e f = rw (e.1, length-append x (e.0 ∷ r)) (omega arith)

-- how many words there are, behind n others
abbrev pub counted : ℕ → Option (List ℕ) → Code.Option ℕ
counted n none = None
counted n (some ws) = Some (n + length ws)

pub counted-all : (o : Option (List ℕ)) → told length o ≡ counted 0 o
unfolding told
counted-all none = refl
counted-all (some ws) = let z : 0 + length ws ≡ length ws = omega arith in rw z

module _ (p : Text) (ps : List Text) where
  pub counted-more : (n : ℕ) {w : ℕ} → token_in p ≡ some w → counted n (words_of (p ∷ ps)) ≡ counted (n + 1) (words_of ps)
  unfolding words_of both
  counted-more n {w} e = rw e (go (words_of ps))
    where
      go : (o : Option (List ℕ)) → counted n (both (some w) o) ≡ counted (n + 1) o
      go none = refl
      go (some ws) = let z : n + suc (length ws) ≡ n + 1 + length ws = omega arith in rw z

  pub counted_none : (n : ℕ) → token_in p ≡ none → counted n (words_of (p ∷ ps)) ≡ None
  unfolding words_of both
  counted_none n e = rw e

  pub stored_more : (out : List ℕ) (k : ℕ) {w : ℕ} → token_in p ≡ some w → stored (p ∷ ps) out k ≡ stored ps (set out k w) (k + 1)
  unfolding stored Option-elim
  stored_more out k e = rw e

  pub stored-none : (out : List ℕ) (k : ℕ) → token_in p ≡ none → stored (p ∷ ps) out k ≡ out
  unfolding stored Option-elim
  stored-none out k e = rw e

pub counted-end : (n : ℕ) → counted n (words_of []) ≡ Some n
unfolding words_of
counted-end n = let z : n + 0 ≡ n = omega arith in rw z

pub stored-end : (out : List ℕ) (k : ℕ) → stored [] out k ≡ out
unfolding stored
stored-end out k = refl

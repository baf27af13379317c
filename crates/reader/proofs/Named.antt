-- A line that declares: what the code answers to it, and the declarations that it leaves.
use mathlib.Core.Path.{◌≡◌, refl, sym, ◌∙◌, ap}
use mathlib.Core.Logic.{◌≢◌}
use mathlib.Core.Bool.{Bool, true, false, cond}
use mathlib.Core.List.{List, [], ◌∷◌}
use mathlib.Core.Option.{Option, some, none}
use Prim.Native.Nat.{ℕ, ◌≤◌, ◌<◌}
use native.Mathlib.Omega.{arith}
use borrow.Author.Tests.{eq-eqb, ne_eqb, le-leb}
use lib.Dec.{eqb}
use lib.ListN.{length, get_or, replicate, length-replicate, take, drop, length-take, length-drop}
use Rattle.std.specs.Prelude.{Result, Ok, Err, IsErr, IsErrAnd, MatchResult}
use Rattle.std.proofs.lemmas.Result.{err_from_is_err_and}
use Rattle.words.specs.Words.{cleared}
use Rattle.term.specs.Parts.{part}
use Rattle.term.specs.Terms.{max_names}
use Rattle.declarations.specs.declared.constructor.PutError.TheVariants.{Bad}
use Rattle.declarations.specs.Declarations.{size, marked, is_index, is_variable}
use Rattle.declarations.specs.Put.{Outcome, done, started, start_answer, room, answer, leaves, basis_put, variable_put}
use Rattle.declarations.specs.Put as P
use Rattle.declarations.proofs.Entries.{index_tests}
use Rattle.declarations.proofs.Put.{variable_few}
use Rattle.text.specs.Pieces.{Text}
use Rattle.text.specs.Tokens.{tokens_in}
use Rattle.format.specs.Files.{File, WellDeclared, Basis, Var}
use Rattle.format.specs.Reading.{Line, wrong, good, full, take_types, take_basis, take_variable, take_value, variable_of, variable_in, variable_with, words_behind, kind_of_letter, and_basis, and_variable}
use Rattle.format.specs.Kept.{put_bases, put_variables, declarations_of}
use Rattle.format.proofs.Declared.{declared, room-bases, room-variables, bases-more, variables-more}
use Rattle.reader.specs.declared.faults.Fault.{Fault}
use Rattle.reader.specs.declared.declaring.Kind.{Kind}
use Rattle.reader.specs.Code.Keys.{word_of}
use Rattle.reader.specs.Code.Lines.{fault, Answers, refused, taken, ordered, Put, put_code, WordsRead, malformed, too_many, few}

-- ---- a line that is wrong, and one that is not
pub wrong-line : {A : Type 0} {made : File → List ℕ} {n c : ℕ} {l : Line} {e : Fault} {out : List ℕ} → e ≡ fault c n → l ≡ wrong c → Put {A = A} made n l (Err e) out
wrong-line e f = record { answer = rw (f, e) refused; words = λ g h. absurd (let z : ◌≡◌ {A = ℕ} 0 1 = cc in omega arith) }

pub good-line : {A : Type 0} {made : File → List ℕ} {n : ℕ} {l : Line} {x : A} (g : File) {out : List ℕ} → l ≡ good g → out ≡ made g → Put made n l (Ok x) out
good-line g f w = record { answer = rw f taken; words = λ h k. let z : g ≡ h = cc in w ∙ rw z }

-- the fault that a `?` passes on is the one that it met
pub refused_by : {A B : Type 0} {n : ℕ} {l : Line} {e : Fault} → Answers {A = A} n l (Err e) → Answers {A = B} n l (Err e)
refused_by refused = refused

pub passed_on : {A : Type 0} {e : Fault} {r : Result A Fault} → IsErr r × IsErrAnd r (λ y. y ≡ e) → r ≡ Err e
passed_on {r = r} h = let p = err_from_is_err_and r h.1 in p.1 ∙ ap Err p.2

-- ---- types
pub no_types : (f : File) {o : Option ℕ} → o ≡ none → take_types f o ≡ wrong 5
unfolding take_types
no_types f e = rw e

abbrev zeros : List ℕ
zeros = replicate size 0

started-alike : (ds es : List ℕ) (n : ℕ) → length ds ≡ length es → started ds n ≡ started es n
unfolding started cleared
started-alike ds es n e = rw e

-- ---- what is put, and what is told of it
abbrev pub Told : Outcome → ℕ → Result (Unit {0}) Fault → Type 0
Told p line r = MatchResult p (λ x. r ≡ Ok x) λ e. IsErrAnd r λ x. x ≡ fault (put_code e) line

-- whatever stood in the declarations before
pub types-line : (f : File) (ds : List ℕ) {line n : ℕ} {p : Outcome} {out : List ℕ} {o : Option ℕ} {r : Result (Unit {0}) Fault} → f.bases ≡ [] → f.variables ≡ [] → length ds ≡ size → o ≡ some n
    → n ≤ max_names → p ≡ start_answer ds n → out ≡ leaves p (started ds n) ds → Told p line r → Put declarations_of line (take_types f o) r out
unfolding take_types start_answer leaves declarations_of put_bases put_variables
types-line f ds {line} {n} {p} no-bases no-variables l s h a o t =
    let g : File = record { types = n; bases = f.bases; variables = f.variables; left = f.left; right = f.right; steps = f.steps } in
    let d : p ≡ done = a ∙ rw (eq-eqb _ _ l, le-leb _ _ h) in
    let m : length ds ≡ length zeros = l ∙ sym (length-replicate {A = ℕ} size 0) in
    rw (rw d at t) (good-line g (rw s) (o ∙ rw (d, no-bases, no-variables) (started-alike ds zeros n m)))

put-line : (t : Bool) (g : File) (ds : List ℕ) {l : Line} {line : ℕ} {p : Outcome} {r : Result (Unit {0}) Fault} {out made : List ℕ} → l ≡ cond t (good g) (wrong 7) → p ≡ cond t done (P.refused Bad)
    → Told p line r → out ≡ leaves p made ds → made ≡ declarations_of g → Put declarations_of line l r out
unfolding leaves
put-line true g ds k p t o m = rw (rw p at t) (good-line g k (rw p at o ∙ m))
put-line false g ds {r = r} k p t o m = let e = err_from_is_err_and r (rw p at t) in rw e.1 (wrong-line e.2 k)

-- ---- a basis
module _ (f : File) (sound : WellDeclared f) {ds : List ℕ} (e : ds ≡ declarations_of f) (s : Text) where
  basis_full : full Basis f ≡ eqb (get_or ds 1 0) 32
  unfolding full
  basis_full = rw (e, (declared f sound).bases)

  pub bases-full : get_or ds 1 0 ≡ 32 → ordered Basis f s ≡ wrong 6
  bases-full z = rw (basis_full, z)

  module _ (next : get_or ds 1 0 ≢ 32) where
    basis_ordered : ordered Basis f s ≡ take_basis f (tokens_in s)
    unfolding take_value
    basis_ordered = rw (basis_full, ne_eqb _ 32 next)

    pub basis_malformed : tokens_in s ≡ none → ordered Basis f s ≡ wrong 5
    unfolding take_basis
    basis_malformed z = basis_ordered ∙ rw z

    module _ {ws : List ℕ} (w : tokens_in s ≡ some ws) where
      basis_tested : ordered Basis f s ≡ cond (is_index f.types ws) (good (and_basis f ws)) (wrong 7)
      unfolding take_basis
      basis_tested = basis_ordered ∙ rw w

      pub basis_long : 126 < length ws → ordered Basis f s ≡ wrong 7
      basis_long h = basis_tested ∙ go (is_index f.types ws) refl
        where
          go : (t : Bool) → is_index f.types ws ≡ t → cond t (good (and_basis f ws)) (wrong 7) ≡ wrong 7
          go true t = absurd (let p = index_tests f.types ws t in omega arith)
          go false t = refl

      pub basis-line : {line : ℕ} {p : Outcome} {r : Result (Unit {0}) Fault} {out : List ℕ} → f.variables ≡ [] → p ≡ answer (room ds 1) (is_index (get_or ds 0 0) ws)
          → out ≡ leaves p (basis_put ds ws) ds → Told p line r → Put declarations_of line (ordered Basis f s) r out
      unfolding answer declarations_of put_variables
      basis-line {p = p} v a o t =
          let few = sound.few_bases in
          let counted = (declared f sound).bases in
          let roomy : room ds 1 ≡ done = rw e (room-bases f sound (let n = rw e at next in omega arith)) in
          let types : get_or ds 0 0 ≡ f.types = rw e (declared f sound).types in
          let fit : p ≡ cond (is_index f.types ws) done (P.refused Bad) = a ∙ rw (roomy, types) in
          put-line (is_index f.types ws) (and_basis f ws) ds basis_tested fit t o (rw (e, v, bases-more))

    pub basis_unread : {A : Type 0} {line : ℕ} {out out' : List ℕ} {e : Fault} → WordsRead (tokens_in s) line out out' (Err e) → length out ≡ 126 → Put {A = A} declarations_of line (ordered Basis f s) (Err e) ds
    basis_unread (malformed _ o) l = wrong-line refl (basis_malformed o)
    basis_unread (too_many _ o h) l = wrong-line refl (basis_long o (omega arith))

    pub basis_read : {line n : ℕ} {p : Outcome} {r : Result (Unit {0}) Fault} {before words out : List ℕ} → WordsRead (tokens_in s) line before words (Ok n) → f.variables ≡ []
        → p ≡ answer (room ds 1) (is_index (get_or ds 0 0) (take n words)) → out ≡ leaves p (basis_put ds (take n words)) ds → Told p line r
        → Put declarations_of line (ordered Basis f s) r out
    basis_read (few _ o _ _ t) v a l told = basis-line o v (rw t at a) (rw t at l) told

-- ---- a variable
named-few : (N kind : ℕ) (ws : List ℕ) → (let v = variable_with kind ws in is_variable N kind v.first v.second) ≡ true → length ws ≤ 126
named-few N kind ws n = go (marked kind) (variable_few N kind (take at ws) (cond (marked kind) ws (drop at ws)) n)
  where
    at : ℕ
    at = cond (eqb kind 3) (length (part ws 0)) (length ws)

    go : (m : Bool) → (length (take at ws) ≤ 63) × (length (cond m ws (drop at ws)) ≤ 63) → length ws ≤ 126
    go true p = omega arith
    go false p = omega (arith, length-take at ws, length-drop at ws)

module _ (f : File) (sound : WellDeclared f) {ds : List ℕ} (e : ds ≡ declarations_of f) (s : Text) where
  variable_full : full Var f ≡ eqb (get_or ds 2 0) 32
  unfolding full
  variable_full = rw (e, (declared f sound).variables)

  pub variables-full : get_or ds 2 0 ≡ 32 → ordered Var f s ≡ wrong 6
  variables-full z = rw (variable_full, z)

  module _ (next : get_or ds 2 0 ≢ 32) where
    variable_ordered : ordered Var f s ≡ take_variable f (variable_in s)
    unfolding take_value
    variable_ordered = rw (variable_full, ne_eqb _ 32 next)

    pub letterless : length s ≡ 0 → ordered Var f s ≡ wrong 5
    unfolding variable_in take_variable
    letterless z = variable_ordered ∙ go s z
      where
        go : (s : Text) → length s ≡ 0 → take_variable f (variable_in s) ≡ wrong 5
        go [] z = refl
        go (b ∷ s) z = absurd (omega arith)

    module _ {b : ℕ} {t : Text} (are : s ≡ b ∷ t) where
      pub kindless : kind_of_letter b ≡ none → ordered Var f s ≡ wrong 5
      unfolding variable_in variable_of take_variable
      kindless k = variable_ordered ∙ rw (are, k)

      module _ (kind : Kind) (k : kind_of_letter b ≡ some (word_of kind)) where
        pub variable_malformed : words_behind t ≡ none → ordered Var f s ≡ wrong 5
        unfolding variable_in variable_of take_variable
        variable_malformed z = variable_ordered ∙ rw (are, k, z)

        module _ {ws : List ℕ} (w : words_behind t ≡ some ws) where
          abbrev fits : Bool
          fits = let v = variable_with (word_of kind) ws in is_variable f.types v.kind v.first v.second

          variable_tested : ordered Var f s ≡ cond fits (good (and_variable f (variable_with (word_of kind) ws))) (wrong 7)
          unfolding variable_in variable_of take_variable
          variable_tested = variable_ordered ∙ rw (are, k, w)

          pub variable_long : 126 < length ws → ordered Var f s ≡ wrong 7
          variable_long h = variable_tested ∙ go fits refl
            where
              go : (t : Bool) → fits ≡ t → cond t (good (and_variable f (variable_with (word_of kind) ws))) (wrong 7) ≡ wrong 7
              go true t = absurd (let p = named-few f.types (word_of kind) ws t in omega arith)
              go false t = refl

          pub variable-line : {line : ℕ} {p : Outcome} {r : Result (Unit {0}) Fault} {out : List ℕ}
              → p ≡ (let v = variable_with (word_of kind) ws in answer (room ds 2) (is_variable (get_or ds 0 0) v.kind v.first v.second))
              → out ≡ (let v = variable_with (word_of kind) ws in leaves p (variable_put ds v.kind v.first v.second) ds) → Told p line r → Put declarations_of line (ordered Var f s) r out
          unfolding answer declarations_of
          variable-line {p = p} a o t =
              let few = sound.few_variables in
              let counted = (declared f sound).variables in
              let roomy : room ds 2 ≡ done = rw e (room-variables f sound (let n = rw e at next in omega arith)) in
              let types : get_or ds 0 0 ≡ f.types = rw e (declared f sound).types in
              let fit : p ≡ cond fits done (P.refused Bad) = a ∙ rw (roomy, types) in
              put-line fits (and_variable f (variable_with (word_of kind) ws)) ds variable_tested fit t o (rw (e, variables-more))

        pub variable_unread : {A : Type 0} {line : ℕ} {out out' : List ℕ} {e : Fault} → WordsRead (words_behind t) line out out' (Err e) → length out ≡ 126
            → Put {A = A} declarations_of line (ordered Var f s) (Err e) ds
        variable_unread (malformed _ o) l = wrong-line refl (variable_malformed o)
        variable_unread (too_many _ o h) l = wrong-line refl (variable_long o (omega arith))

        pub variable_read : {line n : ℕ} {p : Outcome} {r : Result (Unit {0}) Fault} {before words out : List ℕ} → WordsRead (words_behind t) line before words (Ok n)
            → p ≡ (let v = variable_with (word_of kind) (take n words) in answer (room ds 2) (is_variable (get_or ds 0 0) v.kind v.first v.second))
            → out ≡ (let v = variable_with (word_of kind) (take n words) in leaves p (variable_put ds v.kind v.first v.second) ds) → Told p line r
            → Put declarations_of line (ordered Var f s) r out
        variable_read (few _ o _ _ t) a l told = variable-line o (rw t at a) (rw t at l) told

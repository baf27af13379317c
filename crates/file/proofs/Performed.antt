-- The reading and the run, one after the other, are the replay.
use mathlib.Core.Path.{◌≡◌, refl, sym, ◌∙◌, ap}
use mathlib.Core.Bool.{Bool, true, false, ◌&&◌, and-eq-true_iff}
use mathlib.Core.List.{List}
use Prim.Native.Nat.{ℕ}
use native.Mathlib.Omega.{arith}
use borrow.Author.Tests.{eq-eqb, eqb-true}
use lib.Dec.{eqb}
use lib.ListN.{length, replicate}
use Rattle.std.specs.Prelude.{Result, Ok, Err, is_ok}
use Rattle.term.specs.Terms.{max_words}
use Rattle.declarations.specs.Declarations.{size}
use Rattle.format.specs.Files.{File}
use Rattle.format.specs.Reading.{Reading, fault, read, read_of}
use Rattle.format.specs.Kept.{steps_size, declarations_of, padded, steps_of}
use Rattle.reader.specs.declared.faults.Fault.{Fault}
use Rattle.reader.specs.declared.files.Read.{Read}
use Rattle.reader.specs.Answers as R
use Rattle.lent.specs.Lent.{lent}
use Rattle.step.specs.declared.run.Answer as A
use Rattle.step.specs.Runs.{run_answer, left_after, right_after}
use Rattle.file.specs.Replays.{file_refusal, answered, slice, sized, run_of_file, left_of_file, right_of_file, replay_answer, left_replayed, right_replayed}

-- where the work slices are of the right size
sized_same : (ds left right steps : List ℕ) → length ds ≡ size → length steps ≡ steps_size → R.sized ds left right steps ≡ sized left right
unfolding R.sized sized
sized_same ds left right steps d s = rw (eq-eqb _ _ d, eq-eqb _ _ s) (both (eqb (length left) max_words) (eqb (length right) max_words))
  where
    both : (a b : Bool) → (a && (b && true)) ≡ (a && b)
    both true true = refl
    both true false = refl
    both false b = refl

as_refused : {e : Fault} {c n : ℕ} → Err e ≡ R.read_refusal c n → file_refusal e.code e.at ≡ file_refusal c n
as_refused {e} {c} {n} q = let z : e ≡ record { code = c; at = n } = cc in ap (λ x. file_refusal x.code x.at) z

read_ok : (f : File) → is_ok (R.answer_of (read f)) ≡ true
unfolding R.answer_of
read_ok f = refl

-- the run of what was read is the file's
same-run : (f : File) {r : Read} {ds left right steps : List ℕ} → Ok r ≡ R.answer_of (read f) → ds ≡ declarations_of f → left ≡ padded f.left → right ≡ padded f.right → steps ≡ steps_of f
    → let d = lent ds left r.left right r.right steps r.steps in (run_answer d ≡ run_of_file f) × (left_after d ≡ left_of_file f) × (right_after d ≡ right_of_file f)
unfolding R.answer_of
same-run f {r} a d l u m =
    let z : r ≡ record { left = length f.left; right = length f.right; steps = length f.steps } = cc in (rw (z, d, l, u, m), rw (z, d, l, u, m), rw (z, d, l, u, m))

module _ (bytes left right : List ℕ) where
  -- an answer and two slices are the replay's
  pub record Replayed (a : A.Answer) (l r : List ℕ) : Type 0 where
    pub answer : a ≡ replay_answer bytes left right
    pub left_slice : l ≡ left_replayed bytes left right
    pub right_slice : r ≡ right_replayed bytes left right

  like : {a b : A.Answer} {l m r s : List ℕ} → a ≡ b → l ≡ m → r ≡ s → Replayed b m s → Replayed a l r
  like e p q x = record { answer = e ∙ x.answer; left_slice = p ∙ x.left_slice; right_slice = q ∙ x.right_slice }

  not-sized : sized left right ≡ false → Replayed (file_refusal 1 0) left right
  unfolding replay_answer left_replayed right_replayed
  not-sized e = record { answer = rw e; left_slice = rw e; right_slice = rw e }

  not-read : {c n : ℕ} → sized left right ≡ true → read_of bytes ≡ fault c n → Replayed (file_refusal c n) (replicate max_words 0) (replicate max_words 0)
  unfolding replay_answer left_replayed right_replayed answered slice
  not-read e k = record { answer = rw (e, k); left_slice = rw (e, k); right_slice = rw (e, k) }

  was_read : (f : File) → sized left right ≡ true → read_of bytes ≡ read f → Replayed (run_of_file f) (left_of_file f) (right_of_file f)
  unfolding replay_answer left_replayed right_replayed answered slice
  was_read f e k = record { answer = rw (e, k); left_slice = rw (e, k); right_slice = rw (e, k) }

  both-sized : sized left right ≡ true → (length left ≡ max_words) × (length right ≡ max_words)
  unfolding sized
  both-sized e = let p = (and-eq-true_iff (eqb (length left) max_words) _).0 e in (eqb-true _ _ p.0, eqb-true _ _ p.1)

  module _ (ds steps : List ℕ) (d : length ds ≡ size) (s : length steps ≡ steps_size) {r : Result Read Fault} {ds' left' right' steps' : List ℕ}
      (h : R.Done bytes ds left right steps r ds' left' right' steps') where
    is-sized : {t : Bool} → sized left right ≡ t → R.sized ds left right steps ≡ t
    is-sized e = sized_same ds left right steps d s ∙ e

    -- what stands in the slices behind each answer
    un_sized : sized left right ≡ false → (r ≡ R.read_refusal 1 0) × (left' ≡ left) × (right' ≡ right)
    unfolding R.read_answer R.after
    un_sized e = let z = is-sized e in (h.answer ∙ rw z, h.lefts ∙ rw z, h.rights ∙ rw z)

    un_read : {c n : ℕ} → sized left right ≡ true → read_of bytes ≡ fault c n → (r ≡ R.read_refusal c n) × (left' ≡ replicate max_words 0) × (right' ≡ replicate max_words 0)
    unfolding R.read_answer R.after R.answer_of R.slice
    un_read e k =
        let z = is-sized e in
        let l = both-sized e in (h.answer ∙ rw (z, k), h.lefts ∙ rw (z, k, l.0), h.rights ∙ rw (z, k, l.1))

    is_read : (f : File) → sized left right ≡ true → read_of bytes ≡ read f
        → (r ≡ R.answer_of (read f)) × (ds' ≡ declarations_of f) × (left' ≡ padded f.left) × (right' ≡ padded f.right) × (steps' ≡ steps_of f)
    unfolding R.read_answer R.after R.slice
    is_read f e k =
        let z = is-sized e in
        (h.answer ∙ rw (z, k), h.declarations ∙ rw (z, k), h.lefts ∙ rw (z, k), h.rights ∙ rw (z, k), h.moves ∙ rw (z, k))

    pub refused : {a : A.Answer} {x : Fault} → r ≡ Err x → a ≡ file_refusal x.code x.at → Replayed a left' right'
    refused {a} q e = go (sized left right) (read_of bytes) refl refl
      where
        go : (t : Bool) (x : Reading) → sized left right ≡ t → read_of bytes ≡ x → Replayed a left' right'
        go false x t k = let u = un_sized t in like (e ∙ as_refused (sym q ∙ u.0)) u.1 u.2 (not-sized t)
        go true (fault m n) t k = let u = un_read t k in like (e ∙ as_refused (sym q ∙ u.0)) u.1 u.2 (not-read t k)
        go true (read f) t k = absurd (let z : false ≡ true = ap is_ok (sym q ∙ (is_read f t k).0) ∙ read_ok f in let y : ◌≡◌ {A = ℕ} 0 1 = cc in omega arith)

    pub ran : {a : A.Answer} {l u : List ℕ} {x : Read} → r ≡ Ok x → let d = lent ds' left' x.left right' x.right steps' x.steps in
        a ≡ run_answer d → l ≡ left_after d → u ≡ right_after d → Replayed a l u
    ran {a} {l} {u} c e p q = go (sized left right) (read_of bytes) refl refl
      where
        go : (t : Bool) (x : Reading) → sized left right ≡ t → read_of bytes ≡ x → Replayed a l u
        go false x t k = absurd (let z = sym c ∙ (un_sized t).0 in let y : ◌≡◌ {A = ℕ} 0 1 = cc in omega arith)
        go true (fault m n) t k = absurd (let z = sym c ∙ (un_read t k).0 in let y : ◌≡◌ {A = ℕ} 0 1 = cc in omega arith)
        go true (read f) t k =
            let u = is_read f t k in
            let v = same-run f (sym c ∙ u.0) u.1 u.2 u.3 u.4 in like (e ∙ v.0) (p ∙ v.1) (q ∙ v.2) (was_read f t k)

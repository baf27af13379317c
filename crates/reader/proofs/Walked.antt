-- The walk over the lines: what is left of the reading is the reading of the lines from the cursor on.
use mathlib.Core.Path.{◌≡◌, refl, sym, ◌∙◌, ap}
use mathlib.Core.Bool.{Bool, true, false, and-eq-true_iff}
use mathlib.Core.List.{List, [], ◌∷◌, ◌++◌}
use Prim.Native.Nat.{ℕ, ◌+◌, ◌-◌, ◌≤◌, ◌<◌}
use native.Mathlib.Omega.{arith}
use borrow.Author.Tests.{eqb-true, leb-true, leb-false}
use lib.Dec.{eqb}
use lib.ListN.{length, take, drop, replicate, length-append, length-drop, drop_of_length-le}
use lib.Seq.{take_at, drop-drop, drop-append-add}
use Rattle.std.specs.Prelude.{None, Result, Ok, Err, is_ok}
use Rattle.words.specs.Listed.{lacks}
use Rattle.text.specs.Bytes.{index_of}
use Rattle.text.specs.Bytes.{line_feed, bad_line}
use Rattle.text.specs.Pieces.{Text, lines_of, ended, piece_end}
use Rattle.text.proofs.Cutting.{all_lack, index_lacks, lines_lack, ended-lines}
use Rattle.cursor.specs.declared.Piece.{Piece}
use Rattle.cursor.specs.declared.Reader.{Reader}
use Rattle.cursor.specs.Reading.{at_end, next_of}
use Rattle.cursor.proofs.Spans.{Cut, cut}
use Rattle.format.specs.Files.{File}
use Rattle.format.specs.Reading.{Line, wrong, good, line_taken, Reading, on_line, key_of, stage_after, read_from, nothing}
use Rattle.format.specs.Reading as R
use Rattle.format.specs.Kept.{steps_size, put_steps, steps_of}
use Rattle.format.specs.Code.Reached.{start}
use Rattle.lent.specs.Lent.{max_steps}
use Rattle.reader.specs.declared.files.Read.{Read}
use Rattle.reader.specs.declared.walking.State.{State}
use Rattle.reader.specs.declared.faults.Fault.{Fault}
use Rattle.reader.specs.declared.keys.Stage.TheVariants.{Start}
use Rattle.reader.specs.Answers.{answer_of}
use Rattle.reader.specs.Code.Keys.{number}
use Rattle.reader.specs.Code.Lines.{fault, Answers, refused, taken}
use Rattle.reader.specs.Code.Holding.{Holding, After, LineRead, ended_in, Found}
use Rattle.reader.proofs.Held.{few-steps-at}

-- from the offset `at` on, in line `line`, with what the slices hold
pub record Rest (bytes : Text) (at line : ℕ) (s : State) (ds ls rs ms : List ℕ) : Type 0 where
  pub file : File
  pub lines : List Text
  pub holding : Holding s file ds ls rs ms
  pub text : drop at bytes ≡ ended lines
  pub lack : all_lack line_feed lines ≡ true
  pub same : read_from 1 0 nothing (lines_of bytes) ≡ read_from line (number s.stage) file lines

-- where the loop over the lines stands: the reader is one of these bytes, lines are counted, and the slices hold what the file so far says
pub record Standing (bytes : Text) (r : Reader) (line : ℕ) (s : State) (ds ls rs ms : List ℕ) : Type 0 where
  pub lent : r.bytes.now ≡ bytes
  pub counted : line ≤ r.at + 1
  pub rest : Rest bytes r.at line s ds ls rs ms

abbrev pub beginning : State
beginning = record { stage = Start; left = 0; right = 0; steps = 0 }

rest-start : {bytes : Text} {ds ls rs ms : List ℕ} → bad_line 1 false bytes ≡ None → ms ≡ replicate steps_size 0 → Rest bytes 0 1 beginning ds ls rs ms
unfolding steps_of put_steps
rest-start {bytes} b m = record {
  file = nothing;
  lines = lines_of bytes;
  holding = record {
    lines = [];
    reached = start;
    kept = record { declarations = λ n. absurd (n refl); left = λ h. absurd (omega arith); right = λ h. absurd (omega arith); steps = (m, refl) };
  };
  text = sym (ended-lines 1 false bytes b);
  lack = lines_lack line_feed bytes;
  same = refl;
}

-- ---- the next line
abbrev pub Within : ℕ → Piece → Text → Type 0
Within at r bytes = (at ≤ r.end) × (r.end < r.rest.at) × (r.rest.at ≤ length bytes)

pub record Next (bytes : Text) (at : ℕ) (r : Piece) (lines : List Text) : Type 0 where
  pub line : Text
  pub others : List Text
  pub are : lines ≡ line ∷ others
  pub is : take (r.end - at) (drop at bytes) ≡ line
  pub rest : drop r.rest.at bytes ≡ ended others
  pub lack : all_lack line_feed others ≡ true
  pub within : Within at r bytes

next_line : (bytes : Text) (at : ℕ) {r : Piece} (lines : List Text) → drop at bytes ≡ ended lines → all_lack line_feed lines ≡ true → at < length bytes
    → Cut bytes at line_feed r → Next bytes at r lines
unfolding ended all_lack piece_end
next_line bytes at [] e l h p = absurd (let d = length-drop at bytes in let z : length (drop at bytes) ≡ 0 = ap length e in omega arith)
next_line bytes at {r} (x ∷ xs) e l h p =
    let b = p.end in
    let a = (and-eq-true_iff (lacks line_feed x) (all_lack line_feed xs)).0 l in
    let i : index_of line_feed (drop at bytes) ≡ length x = rw e (index_lacks line_feed x (ended xs) a.0) in
    let n : r.end - at ≡ length x = omega arith in
    let d = length-drop at bytes in
    let k : length (drop at bytes) ≡ length x + length (line_feed ∷ ended xs) = rw e (length-append x (line_feed ∷ ended xs)) in
    let y = p.next (omega arith) in
    let m : r.rest.at ≡ at + (length x + 1) = omega arith in
    record {
      line = x;
      others = xs;
      are = refl;
      is = rw (n, e) (take_at x (line_feed ∷ ended xs) (length x) refl);
      rest = rw (m, ← drop-drop (length x + 1) at bytes, e) (drop-append-add x (line_feed ∷ ended xs) 1);
      lack = a.1;
      within = (omega arith, omega arith, omega arith);
    }

-- ---- a line's fault, and no fault
module _ (n s : ℕ) (f : File) (l : Text) (ls : List Text) where
  line-fault : {e : Fault} → Answers {A = State} n (line_taken s f l) (Err e) → Err e ≡ answer_of (read_from n s f (l ∷ ls))
  unfolding read_from on_line answer_of
  line-fault {e} a = go a
    where
      go : {x : Line} {e : Fault} → Answers {A = State} n x (Err e) → Err e ≡ answer_of (on_line x (λ c. R.fault c n) (λ g. read_from (n + 1) (stage_after (key_of l)) g ls))
      go refused = refl

  line-good : {t : State} → Answers n (line_taken s f l) (Ok t) → (g : File) × (line_taken s f l ≡ good g) × (read_from n s f (l ∷ ls) ≡ read_from (n + 1) (stage_after (key_of l)) g ls)
  unfolding read_from on_line
  line-good {t} a = go refl a
    where
      go : {x : Line} {t : State} → line_taken s f l ≡ x → Answers n x (Ok t)
          → (g : File) × (line_taken s f l ≡ good g) × (on_line (line_taken s f l) (λ c. R.fault c n) (λ g. read_from (n + 1) (stage_after (key_of l)) g ls) ≡ read_from (n + 1) (stage_after (key_of l)) g ls)
      go e (taken {f = g}) = (g, e, rw e)

no_line : (xs : List Text) → ended xs ≡ [] → xs ≡ []
unfolding ended
no_line [] z = refl
no_line (x ∷ xs) z = absurd (let k : length (x ++ line_feed ∷ ended xs) ≡ 0 = ap length z in omega (arith, length-append x (line_feed ∷ ended xs)))

ok_of : {o : Reading} {f : File} → o ≡ R.read f → is_ok (answer_of o) ≡ true
unfolding answer_of
ok_of e = rw e

-- a fault leaves nothing to be said of the words
pub found-fault : {o : Reading} {r : Result Read Fault} {e : Fault} {ds ls rs ms : List ℕ} → r ≡ Err e → Err e ≡ answer_of o → Found o r ds ls rs ms
found-fault {o} {r} {e} q a = record { answer = q ∙ a; words = λ f k. absurd (let y : false ≡ true = ap is_ok a ∙ ok_of k in let x : ◌≡◌ {A = ℕ} 0 1 = cc in omega arith) }

-- ---- from line to line
module _ {bytes : Text} {at line : ℕ} {s : State} {ds ls rs ms : List ℕ} (h : Rest bytes at line s ds ls rs ms) where
  pub few_steps : s.steps ≤ max_steps
  few_steps = let e = h.holding.kept.steps.1 in let k = few-steps-at h.holding.reached in omega arith

  next : {r : Piece} → at < length bytes → Cut bytes at line_feed r → Next bytes at r h.lines
  next g e = next_line bytes at h.lines h.text h.lack g e

  module _ {p : Piece} (x : Next bytes at p h.lines) {es ks qs ns : List ℕ} where
    stops : {e : Fault} → After line (key_of x.line) (line_taken (number s.stage) h.file x.line) (Err e) es ks qs ns → Err e ≡ answer_of (read_from 1 0 nothing (lines_of bytes))
    stops a = line-fault line (number s.stage) h.file x.line x.others a.answer ∙ rw (h.same, x.are)

    goes_on : {t : State} → After line (key_of x.line) (line_taken (number s.stage) h.file x.line) (Ok t) es ks qs ns → Rest bytes p.rest.at (line + 1) t es ks qs ns
    goes_on a =
        let g = line-good line (number s.stage) h.file x.line x.others a.answer in
        record {
          file = g.0;
          lines = x.others;
          holding = a.state.1 g.0 g.1;
          text = x.rest;
          lack = x.lack;
          same = h.same ∙ ap (read_from line (number s.stage) h.file) x.are ∙ g.2 ∙ ap (λ t. read_from (line + 1) t g.0 x.others) (sym a.state.0);
        }

  -- ---- at the end
  module _ (e : length bytes ≤ at) where
    at-end : read_from 1 0 nothing (lines_of bytes) ≡ read_from line (number s.stage) h.file []
    at-end = h.same ∙ ap (read_from line (number s.stage) h.file) (no_line h.lines (sym h.text ∙ drop_of_length-le bytes e))

    ends_by : (t : Bool) → eqb (number s.stage) 5 ≡ t → {r : Result Read Fault} → r ≡ ended_in s line → Found (read_from 1 0 nothing (lines_of bytes)) r ds ls rs ms
    unfolding read_from answer_of ended_in
    ends_by false t a = found-fault {e = fault 4 line} (a ∙ rw t) (rw (at-end, t))
    ends_by true t a =
        let n = eqb-true (number s.stage) 5 t in
        let o : read_from 1 0 nothing (lines_of bytes) ≡ R.read h.file = rw (at-end, t) in
        let k = h.holding.kept in
        let l = k.left (omega arith) in
        let r = k.right (omega arith) in
        let m = k.steps in
        record {
          answer = a ∙ rw (t, o, l.1, r.1, m.1);
          words = λ f x.
              let y : h.file ≡ f = cc in
              rw (← y) (k.declarations (λ x. omega arith), l.0, r.0, m.0);
        }

-- ---- the loop
pub standing-start : (r : Reader) {ds ls rs ms : List ℕ} → r.at ≡ 0 → bad_line 1 false r.bytes.now ≡ None → ms ≡ replicate steps_size 0
    → Standing r.bytes.now r 1 beginning ds ls rs ms
standing-start r e b m = record { lent = refl; counted = omega arith; rest = rw e (rest-start b m) }

module _ {bytes : Text} {r : Reader} {line : ℕ} {s : State} {ds ls rs ms : List ℕ} (h : Standing bytes r line s ds ls rs ms) where
  module _ {o : Bool} (t : o ≡ at_end r.bytes.now r.at) where
    pub goes : o ≡ false → r.at < length bytes
    goes e = leb-false (length bytes) r.at (rw h.lent at (sym t ∙ e))

    pub ends : o ≡ true → {a : Result Read Fault} → a ≡ ended_in s line → Found (read_from 1 0 nothing (lines_of bytes)) a ds ls rs ms
    ends e a = ends_by h.rest (leb-true (length bytes) r.at (rw h.lent at (sym t ∙ e))) _ refl a

  module _ (going : r.at < length bytes) {p : Piece} (e : p ≡ next_of r line_feed) where
    pub line_at : Next bytes r.at p h.rest.lines
    line_at = next h.rest going (rw h.lent at (cut r line_feed e))

    module _ {a : Result State Fault} {es ks qs ns : List ℕ} (told : LineRead (take (p.end - r.at) (drop r.at bytes)) line s ds ls rs ms a es ks qs ns) where
      line_read : After line (key_of line_at.line) (line_taken (number s.stage) h.rest.file line_at.line) a es ks qs ns
      line_read = rw line_at.is at (told h.rest.file h.rest.holding)

    pub line_refused : {x : Fault} {a : Result Read Fault} {es ks qs ns : List ℕ} → LineRead (take (p.end - r.at) (drop r.at bytes)) line s ds ls rs ms (Err x) es ks qs ns → a ≡ Err x
        → Found (read_from 1 0 nothing (lines_of bytes)) a es ks qs ns
    line_refused told a = found-fault a (stops h.rest line_at (line_read told))

    pub line_taken_lem : {t : State} {es ks qs ns : List ℕ} → LineRead (take (p.end - r.at) (drop r.at bytes)) line s ds ls rs ms (Ok t) es ks qs ns → Standing bytes p.rest (line + 1) t es ks qs ns
    line_taken_lem told =
        record {
          lent = ap (λ x. x.rest.bytes.now) e ∙ h.lent;
          counted = let c = h.counted in let w = line_at.within in omega arith;
          rest = goes_on h.rest line_at (line_read told);
        }

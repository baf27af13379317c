-- Finding the end of a part by counting the parts still to come.
use mathlib.Core.Path.{◌≡◌, refl, sym, ◌∙◌, ap}
use mathlib.Core.List.{List, [], ◌++◌, append-nil, append_assoc}
use Prim.Native.Nat.{ℕ, zero, suc, ◌+◌, ◌-◌, ◌≤◌, ◌<◌}
use native.Mathlib.Numerals.{add-one}
use native.Mathlib.Decide.{dec_lt}
use native.Mathlib.Omega.{arith}
use lib.ListN.{length, take, drop, get_or, length-append, length-drop, drop_of_length-le, get_or-eq_default}
use lib.Seq.{drop-cons, take-append_seam}
use Rattle.std.specs.Prelude.{Some, None}
use Rattle.term.specs.Heads.{Label, Reading, unread, labelled, reading, read, heads, arity_in, arity_of}
use Rattle.term.specs.Trees.{Tree, Forest, node, none, ◌▹◌, count, ◌⧺◌, words, words*, Formed, Formed*}
use Rattle.term.specs.Parts.{Cut, short, cut, behind, chop, Whole, parse, first, part, start}
use Rattle.term.proofs.Readings.{read-few}
use Rattle.term.proofs.Parsing.{accepted, Chopped, too_few, taken, chopped, Grown, unread-word, words-short, planted, grown, words*-⧺, count-⧺, parse-words}

-- ---- what the answer about a word's children says of the word
children_of_lem : (r : Reading) (n : ℕ) → arity_in r ≡ Some n → (l : Label) × (r ≡ labelled l n)
unfolding arity_in
children_of_lem unread n e = absurd (let z : ◌≡◌ {A = ℕ} 0 1 = cc in omega arith)
children_of_lem (labelled l k) n e = (l, cc)

pub read_children : (w n : ℕ) → arity_of w ≡ Some n → (l : Label) × (read w ≡ labelled l n)
unfolding arity_of
read_children w n e = children_of_lem (read w) n e

unknown_of : (r : Reading) → arity_in r ≡ None → r ≡ unread
unfolding arity_in
unknown_of unread e = refl
unknown_of (labelled l k) e = cc

pub read-unknown : (w : ℕ) → arity_of w ≡ None → read w ≡ unread
unfolding arity_of
read-unknown w e = unknown_of (read w) e

pub children_few : (w n : ℕ) → arity_of w ≡ Some n → n ≤ 255
children_few w n e = let r = read_children w n e in read-few w r.0 n r.1

-- past the words there is no head
none-0 : arity_of 0 ≡ None
unfolding arity_of arity_in read reading heads
none-0 = refl

pub arity_past : (ws : List ℕ) (i : ℕ) → length ws ≤ i → arity_of (get_or ws i 0) ≡ None
arity_past ws i h = rw (get_or-eq_default ws 0 h) none-0

pub arity_inside : (ws : List ℕ) (i n : ℕ) → arity_of (get_or ws i 0) ≡ Some n → i < length ws
arity_inside ws i n e = elim (dec_lt i (length ws)) [ yes h ↦ h | no h ↦ absurd (let z : None ≡ Some n = sym (arity_past ws i (omega arith)) ∙ e in let y : ◌≡◌ {A = ℕ} 0 1 = cc in omega arith) ]

-- ---- chopping
chop_short_by : {n : ℕ} {f : Forest} {c : Cut} → count f < n → Chopped n f c → c ≡ short
chop_short_by h (too_few k) = refl
chop_short_by h (taken a b e k) = absurd (let z = ap count e ∙ count-⧺ a b in omega arith)

pub chop-short : (n : ℕ) (f : Forest) → count f < n → chop n f ≡ short
chop-short n f h = chop_short_by h (chopped n f)

prepend : Forest → Cut → Cut
prepend a short = short
prepend a (cut x y) = cut (a ⧺ x) y

prepend_more : (t : Tree) (a : Forest) (c : Cut) → behind t (prepend a c) ≡ prepend (t ▹ a) c
unfolding behind prepend ◌⧺◌
prepend_more t a short = refl
prepend_more t a (cut x y) = refl

prepend_none : (c : Cut) → c ≡ prepend none c
unfolding prepend ◌⧺◌
prepend_none short = refl
prepend_none (cut x y) = refl

chop-add : (a b : Forest) (m : ℕ) → chop (count a + m) (a ⧺ b) ≡ prepend a (chop m b)
unfolding chop count ◌⧺◌
chop-add none b m = let z : 0 + m ≡ m = omega arith in rw z (prepend_none (chop m b))
chop-add (t ▹ a) b m = let z : suc (count a) + m ≡ suc (count a + m) = omega arith in rw z (rw (chop-add a b m) (prepend_more t a (chop m b)))

-- a tree has at least one word, so a row has no more trees than words
pub count-words : (f : Forest) → count f ≤ length (words* f)
unfolding count words
count-words none = omega arith
count-words (node l cs ▹ f) = simp length-append (omega (arith, count-words f))

pub count-parse : (ws : List ℕ) → count (parse ws) ≤ length ws
count-parse ws =
    let a = accepted ws in
    omega (arith, count-words (parse ws), length-append (words* (parse ws)) a.rest, ap length a.whole)

-- ---- the scan. With so many parts still to come at i, the end is behind them, or there is no part at `at`
pub end_by : ℕ → ℕ → Cut → ℕ
end_by at i short = at
end_by at i (cut a b) = i + length (words* a)

end-first : (at : ℕ) (f : Forest) → at + length (first f) ≡ end_by at at (chop 1 f)
unfolding first chop end_by words
end-first at none = omega arith
end-first at (t ▹ f) = rw append-nil

pub end-begin : (ws : List ℕ) (at : ℕ) → at + length (part ws at) ≡ end_by at at (chop 1 (parse (drop at ws)))
unfolding part
end-begin ws at = end-first at (parse (drop at ws))

pub end-done : (at i : ℕ) (f : Forest) → end_by at i (chop 0 f) ≡ i
unfolding end_by chop words
end-done at i f = omega arith

end_planted : (l : Label) (a : Forest) (at i : ℕ) (c : Cut) → end_by at i (behind (node l a) c) ≡ end_by at (suc i) (prepend a c)
unfolding end_by behind prepend words
end_planted l a at i short = refl
end_planted l a at i (cut x y) = simp (words*-⧺, length-append) (omega arith)

end_grown : {w k : ℕ} {l : Label} {f g : Forest} (m at i : ℕ) → read w ≡ labelled l k → Grown w f g
    → end_by at i (chop (suc m) g) ≡ end_by at (suc i) (chop (k + m) f)
unfolding end_by chop
end_grown m at i e (unread-word h) = cc
end_grown {k} {f} m at i e (words-short l n h c) = let z : n ≡ k = cc in rw (chop-short (k + m) f (omega arith))
end_grown {k} m at i e (planted l a b h p) =
    let z : k ≡ count a = cc in
    rw (p, z, chop-add a b m) (end_planted l a at i (chop m b))

pub end_more : (ws : List ℕ) (at i need n : ℕ) → i < length ws → 0 < need → arity_of (get_or ws i 0) ≡ Some n
    → end_by at i (chop need (parse (drop i ws))) ≡ end_by at (i + 1) (chop (need - 1 + n) (parse (drop (i + 1) ws)))
end_more ws at i zero n h z e = absurd (omega arith)
end_more ws at i (suc m) n h z e =
    let r = read_children (get_or ws i 0) n e in
    let k : suc m - 1 + n ≡ n + m = omega arith in
    rw (add-one, k, drop-cons ws i 0 h) (end_grown m at i r.1 (grown (get_or ws i 0) (drop (suc i) ws)))

end-unread : {w : ℕ} {f g : Forest} (m at i : ℕ) → read w ≡ unread → Grown w f g → end_by at i (chop (suc m) g) ≡ at
unfolding end_by chop
end-unread m at i e (unread-word h) = refl
end-unread m at i e (words-short l n h c) = refl
end-unread m at i e (planted l a b h p) = cc

pub end-unknown : (ws : List ℕ) (at i need : ℕ) → i < length ws → 0 < need → arity_of (get_or ws i 0) ≡ None
    → end_by at i (chop need (parse (drop i ws))) ≡ at
end-unknown ws at i zero h z e = absurd (omega arith)
end-unknown ws at i (suc m) h z e =
    rw (drop-cons ws i 0 h) (end-unread m at i (read-unknown (get_or ws i 0) e) (grown (get_or ws i 0) (drop (suc i) ws)))

pub end_short : (ws : List ℕ) (at i need : ℕ) → length ws - i < need → end_by at i (chop need (parse (drop i ws))) ≡ at
unfolding end_by
end_short ws at i need h = rw (chop-short need (parse (drop i ws)) (omega (arith, count-parse (drop i ws), length-drop i ws)))

pub part-past : (ws : List ℕ) (at : ℕ) → length ws ≤ at → length (part ws at) ≡ 0
unfolding part
part-past ws at h = rw (drop_of_length-le ws h)

-- ---- the part lies in the words, where the lookup says
front-first : (f : Forest) (rest ws : List ℕ) → words* f ++ rest ≡ ws → (first f ≡ take (length (first f)) ws) × (length (first f) ≤ length ws)
unfolding first words
front-first none rest ws e = (refl, omega arith)
front-first (t ▹ f) rest ws e =
    rw (← e, append_assoc, take-append_seam) (refl, simp length-append (omega arith))

pub part-front : (ws : List ℕ) (at : ℕ) → part ws at ≡ take (length (part ws at)) (drop at ws)
unfolding part
part-front ws at = let a = accepted (drop at ws) in (front-first (parse (drop at ws)) a.rest (drop at ws) a.whole).0

pub part_length : (ws : List ℕ) (at : ℕ) → length (part ws at) ≤ length ws - at
unfolding part
part_length ws at =
    let a = accepted (drop at ws) in
    omega (arith, (front-first (parse (drop at ws)) a.rest (drop at ws) a.whole).1, length-drop at ws)

start-found : (f : Forest) (at : ℕ) → 0 < length (first f) → start f at ≡ at
unfolding first start
start-found none at h = absurd (omega arith)
start-found (t ▹ f) at h = refl

pub part-start : (ws : List ℕ) (at : ℕ) → 0 < length (part ws at) → start (parse (drop at ws)) at ≡ at
unfolding part
part-start ws at h = start-found (parse (drop at ws)) at h

start_none : (f : Forest) (at : ℕ) → length (first f) ≡ 0 → (start f at ≡ 0) × (first f ≡ [])
unfolding first start words
start_none none at h = (refl, refl)
start_none (node l cs ▹ f) at h = absurd (omega arith)

pub part_none : (ws : List ℕ) (at : ℕ) → length (part ws at) ≡ 0 → (start (parse (drop at ws)) at ≡ 0) × (part ws at ≡ [])
unfolding part
part_none ws at h = start_none (parse (drop at ws)) at h

-- ---- what is handed back is a whole part, and a whole part that begins at the offset is what is handed back
whole-first : (f : Forest) → Formed* f → 0 < length (first f) → Whole (first f)
unfolding first Formed
whole-first none k h = absurd (omega arith)
whole-first (t ▹ f) k h = (t, k.0, refl)

pub part-whole : (ws : List ℕ) (at : ℕ) → 0 < length (part ws at) → Whole (part ws at)
unfolding part
part-whole ws at h = whole-first (parse (drop at ws)) (accepted (drop at ws)).formed h

pub whole_part : (ws : List ℕ) (at : ℕ) (p rest : List ℕ) → Whole p → drop at ws ≡ p ++ rest → part ws at ≡ p
unfolding part first
whole_part ws at p rest w e = rw (e, ← w.2, parse-words w.0 w.1 rest)

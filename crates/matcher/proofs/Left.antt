-- A left side's words, walked over a part's, find what the left side matches of the part.
use mathlib.Core.Path.{◌≡◌, refl, sym, ◌∙◌, ap}
use mathlib.Core.Logic.{◌≢◌}
use mathlib.Core.Bool.{Bool, true, false, cond}
use mathlib.Core.List.{List, [], ◌∷◌, ◌++◌, append_assoc, append-nil}
use mathlib.Core.Option.{Option, some, none}
use Prim.Native.Nat.{ℕ, zero, suc, ◌+◌, ◌-◌, ◌*◌, ◌/◌, ◌≤◌, ◌<◌}
use native.Mathlib.Decide.{ℕ_discrete}
use native.Mathlib.Omega.{arith}
use borrow.Author.Tests.{lt-ltb, ltb-true, leb-true, ne_eqb, eqb-true, eqb-false}
use lib.Arith.{digits_div, digits_mod}
use lib.Dec.{eqb}
use lib.ListN.{length, take, drop, get_or, length-append, length-drop}
use lib.Seq.{get_or-drop, drop-drop, drop_at, take_at}
use Rattle.words.specs.Words.{same_words}
use Rattle.term.specs.Heads.{Label, word}
use Rattle.term.specs.Trees.{Tree, Forest, node, none as no-tree, ◌▹◌, count, words, Formed}
use Rattle.term.specs.Parts.{part, first}
use Rattle.term.proofs.Parsing.{parse-words, some_words}
use Rattle.types.specs.Sorts.{Context}
use Rattle.rules.specs.Patterns.{Pattern, #◌, first as first_of, second as second_of, ◌⟨⟩, ◌⟨◌⟩, ◌⟨◌∣◌⟩}
use Rattle.rules.specs.Rewrite.{is_head, nameless, and_then, hold, match, holes}
use Rattle.rules.proofs.Good.{met, in_order, both, all_three}
use Rattle.rules.proofs.Matching.{AllFormed, matched}
use Rattle.rulebook.specs.Code.Rows.{pattern_words}
use Rattle.rulebook.proofs.Made.{head_word, made, head_plain, head_count}
use Rattle.matcher.specs.declared.Match.{Match}
use Rattle.matcher.specs.declared.Miss.{Miss}
use Rattle.std.specs.Prelude.{Result, Ok, Err}
use Rattle.matcher.specs.Matching.{held_in, Holds, missed, passed, taken, hole_matched, word_matched, on_met, match_from}
use Rattle.matcher.proofs.Walks.{taken_same, taken-other, end-inside, standing-passed, standing-taken}

-- a walk over the words of a part, with the words `ps` of the left side behind and the words `rest` behind the part: it goes on behind the part, or it has stopped
pub data Walked (ws rest ps : List ℕ) (x : Result Match Miss) : Option (List Tree) → Type 0 where
  went : {d : List Tree} (r : Match) → x ≡ match_from ps ws r → Holds ws r d → drop r.at ws ≡ rest → Walked ws rest ps x (some d)
  halted : (e : Miss) → x ≡ Err e → Walked ws rest ps x none

walked_as : {ws rest ps : List ℕ} {x y : Result Match Miss} {o : Option (List Tree)} → x ≡ y → Walked ws rest ps y o → Walked ws rest ps x o
walked_as e w = rw e w

-- ---- where a part begins
module _ (ws rest : List ℕ) (at : ℕ) (t : Tree) (here : drop at ws ≡ words t ++ rest) where
  part-is : Formed t → part ws at ≡ words t
  unfolding part first
  part-is f = rw (here, parse-words t f rest)

  behind-part : drop (at + length (words t)) ws ≡ rest
  behind-part = sym (drop-drop (length (words t)) at ws) ∙ rw here (drop_at (words t) rest (length (words t)) refl)

  at_part_lem : take (at + length (words t) - at) (drop at ws) ≡ words t
  at_part_lem =
      let z : at + length (words t) - at ≡ length (words t) = omega arith in
      rw (z, here) (take_at (words t) rest (length (words t)) refl)

-- ---- a hole
-- what stands before the last of a list is as without it
before_last : (c : List Tree) (t : Tree) (k : ℕ) → k < length c → holes c k ≡ holes (c ++ t ∷ []) k
before_last [] t k h = absurd (omega arith)
before_last (u ∷ c) t zero h = refl
before_last (u ∷ c) t (suc k) h = before_last c t k (omega arith)

the_last : (c : List Tree) (t : Tree) → holes (c ++ t ∷ []) (length c) ≡ t
the_last [] t = refl
the_last (u ∷ c) t = the_last c t

module _ {ws : List ℕ} {m : Match} {c : List Tree} (h : Holds ws m c) where
  holds-passed : (next : ℕ) → m.at ≤ next → next ≤ length ws → Holds ws (passed m next) c
  holds-passed next g l = record { standing = standing-passed h.standing next g l; many = h.many; few = h.few; are = h.are }

  module _ (rest : List ℕ) (t : Tree) (whole : Formed t) (here : drop m.at ws ≡ words t ++ rest) where
    abbrev end : ℕ
    end = m.at + length (words t)

    here_part : part ws m.at ≡ words t
    here_part = part-is ws rest m.at t here whole

    here_behind : drop end ws ≡ rest
    here_behind = behind-part ws rest m.at t here

    end_in : end ≤ length ws
    end_in = rw here_part at (end-inside h.standing)

    new-words : (k j : ℕ) → k < 5 → k ≡ length c → j < length (c ++ t ∷ []) → Dec (j ≡ k) → held_in ws (taken m k end) j ≡ words (holes (c ++ t ∷ []) j)
    new-words k j f e l (yes z) =
        let n = taken_same m k end j (omega (arith, h.standing.size)) z in
        rw (n.0, n.1, at_part_lem ws rest m.at t here, z, e, the_last c t)
    new-words k j f e l (no z) =
        let b : j < length c = omega (arith, length-append c (t ∷ []), z) in
        let n = taken-other m k end j z in
        rw (n.0, n.1, ← before_last c t j b) (h.are j b)

    holds-taken : (k : ℕ) → k < 5 → k ≡ length c → Holds ws (taken m k end) (c ++ t ∷ [])
    holds-taken k f e =
        let l = length-append c (t ∷ []) in
        record {
          standing = standing-taken h.standing k end f (omega arith) end_in;
          many = omega (arith, e, l);
          few = omega (arith, e, l);
          are = λ j g. new-words k j f e g (ℕ_discrete j k);
        }

    -- the word of a hole is one of three cases
    module _ (k : ℕ) (few : k < 5) (ps : List ℕ) where
      abbrev p : ℕ
      p = 255 * 256 + k

      hole-step : word_matched ws m p ≡ cond (eqb k m.held) (Ok (taken m k end)) (cond (same_words (held_in ws m k) (words t)) (Ok (passed m end)) (Err (missed m p)))
      unfolding word_matched hole_matched
      hole-step =
          let low : k < 256 = omega arith in
          rw (digits_div 255 low, digits_mod 255 low, here_part, lt-ltb k 5 few, lt-ltb 0 (length (words t)) (some_words t))

      hole_by : (a b : Bool) → eqb k m.held ≡ a → same_words (words (holes c k)) (words t) ≡ b → k ≤ length c
          → Walked ws rest ps (match_from (p ∷ ps) ws m) (cond a (some (c ++ t ∷ [])) (cond b (some c) none))
      unfolding match_from on_met
      hole_by true b e f l = went (taken m k end) (rw (hole-step, e)) (holds-taken k few (eqb-true k m.held e ∙ h.many)) here_behind
      hole_by false true e f l =
          let n = eqb-false k m.held e in
          went (passed m end) (rw (hole-step, e, h.are k (omega (arith, l, h.many, n)), f)) (holds-passed end (omega arith) end_in) here_behind
      hole_by false false e f l =
          let n = eqb-false k m.held e in
          halted (missed m p) (rw (hole-step, e, h.are k (omega (arith, l, h.many, n)), f))

      hole-walked : k ≤ length c → Walked ws rest ps (match_from (p ∷ ps) ws m) (hold k t c)
      unfolding hold
      hole-walked l = rw (← h.many) (hole_by (eqb k m.held) (same_words (words (holes c k)) (words t)) refl refl l)

  -- ---- a head's word against the first of a part's
  module _ {v : ℕ} {vs : List ℕ} (here : drop m.at ws ≡ v ∷ vs) where
    inside : m.at < length ws
    inside = omega (arith, ap length here, length-drop m.at ws)

    first-is : get_or ws m.at 0 ≡ v
    first-is =
        let z : m.at + 0 ≡ m.at = omega arith in
        sym (get_or-drop m.at ws 0 0 ∙ rw z) ∙ rw here

    behind-word : drop (m.at + 1) ws ≡ vs
    behind-word = sym (drop-drop 1 m.at ws) ∙ rw here

    head_step : (w n : ℕ) → head_word w n ≡ true → word_matched ws m w ≡ cond (eqb w v) (Ok (passed m (m.at + 1))) (Err (missed m w))
    unfolding word_matched
    head_step w n e =
        let l = head_plain w n e in
        rw (ne_eqb (w / 256) 255 (λ z. omega (arith, l, z)), lt-ltb m.at (length ws) inside, first-is)

    head_stops : (w n : ℕ) (qs : List ℕ) → head_word w n ≡ true → eqb w v ≡ false → match_from (w ∷ qs) ws m ≡ Err (missed m w)
    unfolding match_from on_met
    head_stops w n qs e f = rw (head_step w n e, f)

    -- it is the node's own, and then the children are next; or it is another's
    head_by : {rest ps : List ℕ} {o : Option (List Tree)} (w n : ℕ) (qs : List ℕ) (b : Bool) → head_word w n ≡ true → eqb w v ≡ b
        → (Holds ws (passed m (m.at + 1)) c → drop (m.at + 1) ws ≡ vs → Walked ws rest ps (match_from qs ws (passed m (m.at + 1))) o)
        → Walked ws rest ps (match_from (w ∷ qs) ws m) (cond b o none)
    unfolding match_from on_met
    head_by w n qs true e f g = walked_as (rw (head_step w n e, f)) (g (holds-passed (m.at + 1) (omega arith) (omega (arith, inside))) behind-word)
    head_by w n qs false e f g = halted _ (head_stops w n qs e f)

    head_then : {rest ps : List ℕ} {o : Option (List Tree)} (l k : Label) (n : ℕ) (qs : List ℕ) → v ≡ word k n → head_word (word l n) n ≡ true
        → (Holds ws (passed m (m.at + 1)) c → drop (m.at + 1) ws ≡ vs → Walked ws rest ps (match_from qs ws (passed m (m.at + 1))) o)
        → Walked ws rest ps (match_from (word l n ∷ qs) ws m) (cond (is_head l k n) o none)
    unfolding is_head
    head_then l k n qs z e g = rw (← z) (head_by (word l n) n qs (eqb (word l n) v) e refl g)

-- ---- the words of a node with none, one and two children
no_words : (k : Label) (rest : List ℕ) → words (node k no-tree) ++ rest ≡ word k 0 ∷ rest
unfolding words count
no_words k rest = refl

one-words : (k : Label) (t : Tree) (rest : List ℕ) → words (node k (t ▹ no-tree)) ++ rest ≡ word k 1 ∷ (words t ++ rest)
unfolding words count
one-words k t rest = ap (λ (ws : List ℕ). word k 1 ∷ (ws ++ rest)) (append-nil (words t))

two-words : (k : Label) (t u : Tree) (rest : List ℕ) → words (node k (t ▹ u ▹ no-tree)) ++ rest ≡ word k 2 ∷ (words t ++ (words u ++ rest))
unfolding words count
two-words k t u rest =
    ap (λ (ws : List ℕ). word k 2 ∷ ((words t ++ ws) ++ rest)) (append-nil (words u)) ∙ ap (λ (ws : List ℕ). word k 2 ∷ ws) (append_assoc (words t) (words u) rest)

-- ---- the walk over a part
module _ (ws : List ℕ) where
  -- a node with another number of children
  mismatch : {m : Match} {c : List Tree} {rest ps : List ℕ} (qs : List ℕ) (l k : Label) (n : ℕ) (cs : Forest) → Holds ws m c → head_word (word l n) n ≡ true → Formed (node k cs)
      → n ≢ count cs → drop m.at ws ≡ words (node k cs) ++ rest → Walked ws rest ps (match_from (word l n ∷ qs) ws m) none
  unfolding words Formed
  mismatch qs l k n cs h e f d here = halted _ (head_stops h here (word l n) n qs e (head_count l k n (count cs) e f.0 d))

  -- the first of two children, and then the second
  then_second : {ps qs : List ℕ} {x : Result Match Miss} (rest : List ℕ) (u : Tree) {o : Option (List Tree)} {g : List Tree → Option (List Tree)} → Walked ws (words u ++ rest) qs x o
      → ((d : List Tree) (r : Match) → o ≡ some d → Holds ws r d → drop r.at ws ≡ words u ++ rest → Walked ws rest ps (match_from qs ws r) (g d))
      → Walked ws rest ps x (and_then o g)
  unfolding and_then
  then_second rest u (went {d} r e h a) f = walked_as e (f d r refl h a)
  then_second rest u (halted q e) f = halted q e

  -- matching looks at no context
  no_context : Context
  no_context = record { types = 0; bases = []; variables = []; marks = []; bound = [] }

  pub left-walked : (p : Pattern) (t : Tree) (c : List Tree) (ps rest : List ℕ) (m : Match) → Holds ws m c → AllFormed c → Formed t → drop m.at ws ≡ words t ++ rest
      → in_order p (length c) ≡ true → made p ≡ true → Walked ws rest ps (match_from (pattern_words p ++ ps) ws m) (match p t c)
  unfolding pattern_words match in_order made Formed count
  left-walked (# k) t c ps rest m h a f here o e = hole-walked h rest t f here k (ltb-true k 5 e) ps (leb-true k (length c) o)
  left-walked (first_of k) t c ps rest m h a f here o e = absurd (let z : ◌≡◌ {A = ℕ} 0 1 = cc in omega arith)
  left-walked (second_of k) t c ps rest m h a f here o e = absurd (let z : ◌≡◌ {A = ℕ} 0 1 = cc in omega arith)
  left-walked (l ⟨⟩) (node k no-tree) c ps rest m h a f here o e = head_then h (here ∙ no_words k rest) l k 0 ps refl e (λ x y. went _ refl x y)
  left-walked (l ⟨⟩) (node k (t ▹ g)) c ps rest m h a f here o e = mismatch ps l k 0 (t ▹ g) h e f (omega arith) here
  left-walked (l ⟨ p ⟩) (node k no-tree) c ps rest m h a f here o e =
      mismatch (pattern_words p ++ ps) l k 1 no-tree h (both (head_word (word l 1) 1) (made p) e).0 f (omega arith) here
  left-walked (l ⟨ p ⟩) (node k (t ▹ no-tree)) c ps rest m h a f here o e =
      let b = both (head_word (word l 1) 1) (made p) e in
      let n = both (nameless l) (in_order p (length c)) o in
      head_then h (here ∙ one-words k t rest) l k 1 (pattern_words p ++ ps) refl b.0 (λ x y. left-walked p t c ps rest _ x a f.1.0 y n.1 b.1)
  left-walked (l ⟨ p ⟩) (node k (t ▹ u ▹ g)) c ps rest m h a f here o e =
      mismatch (pattern_words p ++ ps) l k 1 (t ▹ u ▹ g) h (both (head_word (word l 1) 1) (made p) e).0 f (omega arith) here
  left-walked (l ⟨ p ∣ q ⟩) (node k no-tree) c ps rest m h a f here o e =
      mismatch ((pattern_words p ++ pattern_words q) ++ ps) l k 2 no-tree h (both (head_word (word l 2) 2) _ e).0 f (omega arith) here
  left-walked (l ⟨ p ∣ q ⟩) (node k (t ▹ no-tree)) c ps rest m h a f here o e =
      mismatch ((pattern_words p ++ pattern_words q) ++ ps) l k 2 (t ▹ no-tree) h (both (head_word (word l 2) 2) _ e).0 f (omega arith) here
  left-walked (l ⟨ p ∣ q ⟩) (node k (t ▹ u ▹ no-tree)) c ps rest m h a f here o e =
      let b = both (head_word (word l 2) 2) _ e in
      let d = both (made p) (made q) b.1 in
      let n = all_three (nameless l) (in_order p (length c)) (in_order q (met p (length c))) o in
      rw (append_assoc (pattern_words p) (pattern_words q) ps)
      (head_then h (here ∙ two-words k t u rest) l k 2 (pattern_words p ++ (pattern_words q ++ ps)) refl b.0
      (λ x y. then_second rest u (left-walked p t c (pattern_words q ++ ps) (words u ++ rest) _ x a f.1.0 y n.1.0 d.0)
      (λ v r g z w. let j = matched no_context p t c v n.1.0 a f.1.0 g in left-walked q u v ps rest r z j.formed f.1.1.0 w (rw j.many n.1.1) d.1)))
  left-walked (l ⟨ p ∣ q ⟩) (node k (t ▹ u ▹ v ▹ g)) c ps rest m h a f here o e =
      mismatch ((pattern_words p ++ pattern_words q) ++ ps) l k 2 (t ▹ u ▹ v ▹ g) h (both (head_word (word l 2) 2) _ e).0 f (omega arith) here

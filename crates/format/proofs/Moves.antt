-- The text of a step: it is read as that step, and nothing else is.
use mathlib.Core.Path.{◌≡◌, refl, sym, ◌∙◌, ap}
use mathlib.Core.Bool.{Bool, true, false, cond, and-eq-true_iff}
use mathlib.Core.List.{List, [], ◌∷◌, append_assoc}
use mathlib.Core.Option.{Option, some, none}
use Prim.Native.Nat.{ℕ, ◌≤◌}
use native.Mathlib.Omega.{arith}
use borrow.Author.Tests.{eqb-true, leb-true, le-leb, ne_eqb}
use lib.Dec.{eqb, leb}
use lib.ListN.{length, get_or}
use Rattle.words.specs.Listed.{lacks}
use Rattle.term.specs.declared.parts.Side.{Side}
use Rattle.term.specs.declared.parts.Side.TheVariants.{Left, Right}
use Rattle.rules.specs.Steps.{Move}
use Rattle.text.specs.Pieces.{Text, space, parted}
use Rattle.text.specs.Numbers.{is_digit, decimal, at_most}
use Rattle.text.proofs.Cutting.{all_lack, pieces-join, parted-one, joined, joined_parted}
use Rattle.text.proofs.Written.{decimal-lacks}
use Rattle.format.specs.Files.{side_letter, step_text, max_field, is_step}
use Rattle.format.specs.Reading.{side_in, move_of, move_in}
use Rattle.format.proofs.Limits.{limit_read, limit_written}

-- ---- cut again where it was joined
parted_joined : (b : ℕ) (p : Text) (ps : List Text) → all_lack b (p ∷ ps) ≡ true → parted b (joined b (p ∷ ps)) ≡ p ∷ ps
unfolding joined all_lack
parted_joined b p [] h = parted-one b p ((and-eq-true_iff (lacks b p) true).0 h).0
parted_joined b p (q ∷ ps) h =
    let r = (and-eq-true_iff (lacks b p) (all_lack b (q ∷ ps))).0 h in
    pieces-join b ([] ∷ []) p (joined b (q ∷ ps)) r.0 ∙ ap (λ (k : List Text). p ∷ k) (parted_joined b q ps r.1)

-- ---- the five fields
abbrev fields : Move → List Text
fields m = (side_letter m.side ∷ []) ∷ decimal m.step.rule ∷ decimal m.step.place ∷ decimal m.step.i ∷ decimal m.step.j ∷ []

text_joined : (m : Move) → step_text m ≡ joined space (fields m)
unfolding step_text joined
text_joined m = simp append_assoc

side-lacks : (s : Side) → lacks space (side_letter s ∷ []) ≡ true
unfolding lacks
side-lacks Left = refl
side-lacks Right = refl

fields_lack : (m : Move) → all_lack space (fields m) ≡ true
unfolding all_lack is_digit
fields_lack m = let d : (n : ℕ) → lacks space (decimal n) ≡ true = λ n. decimal-lacks space n refl in simp (side-lacks, d)

text_fields : (m : Move) → parted space (step_text m) ≡ fields m
text_fields m = rw text_joined (parted_joined space _ _ (fields_lack m))

-- ---- no field is over the limit
record Small (m : Move) : Type 0 where
  rule-small : m.step.rule ≤ max_field
  place-small : m.step.place ≤ max_field
  i-small : m.step.i ≤ max_field
  j-small : m.step.j ≤ max_field

step_small : (m : Move) → is_step m ≡ true → Small m
unfolding is_step
step_small m e =
    let p = (and-eq-true_iff (leb m.step.rule max_field) _).0 e in
    let q = (and-eq-true_iff (leb m.step.place max_field) _).0 p.1 in
    let r = (and-eq-true_iff (leb m.step.i max_field) (leb m.step.j max_field)).0 q.1 in
    record { rule-small = leb-true _ _ p.0; place-small = leb-true _ _ q.0; i-small = leb-true _ _ r.0; j-small = leb-true _ _ r.1 }

small-step : (m : Move) → Small m → is_step m ≡ true
unfolding is_step
small-step m h = rw (le-leb _ _ h.rule-small, le-leb _ _ h.place-small, le-leb _ _ h.i-small, le-leb _ _ h.j-small)

-- ---- read
side-read : (s : Side) → side_in (side_letter s ∷ []) ≡ some s
unfolding side_in
side-read Left = refl
side-read Right = refl

pub move_read : (m : Move) → is_step m ≡ true → move_in (parted space (step_text m)) ≡ some m
unfolding move_in move_of
move_read m e =
    let h = step_small m e in
    rw (text_fields, side-read, limit_read max_field _ h.rule-small, limit_read max_field _ h.place-small, limit_read max_field _ h.i-small, limit_read max_field _ h.j-small)

-- ---- written
side-written : (t : Text) (s : Side) → side_in t ≡ some s → t ≡ side_letter s ∷ []
unfolding side_in
side-written [] s e = cc
side-written (b ∷ []) s e = go (eqb b 76) (eqb b 82) refl refl e
  where
    is : (r : Side) → some r ≡ some s → b ≡ side_letter r → b ∷ [] ≡ side_letter s ∷ []
    is r e h = cc

    go : (t u : Bool) → eqb b 76 ≡ t → eqb b 82 ≡ u → cond t (some Left) (cond u (some Right) none) ≡ some s → b ∷ [] ≡ side_letter s ∷ []
    go true u p q e = is Left e (eqb-true _ _ p)
    go false true p q e = is Right e (eqb-true _ _ q)
    go false false p q e = cc
side-written (b ∷ c ∷ t) s e = let z : none ≡ some s = rw (ne_eqb (length (b ∷ c ∷ t)) 1 (λ h. omega arith)) at e in cc

-- the fields that a move was made of
record Made (o : Option Side) (r p i j : Option ℕ) (m : Move) : Type 0 where
  side_made : o ≡ some m.side
  rule_made : r ≡ some m.step.rule
  place_made : p ≡ some m.step.place
  i_made : i ≡ some m.step.i
  j_made : j ≡ some m.step.j

made : (o : Option Side) (r p i j : Option ℕ) (m : Move) → move_of o r p i j ≡ some m → Made o r p i j m
unfolding move_of
made none r p i j m e = absurd (let z : ◌≡◌ {A = ℕ} 0 1 = cc in omega arith)
made (some s) none p i j m e = absurd (let z : ◌≡◌ {A = ℕ} 0 1 = cc in omega arith)
made (some s) (some r) none i j m e = absurd (let z : ◌≡◌ {A = ℕ} 0 1 = cc in omega arith)
made (some s) (some r) (some p) none j m e = absurd (let z : ◌≡◌ {A = ℕ} 0 1 = cc in omega arith)
made (some s) (some r) (some p) (some i) none m e = absurd (let z : ◌≡◌ {A = ℕ} 0 1 = cc in omega arith)
made (some s) (some r) (some p) (some i) (some j) m e =
    let z : ◌≡◌ {A = Move} (record { side = s; step = record { rule = r; place = p; i = i; j = j } }) m = cc in
    record {
      side_made = ap (λ (n : Move). some n.side) z;
      rule_made = ap (λ (n : Move). some n.step.rule) z;
      place_made = ap (λ (n : Move). some n.step.place) z;
      i_made = ap (λ (n : Move). some n.step.i) z;
      j_made = ap (λ (n : Move). some n.step.j) z;
    }

five : (fs : List Text) → length fs ≡ 5 → fs ≡ get_or fs 0 [] ∷ get_or fs 1 [] ∷ get_or fs 2 [] ∷ get_or fs 3 [] ∷ get_or fs 4 [] ∷ []
five [] e = absurd (omega arith)
five (a ∷ []) e = absurd (omega arith)
five (a ∷ b ∷ []) e = absurd (omega arith)
five (a ∷ b ∷ c ∷ []) e = absurd (omega arith)
five (a ∷ b ∷ c ∷ d ∷ []) e = absurd (omega arith)
five (a ∷ b ∷ c ∷ d ∷ f ∷ []) e = refl
five (a ∷ b ∷ c ∷ d ∷ f ∷ g ∷ fs) e = absurd (omega arith)

module _ (fs : List Text) (m : Move) where
  abbrev at : ℕ → Option ℕ
  at k = at_most max_field (get_or fs k [])

  made_written : length fs ≡ 5 → Made (side_in (get_or fs 0 [])) (at 1) (at 2) (at 3) (at 4) m → (fs ≡ fields m) × (is_step m ≡ true)
  made_written h x =
      let r = limit_written max_field (get_or fs 1 []) _ x.rule_made in
      let p = limit_written max_field (get_or fs 2 []) _ x.place_made in
      let i = limit_written max_field (get_or fs 3 []) _ x.i_made in
      let j = limit_written max_field (get_or fs 4 []) _ x.j_made in (
        cc (five fs h, side-written _ _ x.side_made, r.0, p.0, i.0, j.0),
        small-step m (record { rule-small = r.1; place-small = p.1; i-small = i.1; j-small = j.1 }),
      )

  fields_written : move_in fs ≡ some m → (fs ≡ fields m) × (is_step m ≡ true)
  unfolding move_in
  fields_written e = go (eqb (length fs) 5) refl e
    where
      go : (t : Bool) → eqb (length fs) 5 ≡ t → cond t (move_of (side_in (get_or fs 0 [])) (at 1) (at 2) (at 3) (at 4)) none ≡ some m → (fs ≡ fields m) × (is_step m ≡ true)
      go false h e = absurd (let z : ◌≡◌ {A = ℕ} 0 1 = cc in omega arith)
      go true h e = made_written (eqb-true _ _ h) (made _ _ _ _ _ m e)

pub move-written : (s : Text) (m : Move) → move_in (parted space s) ≡ some m → (s ≡ step_text m) × (is_step m ≡ true)
move-written s m e =
    let f = fields_written (parted space s) m e in
    (sym (joined_parted space s) ∙ ap (joined space) f.0 ∙ sym (text_joined m), f.1)

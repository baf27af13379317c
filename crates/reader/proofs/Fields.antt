-- What the code finds of a step line, field by field, and of the last line, and what the definition says.
use mathlib.Core.Path.{◌≡◌, refl, sym, ◌∙◌}
use mathlib.Core.Logic.{◌≢◌}
use mathlib.Core.Bool.{Bool, true, false, cond}
use mathlib.Core.List.{List, [], ◌∷◌}
use mathlib.Core.Option.{Option, some, none}
use Prim.Native.Nat.{ℕ, ◌+◌, ◌-◌, ◌≤◌, ◌<◌, min}
use native.Mathlib.Nat.{zero-add}
use native.Mathlib.Omega.{arith}
use borrow.Author.Tests.{eq-eqb, ne_eqb, eqb-true, leb-true, leb-false}
use lib.Dec.{eqb, leb}
use lib.ListN.{length, take, drop, get_or}
use lib.Seq.{length-take-le}
use Rattle.term.specs.declared.parts.Side.{Side}
use Rattle.term.specs.declared.parts.Side.TheVariants.{Left, Right}
use Rattle.rules.specs.Steps.{Move}
use Rattle.lent.specs.Lent.{max_steps, step_put}
use Rattle.std.specs.Prelude.{Result, Ok, Err, Some, None}
use Rattle.std.specs.Result.{OkIff, result_ok}
use Rattle.text.specs.Pieces.{Text, space, parted, fields_from}
use Rattle.text.specs.Numbers.{is_number, well_begun, number_in, limited_to, at_most, told, most}
use Rattle.text.proofs.Told.{told-none, told_some, none-limited, over_limit, in_limit}
use Rattle.text.proofs.Tokened.{fields_more, fields_end, fields_all, piece-within}
use Rattle.cursor.specs.declared.Piece.{Piece}
use Rattle.cursor.proofs.Spans.{Cut}
use Rattle.format.specs.Files.{File, max_field, Step}
use Rattle.format.specs.Reading.{full, side_in, move_of, move_in, and_step, take_step, take_end, take_value}
use Rattle.format.specs.Kept.{steps_of}
use Rattle.format.proofs.Stepped.{steps-more}
use Rattle.reader.specs.declared.faults.Fault.{Fault}
use Rattle.reader.specs.declared.stepping.Field.{Field}
use Rattle.reader.specs.Code.Lines.{fault, Answers, refused, taken, SideRead, known, unknown, FieldRead, field, no_field, StepTaken}
use Rattle.reader.proofs.Named.{wrong-line, good-line}

-- ---- the side
module _ (s : Text) {r : Piece} (e : Cut s 0 space r) where
  abbrev end : ℕ
  end = r.end

  first-long : end ≤ length s
  first-long = (piece-within s 0 e.end (omega arith)).1

  first_field : fields_from 0 s ≡ take end s ∷ fields_from (end + 1) s
  first_field = let z : end - 0 ≡ end = omega arith in rw z at (fields_more s 0 e.end (omega arith))

  pub first-size : length (take end s) ≡ end
  first-size = length-take-le end s first-long

  -- a first field that is no single letter of a side
  pub no_side : (length (take end s) ≡ 1 → (get_or (take end s) 0 0 ≢ 76) × (get_or (take end s) 0 0 ≢ 82)) → SideRead s None
  unfolding side_in
  no_side h = unknown (rw first_field (go (eqb (length (take end s)) 1) refl))
    where
      go : (t : Bool) → eqb (length (take end s)) 1 ≡ t → side_in (take end s) ≡ none
      go true t = let b = h (eqb-true _ _ t) in rw (t, ne_eqb _ 76 b.0, ne_eqb _ 82 b.1)
      go false t = rw t

  module _ (o : length (take end s) ≡ 1) where
    behind-side : fields_from 0 s ≡ take end s ∷ fields_from 2 s
    behind-side = let l = first-size in let z : end + 1 ≡ 2 = omega arith in rw z at first_field

    pub left_side : get_or (take end s) 0 0 ≡ 76 → SideRead s (Some Left)
    unfolding side_in
    left_side h = known {d = Left} (take end s) behind-side (rw (o, h))

    pub right_side : get_or (take end s) 0 0 ≡ 82 → SideRead s (Some Right)
    unfolding side_in
    right_side h = known {d = Right} (take end s) behind-side (rw (o, h))

-- ---- a number, and what `try_from` makes of it
pub none-fits : {E : Type 0} {n : ℕ} (r : Result ℕ E) → OkIff r (n < 0x1_0000) n → None ≡ result_ok r → max_field < n
none-fits (Ok x) h e = absurd (let z : ◌≡◌ {A = ℕ} 0 1 = cc in omega arith)
none-fits {n = n} (Err x) h e = go (leb n max_field) refl
  where
    go : (t : Bool) → leb n max_field ≡ t → max_field < n
    go true t = absurd (h (let l = leb-true n max_field t in omega arith))
    go false t = leb-false n max_field t

pub one-fits : {E : Type 0} {n x : ℕ} (r : Result ℕ E) → OkIff r (n < 0x1_0000) n → Some x ≡ result_ok r → (n ≤ max_field) × (x ≡ n)
one-fits {x = x} (Ok y) h e = let z : x ≡ y = cc e in let l = h.0 in (omega arith, z ∙ h.1)
one-fits (Err y) h e = absurd (let z : ◌≡◌ {A = ℕ} 0 1 = cc in omega arith)

empty_number : number_in [] ≡ none
unfolding number_in is_number well_begun
empty_number = refl

module _ (s : Text) (at : ℕ) where
  pub field_missing : length s < at → FieldRead s at None
  unfolding limited_to
  field_missing h = no_field (rw (fields_end s at h, empty_number))

  module _ {r : Piece} (e : Cut s at space r) (h : at ≤ length s) where
    abbrev piece : Option ℕ
    piece = number_in (take (r.end - at) (drop at s))

    this_field : fields_from at s ≡ take (r.end - at) (drop at s) ∷ fields_from (r.end + 1) s
    this_field = fields_more s at e.end h

    not-at-most : limited_to max_field piece ≡ none → FieldRead s at None
    not-at-most n = no_field (rw this_field n)

    pub field-bad : told (min most) piece ≡ None → FieldRead s at None
    field-bad t = not-at-most (none-limited max_field piece t)

    pub field_over : {v : ℕ} → told (min most) piece ≡ Some v → max_field < v → FieldRead s at None
    field_over t g = not-at-most (over_limit max_field piece t (omega arith) g)

    pub field-number : {v : ℕ} → told (min most) piece ≡ Some v → v ≤ max_field → FieldRead s at (Some (record { number = v; next = r.rest.at }))
    field-number {v} t g =
        let w = piece-within s at e.end h in
        let n = e.next (omega arith) in
        field {x = record { number = v; next = r.rest.at }} (take (r.end - at) (drop at s)) (rw n this_field) (in_limit max_field piece t (omega arith) g) (omega arith)

-- ---- the five fields
abbrev field_at : List Text → ℕ → Option ℕ
field_at fs k = at_most max_field (get_or fs k [])

move_by_lem : (fs : List Text) → move_in fs ≡ cond (eqb (length fs) 5) (move_of (side_in (get_or fs 0 [])) (field_at fs 1) (field_at fs 2) (field_at fs 3) (field_at fs 4)) none
unfolding move_in
move_by_lem fs = refl

never : {o : Option ℕ} → o ≡ none → {n : ℕ} → o ≡ some n → ⊥
never e f = let z : ◌≡◌ {A = ℕ} 0 1 = cc in omega arith

-- a field that is not of the form leaves no move, however many there are
cond-none : (t : Bool) {o : Option Move} → o ≡ none → cond t o none ≡ none
cond-none true e = e
cond-none false e = refl

of_none : (d : Option Side) (r p i j : Option ℕ) → ((a b x y : ℕ) → r ≡ some a → p ≡ some b → i ≡ some x → j ≡ some y → ⊥) → move_of d r p i j ≡ none
unfolding move_of
of_none none r p i j h = refl
of_none (some d) none p i j h = refl
of_none (some d) (some r) none i j h = refl
of_none (some d) (some r) (some p) none j h = refl
of_none (some d) (some r) (some p) (some i) none h = refl
of_none (some d) (some r) (some p) (some i) (some j) h = absurd (h r p i j refl refl refl refl)

module _ (fs : List Text) where
  no_move : ((a b x y : ℕ) → field_at fs 1 ≡ some a → field_at fs 2 ≡ some b → field_at fs 3 ≡ some x → field_at fs 4 ≡ some y → ⊥) → move_in fs ≡ none
  no_move h = move_by_lem fs ∙ cond-none (eqb (length fs) 5) (of_none (side_in (get_or fs 0 [])) _ _ _ _ h)

  no_first : side_in (get_or fs 0 []) ≡ none → move_in fs ≡ none
  unfolding move_of
  no_first e = move_by_lem fs ∙ cond-none (eqb (length fs) 5) (rw e)

six : (q q₁ q₂ q₃ q₄ q₅ : Text) (fs : List Text) → move_in (q ∷ q₁ ∷ q₂ ∷ q₃ ∷ q₄ ∷ q₅ ∷ fs) ≡ none
six q q₁ q₂ q₃ q₄ q₅ fs = let z = ne_eqb (length (q ∷ q₁ ∷ q₂ ∷ q₃ ∷ q₄ ∷ q₅ ∷ fs)) 5 (λ e. omega arith) in rw (move_by_lem, z)

module _ {s : Text} where
  pub no_side_move : SideRead s None → move_in (parted space s) ≡ none
  no_side_move (unknown e) = rw (← fields_all s) (no_first (fields_from 0 s) e)

  -- so many fields read behind the side, and then none
  module _ {d : Side} where
    pub no_rule : SideRead s (Some d) → FieldRead s 2 None → move_in (parted space s) ≡ none
    no_rule (known q e _) (no_field n) = rw (← fields_all s, e) (no_move _ λ a b x y r p i j. never n r)

    pub no_place : {r : Field} → SideRead s (Some d) → FieldRead s 2 (Some r) → FieldRead s r.next None → move_in (parted space s) ≡ none
    no_place (known q e _) (field q₁ e₁ _ _) (no_field n) = rw (← fields_all s, e, e₁) (no_move _ λ a b x y r p i j. never n p)

    pub no_i : {r p : Field} → SideRead s (Some d) → FieldRead s 2 (Some r) → FieldRead s r.next (Some p) → FieldRead s p.next None → move_in (parted space s) ≡ none
    no_i (known q e _) (field q₁ e₁ _ _) (field q₂ e₂ _ _) (no_field n) = rw (← fields_all s, e, e₁, e₂) (no_move _ λ a b x y r p i j. never n i)

    pub no_j : {r p i : Field} → SideRead s (Some d) → FieldRead s 2 (Some r) → FieldRead s r.next (Some p) → FieldRead s p.next (Some i) → FieldRead s i.next None → move_in (parted space s) ≡ none
    no_j (known q e _) (field q₁ e₁ _ _) (field q₂ e₂ _ _) (field q₃ e₃ _ _) (no_field n) = rw (← fields_all s, e, e₁, e₂, e₃) (no_move _ λ a b x y r p i j. never n j)

    -- all four, and whether the line ends there
    module _ {r p i j : Field} where
      pub too_many_fields : SideRead s (Some d) → FieldRead s 2 (Some r) → FieldRead s r.next (Some p) → FieldRead s p.next (Some i) → FieldRead s i.next (Some j) → j.next ≤ length s
          → move_in (parted space s) ≡ none
      too_many_fields (known q e _) (field q₁ e₁ _ _) (field q₂ e₂ _ _) (field q₃ e₃ _ _) (field q₄ e₄ _ _) h =
          rw (← fields_all s, e, e₁, e₂, e₃, e₄, fields_more s j.next refl h) (six q q₁ q₂ q₃ q₄ _ _)

      pub all_fields : SideRead s (Some d) → FieldRead s 2 (Some r) → FieldRead s r.next (Some p) → FieldRead s p.next (Some i) → FieldRead s i.next (Some j) → length s < j.next
          → move_in (parted space s) ≡ some (record { side = d; step = record { rule = r.number; place = p.number; i = i.number; j = j.number } })
      unfolding move_of
      all_fields (known q e g) (field q₁ e₁ g₁ _) (field q₂ e₂ g₂ _) (field q₃ e₃ g₃ _) (field q₄ e₄ g₄ _) h =
          rw (← fields_all s, e, e₁, e₂, e₃, e₄, fields_end s j.next h, move_by_lem, g, g₁, g₂, g₃, g₄)

-- ---- a step line
module _ (f : File) where
  is-full : length f.steps ≡ max_steps → full Step f ≡ true
  unfolding full
  is-full h = eq-eqb (length f.steps) max_steps h

  not_full : length f.steps ≢ max_steps → full Step f ≡ false
  unfolding full
  not_full h = ne_eqb (length f.steps) max_steps h

  one_more_lem : (m : Move) → step_put (steps_of f) (length f.steps) m ≡ steps_of (and_step f m)
  unfolding steps_of
  one_more_lem m = sym (steps-more _ 0 f.steps m ∙ rw zero-add)

module _ (s : Text) (line k : ℕ) (ws : List ℕ) {A : Type 0} where
  pub no_room : {e : Fault} → k ≡ max_steps → e ≡ fault 6 line → StepTaken {A = A} s line k ws (Err e) ws
  no_room h e = λ f l n w. wrong-line e (rw (is-full f (omega arith)))

  pub no_step : {e : Fault} → k ≢ max_steps → move_in (parted space s) ≡ none → e ≡ fault 5 line → StepTaken {A = A} s line k ws (Err e) ws
  unfolding take_value take_step
  no_step h m e = λ f l n w. wrong-line e (rw (not_full f (λ x. h (n ∙ x)), m))

  pub a_step : {m : Move} {out : List ℕ} {x : A} → k ≢ max_steps → move_in (parted space s) ≡ some m → out ≡ step_put ws k m → StepTaken s line k ws (Ok x) out
  unfolding take_value take_step
  a_step {m} h o p = λ f l n w. rw (not_full f (λ x. h (n ∙ x)), o) (good-line (and_step f m) refl (rw (p, w, n, one_more_lem f m)))

-- ---- the last line
module _ (f : File) (line : ℕ) (o : Option ℕ) {A : Type 0} where
  pub no_end : {e : Fault} → told (min most) o ≡ None → e ≡ fault 5 line → Answers {A = A} line (take_end f o) (Err e)
  unfolding take_end
  no_end t e = rw (told-none _ o t, e) refused

  module _ {k v : ℕ} (few : k ≤ 1000) (n : k ≡ length f.steps) (t : told (min most) o ≡ Some v) where
    pub other_end : {e : Fault} → v ≢ k → e ≡ fault 9 line → Answers {A = A} line (take_end f o) (Err e)
    unfolding take_end
    other_end h e = let a = told_some _ o t in let b = a.2 in rw (a.1, ne_eqb a.0 (length f.steps) λ x. h (omega arith), e) refused

    pub same_end : {x : A} → v ≡ k → Answers line (take_end f o) (Ok x)
    unfolding take_end
    same_end h = let a = told_some _ o t in let b = a.2 in rw (a.1, eq-eqb a.0 (length f.steps) (omega arith)) taken

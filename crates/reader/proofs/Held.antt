-- A line of each key: what it answers, and what the lent words then hold of the file.
use mathlib.Core.Path.{◌≡◌, refl, sym, ◌∙◌, ap}
use mathlib.Core.Logic.{◌≢◌}
use mathlib.Core.Bool.{Bool, true, false, cond, ◌||◌}
use mathlib.Core.List.{List, [], ◌∷◌, ◌++◌}
use mathlib.Core.Option.{Option, some, none}
use Prim.Native.Nat.{ℕ, ◌+◌, ◌≤◌}
use native.Mathlib.Omega.{arith}
use borrow.Author.Tests.{eqb-true}
use lib.Dec.{eqb}
use lib.ListN.{length, length-append}
use Rattle.std.specs.Prelude.{Result, Ok, Err, MatchResult, ⊤}
use Rattle.term.specs.Terms.{max_names, term_words}
use Rattle.rules.specs.Steps.{Move}
use Rattle.lent.specs.Lent.{max_steps}
use Rattle.text.specs.Pieces.{Text, space, parted}
use Rattle.text.specs.Numbers.{number_in, at_most}
use Rattle.text.specs.Tokens.{tokens_in}
use Rattle.format.specs.Files.{Key, Types, Basis, Var, LeftTerm, RightTerm, Step, End, File, WellDeclared, names_of, key_text}
use Rattle.format.specs.Reading.{Line, wrong, good, nothing, fits, full, stage_after, take_value, take_types, take_term, take_step, take_end, key_line}
use Rattle.format.specs.Reading.{move_in, and_left, and_right, and_step}
use Rattle.format.specs.Kept.{declarations_of, steps_of}
use Rattle.format.proofs.Lines.{key_taken}
use Rattle.format.specs.Code.Reached.{Reached, start, bases, variables, left_side, steps, done}
use Rattle.format.proofs.Reached.{goes_on}
use Rattle.format.proofs.Values as Vals
use Rattle.format.proofs.Values.{Value, taken_value}
use Rattle.reader.specs.declared.faults.Fault.{Fault}
use Rattle.reader.specs.declared.walking.State.{State}
use Rattle.reader.specs.declared.keys.Stage.{Stage}
use Rattle.reader.specs.Code.Keys.{number}
use Rattle.reader.specs.Code.Lines.{fault, Answers, refused, taken, ordered, Put, Placed}
use Rattle.reader.proofs.Named.{refused_by}
use Rattle.reader.specs.Code.Holding.{Holding, Valued, After}

-- ---- what a stage says of the file
at-start : {s : ℕ} {f : File} {ls : List Text} → Reached s f ls → s ≡ 0 → f ≡ nothing
at-start start e = refl
at-start (bases d v n) e = absurd (omega arith)
at-start (variables d n) e = absurd (omega arith)
at-start (left_side d n l) e = absurd (omega arith)
at-start (steps x) e = absurd (omega arith)
at-start (done x) e = absurd (omega arith)

sound_at : {s : ℕ} {f : File} {ls : List Text} → Reached s f ls → s ≢ 0 → WellDeclared f
sound_at start e = absurd (e refl)
sound_at (bases d v n) e = d
sound_at (variables d n) e = d
sound_at (left_side d n l) e = d
sound_at (steps x) e = x.declared
sound_at (done x) e = x.declared

no_variables_at : {s : ℕ} {f : File} {ls : List Text} → Reached s f ls → s ≡ 1 → f.variables ≡ []
no_variables_at start e = refl
no_variables_at (bases d v n) e = v
no_variables_at (variables d n) e = absurd (omega arith)
no_variables_at (left_side d n l) e = absurd (omega arith)
no_variables_at (steps x) e = absurd (omega arith)
no_variables_at (done x) e = absurd (omega arith)

pub stage-few : {s : ℕ} {f : File} {ls : List Text} → Reached s f ls → s ≤ 5
stage-few start = omega arith
stage-few (bases d v n) = omega arith
stage-few (variables d n) = omega arith
stage-few (left_side d n l) = omega arith
stage-few (steps x) = omega arith
stage-few (done x) = omega arith

pub few-steps-at : {s : ℕ} {f : File} {ls : List Text} → Reached s f ls → length f.steps ≤ 1000
few-steps-at start = omega arith
few-steps-at (bases d v n) = rw n (omega arith)
few-steps-at (variables d n) = rw n (omega arith)
few-steps-at (left_side d n l) = rw n (omega arith)
few-steps-at (steps x) = x.few_steps
few-steps-at (done x) = x.few_steps

begun_by : (s : ℕ) (t u : Bool) → eqb s 1 ≡ t → eqb s 2 ≡ u → (t || u) ≡ true → s ≢ 0
begun_by s true u p q e z = let h = eqb-true s 1 p in omega arith
begun_by s false true p q e z = let h = eqb-true s 2 q in omega arith
begun_by s false false p q e z = let y : ◌≡◌ {A = ℕ} 0 1 = cc in omega arith

-- declarations come only behind the types
begun : (s : ℕ) → (eqb s 1 || eqb s 2) ≡ true → s ≢ 0
begun s e = begun_by s (eqb s 1) (eqb s 2) refl refl e

-- ---- what a line leaves as it was
steps-kept : {k : Key} {f g : File} {v : Text} → Value k f v g → stage_after k ≤ 2 → (steps_of f ≡ steps_of g) × (length f.steps ≡ length g.steps)
unfolding steps_of
steps-kept (Vals.types n h) l = (refl, refl)
steps-kept (Vals.basis b h) l = (refl, refl)
steps-kept (Vals.variable x h) l = (refl, refl)
steps-kept (Vals.left ws h) l = absurd (omega arith)
steps-kept (Vals.right ws h) l = absurd (omega arith)
steps-kept (Vals.step m h) l = absurd (omega arith)
steps-kept Vals.end l = absurd (omega arith)

-- ---- a line out of order
pub disordered : (k : Key) (s : ℕ) (f : File) (v : Text) {n : ℕ} {e : Fault} {ds ls rs ms : List ℕ} → fits k s ≡ false → e ≡ fault 4 n
    → After n k (key_line k s f v) (Err e) ds ls rs ms
unfolding key_line
disordered k s f v e a = record { answer = rw (e, a) refused; state = tt }

-- ---- a line in order
state-behind : {n : ℕ} (k : Key) (s : State) (f : File) (v : Text) (r : Result State Fault) {ds ls rs ms es ks qs ns : List ℕ} → key_line k (number s.stage) f v ≡ ordered k f v → Holding s f ds ls rs ms
    → Valued n k f v r es ks qs ns → MatchResult r (λ t. (number t.stage ≡ stage_after k) × ((g : File) → key_line k (number s.stage) f v ≡ good g → Holding t g es ks qs ns)) (λ _. ⊤)
state-behind k s f v (Ok t) o h x =
    let y = x.state in (
      y.0,
      λ g q. record {
        lines = h.lines ++ (key_text k ++ v) ∷ [];
        reached = rw y.0 (goes_on (key_taken k (number s.stage) f v g q) h.reached);
        kept = y.1 g (sym o ∙ q);
      },
    )
state-behind k s f v (Err e) o h x = tt

pub line_after : {n : ℕ} (k : Key) (s : State) (f : File) (v : Text) {r : Result State Fault} {ds ls rs ms es ks qs ns : List ℕ} → fits k (number s.stage) ≡ true → Holding s f ds ls rs ms
    → Valued n k f v r es ks qs ns → After n k (key_line k (number s.stage) f v) r es ks qs ns
unfolding key_line
line_after k s f v {r} fit h x = record { answer = rw fit x.answer; state = state-behind k s f v r (rw fit) h x }

value_good : (t : Bool) {l : Line} {g : File} → cond t (wrong 6) l ≡ good g → l ≡ good g
value_good true e = absurd (let z : ◌≡◌ {A = ℕ} 0 1 = cc in omega arith)
value_good false e = e

-- the term of a line that is taken, the move, and at the end the file itself
term-taken : (f g : File) (put : List ℕ → File) (o : Option (List ℕ)) → take_term f put o ≡ good g
    → (ws : List ℕ) × (o ≡ some ws) × (term_words (names_of f) ws ≡ true) × (put ws ≡ g)
unfolding take_term
term-taken f g put none e = absurd (let z : ◌≡◌ {A = ℕ} 0 1 = cc in omega arith)
term-taken f g put (some ws) e = by (term_words (names_of f) ws) refl e
  where
    by : (t : Bool) → term_words (names_of f) ws ≡ t → cond t (good (put ws)) (wrong 8) ≡ good g
        → (vs : List ℕ) × (some ws ≡ some vs) × (term_words (names_of f) vs ≡ true) × (put vs ≡ g)
    by true q e = (ws, refl, q, cc)
    by false q e = absurd (let z : ◌≡◌ {A = ℕ} 0 1 = cc in omega arith)

move_taken : (f g : File) (o : Option Move) → take_step f o ≡ good g → (m : Move) × (and_step f m ≡ g)
unfolding take_step
move_taken f g none e = absurd (let z : ◌≡◌ {A = ℕ} 0 1 = cc in omega arith)
move_taken f g (some m) e = (m, cc)

end-taken : (f g : File) (o : Option ℕ) → take_end f o ≡ good g → f ≡ g
unfolding take_end
end-taken f g none e = absurd (let z : ◌≡◌ {A = ℕ} 0 1 = cc in omega arith)
end-taken f g (some n) e = by (eqb n (length f.steps)) e
  where
    by : (t : Bool) → cond t (good f) (wrong 9) ≡ good g → f ≡ g
    by true e = cc
    by false e = absurd (let z : ◌≡◌ {A = ℕ} 0 1 = cc in omega arith)

-- ---- a value that is refused: a `?` passes the fault on
pub refused_valued : {A : Type 0} {n : ℕ} {k : Key} {f : File} {v : Text} {e : Fault} {r : Result State Fault} {ds ls rs ms : List ℕ} → Answers {A = A} n (ordered k f v) (Err e) → r ≡ Err e
    → Valued n k f v r ds ls rs ms
refused_valued a q = rw q record { answer = refused_by a; state = tt }

taken_by : {A B : Type 0} {n : ℕ} {l : Line} {x : A} {y : B} → Answers n l (Ok x) → Answers n l (Ok y)
taken_by taken = taken

-- ---- the value of each key, by what its function promises
module _ (s : State) (f : File) (v : Text) {n : ℕ} {ds ls rs ms : List ℕ} (h : Holding s f ds ls rs ms) where
  -- what is promised of the file so far
  module _ {A : Type 0} {r : Result A Fault} where
    pub types_put : {es : List ℕ} → ((f : File) → f.bases ≡ [] → f.variables ≡ [] → Put declarations_of n (take_types f (at_most max_names v)) r es)
        → fits Types (number s.stage) ≡ true → Put declarations_of n (ordered Types f v) r es
    unfolding fits full take_value
    types_put p z = let q = at-start h.reached (eqb-true _ _ z) in p f (ap (λ x. x.bases) q) (ap (λ x. x.variables) q)

    pub basis_put : {es : List ℕ} → ((f : File) → WellDeclared f → f.variables ≡ [] → ds ≡ declarations_of f → Put declarations_of n (ordered Basis f v) r es)
        → fits Basis (number s.stage) ≡ true → Put declarations_of n (ordered Basis f v) r es
    unfolding fits
    basis_put p z =
        let y : number s.stage ≡ 1 = eqb-true _ _ z in
        let b : number s.stage ≢ 0 = λ x. omega arith in p f (sound_at h.reached b) (no_variables_at h.reached y) (h.kept.declarations b)

    pub variable_put : {es : List ℕ} → ((f : File) → WellDeclared f → ds ≡ declarations_of f → Put declarations_of n (ordered Var f v) r es)
        → fits Var (number s.stage) ≡ true → Put declarations_of n (ordered Var f v) r es
    unfolding fits
    variable_put p z = let b = begun (number s.stage) z in p f (sound_at h.reached b) (h.kept.declarations b)

    pub step_put : {out : List ℕ} → ((f : File) → length f.steps ≤ max_steps → s.steps ≡ length f.steps → ms ≡ steps_of f → Put steps_of n (ordered Step f v) r out)
        → Put steps_of n (ordered Step f v) r out
    step_put p = let k = h.kept.steps in p f (few-steps-at h.reached) k.1 k.0

    pub end_answers : ((f : File) → s.steps ≡ length f.steps → Answers n (take_end f (number_in v)) r) → Answers n (ordered End f v) r
    unfolding full take_value
    end_answers p = p f h.kept.steps.1

  module _ {r : Result ℕ Fault} {out : List ℕ} (p : (f : File) → WellDeclared f → ds ≡ declarations_of f → Placed f n v r out) where
    pub left_placed : fits LeftTerm (number s.stage) ≡ true → Placed f n v r out
    unfolding fits
    left_placed z = let b = begun (number s.stage) z in p f (sound_at h.reached b) (h.kept.declarations b)

    pub right_placed : fits RightTerm (number s.stage) ≡ true → Placed f n v r out
    unfolding fits
    right_placed z = let y : number s.stage ≡ 3 = eqb-true _ _ z in let b : number s.stage ≢ 0 = λ x. omega arith in p f (sound_at h.reached b) (h.kept.declarations b)

  module _ {r : Result ℕ Fault} {out : List ℕ} (p : Placed f n v r out) where
    pub left_answers : Answers n (ordered LeftTerm f v) r
    unfolding full take_value
    left_answers = p.answer (and_left f)

    pub right_answers : Answers n (ordered RightTerm f v) r
    unfolding full take_value
    right_answers = p.answer (and_right f)

  -- the state behind
  module _ {g : Stage} where
    pub declared_valued : (k : Key) {A : Type 0} {x : A} {es : List ℕ} → number g ≡ stage_after k → stage_after k ≤ 2 → Put declarations_of n (ordered k f v) (Ok x) es
        → Valued n k f v (Ok (record { stage = g; left = s.left; right = s.right; steps = s.steps })) es ls rs ms
    declared_valued k i l p = record {
      answer = taken_by p.answer;
      state = (
        i,
        λ g o.
            let z = steps-kept (taken_value k f v g (value_good (full k f) o)) l in
            let m = h.kept.steps in
            record { declarations = λ x. p.words g o; left = λ x. absurd (omega arith); right = λ x. absurd (omega arith); steps = (m.0 ∙ z.0, m.1 ∙ z.1) },
      );
    }

    pub left_valued : {x : ℕ} {out : List ℕ} → number g ≡ 3 → fits LeftTerm (number s.stage) ≡ true → Placed f n v (Ok x) out
        → Valued n LeftTerm f v (Ok (record { stage = g; left = x; right = s.right; steps = s.steps })) ds out rs ms
    unfolding fits full take_value declarations_of steps_of
    left_valued {x} i z p = record {
      answer = taken_by (p.answer (and_left f));
      state = (
        i,
        λ g o.
            let b = begun (number s.stage) z in
            let q = term-taken f g (and_left f) (tokens_in v) o in
            let w = p.words q.0 q.1 q.2 in
            let l : x ≡ length q.0 = cc w.1 in
            rw (← q.3) record { declarations = λ y. h.kept.declarations b; left = λ y. (w.0, l); right = λ y. absurd (omega arith); steps = h.kept.steps },
      );
    }

    pub right_valued : {x : ℕ} {out : List ℕ} → number g ≡ 4 → fits RightTerm (number s.stage) ≡ true → Placed f n v (Ok x) out
        → Valued n RightTerm f v (Ok (record { stage = g; left = s.left; right = x; steps = s.steps })) ds ls out ms
    unfolding fits full take_value declarations_of steps_of
    right_valued {x} i z p = record {
      answer = taken_by (p.answer (and_right f));
      state = (
        i,
        λ g o.
            let e : number s.stage ≡ 3 = eqb-true _ _ z in
            let b : number s.stage ≢ 0 = λ x. omega arith in
            let q = term-taken f g (and_right f) (tokens_in v) o in
            let w = p.words q.0 q.1 q.2 in
            let l : x ≡ length q.0 = cc w.1 in
            rw (← q.3) record { declarations = λ y. h.kept.declarations b; left = λ y. h.kept.left (omega arith); right = λ y. (w.0, l); steps = h.kept.steps },
      );
    }

    pub step_valued : {A : Type 0} {x : A} {out : List ℕ} → number g ≡ 4 → fits Step (number s.stage) ≡ true → Put steps_of n (ordered Step f v) (Ok x) out
        → Valued n Step f v (Ok (record { stage = g; left = s.left; right = s.right; steps = s.steps + 1 })) ds ls rs out
    unfolding fits take_value declarations_of
    step_valued {out = out} i z p = record {
      answer = taken_by p.answer;
      state = (
        i,
        λ g o.
            let e : number s.stage ≡ 4 = eqb-true _ _ z in
            let k = h.kept in
            let q = move_taken f g (move_in (parted space v)) (value_good (full Step f) o) in
            let l : s.steps + 1 ≡ length (f.steps ++ q.0 ∷ []) = omega (arith, k.steps.1, length-append f.steps (q.0 ∷ [])) in
            let u : out ≡ steps_of (and_step f q.0) = p.words g o ∙ ap steps_of (sym q.1) in
            rw (← q.1) record { declarations = λ y. k.declarations (λ i. omega arith); left = λ y. k.left (omega arith); right = λ y. k.right (omega arith); steps = (u, l) },
      );
    }

    pub end_valued : {A : Type 0} {x : A} → number g ≡ 5 → fits End (number s.stage) ≡ true → Answers n (ordered End f v) (Ok x)
        → Valued n End f v (Ok (record { stage = g; left = s.left; right = s.right; steps = s.steps })) ds ls rs ms
    unfolding fits full take_value
    end_valued i z p = record {
      answer = taken_by p;
      state = (
        i,
        λ g o.
            let e : number s.stage ≡ 4 = eqb-true _ _ z in
            let k = h.kept in
            rw (← end-taken f g (number_in v) o)
            record { declarations = λ y. k.declarations (λ i. omega arith); left = λ y. k.left (omega arith); right = λ y. k.right (omega arith); steps = k.steps },
      );
    }

-- A step on the slice of a typed term: what the words from the place on make of it.
use mathlib.Core.Path.{◌≡◌, refl, sym, ◌∙◌, ap}
use mathlib.Core.Logic.{◌≢◌}
use mathlib.Core.Bool.{cond}
use mathlib.Core.List.{List, ◌++◌, append_assoc}
use Prim.Native.Nat.{ℕ, ◌+◌, ◌-◌, ◌≤◌, ◌<◌}
use native.Mathlib.Omega.{arith}
use lib.Dec.{eqb}
use lib.ListN.{length, take, replicate, length-append}
use lib.Seq.{length-take-le, take-take, take_at}
use Rattle.words.specs.Words.{cleared}
use Rattle.words.proofs.Runs.{length-cleared}
use Rattle.term.specs.Trees.{Tree, words}
use Rattle.term.specs.Terms.{max_words}
use Rattle.term.proofs.Places.{subtree-inside}
use Rattle.types.specs.Sorts.{Context, Sort}
use Rattle.declarations.specs.Declarations.{context_in}
use Rattle.declarations.proofs.Entries.{well_formed}
use Rattle.typing.specs.declared.terms.Typing.{Typing}
use Rattle.typing.specs.Answers.{typing_of, TypedTerm}
use Rattle.typing.proofs.Theorems.{sound_entry}
use Rattle.rules.specs.Steps as R
use Rattle.rules.specs.Outcomes.{Outcome, good, no_rule, no_place, no_instance, too_big}
use Rattle.rules.proofs.Steps.{step_decided}
use Rattle.lent.specs.declared.steps.Step.{Step}
use Rattle.step.specs.declared.single.Answer.{Answer}
use Rattle.families.specs.declared.writing.Refusal.{Refusal}
use Rattle.families.specs.declared.writing.Refusal.TheVariants.{NoRule, NoPart, NoInstance, TooBig}
use Rattle.families.specs.Writing.{code_of}
use Rattle.families.proofs.Written.{passed_up}
use Rattle.std.specs.Prelude.{Result, Ok, Err, IsErrAnd}
use Rattle.lent.specs.Lent.{asked}
use Rattle.step.specs.Answers.{held, step_in, step_refusal, stepped, answer_to, words_left}
use Rattle.step.specs.Code.Making.{Termed, code_in, length_in, Made}
use Rattle.step.proofs.Theorems.{refusals}
use Rattle.step.proofs.Held.{accepted-code, its_step, its_type}

-- ---- no refusal has the code of a good step
pub some_code : (e : Refusal) → code_of e ≢ 0
some_code NoRule h = omega arith
some_code NoPart h = omega arith
some_code NoInstance h = omega arith
some_code TooBig h = omega arith

-- ---- what an outcome tells of the term and the place
pub stays_by : {Γ : Context} {t u : Tree} {s : R.Step} {c : ℕ} → Outcome Γ t s c u → c ≢ 0 → u ≡ t
stays_by (good u k) h = absurd (h refl)
stays_by (no_rule e) h = refl
stays_by (no_place e f) h = refl
stays_by (no_instance e f x) h = refl
stays_by (too_big e f x g) h = refl

inside_by : {Γ : Context} {t u : Tree} {s : R.Step} {c : ℕ} → Outcome Γ t s c u → c ≡ 0 → s.place < length (words t)
inside_by {t} {s} (good u k) h = subtree-inside t s.place k.part k.there
inside_by (no_rule e) h = absurd (omega arith)
inside_by (no_place e f) h = absurd (omega arith)
inside_by (no_instance e f x) h = absurd (omega arith)
inside_by (too_big e f x g) h = absurd (omega arith)

-- ---- what is said of a step that was refused, and of one that was done
abbrev pub Tells : List ℕ → List ℕ → ℕ → Step → Result ℕ Refusal → List ℕ → Type 0
Tells ds ws n s r ws' =
    let after = step_in ds ws n s in
    (code_in r ≡ after.code) × (length_in n r ≡ length (words after.tree)) × (ws' ≡ held after.tree)

module _ (ds ws : List ℕ) (n : ℕ) (accepted : (typing_of ds ws n).code ≡ 0) where
  abbrev pub tree : Tree
  tree = (sound_entry ds ws n accepted).0

  abbrev pub sort : Sort
  sort = (sound_entry ds ws n accepted).1

  pub is-typed : TypedTerm ds ws n tree sort
  is-typed = (sound_entry ds ws n accepted).2

  pub slice-size : length ws ≡ max_words
  slice-size = is-typed.size

  pub inside-slice : n ≤ length ws
  inside-slice = is-typed.inside

  tree-length : length (words tree) ≡ n
  tree-length = ap length is-typed.is ∙ length-take-le n ws inside-slice

  pub termed : Termed ds (take n ws)
  termed = record { good = is-typed.good; tree = tree; sort = sort; typed = its_type is-typed; is = is-typed.is }

  -- the slice with zeros behind the term holds it
  held-tree : held tree ≡ cleared ws n
  unfolding held cleared
  held-tree = rw (is-typed.is, length-take-le n ws inside-slice, slice-size)

  module _ (s : Step) where
    abbrev after : R.Stepped
    after = step_in ds ws n s

    pub outcome : Outcome (context_in ds) tree (asked s) after.code after.tree
    outcome = rw (its_step is-typed s) (step_decided (context_in ds) (well_formed ds is-typed.good) sort tree (its_type is-typed) (asked s))

    pub stays : after.code ≢ 0 → after.tree ≡ tree
    stays = stays_by outcome

    pub refused-length : after.code ≢ 0 → n ≡ length (words after.tree)
    refused-length h = sym (ap (λ (t : Tree). length (words t)) (stays h) ∙ tree-length)

    refused-slice : after.code ≢ 0 → cleared ws n ≡ held after.tree
    refused-slice h = sym (ap held (stays h) ∙ held-tree)

    -- ---- where the words from the place on were made apart
    module _ (out : List ℕ) (end : ℕ) (m : Made tree after s.place out (Ok end)) where
      pub room : s.place + end ≤ length ws
      room = omega (arith, m.fits, slice-size)

      pub room_out : end ≤ length out
      room_out = omega (arith, m.fits, m.size)

      pub all_words : words after.tree ≡ take s.place ws ++ take end out
      all_words =
          let i = inside_by outcome (sym m.code) in
          m.words_are ∙ rw (is-typed.is, take-take s.place n ws (omega (arith, i, tree-length)))

      pub new-length : s.place + end ≡ length (words after.tree)
      new-length =
          sym
          (ap length all_words ∙ length-append (take s.place ws) (take end out)
          ∙ rw (length-take-le s.place ws (omega (arith, room)), length-take-le end out room_out))

      new-slice : take s.place ws ++ (take end out ++ replicate (length ws - (s.place + length (take end out))) 0) ≡ held after.tree
      unfolding held
      new-slice =
          rw (← new-length, all_words, slice-size, length-take-le end out room_out)
          (sym (append_assoc (take s.place ws) (take end out) (replicate (max_words - (s.place + end)) 0)))

    -- a refusal's code is none of 0
    pub refused_code : (out : List ℕ) (e : Refusal) → Made tree after s.place out (Err e) → after.code ≢ 0
    refused_code out e m h = some_code e (m.code ∙ h)

    pub refuses : (out : List ℕ) (e : Refusal) → Made tree after s.place out (Err e) → cleared ws n ≡ ws → (r : Result ℕ Refusal) → IsErrAnd r (λ x. x ≡ e)
        → Tells ds ws n s r ws
    refuses out e m z r k = let h = refused_code out e m in rw (passed_up e r k) (m.code, refused-length h, sym z ∙ refused-slice h)

    pub does : (out : List ℕ) (end : ℕ) (ws' : List ℕ) → Made tree after s.place out (Ok end)
        → ws' ≡ take s.place ws ++ (take end out ++ replicate (length ws - (s.place + length (take end out))) 0) → Tells ds ws n s (Ok (s.place + end)) ws'
    does out end ws' m e = (m.code, new-length out end m, e ∙ new-slice out end m)

    pub made_for : (out : List ℕ) (r : Result ℕ Refusal) → ((x : Termed ds (take n ws)) → Made x.tree (R.step_of (context_in ds) x.tree (asked s)) s.place out r)
        → Made tree after s.place out r
    unfolding termed
    made_for out r m = rw (its_step is-typed s) (m termed)

-- ---- the slice with zeros behind it
module _ (ds ws : List ℕ) (n : ℕ) (accepted : (typing_of ds ws n).code ≡ 0) where
  take-cleared : take n (cleared ws n) ≡ take n ws
  unfolding cleared
  take-cleared = take_at (take n ws) _ n (length-take-le n ws (inside-slice ds ws n accepted))

  pub cleared-accepted : (typing_of ds (cleared ws n) n).code ≡ 0
  cleared-accepted =
      let h = (sound_entry ds ws n accepted).2 in
      let z = length-cleared ws n in
      accepted-code
      (record {
        size = z ∙ h.size;
        good = h.good;
        inside = omega (arith, h.inside, z);
        is = h.is ∙ sym take-cleared;
        term = h.term;
        is_type = h.is_type;
        rules = h.rules;
      })

  cleared-step : (s : Step) → step_in ds (cleared ws n) n s ≡ step_in ds ws n s
  unfolding step_in
  cleared-step s = rw take-cleared

  -- what the entry answers and leaves, from what the step on the cleared slice did
  module _ (s : Step) (r : Result ℕ Refusal) (mid ws' : List ℕ) (is : mid ≡ cleared ws n) (told : Tells ds mid n s r ws') where
    same_step : step_in ds mid n s ≡ step_in ds ws n s
    same_step = ap (λ (v : List ℕ). step_in ds v n s) is ∙ cleared-step s

    code_is : code_in r ≡ (step_in ds ws n s).code
    code_is = rw same_step at told.0

    length-is : length_in n r ≡ length (words (step_in ds ws n s).tree)
    length-is = rw same_step at told.1

    slice_is : ws' ≡ held (step_in ds ws n s).tree
    slice_is = rw same_step at told.2

    pub entry_done : (record { code = code_in r; side = 0; step = 1; at = cond (eqb (code_in r) 0) 0 s.place; length = length_in n r } ≡ answer_to ds ws n s) × (ws' ≡ words_left ds ws n s)
    unfolding answer_to words_left stepped
    entry_done = (rw (accepted, code_is, length-is), rw accepted slice_is)

-- ---- and where typing refused
module _ (ds ws : List ℕ) (n : ℕ) (s : Step) (T : Typing) (r : Answer) (is : T ≡ typing_of ds ws n) (answer : r ≡ step_refusal T.code T.at) where
  pub untouched : T.code ≡ 1 → (r ≡ answer_to ds ws n s) × (ws ≡ words_left ds ws n s)
  untouched h =
      let f = refusals ds ws n (rw (← is) (omega arith)) s in
      (answer ∙ rw is (sym f.answer), sym (f.untouched (rw (← is) h)))

  pub all-zeros : (ws' : List ℕ) → ws' ≡ cleared ws 0 → T.code ≢ 0 → T.code ≢ 1 → (r ≡ answer_to ds ws n s) × (ws' ≡ words_left ds ws n s)
  unfolding cleared
  all-zeros ws' e g h =
      let f = refusals ds ws n (rw (← is) g) s in
      let z : length ws - 0 ≡ length ws = omega arith in
      (answer ∙ rw is (sym f.answer), e ∙ ap (λ (m : ℕ). replicate m 0) z ∙ sym (f.zeros (rw (← is) h)))

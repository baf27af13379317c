-- A step by its tests, one after the other, from what the code finds.
use mathlib.Core.Path.{◌≡◌, refl, sym, ◌∙◌, ap}
use mathlib.Core.Bool.{Bool, true, false, cond, and-eq-true_iff}
use Rattle.std.specs.Prelude.{Option as Found, Some, None, Result, Ok, Err, IsErrAnd}
use mathlib.Core.List.{List, [], append-nil}
use mathlib.Core.Option.{Option, some, none}
use Prim.Native.Nat.{ℕ, zero, suc, ◌+◌, ◌-◌, ◌≤◌, ◌<◌}
use native.Mathlib.Decide.{dec_lt}
use native.Mathlib.Nat.{zero-add}
use native.Mathlib.Omega.{arith}
use borrow.Author.Tests.{lt-ltb, le-ltb}
use lib.Dec.{leb}
use lib.ListN.{length, drop, length-append}
use lib.Seq.{drop_at}
use Rattle.words.specs.Words.{Added}
use Rattle.words.proofs.Runs.{to_end}
use Rattle.term.specs.Trees.{Tree, Forest, node, none as no-tree, ◌▹◌, count, words, words*, Formed, depth, Subtree, outside, found, subtree, replace, replace*}
use Rattle.term.specs.Parts.{first, first_depth, part, part_depth}
use Rattle.term.specs.Terms.{max_words, max_children}
use Rattle.term.proofs.Parsing.{parse-words}
use Rattle.term.proofs.Places.{place, subtree-inside, subtree-formed, subtree-depth}
use Rattle.types.specs.Sorts.{Context}
use Rattle.types.specs.Inside.{inside}
use Rattle.types.proofs.Indices.{inside-bodies}
use Rattle.types.proofs.Replace.{part-typed, inside_well}
use Rattle.declarations.specs.Declarations.{context_in, context_at}
use Rattle.declarations.proofs.Entries.{well_formed}
use Rattle.rules.specs.Table.{Rule, rule_of}
use Rattle.rules.specs.Rewrite.{rewrite}
use Rattle.rules.specs.Steps.{Step, Stepped, few, few*, limited, at_part, at_place, by_rule, step_of}
use Rattle.rules.proofs.AllTypes.{rule-keeps}
use Rattle.rules.proofs.Formed.{typed-formed}
use Rattle.rules.proofs.Rules.{decides}
use Rattle.rulebook.specs.declared.Row.{Row}
use Rattle.rulebook.specs.declared.Family.TheVariants as F
use Rattle.rulebook.specs.Code.Rows.{row_of}
use Rattle.families.specs.declared.writing.Refusal.{Refusal}
use Rattle.step.specs.declared.rewriting.Rewritten.{Rewritten}
use Rattle.families.specs.declared.writing.Refusal.TheVariants.{NoRule, NoPart}
use Rattle.families.specs.Writing.{code_of, may_deepen, Measures}
use Rattle.families.proofs.Depths.{no_deeper}
use Rattle.families.proofs.Written.{Way, refused, done, exceeded, way, passed_up}
use Rattle.families.proofs.Lines.{Ruled, unruled}
use Rattle.shapes.specs.Bodies.{index_by, back, bound_in, outer_at, Bound}
use Rattle.shapes.proofs.Theorems.{bound-inside}
use Rattle.step.specs.Code.Making.{Termed, Fresh, Made}
use Rattle.step.specs.Code.Site.{words_from, Site, Promise}
use Rattle.step.proofs.Limits.{too_many}

-- ---- the tests of `step_of`
module _ (Γ : Context) (t : Tree) (s : Step) where
  step_20 : rule_of s.rule ≡ none → step_of Γ t s ≡ record { code = 20; tree = t }
  unfolding step_of by_rule
  step_20 e = rw e

  module _ {r : Rule} (rule : rule_of s.rule ≡ some r) where
    step_21 : subtree t s.place ≡ outside → step_of Γ t s ≡ record { code = 21; tree = t }
    unfolding step_of by_rule at_place
    step_21 e = rw (rule, e)

    module _ {p : Tree} (there : subtree t s.place ≡ found p) where
      step_22 : rewrite (inside Γ t s.place) r s.i s.j p ≡ none → step_of Γ t s ≡ record { code = 22; tree = t }
      unfolding step_of by_rule at_place at_part
      step_22 e = rw (rule, there, e)

      step-limited : {q : Tree} → rewrite (inside Γ t s.place) r s.i s.j p ≡ some q → step_of Γ t s ≡ limited t (replace t s.place q)
      unfolding step_of by_rule at_place at_part
      step-limited e = rw (rule, there, e)

-- ---- the part at a place
outside_by : (t : Tree) (k : ℕ) → length (words t) ≤ k → (o : Subtree) → subtree t k ≡ o → subtree t k ≡ outside
outside_by t k h outside e = e
outside_by t k h (found s) e = absurd (omega (arith, subtree-inside t k s e))

module _ {ds term : List ℕ} (x : Termed ds term) (k : ℕ) (below : k < length term) where
  within-words : k < length (words x.tree)
  within-words = rw x.is below

  there : subtree x.tree k ≡ found (place x.tree k within-words).here
  there = (place x.tree k within-words).is

  -- the context there, by what is bound around
  there-context : inside (context_in ds) x.tree k ≡ context_at ds (inside (context_in ds) x.tree k).bound
  there-context = inside-bodies (context_in ds) x.tree k

  there-bound : Bound [] (outer_at term k) 0 (inside (context_in ds) x.tree k).bound
  unfolding outer_at bound_in index_by back context_in
  there-bound = bound-inside (context_in ds) refl x.tree k term [] x.typed.form.formed within-words (sym (append-nil (words x.tree) ∙ x.is))

  pub site : Site ds term k (words_from term k)
  site =
      let p = place x.tree k within-words in
      let d = part-typed (well_formed ds x.good) x.tree k p.here x.sort x.typed.rules p.is in
      record {
        good = x.good;
        bodies = (inside (context_in ds) x.tree k).bound;
        bound = there-bound;
        tree = p.here;
        formed = subtree-formed x.tree k p.here x.typed.form.formed p.is;
        shallow = omega (arith, subtree-depth x.tree k p.here p.is, x.typed.form.shallow);
        sort = d.0;
        typed = rw there-context at d.1;
        after = p.after;
        whole = to_end term k ∙ ap (drop k) (sym x.is ∙ p.whole) ∙ drop_at p.before _ k p.offset;
      }

  site_tree : site.tree ≡ (place x.tree k within-words).here
  unfolding site
  site_tree = refl

  site_context : context_at ds site.bodies ≡ inside (context_in ds) x.tree k
  unfolding site
  site_context = sym there-context

  -- and where the part ends in them
  site_part : (part (words_from term k) 0 ≡ words site.tree) × (part_depth (words_from term k) 0 ≡ depth site.tree)
  unfolding part part_depth first first_depth
  site_part = rw (site.whole, parse-words site.tree site.formed site.after) (refl, refl)

  site_size : (end : ℕ) → end ≡ length (part (words_from term k) 0) → end ≡ length (words site.tree)
  site_size end e = e ∙ ap length site_part.0

-- ---- a result with too many children somewhere has them in its place too
mutual
  unfolding replace few words count

  few-part : (t : Tree) (k : ℕ) (u : Tree) → k < length (words t) → few (replace t k u) ≡ true → few u ≡ true
  few-part (node l cs) zero u h e = e
  few-part (node l cs) (suc k) u h e = few_part* cs k u (omega arith) ((and-eq-true_iff (leb (count (replace* cs k u)) max_children) (few* (replace* cs k u))).0 e).1

  few_part* : (f : Forest) (k : ℕ) (u : Tree) → k < length (words* f) → few* (replace* f k u) ≡ true → few u ≡ true
  few_part* no-tree k u h e = absurd (omega arith)
  few_part* (t ▹ f) k u h e =
      elim (dec_lt k (length (words t))) [
        | yes d ↦ few-part t k u d ((and-eq-true_iff (few (replace t k u)) (few* f)).0 (rw (lt-ltb k (length (words t)) d) at e)).0
        | no d ↦
            few_part* f (k - length (words t)) u (omega (arith, length-append (words t) (words* f)))
            ((and-eq-true_iff (few t) (few* (replace* f (k - length (words t)) u))).0 (rw (le-ltb k (length (words t)) (omega arith)) at e)).1
      ]

many_by : (t : Tree) (k : ℕ) (u : Tree) → k < length (words t) → few u ≡ false → (b : Bool) → few (replace t k u) ≡ b → few (replace t k u) ≡ false
many_by t k u h f true e = absurd (let g = few-part t k u h e in let z : ◌≡◌ {A = ℕ} 0 1 = cc in omega arith)
many_by t k u h f false e = e

-- ---- a depth that is told only where it is asked for
told : (b : Bool) (n d : ℕ) {o : Found ℕ} → o ≡ cond b (Some n) None → o ≡ Some d → d ≡ n
told true n d e h = cc
told false n d e h = cc

untold : (b : Bool) (n : ℕ) {o : Found ℕ} → o ≡ cond b (Some n) None → o ≡ None → b ≡ false
untold true n e h = cc
untold false n e h = refl

-- ---- the answers
module _ {ds term : List ℕ} (x : Termed ds term) (s : Step) where
  abbrev after : Stepped
  after = step_of (context_in ds) x.tree s

  abbrev MadeBy : List ℕ → Result ℕ Refusal → Type 0
  MadeBy out r = Made x.tree after s.place out r

  refused_by : (out : List ℕ) (e : Refusal) → length out ≡ max_words → after ≡ record { code = code_of e; tree = x.tree } → MadeBy out (Err e)
  refused_by out e size h = rw h (record { size = size; code = refl; fits = tt; words_are = tt; stays = refl })

  module _ (out : List ℕ) (size : length out ≡ max_words) where
    pub made_20 : (row : Row) → row ≡ row_of s.rule → row.family ≡ F.NoRule → MadeBy out (Err NoRule)
    made_20 row e h = refused_by out NoRule size (step_20 (context_in ds) x.tree s (unruled s.rule row e h))

    pub made_21 : {row : Row} → Ruled row s.rule → length term ≤ s.place → MadeBy out (Err NoPart)
    made_21 k h = refused_by out NoPart size (step_21 (context_in ds) x.tree s k.is (outside_by x.tree s.place (rw x.is h) _ refl))

  module _ {row : Row} (k : Ruled row s.rule) (below : s.place < length term) (old : List ℕ) (size : length old ≡ max_words) (out : List ℕ) where
    abbrev here : Tree
    here = (place x.tree s.place (within-words x s.place below)).here

    abbrev Δ : Context
    Δ = inside (context_in ds) x.tree s.place

    abbrev result : Option Tree
    result = rewrite Δ k.rule s.i s.j here

    is-there : subtree x.tree s.place ≡ found here
    is-there = there x s.place below

    its_way : (r : Result ℕ Refusal) → Promise ds term s old out r → Way old out r result
    its_way r promise = way r result (rw (site_tree x s.place below, site_context x s.place below) at (promise (site x s.place below) k.rule k.is))

    -- where the rewriting refused
    made_22_by : (e : Refusal) {o : Option Tree} → Way old out (Err e) o → result ≡ o → MadeBy out (Err e)
    made_22_by e (refused _ c l) h =
        refused_by out e (l ∙ size) (step_22 (context_in ds) x.tree s k.is is-there h ∙ ap (λ (n : ℕ). record { code = n; tree = x.tree }) (sym c))
    made_22_by e (exceeded _ q f c l) h =
        refused_by out e (l ∙ size)
        (step-limited (context_in ds) x.tree s k.is is-there h
        ∙ too_many x.tree (replace x.tree s.place q) (many_by x.tree s.place q (within-words x s.place below) f _ refl)
        ∙ ap (λ (n : ℕ). record { code = n; tree = x.tree }) (sym c))

    pub made_22 : (e : Refusal) (r : Result ℕ Refusal) → IsErrAnd r (λ x. x ≡ e) → Promise ds term s old out (Err e) → MadeBy out r
    made_22 e r h promise = rw (passed_up e r h) (made_22_by e (its_way (Err e) promise) refl)

    result_formed : (q : Tree) → result ≡ some q → few q ≡ true → Formed q
    result_formed q e f =
        let W = well_formed ds x.good in
        let X = inside_well W x.tree s.place in
        let p = part-typed W x.tree s.place here x.sort x.typed.rules is-there in
        let formed = subtree-formed x.tree s.place here x.typed.form.formed is-there in
        let i = (decides Δ X s.rule k.rule k.is s.i s.j here q formed p.0 p.1).0 e in
        typed-formed X (rule-keeps X s.rule k.rule k.is s.i s.j here q p.0 i p.1) f

    -- and where it did not, with what is told of the part
    module _ (m : Rewritten) (promise : Promise ds term s old out (Ok m.end)) (part-is : Measures s.rule (words_from term s.place) m.size m.depth) where
      pub record Fine : Type 0 where
        pub fresh : Fresh term s.place m out
        same : fresh.tree ≡ x.tree
        steps : after ≡ limited fresh.tree (replace fresh.tree s.place fresh.result)

      was_deep : (d : ℕ) → m.depth ≡ Some d → d ≡ depth here
      was_deep d z = told (may_deepen (rule_of s.rule)) _ d part-is.depth z ∙ (site_part x s.place below).1 ∙ ap depth (site_tree x s.place below)

      stays-flat : (q : Tree) → result ≡ some q → m.depth ≡ None → depth q ≤ depth here
      stays-flat q e z = no_deeper k.rule (ap may_deepen (sym k.is) ∙ untold (may_deepen (rule_of s.rule)) _ part-is.depth z) Δ s.i s.j here q e

      fresh_of : (q : Tree) → result ≡ some q → few q ≡ true → Added old 0 (words q) out m.end → Fresh term s.place m out
      fresh_of q e f a =
          record {
            tree = x.tree;
            is = x.is;
            short = rw (← x.is) x.typed.form.short;
            formed = x.typed.form.formed;
            shallow = x.typed.form.shallow;
            part = here;
            there = is-there;
            ends = rw (site_tree x s.place below) at (site_size x s.place below m.size part-is.size);
            was = was_deep;
            result = q;
            result_formed = result_formed q e f;
            flat = stays-flat q e;
            size = a.size ∙ size;
            new_end = rw (size, zero-add) at a.end;
            written = λ l. let n : m.end ≡ 0 + length (words q) = omega (arith, a.end, size) in rw n (a.front (omega (arith, size)));
          }

      fine_by : {o : Option Tree} → Way old out (Ok m.end) o → result ≡ o → Fine
      unfolding fresh_of
      fine_by (done q f a) e = record { fresh = fresh_of q e f a; same = refl; steps = step-limited (context_in ds) x.tree s k.is is-there e }

      pub fine : Fine
      fine = fine_by (its_way (Ok m.end) promise) refl

      pub finished : {out' : List ℕ} {r : Result ℕ Refusal} (f : Fine)
          → Made f.fresh.tree (limited f.fresh.tree (replace f.fresh.tree s.place f.fresh.result)) s.place out' r → MadeBy out' r
      finished f m = rw (f.steps, ← f.same) m

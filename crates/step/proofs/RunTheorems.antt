-- The run: the witnesses of its statements.
use mathlib.Core.Path.{◌≡◌, refl, sym, ◌∙◌, ap}
use mathlib.Core.Logic.{◌≢◌}
use mathlib.Core.Bool.{Bool, true, false}
use mathlib.Core.List.{List, ◌++◌}
use Prim.Native.Nat.{ℕ, ◌+◌, ◌-◌}
use native.Mathlib.Nat.{zero-add}
use native.Mathlib.Omega.{arith}
use borrow.Author.Tests.{ne_eqb, eqb-true, eqb-false}
use lib.Dec.{eqb}
use lib.ListN.{length, take, drop, replicate, length-drop}
use lib.Seq.{drop-append-le}
use Rattle.algebra.specs.Semirings.{Arithmetic, StarSemiring}
use Rattle.words.specs.Words.{cleared, same_words}
use Rattle.words.proofs.Runs.{same-words, same_words_eq, agreeing-take, agreeing-differ}
use Rattle.words.specs.Listed.{up_to}
use Rattle.words.proofs.Listed.{length-up_to, up_to_split}
use Rattle.term.specs.Parts.{parse, tree_in}
use Rattle.term.specs.Trees.{Tree, words}
use Rattle.term.proofs.Parsing.{parse-tree}
use Rattle.term.proofs.Theorems.{one-reading}
use Rattle.term.proofs.Comparing.{first_difference}
use Rattle.types.specs.Sorts.{Sort, Context}
use Rattle.types.specs.Rules.{◌⊢◌∶◌, WellFormed}
use Rattle.types.proofs.Complete.{unique}
use Rattle.types.proofs.Strays.{typed_no_stray}
use Rattle.meaning.specs.Choices.{Choice}
use Rattle.meaning.specs.Sorted.{Fits}
use Rattle.declarations.specs.Declarations.{context_in}
use Rattle.declarations.proofs.Entries.{well_formed}
use Rattle.typing.specs.Answers.{HeldTerm, TypedTerm}
use Rattle.rules.specs.Steps.{Move, Sides, Run, run_of}
use Rattle.rules.proofs.Steps.{run-keeps-meaning, run-proves}
use Rattle.step.specs.declared.run.Answer as A
use Rattle.lent.specs.declared.faults.Fault.{Fault}
use Rattle.step.specs.Answers.{held}
use Rattle.lent.specs.Lent.{Derivation, move_in, moves_in}
use Rattle.lent.specs.Faults.{fault, fault_in}
use Rattle.step.specs.Runs.{compared, answered, run_from, run_in, run_answer, slice, left_after, right_after}
use Rattle.step.specs.Derivations.{AllTaken, Accepted, Decision, untouched, refused, stopped, differ, accepted, RunKept}
use Rattle.lent.specs.Refusals.{Refused, wrong_size, bad_declarations, no_term, bad_steps, left_stray, left_untyped, left_no_type, right_stray, right_untyped, right_no_type, types_differ}
use Rattle.lent.specs.Refusals.{Begun, Judged, found, none}
use Rattle.step.specs.Statements.{Accepts, Decides, Keeps, Proves, Pieces}
use Rattle.step.proofs.Held.{its_type}
use Rattle.step.proofs.Alike.{alike}
use Rattle.step.proofs.Begun as B
use Rattle.step.proofs.Begun.{start}
use Rattle.lent.proofs.Tests.{its_tree}
use Rattle.lent.proofs.Judging.{held_of, not-both, refused-codes, judges}
use Rattle.step.proofs.Courses.{Both, all_typed, stopped-typed, all-run, Went, all, stop, went, stopped_code, run-append}

-- ---- a term is one tree
held-tree : {ds ws : List ℕ} {n : ℕ} {t : Tree} → HeldTerm ds ws n t → tree_in (parse (take n ws)) ≡ t
unfolding tree_in
held-tree {t} h = rw (← h.is, parse-tree t h.term.formed)

same-tree : {ds ws : List ℕ} {n : ℕ} {t u : Tree} {S : Sort} → HeldTerm ds ws n t → TypedTerm ds ws n u S → t ≡ u
same-tree h k = sym (held-tree h) ∙ its_tree k

rules-at : {ds ws : List ℕ} {n : ℕ} {t u : Tree} {S : Sort} → HeldTerm ds ws n t → TypedTerm ds ws n u S → context_in ds ⊢ t ∶ S
rules-at h k = rw (same-tree h k) k.rules

same-sort : {ds ws : List ℕ} {n : ℕ} {t u : Tree} {S R : Sort} → TypedTerm ds ws n t S → TypedTerm ds ws n u R → S ≡ R
same-sort {ds} h k = unique (well_formed ds h.good) h.rules (rules-at (held_of h) k)

cleared-all : (ws : List ℕ) → replicate (length ws) 0 ≡ cleared ws 0
unfolding cleared
cleared-all ws = let z : length ws - 0 ≡ length ws = omega arith in rw z

module _ (d : Derivation) where
  abbrev moves : List Move
  moves = moves_in d.steps d.count

  abbrev Γ : Context
  Γ = context_in d.ds

  abbrev Begins : Sides → Sort → Type 0
  Begins p S = Begun d p S

  abbrev first : Sides
  first = start d

  counted : length moves ≡ d.count
  unfolding moves_in
  counted = length-up_to d.count (move_in d.steps)

  both : {p : Sides} {S : Sort} → Begins p S → Both Γ S p
  both b = record { left = its_type b.left_term; right = its_type b.right_term }

  -- ---- where both terms have one type and the steps are in order, there is no fault
  well : {p : Sides} {S : Sort} → Begins p S → WellFormed Γ
  well b = well_formed d.ds b.left_term.good

  at_odds : {c s k : ℕ} {p : Sides} {S : Sort} → Refused d c s k → Begins p S → ⊥
  at_odds (wrong_size x) b = x (b.left_term.size, b.right_term.size)
  at_odds (bad_declarations x e) b = let f = b.left_term.good in let z : ◌≡◌ {A = ℕ} 0 1 = cc in omega arith
  at_odds (no_term x g h) b = h _ _ (held_of b.left_term, held_of b.right_term)
  at_odds (bad_steps x h) b = h b.order
  at_odds {S} (left_stray x o f) b = typed_no_stray Γ (well b) _ S (rules-at x.0 b.left_term) _ f.there f.is f.stray
  at_odds {S} (left_untyped x o n h f) b = h (S, rules-at x.0 b.left_term)
  at_odds (left_no_type x o e h) b = h (rw (unique (well b) e (rules-at x.0 b.left_term)) b.left_term.is_type)
  at_odds {S} (right_stray x o t f) b = typed_no_stray Γ (well b) _ S (rules-at x.1 b.right_term) _ f.there f.is f.stray
  at_odds {S} (right_untyped x o t n h f) b = h (S, rules-at x.1 b.right_term)
  at_odds (right_no_type x o t e h) b = h (rw (unique (well b) e (rules-at x.1 b.right_term)) b.right_term.is_type)
  at_odds (types_differ o h k x) b = x (same-sort h b.left_term ∙ sym (same-sort k b.right_term))

  no_fault_by : {f : Fault} {p : Sides} {S : Sort} → Judged d f → Begins p S → f.code ≡ 0
  no_fault_by (found x h) b = absurd (at_odds x b)
  no_fault_by (none x) b = refl

  no_fault : {p : Sides} {S : Sort} → Begins p S → (fault_in d).code ≡ 0
  no_fault b = no_fault_by (judges d) b

  -- ---- every answer
  slices : {p : Sides} {S : Sort} → Begins p S
      → (left_after d ≡ held (run_in d).sides.left) × (right_after d ≡ held (run_in d).sides.right)
      × (run_answer d ≡ answered (run_in d))
  unfolding left_after right_after slice run_answer
  slices b = (rw (no_fault b), rw (no_fault b), rw (no_fault b))

  same_end : {S : Sort} {q : Sides} → Both Γ S q → words q.left ≡ words q.right → q.left ≡ q.right
  same_end {q} b e = one-reading q.left q.right b.left.form.formed b.right.form.formed e

  ends_by : {p q : Sides} {S : Sort} (b : Bool) → Begins p S → AllTaken Γ p moves q → same_words (words q.left) (words q.right) ≡ b
      → Decision d (compared (words q.left) (length (words q.left)) (words q.right) (length (words q.right)) d.count) (held q.left) (held q.right)
  unfolding compared
  ends_by {p} {q} {S} true b a e =
      rw e
      (accepted
      (record {
        start = p;
        end = q;
        sort = S;
        left_term = b.left_term;
        right_term = b.right_term;
        order = b.order;
        taken = a;
        same = same_end
            (all_typed (well_formed d.ds b.left_term.good) (both b) a) (same_words_eq _ _ e);
      }))
  ends_by {q} false b a e =
      let t = all_typed (well_formed d.ds b.left_term.good) (both b) a in
      let w = first_difference q.left q.right t.left.form.formed t.right.form.formed (λ z. not-both e (rw z (same-words (words q.right)))) in
      rw e (differ b a (record { in_both = w; before = agreeing-take _ _; there = agreeing-differ _ _ w.0 w.1 }))

  run_by : {p : Sides} {S : Sort} {r : Run} → Begins p S → Went Γ 0 p moves r → Decision d (answered r) (held r.sides.left) (held r.sides.right)
  unfolding answered
  run_by b (all a) = rw (counted, zero-add) (ends_by _ b a refl)
  run_by b (stop s) = rw (ne_eqb _ 0 (stopped_code s)) (stopped b s)

  -- the run from the sides that the slices hold
  run_at : {p : Sides} {S : Sort} → Begins p S → run_in d ≡ run_of Γ 0 p moves
  unfolding run_in
  run_at b = rw (its_tree b.left_term, its_tree b.right_term)

  found_by : {c s k : ℕ} (one : Bool) → eqb c 1 ≡ one → Refused d c s k → c ≢ 0 → fault c s k ≡ fault_in d
      → Decision d (run_answer d) (left_after d) (right_after d)
  found_by true o x h e =
      let z = eqb-true _ 1 o in
      let u = B.untouched d _ e _ refl z in rw (← u.0, ← u.1, ← u.2, z) (untouched (rw z at x))
  found_by false o x h e =
      let k = eqb-false _ 1 o in
      let u = B.all-zeros d _ e _ refl _ _ k h (cleared-all d.left) (cleared-all d.right) in rw (← u.0, ← u.1, ← u.2) (refused k x)

  view_by : {f : Fault} → Judged d f → f ≡ fault_in d
      → Decision d (run_answer d) (left_after d) (right_after d)
  unfolding run_in
  view_by (found {c} x h) e = found_by (eqb c 1) refl x h e
  view_by (none {p} b) e = let s = slices b in rw (s.0, s.1, s.2, run_at b) (run_by b (went (well_formed d.ds b.left_term.good) 0 p (both b) moves))

  -- ---- the accepted ones
  accepted_by : {r : A.Answer} {l u : List ℕ} → Decision d r l u → r.code ≡ 0 → Accepted d
  accepted_by (untouched x) e = absurd (omega arith)
  accepted_by (refused h x) e = absurd ((refused-codes x).0 e)
  accepted_by (stopped b s) e = absurd (stopped_code s e)
  accepted_by (differ b a w) e = absurd (omega arith)
  accepted_by (accepted a) e = a

  begins : (a : Accepted d) → Begins a.start a.sort
  begins a = record { left_term = a.left_term; right_term = a.right_term; order = a.order }

  run-all : (a : Accepted d) → run_of Γ 0 a.start moves ≡ record { code = 0; side = 0; step = 0 + length moves; at = 0; sides = a.end }
  run-all a = all-run (well_formed d.ds a.left_term.good) 0 (both (begins a)) a.taken

  accepted-code : Accepted d → (run_answer d).code ≡ 0
  unfolding answered compared
  accepted-code a = rw ((slices (begins a)).2, run_at (begins a), run-all a, a.same, same-words (words a.end.right))

  -- ---- what the sides stand for
  module _ {p : Sides} {S : Sort} (b : Begins p S) where
    abbrev W : WellFormed Γ
    W = well_formed d.ds b.left_term.good

    abbrev end : Sides
    end = (run_of Γ 0 p moves).sides

    went_typed : {r : Run} → Went Γ 0 p moves r → Both Γ S r.sides
    went_typed (all a) = all_typed W (both b) a
    went_typed (stop s) = stopped-typed W (both b) s

    typed-end : Both Γ S end
    typed-end = went_typed (went W 0 p (both b) moves)

    lengths_by : (c : Bool) (r : Run) → eqb r.code 0 ≡ c → ((answered r).left ≡ length (words r.sides.left)) × ((answered r).right ≡ length (words r.sides.right))
    unfolding answered compared
    lengths_by true r e = (rw e, rw e)
    lengths_by false r e = (rw e, rw e)

    kept : RunKept d p S end
    kept =
        let s = slices b in
        let l = lengths_by _ (run_of Γ 0 p moves) refl in
        let keeps : (R : Type 0) (𝓐 : Arithmetic R) → StarSemiring 𝓐 → (χ : Choice R) → Fits 𝓐 Γ χ → _ = λ R 𝓐 𝓡 χ F. run-keeps-meaning 𝓡 Γ χ W F S p (both b).left (both b).right 0 moves in
        record {
          left_slice = rw (run_at b) at s.0;
          right_slice = rw (run_at b) at s.1;
          lengths = rw (s.2, run_at b) l;
          left_alike = alike W b.left_term.is_type (both b).left typed-end.left (λ R 𝓐 𝓡 χ F. (keeps R 𝓐 𝓡 χ F).2);
          right_alike = alike W b.left_term.is_type (both b).right typed-end.right (λ R 𝓐 𝓡 χ F. (keeps R 𝓐 𝓡 χ F).3);
        }

pub accepts : Accepts
accepts d = (accepted_by d (view_by d (judges d) refl), accepted-code d)

pub keeps : Keeps
keeps d p S b = (_, kept d b)

pub proves : Proves
proves d a =
    let W = well_formed d.ds a.left_term.good in
    let e : let q = (run_of (context_in d.ds) 0 a.start (moves_in d.steps d.count)).sides in q.left ≡ q.right = rw (run-all d a) a.same in
    alike W a.left_term.is_type (its_type a.left_term) (its_type a.right_term)
    (λ R 𝓐 𝓡 χ F. run-proves 𝓡 (context_in d.ds) χ W F a.sort a.start (its_type a.left_term) (its_type a.right_term) 0 (moves_in d.steps d.count) e)

pub decides : Decides
decides d = view_by d (judges d) refl

-- ---- pieces
pub pieces : Pieces
unfolding run_from moves_in
pieces Γ p steps k m a =
    let xs = up_to (k + m) (move_in steps) in
    let ys = up_to (k + m + a) (move_in steps) in
    let l : length xs ≡ k + m = length-up_to (k + m) (move_in steps) in
    let z : k + length (drop k xs) ≡ k + m = omega (arith, length-drop k xs) in
    let e : drop k ys ≡ drop k xs ++ drop (k + m) ys = ap (drop k) (up_to_split (k + m) a (move_in steps)) ∙ drop-append-le k xs (drop (k + m) ys) (omega arith) in
    rw e (rw z at (run-append Γ k p (drop k xs) (drop (k + m) ys)))

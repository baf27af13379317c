-- Typing a part from left to right: the children passed so far, the whole part from them, and what it is found to be.
use mathlib.Core.Path.{◌≡◌, refl, sym, ◌∙◌, ap}
use mathlib.Core.Bool.{Bool, cond}
use mathlib.Core.List.{List, [], ◌∷◌, ◌++◌, append-nil}
use Prim.Native.Nat.{ℕ, ◌+◌, ◌-◌, ◌/◌, ◌≤◌, ◌<◌, max}
use native.Mathlib.Omega.{arith}
use lib.Dec.{eqb}
use lib.ListN.{length, drop, get_or, length-append, length-drop}
use lib.Seq.{drop-drop}
use Rattle.term.specs.Heads.{Label, heads, labelled, reading, read, arity_of}
use Rattle.term.specs.Trees.{Tree, Forest, node, none, ◌▹◌, count, ◌⧺◌, words, words*, depth, depth*}
use Rattle.term.specs.Parts.{parse, tree_in, first, first_depth, part, part_depth}
use Rattle.term.proofs.Parsing.{⧺-assoc, count-⧺, words*-⧺, some_words, Grown, unread-word, words-short, planted, grown, parse-node}
use Rattle.term.proofs.Extents.{depth*-⧺, parse-behind}
use Rattle.term.proofs.Scan.{read_children, read-unknown}
use Rattle.types.specs.Sorts.{Sort, Context}
use Rattle.types.specs.Inside.{binds, behind_first, later}
use Rattle.types.specs.TypeOf.{Conclusion, fails, gives, conclude, typed, untyped, sorts, decide, close, type_of, types_of}
use Rattle.std.specs.Prelude.{Option as CodeOption, Some, None, Result, Err}
use Rattle.typing.specs.declared.sorts.Sorted as S
use Rattle.typing.specs.declared.infer.Part as P
use Rattle.typing.specs.Code.Shapes.{Above, Answers}
use Rattle.typebook.specs.Code.Lines.{concluded}
use Rattle.typing.specs.Code.Verdicts.{settlement, Unsettled, Found}
use Rattle.typing.proofs.Lying.{above_trans, above_lower}
use Rattle.types.proofs.Labels.{binds-word}
use Rattle.types.proofs.Walk.{typed_at, untyped-at, next_in, types_more, types_fail, next_child}

-- ---- the children passed so far
-- the context of those behind the first, where the head binds or not, and that of the next one
unfoldable pub later_by : Bool → Context → Forest → Context
unfolding behind_first
later_by b Γ cs = cond b (behind_first Γ cs) Γ

unfoldable pub next_at : Bool → Context → Forest → Context
unfolding next_in later_by
next_at b Γ cs = next_in Γ (later_by b Γ cs) cs

later-is : (Γ : Context) (l : Label) (cs : Forest) {b : Bool} → binds l ≡ b → later Γ l cs ≡ later_by b Γ cs
unfolding later later_by
later-is Γ l cs e = rw e

-- it is settled by the first of them
next_more : (b : Bool) (Γ : Context) (cs f : Forest) → next_in Γ (later_by b Γ (cs ⧺ f)) cs ≡ next_at b Γ cs
unfolding next_at ◌⧺◌
next_more b Γ none f = refl
next_more b Γ (c ▹ cs) f = refl

later_more : (b : Bool) (Γ : Context) (cs f : Forest) {ss : List Sort} → types_of Γ (later_by b Γ cs) 1 cs ≡ sorts ss → types_of Γ (later_by b Γ (cs ⧺ f)) 1 cs ≡ sorts ss
unfolding later_by type_of ◌⧺◌
later_more b Γ none f e = e
later_more b Γ (c ▹ cs) f e = e

pub record Passed (Γ : Context) (b : Bool) (ws : List ℕ) (next k deepest : ℕ) (list : List Sort) : Type 0 where
  pub children : Forest
  pub rest : parse (drop 1 ws) ≡ children ⧺ parse (drop next ws)
  pub number : count children ≡ k
  pub place : next ≡ 1 + length (words* children)
  pub deep : deepest ≡ depth* children
  pub sorted : types_of Γ (later_by b Γ children) 1 children ≡ sorts list

pub passed_none : (Γ : Context) (b : Bool) (ws : List ℕ) → Passed Γ b ws 1 0 0 []
unfolding ◌⧺◌ count words depth type_of
passed_none Γ b ws = record { children = none; rest = refl; number = refl; place = refl; deep = refl; sorted = refl }

-- the first tree of a row that is not empty
pub record First (ws : List ℕ) : Type 0 where
  pub tree : Tree
  pub others : Forest
  pub is : parse ws ≡ tree ▹ others

pub first-tree : (ws : List ℕ) → 0 < length (part ws 0) → First ws
unfolding part first
first-tree ws h = go (parse ws) refl h
  where
    go : (f : Forest) → parse ws ≡ f → 0 < length (first f) → First ws
    go none e h = absurd (omega arith)
    go (t ▹ f) e h = record { tree = t; others = f; is = e }

module _ {ws : List ℕ} (c : First ws) where
  pub part-is : length (part ws 0) ≡ length (words c.tree)
  unfolding part first
  part-is = rw c.is

  pub depth_is : part_depth ws 0 ≡ depth c.tree
  unfolding part_depth first_depth
  depth_is = rw c.is

  pub tree_is : tree_in (parse ws) ≡ c.tree
  unfolding tree_in
  tree_is = rw c.is

module _ {Γ : Context} {b : Bool} {ws : List ℕ} {next k deepest : ℕ} {list : List Sort} (p : Passed Γ b ws next k deepest list) where
  pub passed-more : (c : First (drop next ws)) (S : Sort) → type_of (next_at b Γ p.children) 0 c.tree ≡ typed S
      → Passed Γ b ws (next + length (words c.tree)) (k + 1) (max deepest (depth c.tree)) (list ++ (S ∷ []))
  unfolding words count ◌⧺◌ depth
  passed-more c S e =
      let t = c.tree in
      let cs = p.children in
      let behind : parse (drop (next + length (words t)) ws) ≡ c.others = rw drop-drop at (parse-behind (drop next ws) t c.others c.is) in
      let at = p.place in
      record {
        children = cs ⧺ (t ▹ none);
        rest = rw (behind, ⧺-assoc) (p.rest ∙ ap (λ (f : Forest). cs ⧺ f) c.is);
        number = omega (arith, count-⧺ cs (t ▹ none), p.number);
        place = rw (words*-⧺, append-nil) (simp length-append (omega arith));
        deep = rw (depth*-⧺, p.deep) (omega arith);
        sorted = types_more Γ (later_by b Γ (cs ⧺ (t ▹ none))) cs 1 t (later_more b Γ cs (t ▹ none) p.sorted) S (rw (next_more b Γ cs (t ▹ none)) (typed_at (next_at b Γ cs) _ t S e));
      }

  -- ---- the whole part, once as many are passed as its word wants
  module _ (l : Label) (reads : read (get_or ws 0 0) ≡ labelled l k) (binding : binds l ≡ b) (some : 0 < length ws) where
    whole : First ws
    whole = record { tree = node l p.children; others = parse (drop next ws); is = go ws some reads p.rest }
      where
        go : (vs : List ℕ) → 0 < length vs → read (get_or vs 0 0) ≡ labelled l k → parse (drop 1 vs) ≡ p.children ⧺ parse (drop next ws) → parse vs ≡ node l p.children ▹ parse (drop next ws)
        go [] h r e = absurd (omega arith)
        go (w ∷ vs) h r e = parse-node w l p.children (rw p.number r) vs (parse (drop next ws)) e

    whole-size : next ≡ length (part ws 0)
    unfolding words whole
    whole-size = let e = part-is whole in let q = p.place in omega arith

    whole-depth : deepest + 1 ≡ part_depth ws 0
    unfolding depth whole
    whole-depth = let d = p.deep in let e = depth_is whole in omega arith

    whole-type : type_of Γ 0 (tree_in (parse ws)) ≡ decide 0 (conclude Γ l list)
    unfolding type_of close whole conclude
    whole-type = rw (tree_is whole, later-is Γ l p.children binding, p.sorted)

-- ---- what is answered
module _ {Γ : Context} {b : Bool} {ws : List ℕ} {budget top next k deepest : ℕ} {list : List Sort} {st st' : List ℕ} (p : Passed Γ b ws next k deepest list) (shallow : deepest < budget)
    (l : Label) (reads : read (get_or ws 0 0) ≡ labelled l k) (binding : binds l ≡ b) (some : 0 < length ws) where
  settled_by : (c : Conclusion) → conclude Γ l list ≡ c → {o : CodeOption S.Sorted} → Answers (concluded c) o top st st'
      → Found Γ ws budget top (settlement next (deepest + 1) o) st st'
  unfolding decide
  settled_by fails e {o = None} a = record { kept = a.kept; told = record { inside = omega arith; is = λ w s. whole-type p l reads binding some ∙ rw e } }
  settled_by fails e {o = Some s} a = absurd (let t = a.told in let z : ◌≡◌ {A = ℕ} 0 1 = cc in omega arith)
  settled_by (gives S) e {o = None} a = absurd (let t = a.told in let z : ◌≡◌ {A = ℕ} 0 1 = cc in omega arith)
  settled_by (gives S) e {o = Some s} a =
      let t = a.told in
      let n = whole-size p l reads binding some in
      let d = whole-depth p l reads binding some in
      record {
        kept = a.kept;
        told = record {
          sort = S;
          whole = let q = p.place in omega arith;
          is = whole-type p l reads binding some ∙ rw e;
          size = n;
          depth = d;
          shallow = omega arith;
          small = a.small;
          sorted = cc;
        };
      }

  pub settles : {o : CodeOption S.Sorted} → Answers (concluded (conclude Γ l list)) o top st st' → {r : Result P.Part ℕ}
      → r ≡ settlement next (deepest + 1) o → Found Γ ws budget top r st st'
  settles a is = rw is (settled_by (conclude Γ l list) refl a)

  -- no rule at all
  pub settles_none : conclude Γ l list ≡ fails → Above top st st' → Found Γ ws budget top (Err 0) st st'
  unfolding decide
  settles_none e a = record { kept = a; told = record { inside = omega arith; is = λ w s. whole-type p l reads binding some ∙ rw e } }

-- no part at all
pub found_none : {Γ : Context} {ws : List ℕ} {budget top : ℕ} {st : List ℕ} → (0 < length (part ws 0) → part_depth ws 0 ≤ budget → ⊥) → Found Γ ws budget top (Err 0) st st
found_none never = record { kept = record { long = refl; below = refl }; told = record { inside = omega arith; is = λ w s. absurd (never w s) } }

-- ---- an untyped child
-- a whole part's word and children
pub record Root (ws : List ℕ) : Type 0 where
  pub label : Label
  pub kids : Forest
  pub others : Forest
  pub is : parse ws ≡ node label kids ▹ others
  pub reads : read (get_or ws 0 0) ≡ labelled label (count kids)
  pub row : parse (drop 1 ws) ≡ kids ⧺ others

root_by : {w : ℕ} {vs : List ℕ} {f g : Forest} → parse (w ∷ vs) ≡ g → parse vs ≡ f → 0 < length (first g) → Grown w f g → Root (w ∷ vs)
unfolding first
root_by e q h (unread-word r) = absurd (omega arith)
root_by e q h (words-short l n r k) = absurd (omega arith)
root_by e q h (planted l a b r p) = record { label = l; kids = a; others = b; is = e; reads = r; row = q ∙ p }

pub root : (ws : List ℕ) → 0 < length (part ws 0) → Root ws
unfolding part parse first
root [] h = absurd (omega arith)
root (w ∷ vs) h = root_by refl refl h (grown w vs)

-- no word is a head's with children, or a leaf's, where there is none
pub some_word : (ws : List ℕ) {n : ℕ} → arity_of (get_or ws 0 0) ≡ Some n → 0 < length ws
unfolding arity_of read heads reading
some_word [] e = absurd (let z : ◌≡◌ {A = ℕ} 0 1 = cc in omega arith)
some_word (w ∷ ws) e = omega arith

pub no_head : (ws : List ℕ) → arity_of (get_or ws 0 0) ≡ None → 0 < length (part ws 0) → ⊥
no_head ws e h = let R = root ws h in let r = read-unknown (get_or ws 0 0) e in let q = R.reads in let z : ◌≡◌ {A = ℕ} 0 1 = cc in omega arith

-- a part is at least 1 deep
pub no_budget : (ws : List ℕ) {budget : ℕ} → budget ≡ 0 → 0 < length (part ws 0) → part_depth ws 0 ≤ budget → ⊥
unfolding part_depth first_depth depth
no_budget ws z h s = let R = root ws h in let e = ap first_depth R.is in omega arith

fail_at : (Γ : Context) (b : Bool) (l : Label) (cs f : Forest) (t : Tree) {kids : Forest} {list : List Sort} {next j : ℕ} → binds l ≡ b → kids ≡ cs ⧺ (t ▹ f) → next ≡ 1 + length (words* cs)
    → types_of Γ (later_by b Γ cs) 1 cs ≡ sorts list → type_of (next_at b Γ cs) 0 t ≡ untyped j → type_of Γ 0 (node l kids) ≡ untyped (next + j)
unfolding type_of
fail_at Γ b l cs f t {j} binding are at s u =
    let z : 0 + 1 ≡ 1 = refl in
    let all = cs ⧺ (t ▹ f) in
    let fails = types_fail Γ (later_by b Γ all) cs 1 t (later_more b Γ cs (t ▹ f) s) f (1 + length (words* cs) + j) (rw (next_more b Γ cs (t ▹ f)) (untyped-at (next_at b Γ cs) _ t j u)) in
    rw (are, z, later-is Γ l all binding, fails, at)

module _ {Γ : Context} {b : Bool} {ws : List ℕ} {budget next k n deepest : ℕ} {list : List Sort} (p : Passed Γ b ws next k deepest list) (binding : b ≡ eqb (get_or ws 0 0 / 256) 27)
    (wants : arity_of (get_or ws 0 0) ≡ Some n) (less : k < n) {j : ℕ} (found : Unsettled (next_at b Γ p.children) (drop next ws) (budget - 1) j) where
  pub child-fails : 0 < length (part ws 0) → part_depth ws 0 ≤ budget → type_of Γ 0 (tree_in (parse ws)) ≡ untyped (next + j)
  unfolding part_depth first_depth depth
  child-fails h s =
      let R = root ws h in
      let q = read_children (get_or ws 0 0) n wants in
      let m : n ≡ count R.kids = cc (q.1, R.reads) in
      let number = p.number in
      let c = next_child p.children R.kids R.others (parse (drop next ws)) (omega arith) (sym R.row ∙ p.rest) in
      let t = c.0 in
      let v : First (drop next ws) = record { tree = t; others = _; is = c.3 } in
      let d : depth* R.kids < budget = let e = ap first_depth R.is in omega arith in
      let f = ap depth* c.2 ∙ depth*-⧺ p.children (t ▹ c.1) in
      let u = sym (ap (type_of (next_at b Γ p.children) 0) (tree_is v)) ∙ found.is (let e = part-is v in omega (arith, some_words t)) (let e = depth_is v in omega arith) in
      tree-at R.is ∙ fail_at Γ b R.label p.children c.1 t (binds-word _ _ _ R.reads ∙ sym binding) c.2 p.place p.sorted u
    where
      tree-at : {t : Tree} {f : Forest} → parse ws ≡ t ▹ f → type_of Γ 0 (tree_in (parse ws)) ≡ type_of Γ 0 t
      tree-at {t} {f} e = ap (type_of Γ 0) (tree_is {ws = ws} (record { tree = t; others = f; is = e }))

pub found-child : {Γ : Context} {b : Bool} {ws : List ℕ} {budget top free next k n deepest j : ℕ} {list : List Sort} {st mid st' : List ℕ} (p : Passed Γ b ws next k deepest list)
    → b ≡ eqb (get_or ws 0 0 / 256) 27 → arity_of (get_or ws 0 0) ≡ Some n → k < n → next ≤ length ws → Above top st mid → top ≤ free
    → Found (next_at b Γ p.children) (drop next ws) (budget - 1) free (Err j) mid st' → Found Γ ws budget top (Err (next + j)) st st'
found-child {ws} {next} p binding wants less inside a h f =
    record {
      kept = above_trans a (above_lower h f.kept);
      told = record { inside = let b = f.told.inside in let d = length-drop next ws in omega arith; is = child-fails p binding wants less f.told };
    }

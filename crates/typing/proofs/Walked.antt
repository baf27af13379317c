-- What the loop over a part's children holds of them: numbers, and the words of the first and the latest on the stack.
use mathlib.Core.Path.{◌≡◌, refl, sym, ◌∙◌, ap}
use mathlib.Core.Logic.{◌≢◌}
use mathlib.Core.Bool.{Bool, true, false, cond, ◌&&◌, and-true, and_assoc, and-eq-true_iff}
use mathlib.Core.List.{List, [], ◌∷◌, ◌++◌}
use Prim.Native.Nat.{ℕ, ◌+◌, ◌-◌, ◌*◌, ◌/◌, ◌%◌, ◌≤◌, ◌<◌, max}
use native.Mathlib.Omega.{arith}
use borrow.Author.Tests.{eq-eqb, ne_eqb, eqb-true, leb-true, leb-false, le-ltb}
use lib.Dec.{eqb}
use lib.ListN.{length, take, drop, get_or, length-append, length-drop}
use Rattle.words.specs.Words.{laid}
use Rattle.words.proofs.Runs.{to_end}
use Rattle.term.specs.Heads.{Label, big_sum, heads, unread, labelled, reading, read, arity_of}
use Rattle.term.specs.Trees.{Tree, Forest, none, ◌▹◌, count, words, depth}
use Rattle.term.specs.Terms.{max_bodies}
use Rattle.term.proofs.Scan.{read_children, part_length}
use Rattle.types.specs.Sorts.{Sort, index, basis, scalar, ket, bra, operator, Context}
use Rattle.types.specs.Inside.{binds}
use Rattle.types.specs.TypeOf as T
use Rattle.types.specs.TypeOf.{fails, conclude, Inferred, typed, untyped, sorts, failed, join, type_of, types_of}
use Rattle.types.proofs.Labels.{binds-word}
use Rattle.types.proofs.Sound.{sound}
use Rattle.typing.specs.declared.sorts.Gathered as G
use Rattle.std.specs.Prelude.{Option as CodeOption, Some, Result, Ok, Err}
use Rattle.typing.specs.declared.infer.Part as P
use Rattle.typing.specs.declared.sorts.Sorted as S
use Rattle.typebook.specs.Code.Shapes.{Shape, shape_of}
use Rattle.typing.specs.Code.Shapes.{shape_at, Small, Room, Ready, Above, Answers}
use Rattle.typebook.specs.Code.Lines.{concluded, alike_to, all_alike, is_sum}
use Rattle.declarations.specs.Declarations.{good_declarations, context_in, context_at}
use Rattle.typing.specs.Code.Chains.{Around, Held, index_len, enters_at, record_at, entered, entered_on, Enterable, Entered, ninth}
use Rattle.typing.specs.Code.Verdicts.{settlement, leaf_of, Settled, Found, Typable, PartFound}
use Rattle.typing.specs.Code.Conclude.{none_yet, gap_of, one_more, Concludes}
use Rattle.typebook.proofs.Rows.{last_of, Roomy, children_law}
use Rattle.typing.proofs.Leaves.{leaf_law}
use Rattle.typing.proofs.Binding.{well_at, chain-low, chained_kept, chained_up, chained_more}
use Rattle.typing.proofs.Lying.{above_refl, above_trans, above_lower, above-laid, shape-kept}
use Rattle.typebook.proofs.OnShapes.{shapes}
use Rattle.typing.proofs.Passing.{later_by, next_at, Passed, passed-more, passed_none, some_word, first-tree, part-is, depth_is, tree_is, settles, settles_none, found-child}

-- ---- gathering
-- the first child and the latest, as they stand on the stack
pub record Going (head top : ℕ) (s : Sort) (ss : List Sort) (g : G.Gathered) (st : List ℕ) : Type 0 where
  pub top-is : g.top ≡ top
  pub small : Small g.first
  pub latest-small : Small g.latest
  pub first : shape_at st top g.first ≡ shape_of s
  pub latest : shape_at st g.at g.latest ≡ shape_of (last_of s ss)
  pub alike : g.alike ≡ (is_sum head && all_alike (shape_of s) (shapes ss))
  pub free : g.free ≡ record_at top g.first + gap_of head
  pub at : g.at ≤ g.free

pub data Gathers (head top : ℕ) : List Sort → G.Gathered → List ℕ → Type 0 where
  begun : {g : G.Gathered} {st : List ℕ} → g.top ≡ top → g.alike ≡ is_sum head → g.free ≡ top → (g.first.left ≡ 0) × (g.first.right ≡ 0) → Gathers head top [] g st
  going : {s : Sort} {ss : List Sort} {g : G.Gathered} {st : List ℕ} → Going head top s ss g st → Gathers head top (s ∷ ss) g st

last_snoc : (s : Sort) (ss : List Sort) (t : Sort) → last_of s (ss ++ (t ∷ [])) ≡ t
last_snoc s [] t = refl
last_snoc s (u ∷ ss) t = last_snoc u ss t

alike_snoc : (a : Shape) (ss : List Sort) (t : Sort) → all_alike a (shapes (ss ++ (t ∷ []))) ≡ (all_alike a (shapes ss) && alike_to a (shape_of t))
unfolding all_alike
alike_snoc a [] t = and-true (alike_to a (shape_of t))
alike_snoc a (s ∷ ss) t = rw (alike_snoc a ss t) (sym (and_assoc (alike_to a (shape_of s)) (all_alike a (shapes ss)) (alike_to a (shape_of t))))

alike-more : (sum : Bool) (s : Sort) (ss : List Sort) (t : Sort) {b : Bool} {x y : Shape} → b ≡ (sum && all_alike (shape_of s) (shapes ss)) → x ≡ shape_of s → y ≡ shape_of t
    → (b && alike_to x y) ≡ (sum && all_alike (shape_of s) (shapes (ss ++ (t ∷ []))))
alike-more sum s ss t e f g = rw (e, f, g, alike_snoc (shape_of s) ss t) (and_assoc sum (all_alike (shape_of s) (shapes ss)) (alike_to (shape_of s) (shape_of t)))

some_children : (c : Tree) (cs : Forest) → count (c ▹ cs) ≢ 0
unfolding count
some_children c cs e = omega arith

-- where the next child's words go: behind the first one's, which are few, and the record behind them
pub record Free (top : ℕ) (g : G.Gathered) : Type 0 where
  pub top-is : g.top ≡ top
  pub small : Small g.first
  pub from : record_at top g.first ≤ g.free
  pub up_to : g.free ≤ top + 128

pub gap_few : (head : ℕ) → gap_of head ≤ 2
unfolding gap_of
gap_few head = go (eqb head 27)
  where
    go : (b : Bool) → cond b 2 0 ≤ 2
    go true = omega arith
    go false = omega arith

gathers_free : {head top : ℕ} {ss : List Sort} {g : G.Gathered} {st : List ℕ} → Gathers head top ss g st → Free top g
gathers_free (begun b a f s) = record { top-is = b; small = (omega arith, omega arith); from = omega arith; up_to = omega arith }
gathers_free {head} (going k) = let s = k.small in let f = k.free in let p = gap_few head in record { top-is = k.top-is; small = s; from = omega arith; up_to = omega arith }

gathers_more : {head top k : ℕ} {ss : List Sort} {g r : G.Gathered} {child : S.Sorted} {st st' : List ℕ} (T : Sort) → Gathers head top ss g st → length ss ≡ k
    → Above (record_at top g.first) st st' → Small child → shape_at st' g.free child ≡ shape_of T → r ≡ one_more head k st' g child → Gathers head top (ss ++ (T ∷ [])) r st'
unfolding all_alike one_more
gathers_more {head} {top} {child = child} {st' = st'} T (begun tp al fr sm) n a small c t =
    rw (t, eq-eqb _ _ (sym n), tp) (going {s = T} {ss = []}
    (record { top-is = refl; small = small; latest-small = small; first = rw fr at c; latest = rw fr at c; alike = al ∙ sym (and-true (is_sum head)); free = refl; at = omega arith }))
gathers_more {head} {top} {k = k} {child = child} {st' = st'} T (going {s} {ss} {g} {st} h) n a small c t =
    let f = h.free in
    let first : shape_at st' top g.first ≡ shape_of s = shape-kept (record_at top g.first) st st' a.below top g.first (omega arith) ∙ h.first in
    rw (t, ne_eqb _ _ (λ (z : k ≡ 0). omega arith), h.top-is) (going {s = s} {ss = ss ++ (T ∷ [])}
    (record {
      top-is = refl;
      small = h.small;
      latest-small = small;
      first = first;
      latest = c ∙ ap shape_of (sym (last_snoc s ss T));
      alike = alike-more (is_sum head) s ss T h.alike first c;
      free = f;
      at = omega arith;
    }))

-- ---- the loop over the children
pub record Walked (Γ : Context) (ws : List ℕ) (budget top head next k deepest : ℕ) (g : G.Gathered) (st₀ st : List ℕ) : Type 0 where
  pub list : List Sort
  pub passed : Passed Γ (eqb head 27) ws next k deepest list
  pub long : length list ≡ k
  pub inside : next ≤ length ws
  pub near : g.free ≤ top + 64 * next
  pub two : k ≢ 0 → 2 ≤ next
  pub shallow : deepest < budget
  pub kept : Above top st₀ st
  pub gathers : Gathers head top list g st

pub walked_none : {Γ : Context} {ws : List ℕ} {budget top head n : ℕ} {g : G.Gathered} {st : List ℕ} → arity_of (get_or ws 0 0) ≡ Some n → 0 < budget
    → g ≡ none_yet head top → Walked Γ ws budget top head 1 0 0 g st st
walked_none {Γ} {ws} {top = top} {head = head} {st = st} wants h e =
    let s = some_word ws wants in
    rw e (record {
      list = [];
      passed = passed_none Γ (eqb head 27) ws;
      long = refl;
      inside = omega arith;
      near = omega arith;
      two = λ z. absurd (z refl);
      shallow = h;
      kept = above_refl top st;
      gathers = begun {g = none_yet head top} refl refl refl (refl, refl);
    })

-- ---- the bodies around the next child
-- what is written for it stands behind the first child's words
entered-above : {st st' : List ℕ} (head k top : ℕ) (f : S.Sorted) (a : Around) → record_at top f + 2 ≤ length st → st' ≡ entered_on head k top f a st → Above (record_at top f) st st'
unfolding entered_on
entered-above {st} head k top f a fits e = rw e (go (enters_at head k))
  where
    go : (b : Bool) → Above (record_at top f) st (cond b (laid st (record_at top f) (index_len f ∷ a.inner ∷ [])) st)
    go true = above-laid st (record_at top f) (index_len f ∷ a.inner ∷ []) fits
    go false = above_refl (record_at top f) st

-- the context of a child, with the trees of the sums around it on the stack
pub record Entering (ds : List ℕ) (Δ : Context) (st : List ℕ) (free : ℕ) (a : Around) : Type 0 where
  pub held : Held (get_or ds 0 0) st free a
  pub is : context_at ds held.trees ≡ Δ

first-sort : (Γ Δ : Context) (at : ℕ) (c : Tree) (cs : Forest) (s : Sort) (ss : List Sort) → types_of Γ Δ at (c ▹ cs) ≡ sorts (s ∷ ss) → type_of Γ at c ≡ typed s
unfolding type_of join
first-sort Γ Δ at c cs s ss e = go (type_of Γ at c) (types_of Δ Δ (at + length (words c)) cs) e
  where
    go : (t : Inferred) (r : T.Children) → join t r ≡ sorts (s ∷ ss) → t ≡ typed s
    go (untyped k) r e = absurd (let z : ◌≡◌ {A = ℕ} 0 1 = cc in omega arith)
    go (typed q) (failed k) e = absurd (let z : ◌≡◌ {A = ℕ} 0 1 = cc in omega arith)
    go (typed q) (sorts qs) e = cc

module _ (ds : List ℕ) (good : good_declarations ds ≡ true) {st₀ st : List ℕ} {top : ℕ} {around : Around} (x : Held (get_or ds 0 0) st₀ top around) (kept : Above top st₀ st) where
  abbrev Γ : Context
  Γ = context_at ds x.trees

  -- no other sum
  same-bodies : {free : ℕ} → top ≤ free → Entering ds Γ st free around
  same-bodies h = record { held = record { trees = x.trees; chain = chained_up h (chained_kept kept.below x.chain); long = x.long }; is = refl }

  -- the sum itself, over its first child
  one_more_lem : {head : ℕ} {g : G.Gathered} (cs : Forest) {list : List Sort} → Gathers head top list g st → eqb head 27 ≡ true → top + 128 ≤ length st → count cs ≢ 0 → length list ≡ count cs
      → types_of Γ (later_by true Γ cs) 1 cs ≡ sorts list
      → Entering ds (next_at true Γ cs) (laid st (record_at top g.first) (index_len g.first ∷ around.inner ∷ [])) g.free
      (record { bodies = around.bodies + 1; inner = record_at top g.first })
  unfolding count gap_of next_at context_in
  one_more_lem none k b room n l e = absurd (n refl)
  one_more_lem (c ▹ cs) (begun tp al fr sm) b room n l e = absurd (omega arith)
  one_more_lem {g = g} (c ▹ cs) (going {s} {ss} k) b room n l e =
      let d = sound (well_at ds good x.trees) 1 c (first-sort Γ _ 1 c cs s ss e) in
      let small = k.small in
      let z : g.free ≡ record_at top g.first + 2 = k.free ∙ rw b in
      let chain = chained_more (get_or ds 0 0) (well_at ds good x.trees) refl s d st top g.first (omega arith) (omega arith) small k.first (chained_kept kept.below x.chain) in
      record { held = record { trees = c ∷ x.trees; chain = rw z chain; long = let y = x.long in omega arith }; is = refl }

  entering_by : {head k : ℕ} {g : G.Gathered} (cs : Forest) {list : List Sort} → Gathers head top list g st → top + 128 ≤ length st → count cs ≡ k → length list ≡ k → (b : Bool) → eqb head 27 ≡ b
      → types_of Γ (later_by b Γ cs) 1 cs ≡ sorts list → {within : Around} {st' : List ℕ} → within ≡ entered head k top g.first around → st' ≡ entered_on head k top g.first around st
      → Entering ds (next_at b Γ cs) st' g.free within
  unfolding entered entered_on enters_at next_at later_by count
  entering_by none q room n l false e t p r = rw (p, r, e) (same-bodies (let f = (gathers_free q).from in omega arith))
  entering_by (c ▹ cs) q room n l false e t p r = rw (p, r, e) (same-bodies (let f = (gathers_free q).from in omega arith))
  entering_by {k = k} none q room n l true e t p r = let z : k ≡ 0 = sym n in rw (p, r, e, eq-eqb k 0 z) (same-bodies (let f = (gathers_free q).from in omega arith))
  entering_by {k = k} (c ▹ cs) q room n l true e t p r =
      let m : count (c ▹ cs) ≢ 0 = some_children c cs in
      rw (p, r, e, ne_eqb k 0 (λ z. m (n ∙ z))) (one_more_lem (c ▹ cs) q e room m (l ∙ sym n) t)

module _ {Γ : Context} {ws : List ℕ} {budget top head next k deepest : ℕ} {g : G.Gathered} {st₀ st : List ℕ} (w : Walked Γ ws budget top head next k deepest g st₀ st) where
  free_at : Free top g
  free_at = gathers_free w.gathers

  abbrev next_of : Context
  next_of = next_at (eqb head 27) Γ w.passed.children

  module _ {child : P.Part} {st' : List ℕ} (s : Settled next_of (drop next ws) (budget - 1) g.free child st') where
    child-inside : next + child.size ≤ length ws
    child-inside = let p = part_length (drop next ws) 0 in let z = s.size in let i = w.inside in let d = length-drop next ws in omega arith

    walked_more : Above (record_at top g.first) st st' → {r : G.Gathered} → r ≡ one_more head k st' g child.sorted → {d : ℕ} → d ≡ max deepest child.depth
        → Walked Γ ws budget top head (next + child.size) (k + 1) d r st₀ st'
    walked_more a t e =
        let c = first-tree (drop next ws) s.whole in
        let size : child.size ≡ length (words c.tree) = s.size ∙ part-is c in
        let deep : child.depth ≡ depth c.tree = s.depth ∙ depth_is c in
        let is : type_of next_of 0 c.tree ≡ typed s.sort = sym (ap (type_of next_of 0) (tree_is c)) ∙ s.is in
        let more = gathers_more s.sort w.gathers w.long a s.small s.sorted t in
        let at = w.passed.place in
        record {
          list = w.list ++ (s.sort ∷ []);
          passed = rw (size, e, deep) (passed-more w.passed c s.sort is);
          long = let l = w.long in omega (arith, length-append w.list (s.sort ∷ []));
          inside = child-inside;
          near = omega (arith, (gathers_free more).up_to, at, s.size, s.whole);
          two = λ z. omega (arith, at, s.size, s.whole);
          shallow = let z = s.shallow in let y = s.depth in let x = w.shallow in omega arith;
          kept = above_trans w.kept (above_lower (omega arith) a);
          gathers = more;
        }

-- one more child, in its context
entered-few : {within : Around} (head k top : ℕ) (f : S.Sorted) (a : Around) → within ≡ entered head k top f a → within.bodies ≤ a.bodies + 1
unfolding entered
entered-few head k top f a e = rw e (go (enters_at head k))
  where
    go : (b : Bool) → (cond b (record { bodies = a.bodies + 1; inner = record_at top f }) a).bodies ≤ a.bodies + 1
    go true = omega arith
    go false = omega arith

-- what holds in the loop, whatever the trees of the sums around are
abbrev pub Walks : List ℕ → List ℕ → ℕ → ℕ → ℕ → ℕ → ℕ → ℕ → G.Gathered → Around → List ℕ → List ℕ → Type 0
Walks ds ws budget top head next k deepest g a st₀ st = (x : Held (get_or ds 0 0) st₀ top a) → Walked (context_at ds x.trees) ws budget top head next k deepest g st₀ st

module _ {ds ws : List ℕ} {budget top head next k deepest : ℕ} {g : G.Gathered} {st₀ st : List ℕ} {around : Around} (pre : Typable ds ws st₀ top budget around)
    (v : Walks ds ws budget top head next k deepest g around st₀ st) where
  -- by the trees that are there
  abbrev now_walked : Walked (context_at ds pre.under.held.trees) ws budget top head next k deepest g st₀ st
  now_walked = v pre.under.held

  pub enterable : Enterable st top budget g.first around
  enterable =
      let w = now_walked in
      let l = w.kept.long in
      let s = w.shallow in
      record { room = omega arith; long = omega arith; small = (free_at w).small; low = omega (arith, chain-low pre.under.held.chain); few = pre.few; some = omega arith }

  pub next_inside : next ≤ length ws
  next_inside = now_walked.inside

  -- all of them: what the rule asks
  pub ready : k ≢ 0 → Ready g st
  ready z = let w = now_walked in go w.gathers w.long
    where
      go : {ss : List Sort} → Gathers head top ss g st → length ss ≡ k → Ready g st
      go (begun b a f m) e = absurd (z (sym e))
      go (going m) e =
          let w = now_walked in
          let t = m.top-is in
          let f = (free_at w).up_to in
          let a = m.at in
          let l = w.kept.long in
          let s = w.shallow in
          let i = w.inside in
          let two = w.two z in
          record { room = omega arith; more = omega arith; long = omega arith; first = m.small; latest = m.latest-small }

  module _ {within : Around} {left : ℕ} {st' : List ℕ} (e : Entered head k top budget g.first around within left st st') where
    entering : (x : Held (get_or ds 0 0) st₀ top around) → Entering ds (next_of (v x)) st' g.free within
    entering x =
        let w = v x in
        let l = w.kept.long in
        entering_by ds pre.under.good x w.kept w.passed.children w.gathers (omega arith) w.passed.number w.long (eqb head 27) refl w.passed.sorted e.around_is e.stack_is

    above : Above (record_at top g.first) st st'
    above =
        let w = now_walked in
        let l = w.kept.long in
        let s = (free_at w).small in
        entered-above head k top g.first around (omega arith) e.stack_is

    within-long : length st' ≡ length st₀
    within-long = above.long ∙ now_walked.kept.long

    -- the words of the next child on
    abbrev rest : List ℕ
    rest = take (length ws - next) (drop next ws)

    pub child_typable : Typable ds rest st' g.free left within
    child_typable =
        let w = now_walked in
        let f = (free_at w).up_to in
        let l = within-long in
        let more = entered-few head k top g.first around e.around_is in
        let near = w.near in
        let i = w.inside in
        let s = w.shallow in
        let b = e.budget_is in
        record {
          under = record { good = pre.under.good; long = omega arith; held = (entering pre.under.held).held };
          room = rw (to_end ws next) (omega (arith, length-drop next ws));
          few = omega arith;
        }

    module _ {r : Result P.Part ℕ} {st'' : List ℕ} (f : PartFound ds rest left g.free within r st' st'') where
      child-found : (x : Held (get_or ds 0 0) st₀ top around) → Found (next_of (v x)) (drop next ws) (budget - 1) g.free r st' st''
      child-found x = let y = entering x in rw (y.is, to_end ws next, e.budget_is) at (f y.held)

      pub child-long : length st'' ≡ length st₀
      child-long = (child-found pre.under.held).kept.long ∙ within-long

    -- an untyped one
    module _ {j : ℕ} {st'' : List ℕ} (f : PartFound ds rest left g.free within (Err j) st' st'') where
      pub child_at : next + j ≤ length ws
      child_at = let w = now_walked in omega (arith, length-drop next ws, (child-found f pre.under.held).told.inside, w.inside)

      pub walked_fails : {m : ℕ} → head ≡ get_or ws 0 0 / 256 → arity_of (get_or ws 0 0) ≡ Some m → k < m → PartFound ds ws budget top around (Err (next + j)) st₀ st''
      walked_fails h wants less x =
          let w = v x in
          let u = (free_at w).from in
          found-child w.passed (ap (λ (k : ℕ). eqb k 27) h) wants less w.inside (above_trans w.kept (above_lower (omega arith) above)) (omega arith) (child-found f x)

    -- a typed one
    module _ {child : P.Part} {st'' : List ℕ} (f : PartFound ds rest left g.free within (Ok child) st' st'') where
      pub child_end : next + child.size ≤ length ws
      child_end = child-inside now_walked (child-found f pre.under.held).told

      pub gatherable : Room g.top st'' × Room g.free st'' × Small g.first × Small child.sorted
      gatherable =
          let w = now_walked in
          let l = child-long f in
          let t = (free_at w).top-is in
          let u = (free_at w).up_to in
          let near = w.near in
          let i = w.inside in
          let s = w.shallow in
          (omega arith, omega arith, (free_at w).small, (child-found f pre.under.held).told.small)

      pub walked_on : {r : G.Gathered} → r ≡ one_more head k st'' g child.sorted → {d : ℕ} → d ≡ max deepest child.depth
          → Walks ds ws budget top head (next + child.size) (k + 1) d r around st₀ st''
      walked_on t d x = walked_more (v x) (child-found f x).told (above_trans above (above_lower (free_at (v x)).from (child-found f x).kept)) t d

-- ---- the end
all_by : (Γ : Context) (w : ℕ) {head top n : ℕ} (l : Label) {ss : List Sort} {g : G.Gathered} {st st' : List ℕ} {o : CodeOption S.Sorted} → Roomy Γ l → Gathers head top ss g st → length ss ≡ n → n ≢ 0
    → head ≡ w / 256 → read w ≡ labelled l n → Concludes head n g st o st' → Answers (concluded (conclude Γ l ss)) o top st st'
all_by Γ w l roomy (begun tp al fr sm) n z h r c = absurd (z (sym n))
all_by Γ w l roomy (going {s} {ss} k) e z h r c = rw (children_law w l s ss (rw (← e) at r) Γ roomy, ← h, e) (rw (k.top-is, k.first, k.latest, k.alike) at c)

-- a sum over a basis has no sort in as many bodies as there may be
over_full : (Γ : Context) → max_bodies ≤ length Γ.bound → (ss : List Sort) → conclude Γ big_sum ss ≡ fails
unfolding conclude
over_full Γ m [] = refl
over_full Γ m (s ∷ []) = refl
over_full Γ m (s ∷ t ∷ u ∷ ss) = refl
over_full Γ m (index σ ∷ t ∷ []) = rw (le-ltb _ _ m)
over_full Γ m (basis σ ∷ t ∷ []) = refl
over_full Γ m (scalar ∷ t ∷ []) = refl
over_full Γ m (ket σ ∷ t ∷ []) = refl
over_full Γ m (bra σ ∷ t ∷ []) = refl
over_full Γ m (operator σ τ ∷ t ∷ []) = refl

no_room : (Γ : Context) (w : ℕ) (l : Label) (n : ℕ) (ss : List Sort) → read w ≡ labelled l n → w / 256 ≡ 27 → max_bodies ≤ length Γ.bound → conclude Γ l ss ≡ fails
unfolding read reading heads
no_room Γ w l n ss r h m = go (eqb (w % 256) 0) (rw h at r)
  where
    go : (b : Bool) → cond b (labelled big_sum 2) unread ≡ labelled l n → conclude Γ l ss ≡ fails
    go true e = let z : big_sum ≡ l = cc in rw (← z) (over_full Γ m ss)
    go false e = absurd (let z : ◌≡◌ {A = ℕ} 0 1 = cc in omega arith)

-- the label that a word with children has
labelled_by : (w head n : ℕ) → arity_of w ≡ Some n → head ≡ w / 256 → (l : Label) × (read w ≡ labelled l n) × (binds l ≡ eqb head 27)
labelled_by w head n wants h = let q = read_children w n wants in (q.0, q.1, binds-word _ _ _ q.1 ∙ ap (λ (k : ℕ). eqb k 27) (sym h))

module _ {Γ : Context} {ws : List ℕ} {budget top head next k deepest n : ℕ} {g : G.Gathered} {st₀ st : List ℕ} (w : Walked Γ ws budget top head next k deepest g st₀ st)
    (wants : arity_of (get_or ws 0 0) ≡ Some n) (all : k ≡ n) (h : head ≡ get_or ws 0 0 / 256) {bodies : ℕ} (around : length Γ.bound ≡ bodies) {b : Bool} (test : b ≡ ninth head bodies) where
  pub walked-ninth : b ≡ true → Found Γ ws budget top (Err 0) st₀ st
  unfolding ninth
  walked-ninth e =
      let q = labelled_by (get_or ws 0 0) head n wants h in
      let t = (and-eq-true_iff _ _).0 (sym test ∙ e) in
      settles_none w.passed w.shallow q.0 (q.1 ∙ ap (labelled q.0) (sym all)) q.2 (some_word ws wants)
      (no_room Γ _ _ _ _ q.1 (sym h ∙ eqb-true _ _ t.0) (rw around (leb-true _ _ t.1))) w.kept

  roomy : b ≡ false → (l : Label) → binds l ≡ eqb head 27 → Roomy Γ l
  unfolding ninth
  roomy e l q y = rw around (leb-false _ _ (rw (sym q ∙ y) at (sym test ∙ e)))

  pub walked_all : b ≡ false → n ≢ 0 → {st' : List ℕ} {o : CodeOption S.Sorted} → Concludes head n g st o st' → {r : Result P.Part ℕ} → r ≡ settlement next (deepest + 1) o → Found Γ ws budget top r st₀ st'
  walked_all e z c is =
      let q = labelled_by (get_or ws 0 0) head n wants h in
      let f = settles w.passed w.shallow q.0 (q.1 ∙ ap (labelled q.0) (sym all)) q.2 (some_word ws wants)
      (all_by Γ (get_or ws 0 0) q.0 (roomy e q.0 q.2) w.gathers (w.long ∙ all) z h q.1 c) is in
      record { kept = above_trans w.kept f.kept; told = f.told }

-- a head without children
pub leaf_found : {ws : List ℕ} {budget top n : ℕ} {st st' : List ℕ} (ds : List ℕ) (bs : List Tree) → arity_of (get_or ws 0 0) ≡ Some n → n ≡ 0 → 0 < budget → {o : CodeOption S.Sorted}
    → Answers (leaf_of ds bs (get_or ws 0 0)) o top st st' → {r : Result P.Part ℕ} → r ≡ settlement 1 1 o → Found (context_at ds bs) ws budget top r st st'
leaf_found {ws} {n} ds bs wants z b a is =
    let q = read_children (get_or ws 0 0) n wants in
    let e : read (get_or ws 0 0) ≡ labelled q.0 0 = q.1 ∙ ap (labelled q.0) z in
    settles (passed_none (context_at ds bs) (binds q.0) ws) b q.0 e refl (some_word ws wants) (rw (leaf_law ds bs (get_or ws 0 0) q.0 e) a) is

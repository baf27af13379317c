-- The search for a stray part: the children passed so far have none, and the whole part from them.
use mathlib.Core.Path.{◌≡◌, refl, sym, ◌∙◌, ap}
use mathlib.Core.Bool.{Bool, true, false, cond, ◌&&◌}
use mathlib.Core.List.{List, ◌++◌, append-nil}
use mathlib.Core.Option.{Option, some, none as nothing}
use Prim.Native.Nat.{ℕ, suc, ◌+◌, ◌-◌, ◌/◌, ◌≤◌, ◌<◌}
use native.Mathlib.Numerals.{add-one}
use native.Mathlib.Omega.{arith}
use borrow.Author.Tests.{eq-eqb, ne_eqb}
use lib.Dec.{eqb}
use lib.ListN.{length, drop, get_or, length-append, length-drop}
use lib.Seq.{drop-drop, get_or-drop}
use Rattle.words.specs.Listed.{or_else}
use Rattle.term.specs.Heads.{arity_of}
use Rattle.term.specs.Trees.{Tree, Forest, node, none, ◌▹◌, count, ◌⧺◌, words, words*, depth, depth*}
use Rattle.term.specs.Parts.{parse, tree_in, first, first_depth, part, part_depth}
use Rattle.term.proofs.Parsing.{⧺-none, ⧺-assoc, count-⧺, words*-⧺, some_words}
use Rattle.term.proofs.Extents.{depth*-⧺, parse-behind}
use Rattle.term.proofs.Scan.{read_children, read-unknown}
use Rattle.types.specs.Strays.{stray_of, strays_of}
use Rattle.types.proofs.Labels.{binds-word, stray-word}
use Rattle.types.proofs.Walk.{next_in, next_same}
use Rattle.std.specs.Prelude.{Option as CodeOption, Some, None, Result, Ok, Err}
use Rattle.typing.specs.Code.Chains.{enters_at, ninth}
use Rattle.typing.specs.Code.Strays.{stray_word, bodies_in, Told, Inside, Looked}
use Rattle.typing.proofs.Passing.{First, tree_is, Root, root, some_word}

-- ---- a row of children
else_assoc : (a b c : Option ℕ) → or_else a (or_else b c) ≡ or_else (or_else a b) c
unfolding or_else
else_assoc nothing b c = refl
else_assoc (some k) b c = refl

strays-⧺ : (n m at : ℕ) (cs f : Forest) → strays_of n m at (cs ⧺ f) ≡ or_else (strays_of n m at cs) (strays_of (next_in n m cs) m (at + length (words* cs)) f)
unfolding stray_of or_else ◌⧺◌ words next_in
strays-⧺ n m at none f = let z : at + 0 ≡ at = omega arith in rw z
strays-⧺ n m at (t ▹ cs) f =
    let z : at + length (words t ++ words* cs) ≡ at + length (words t) + length (words* cs) = omega (arith, length-append (words t) (words* cs)) in
    rw (z, strays-⧺ m m (at + length (words t)) cs f, next_same m cs) (else_assoc (stray_of n at t) _ _)

-- where those passed have none, the next one's answer decides, or else those behind it
strays_next : (n m at : ℕ) (cs f : Forest) (t : Tree) → strays_of n m at cs ≡ nothing
    → strays_of n m at (cs ⧺ (t ▹ f)) ≡ or_else (stray_of (next_in n m cs) (at + length (words* cs)) t) (strays_of m m (at + length (words* cs) + length (words t)) f)
unfolding or_else stray_of
strays_next n m at cs f t e = strays-⧺ n m at cs (t ▹ f) ∙ rw e

-- ---- the bodies around a word's children behind the first
abbrev behind_first : ℕ → ℕ → ℕ
behind_first w n = cond (eqb (w / 256) 27) (suc n) n

bodies_next : (w n k : ℕ) (cs : Forest) → count cs ≡ k → bodies_in w k n ≡ next_in n (behind_first w n) cs
unfolding bodies_in enters_at next_in count
bodies_next w n k none e = rw (eq-eqb k 0 (sym e)) (go (eqb (w / 256) 27))
  where
    go : (b : Bool) → cond (b && false) (n + 1) n ≡ n
    go true = refl
    go false = refl
bodies_next w n k (c ▹ cs) e = rw (ne_eqb k 0 (λ z. omega arith)) (go (eqb (w / 256) 27))
  where
    go : (b : Bool) → cond (b && true) (n + 1) n ≡ cond b (suc n) n
    go true = add-one n
    go false = refl

pub bodies-few : (w k n : ℕ) → bodies_in w k n ≤ n + 1
unfolding bodies_in
bodies-few w k n = go (enters_at (w / 256) k)
  where
    go : (b : Bool) → cond b (n + 1) n ≤ n + 1
    go true = omega arith
    go false = omega arith

-- ---- the children passed so far have none
pub record Past (ws : List ℕ) (at bodies next k : ℕ) (R : Root (drop at ws)) : Type 0 where
  pub done : Forest
  pub rest : Forest
  pub kids : R.kids ≡ done ⧺ rest
  pub number : count done ≡ k
  pub place : next ≡ at + 1 + length (words* done)
  pub behind : parse (drop next ws) ≡ rest ⧺ R.others
  pub nowhere : strays_of bodies (behind_first (get_or (drop at ws) 0 0) bodies) (at + 1) done ≡ nothing

pub past-none : (ws : List ℕ) (at bodies : ℕ) (R : Root (drop at ws)) → Past ws at bodies (at + 1) 0 R
unfolding ◌⧺◌ count words stray_of
past-none ws at bodies R = record { done = none; rest = R.kids; kids = refl; number = refl; place = omega arith; behind = rw drop-drop at R.row; nowhere = refl }

-- ---- the whole part
module _ (ws : List ℕ) (at bodies : ℕ) (R : Root (drop at ws)) where
  whole-tree : tree_in (parse (drop at ws)) ≡ node R.label R.kids
  unfolding tree_in
  whole-tree = rw R.is

  whole-stray : {b : Bool} → b ≡ stray_word (get_or (drop at ws) 0 0) bodies → b ≡ true → stray_of bodies at (tree_in (parse (drop at ws))) ≡ some at
  unfolding stray_of stray_word ninth
  whole-stray t y = rw (whole-tree, stray-word _ _ _ bodies R.reads, ← t, y)

  whole_row : {b : Bool} → b ≡ stray_word (get_or (drop at ws) 0 0) bodies → b ≡ false
      → stray_of bodies at (tree_in (parse (drop at ws))) ≡ strays_of bodies (behind_first (get_or (drop at ws) 0 0) bodies) (at + 1) R.kids
  unfolding stray_of stray_word ninth
  whole_row t y = rw (whole-tree, stray-word _ _ _ bodies R.reads, ← t, y, binds-word _ _ _ R.reads)

  whole_length : length (part ws at) ≡ 1 + length (words* R.kids)
  unfolding part first words
  whole_length = rw R.is (omega arith)

  whole-depth : part_depth ws at ≡ 1 + depth* R.kids
  unfolding part_depth first_depth depth
  whole-depth = rw R.is (omega arith)

-- ---- one more child
-- of a part whose children are so many
count-kids : {vs : List ℕ} {n : ℕ} (R : Root vs) → arity_of (get_or vs 0 0) ≡ Some n → n ≡ count R.kids
count-kids R wants = let q = read_children _ _ wants in cc (q.1, R.reads)

next_kid : (done rest kids : Forest) → kids ≡ done ⧺ rest → count done < count kids → (t : Tree) × (more : Forest) × (rest ≡ t ▹ more)
unfolding count ◌⧺◌
next_kid done none kids e h = absurd (omega (arith, ap count e, count-⧺ done none))
next_kid done (t ▹ more) kids e h = (t, more, refl)

no_kids : (done rest kids : Forest) → kids ≡ done ⧺ rest → count kids ≤ count done → rest ≡ none
unfolding count ◌⧺◌
no_kids done none kids e h = refl
no_kids done (t ▹ more) kids e h = absurd (omega (arith, ap count e, count-⧺ done (t ▹ more)))

-- the child that is next, by its offset
next_part : (ws : List ℕ) (next : ℕ) (c : First (drop next ws)) → length (part ws next) ≡ length (words c.tree)
unfolding part first
next_part ws next c = rw c.is

next_depth : (ws : List ℕ) (next : ℕ) (c : First (drop next ws)) → part_depth ws next ≡ depth c.tree
unfolding part_depth first_depth
next_depth ws next c = rw c.is

module _ {ws : List ℕ} {at bodies next k n : ℕ} {R : Root (drop at ws)} (p : Past ws at bodies next k R) (wants : arity_of (get_or (drop at ws) 0 0) ≡ Some n) (less : k < n) where
  record Turn : Type 0 where
    pub child : First (drop next ws)
    pub others : Forest
    pub rest : p.rest ≡ child.tree ▹ others
    pub shallow : depth child.tree ≤ depth* R.kids

  turn : Turn
  unfolding ◌⧺◌ depth
  turn =
      let c = count-kids R wants in
      let number = p.number in
      let q = next_kid p.done p.rest R.kids p.kids (omega arith) in
      record {
        child = record { tree = q.0; others = q.1 ⧺ R.others; is = p.behind ∙ ap (λ (f : Forest). f ⧺ R.others) q.2 };
        others = q.1;
        rest = q.2;
        shallow = let e = ap depth* (p.kids ∙ ap (λ (f : Forest). p.done ⧺ f) q.2) ∙ depth*-⧺ p.done (q.0 ▹ q.1) in omega arith;
      }

  abbrev later : ℕ
  later = behind_first (get_or (drop at ws) 0 0) bodies

  -- what is asked of it, and told
  module _ {m budget : ℕ} (e : m ≡ bodies_in (get_or (drop at ws) 0 0) k bodies) (deep : depth* R.kids ≤ budget) where
    kid_told : {r : Result ℕ ℕ} → Looked ws next m budget r → Told ws next (next_in bodies later p.done) r
    kid_told l =
        let c = turn.child in
        let d = turn.shallow in
        rw (← bodies_next _ bodies k p.done p.number, ← e) (l.told (omega (arith, next_part ws next c, some_words c.tree)) (omega (arith, next_depth ws next c)))

    found_in : {j : ℕ} → Looked ws next m budget (Err j) → strays_of bodies later (at + 1) R.kids ≡ some j
    unfolding or_else
    found_in l =
        let c = turn.child in
        rw (p.kids, turn.rest, strays_next bodies later (at + 1) p.done turn.others c.tree p.nowhere, ← p.place)
        (rw (sym (ap (stray_of (next_in bodies later p.done) next) (tree_is c)) ∙ kid_told l))

    past_more : {end : ℕ} → Looked ws next m budget (Ok end) → Past ws at bodies end (k + 1) R
    unfolding ◌⧺◌ count words or_else stray_of
    past_more {end} l =
        let c = turn.child in
        let t = c.tree in
        let told = kid_told l in
        let e : end ≡ next + length (words t) = told.1 ∙ ap (λ (n : ℕ). next + n) (next_part ws next c) in
        let number = p.number in
        let place = p.place in
        record {
          done = p.done ⧺ (t ▹ none);
          rest = turn.others;
          kids = rw ⧺-assoc (p.kids ∙ ap (λ (g : Forest). p.done ⧺ g) turn.rest);
          number = omega (arith, count-⧺ p.done (t ▹ none));
          place = rw (e, words*-⧺, append-nil) (simp length-append (omega arith));
          behind = rw e (rw drop-drop at (parse-behind (drop next ws) t (turn.others ⧺ R.others) (p.behind ∙ ap (λ (g : Forest). g ⧺ R.others) turn.rest)));
          nowhere = strays_next bodies later (at + 1) p.done none t p.nowhere ∙ rw (← p.place, sym (ap (stray_of (next_in bodies later p.done) next) (tree_is c)) ∙ told.0);
        }

-- ---- what is answered
-- of the first word: how many children it wants, and whether its part is a stray one
pub record Headed (ws : List ℕ) (at bodies word n : ℕ) (b : Bool) : Type 0 where
  pub word-is : word ≡ get_or ws at 0
  pub wants : arity_of word ≡ Some n
  pub test : b ≡ stray_word word bodies

pub headed : {ws : List ℕ} {at bodies word n : ℕ} {b : Bool} {a : CodeOption ℕ} → word ≡ get_or ws at 0 → a ≡ arity_of word → a ≡ Some n → b ≡ stray_word word bodies → Headed ws at bodies word n b
headed w a c b = record { word-is = w; wants = sym a ∙ c; test = b }

word-there : (ws : List ℕ) (at : ℕ) → get_or (drop at ws) 0 0 ≡ get_or ws at 0
word-there ws at = let z : at + 0 ≡ at = omega arith in get_or-drop at ws 0 0 ∙ ap (λ (i : ℕ). get_or ws i 0) z

module _ {ws : List ℕ} {at bodies word n : ℕ} {b : Bool} (h : Headed ws at bodies word n b) where
  there : get_or (drop at ws) 0 0 ≡ word
  there = word-there ws at ∙ sym h.word-is

  wants_there : arity_of (get_or (drop at ws) 0 0) ≡ Some n
  wants_there = rw there h.wants

  test_there : b ≡ stray_word (get_or (drop at ws) 0 0) bodies
  test_there = rw there h.test

  -- a word that wants children stands there
  pub part-there : at < length ws
  part-there = let s = some_word (drop at ws) {n = n} wants_there in omega (arith, length-drop at ws)

abbrev pub Passing : List ℕ → ℕ → ℕ → ℕ → ℕ → ℕ → Type 0
Passing ws at bodies budget next k = (R : Root (drop at ws)) → depth* R.kids < budget → Past ws at bodies next k R

module _ {ws : List ℕ} {at bodies budget : ℕ} where
  -- from what is known of the root
  by_root : {r : Result ℕ ℕ} → Inside ws r → ((R : Root (drop at ws)) → depth* R.kids < budget → Told ws at bodies r) → Looked ws at bodies budget r
  unfolding part
  by_root h t = record { inside = h; told = λ whole s. let R = root (drop at ws) whole in let d = whole-depth ws at bodies R in t R (omega arith) }

  pub looked_shallow : budget ≡ 0 → at ≤ length ws → Looked ws at bodies budget (Ok at)
  looked_shallow z h = by_root h (λ R d. absurd (omega arith))

  pub looked_unknown : arity_of (get_or ws at 0) ≡ None → at ≤ length ws → Looked ws at bodies budget (Ok at)
  looked_unknown u h = by_root h (λ R d. absurd (let q = read-unknown (get_or (drop at ws) 0 0) (rw (word-there ws at) u) in let x = R.reads in let z : ◌≡◌ {A = ℕ} 0 1 = cc in omega arith))

  module _ {word n : ℕ} {b : Bool} (h : Headed ws at bodies word n b) where
    pub looked_itself : b ≡ true → at ≤ length ws → Looked ws at bodies budget (Err at)
    looked_itself y i = by_root i (λ R d. whole-stray ws at bodies R (test_there h) y)

    module _ (no' : b ≡ false) {next k : ℕ} (p : Passing ws at bodies budget next k) where
      module _ (less : k < n) {m : ℕ} (e : m ≡ bodies_in word k bodies) where
        e_there : m ≡ bodies_in (get_or (drop at ws) 0 0) k bodies
        e_there = rw (there h) e

        pub looked_child : {j : ℕ} → Looked ws next m (budget - 1) (Err j) → Looked ws at bodies budget (Err j)
        looked_child l = by_root l.inside (λ R d. whole_row ws at bodies R (test_there h) no' ∙ found_in (p R d) (wants_there h) less e_there (omega arith) l)

        pub looked_on : {end : ℕ} → Looked ws next m (budget - 1) (Ok end) → Passing ws at bodies budget end (k + 1)
        looked_on l R d = past_more (p R d) (wants_there h) less e_there (omega arith) l

      pub looked_all : n ≤ k → next ≤ length ws → Looked ws at bodies budget (Ok next)
      looked_all all i = by_root i (λ R d.
          let q = p R d in
          let c = count-kids R (wants_there h) in
          let number = q.number in
          let z : R.kids ≡ q.done = q.kids ∙ ap (λ (f : Forest). q.done ⧺ f) (no_kids q.done q.rest R.kids q.kids (omega arith)) ∙ ⧺-none q.done in
          let place = q.place in
          let l = whole_length ws at bodies R in
          let y = ap (λ (f : Forest). length (words* f)) z in
          (whole_row ws at bodies R (test_there h) no' ∙ rw z q.nowhere, omega arith))

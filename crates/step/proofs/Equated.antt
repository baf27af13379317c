-- An equation at a part: from the match of its left side to the words of its right side.
use mathlib.Core.Path.{◌≡◌, refl, sym, ◌∙◌}
use mathlib.Core.Logic.{◌≢◌, ◌⊎◌, inl, inr, ⊎_elim}
use mathlib.Core.Bool.{Bool, true, false, ◌&&◌, ◌||◌}
use mathlib.Core.List.{List, [], ◌∷◌, ◌++◌}
use mathlib.Core.Option.{Option, some, none}
use Prim.Native.Nat.{ℕ, ◌+◌, ◌-◌, ◌*◌, ◌/◌, ◌≤◌}
use native.Mathlib.Omega.{arith}
use borrow.Author.Tests.{le-leb, eq-eqb, ne_eqb, lt-ltb, ltb-true}
use lib.Arith.{digits_div}
use lib.Dec.{eqb, ltb}
use lib.ListN.{length, take, drop, replicate, length-append}
use Rattle.words.specs.Words.{overlaid}
use Rattle.term.specs.Heads.{word}
use Rattle.term.specs.Terms.{max_children}
use Rattle.term.specs.Trees.{Tree, Forest, node, none as no-tree, ◌▹◌, count, words, words*}
use Rattle.term.proofs.Scan.{count-words}
use Rattle.types.specs.Sorts.{Context}
use Rattle.types.specs.Rules.{WellFormed}
use Rattle.types.specs.TypeOf.{type_of}
use Rattle.types.proofs.Indices.{bodies_well}
use Rattle.declarations.proofs.Entries.{well_formed}
use Rattle.declarations.specs.Declarations.{context_at}
use Rattle.rules.specs.Patterns.{Pattern, #◌, first, second, ◌⟨⟩, ◌⟨◌⟩, ◌⟨◌∣◌⟩}
use Rattle.rules.specs.Table.{Condition, ◌⇒◌▷◌, rule_of}
use Rattle.rules.specs.Rewrite.{sort_of, fill, match, holes, satisfied, filled, rewrite}
use Rattle.rules.specs.Steps.{few, few*}
use Rattle.rules.proofs.Formed.{formed-few}
use Rattle.rules.specs.Code.Conditions.{asked, of_words}
use Rattle.rules.proofs.Good.{met, flat, asks_none, both, all_three, Fine, fine, every_good}
use Rattle.rules.proofs.Known.{either}
use Rattle.rules.proofs.Lines.{not_so}
use Rattle.rules.proofs.Matching.{AllFormed, AllTyped, none-formed, matched}
use Rattle.rulebook.specs.declared.Row.{Row}
use Rattle.rulebook.specs.Code.Rows.{condition_number, pattern_words, words_in}
use Rattle.rulebook.proofs.Rows.{sizes, kind_at}
use Rattle.rulebook.proofs.Made.{head_word, made, head_plain, every_made}
use Rattle.rulebook.proofs.Copied.{sides-short, left_copied, right_copied}
use Rattle.matcher.specs.declared.Match.{Match}
use Rattle.matcher.specs.declared.Miss.{Miss}
use Rattle.std.specs.Prelude.{Result, Ok, Err}
use Rattle.matcher.specs.Matching.{Holds, Found, holds, stops, match_of}
use Rattle.matcher.proofs.Theorems.{matches}
use Rattle.step.specs.Code.Building.{chosen_index, all_ask, indexless, Caught, AllSorted}
use Rattle.step.specs.Code.Site.{Site, Equation}
use Rattle.step.proofs.Right.{ask_words}
use Rattle.step.proofs.Indices.{chosen-short}
use Rattle.step.proofs.Sited.{caught}

-- ---- a right side that asks for no index has no word for one
indexless-++ : (vs ws : List ℕ) → indexless vs ≡ true → indexless ws ≡ true → indexless (vs ++ ws) ≡ true
unfolding indexless
indexless-++ [] ws a b = b
indexless-++ (v ∷ vs) ws a b = let p = both (ltb (v / 256) 253 || eqb (v / 256) 255) (indexless vs) a in rw p.0 (indexless-++ vs ws p.1 b)

indexless_head : (w n : ℕ) (ws : List ℕ) → head_word w n ≡ true → indexless ws ≡ true → indexless (w ∷ ws) ≡ true
unfolding indexless
indexless_head w n ws h e = rw (lt-ltb (w / 256) 253 (head_plain w n h)) e

none-asked : (p : Pattern) → made p ≡ true → asks_none p ≡ true → indexless (pattern_words p) ≡ true
unfolding made asks_none pattern_words indexless
none-asked (# k) e n = let z : (255 * 256 + k) / 256 ≡ 255 = digits_div 255 {m = 256} {r = k} (omega (arith, ltb-true k 5 e)) in rw z
none-asked (first k) e n = absurd (not_so n)
none-asked (second k) e n = absurd (not_so n)
none-asked (l ⟨⟩) e n = indexless_head (word l 0) 0 [] e refl
none-asked (l ⟨ p ⟩) e n = let b = both (head_word (word l 1) 1) (made p) e in indexless_head (word l 1) 1 (pattern_words p) b.0 (none-asked p b.1 n)
none-asked (l ⟨ p ∣ q ⟩) e n =
    let b = all_three (head_word (word l 2) 2) (made p) (made q) e in
    let m = both (asks_none p) (asks_none q) n in
    indexless_head (word l 2) 2 (pattern_words p ++ pattern_words q) b.0 (indexless-++ (pattern_words p) (pattern_words q) (none-asked p b.1.0 m.0) (none-asked q b.1.1 m.1))

-- ---- the row of an equation
module _ {n : ℕ} {row : Row} (e : Equation n row) where
  pub sides-room : row.b + row.c ≤ 24
  sides-room = rw e.is (sides-short n e.rule)

  -- its words, copied
  module _ {sides : List ℕ} (copied : sides ≡ overlaid (replicate 24 0) (drop row.a (words_in (n / 50)))) where
    pub left_side : take row.b sides ≡ pattern_words e.left
    left_side = rw (copied, e.is) (left_copied n e.rule (replicate 24 0) refl)

    pub right_side : take (row.b + row.c - row.b) (drop row.b sides) ≡ pattern_words e.right
    right_side =
        let z : row.b + row.c - row.b ≡ row.c = omega arith in
        rw (z, copied, e.is) (right_copied n e.rule (replicate 24 0) refl)

    pub left-size : row.b ≡ length (take row.b sides)
    left-size = sym (rw left_side (rw e.is (sym (sizes n e.rule).0)))

  pub right_made : made e.right ≡ true
  right_made = (every_made n e.rule).1

  pub condition-is : row.d ≡ condition_number e.condition
  condition-is = rw e.is (kind_at n e.rule)

-- ---- what a match found, as trees
none_by : {ws : List ℕ} {n : ℕ} {x : Result Match Miss} {o : Option (List Tree)} {q : Miss} → Found ws n x o → Err q ≡ x → o ≡ none
none_by (holds h at) e = absurd cc
none_by (stops z) e = refl

module _ (n : ℕ) {k : Condition} {l r : Pattern} (rule : rule_of n ≡ some (k ⇒ l ▷ r)) {ds term : List ℕ} {place : ℕ} {ws : List ℕ} (s : Site ds term place ws) where
  abbrev Γ : Context
  Γ = context_at ds s.bodies

  pub well : WellFormed Γ
  well = bodies_well (well_formed ds s.good) s.bodies

  fines : Fine k l r
  fines = fine k l r (every_good n (k ⇒ l ▷ r) rule)

  pub record Caughts (m : Match) : Type 0 where
    pub trees : List Tree
    pub matches : match l s.tree [] ≡ some trees
    pub formed : AllFormed trees
    pub typed : flat l ≡ true → AllTyped Γ trees
    pub many : m.held ≡ met l 0
    pub holds-all : Holds ws m trees
    pub ends : m.at ≡ length (words s.tree)

  abbrev pub held : {m : Match} → Caughts m → Caught ds ws m
  held x = caught s x.holds-all x.ends x.formed

  caughts_by : {m : Match} {x : Result Match Miss} {o : Option (List Tree)} → match l s.tree [] ≡ o → Found ws (length (words s.tree)) x o → Ok m ≡ x → Caughts m
  caughts_by {m = m} e (holds {m = q} {c} h at) w =
      let x = matched Γ l s.tree [] c fines.order none-formed s.formed e in
      let z : m ≡ q = cc in
      rw z (record {
        trees = c;
        matches = e;
        formed = x.formed;
        typed = λ f. x.typed f well s.sort s.typed (λ j h. absurd (omega (arith, h)));
        many = h.many ∙ x.many;
        holds-all = h;
        ends = at;
      })
  caughts_by e (stops q) w = absurd cc

  -- the words of the left side were walked
  found : Found ws (length (words s.tree)) (match_of (pattern_words l) ws) (match l s.tree [])
  found = rw s.whole (matches n k l r rule s.tree s.after s.formed)

  pub found_in : {m : Match} → Ok m ≡ match_of (pattern_words l) ws → Caughts m
  found_in e = caughts_by refl found e

  pub found_none : {q : Miss} → Err q ≡ match_of (pattern_words l) ws → match l s.tree [] ≡ none
  found_none e = none_by found e

  -- the right side asks for holes of the left side, and so does the condition
  pub right-asks : {m : Match} → Caughts m → all_ask m.held (pattern_words r) ≡ true
  right-asks x = rw x.many (ask_words (met l 0) r (every_made n rule).1 fines.below_holes)

  pub condition-asks : {m : Match} → Caughts m → asked k m.held ≡ true
  condition-asks x = rw x.many fines.asks

  -- where they ask for a type, the holes are typed
  known : {m : Match} (x : Caughts m) → ((of_words k ≡ true) ⊎ AllSorted (held x)) × ((asks_none r ≡ true) ⊎ AllSorted (held x))
  known x =
      either (flat l) (of_words k && asks_none r) (λ f. (inr (x.typed f), inr (x.typed f))) (λ e. let p = both (of_words k) (asks_none r) e in (inl p.0, inl p.1)) fines.flat-or

  pub condition-known : {m : Match} (x : Caughts m) → (of_words k ≡ true) ⊎ AllSorted (held x)
  condition-known x = (known x).0

  pub right-known : {m : Match} (x : Caughts m) → (indexless (pattern_words r) ≡ true) ⊎ AllSorted (held x)
  right-known x = let right = (every_made n rule).1 in ⊎_elim (λ e. inl (none-asked r right e)) (λ a. inr a) (known x).1

-- ---- a filled right side has few children at each node
mutual
  unfolding words count few

  few-short : (t : Tree) → length (words t) ≤ 255 → few t ≡ true
  few-short (node l cs) h = rw (le-leb (count cs) max_children (omega (arith, count-words cs))) (few_short* cs (omega arith))

  few_short* : (f : Forest) → length (words* f) ≤ 255 → few* f ≡ true
  few_short* no-tree h = refl
  few_short* (t ▹ f) h =
      let a = length-append (words t) (words* f) in
      rw (few-short t (omega arith)) (few_short* f (omega arith))

few_index : (Γ : Context) → WellFormed Γ → (b : Bool) (t : Tree) → few (chosen_index b (sort_of Γ t)) ≡ true
few_index Γ W b t = few-short (chosen_index b (sort_of Γ t)) (omega (arith, chosen-short W b t (type_of Γ 0 t) refl))

pub few-fill : (Γ : Context) → WellFormed Γ → (c : List Tree) → AllFormed c → (p : Pattern) → few (fill Γ (holes c) p) ≡ true
unfolding few count
few-fill Γ W c f (# k) = formed-few (holes c k) (f k)
few-fill Γ W c f (first k) = few_index Γ W false (holes c k)
few-fill Γ W c f (second k) = few_index Γ W true (holes c k)
few-fill Γ W c f (l ⟨⟩) = refl
few-fill Γ W c f (l ⟨ p ⟩) = rw (few-fill Γ W c f p)
few-fill Γ W c f (l ⟨ p ∣ q ⟩) = rw (few-fill Γ W c f p, few-fill Γ W c f q)

-- ---- what `rewrite` gives
module _ (Γ : Context) (k : Condition) (l r : Pattern) (t : Tree) where
  pub no_index : (i j : ℕ) → i ≢ 0 → rewrite Γ (k ⇒ l ▷ r) i j t ≡ none
  unfolding rewrite
  no_index i j h = rw (ne_eqb i 0 h)

  pub no_second_index : (i j : ℕ) → i ≡ 0 → j ≢ 0 → rewrite Γ (k ⇒ l ▷ r) i j t ≡ none
  unfolding rewrite
  no_second_index i j e h = rw (eq-eqb i 0 e, ne_eqb j 0 h)

  module _ (i j : ℕ) (e : i ≡ 0) (f : j ≡ 0) where
    pub no_left : match l t [] ≡ none → rewrite Γ (k ⇒ l ▷ r) i j t ≡ none
    unfolding rewrite filled
    no_left h = rw (eq-eqb i 0 e, eq-eqb j 0 f, h)

    pub unmet : (d : List Tree) → match l t [] ≡ some d → satisfied Γ k (holes d) ≡ false → rewrite Γ (k ⇒ l ▷ r) i j t ≡ none
    unfolding rewrite filled
    unmet d h w = rw (eq-eqb i 0 e, eq-eqb j 0 f, h, w)

    pub equated : (d : List Tree) → match l t [] ≡ some d → satisfied Γ k (holes d) ≡ true → rewrite Γ (k ⇒ l ▷ r) i j t ≡ some (fill Γ (holes d) r)
    unfolding rewrite filled
    equated d h w = rw (eq-eqb i 0 e, eq-eqb j 0 f, h, w)

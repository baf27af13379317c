-- The function `rewrite` answers exactly the instances of a rule.
use mathlib.Core.Path.{◌≡◌, refl, sym, ◌∙◌, ap}
use mathlib.Core.Bool.{Bool, true, false, cond, ◌&&◌, ◌||◌}
use mathlib.Core.Logic.{◌⊎◌, inl, inr}
use mathlib.Core.List.{List, []}
use mathlib.Core.Option.{Option, some, none as refused}
use Prim.Native.Nat.{ℕ, suc, ◌+◌, ◌*◌}
use native.Mathlib.Omega.{arith}
use borrow.Author.Tests.{eqb-true, eq-eqb, ne_eqb, lt-ltb, ltb-true}
use lib.Dec.{eqb, ltb}
use lib.ListN.{length}
use Rattle.words.specs.Listed.{or_else}
use Rattle.words.specs.Words.{same_words}
use Rattle.words.proofs.Runs.{same-words}
use Rattle.term.specs.Heads.{Label, word, heads, labelled, reading, scalar_zero, scalar_sum, scalar_product, delta, scale, add, big_sum}
use Rattle.term.specs.Trees.{Tree, Forest, node, none, ◌▹◌, ◌⧺◌, count, words, Formed}
use Rattle.term.proofs.Readings.{read_at}
use Rattle.term.proofs.Parsing.{⧺-assoc, count-⧺, Formed*-⧺}
use Rattle.types.specs.Sorts.{Sort, ket, bra, operator, Context}
use Rattle.types.specs.Rules.{◌⊢◌∶◌, WellFormed}
use Rattle.types.proofs.Sound.{by_sort}
use Rattle.rules.specs.Patterns.{Pattern, #◌, first, second, ◌⟨⟩, ◌⟨◌⟩, ◌⟨◌∣◌⟩}
use Rattle.rules.specs.Table.{Condition, any, a_ket, a_bra, an_operator, unused, marked, Which, child, child_i, Summand, plain, scaled, Rule, ◌⇒◌▷◌, spreading, removing, absorbing, merging}
use Rattle.rules.specs.Table.{collecting, swapping, distributing}
use Rattle.rules.specs.Instances.{Filled, hole, first_of, second_of, over_none, over_one, over_two, Holds, ACSymbol, scalar_sums, scalar_products, sums, Loose, loose_chain}
use Rattle.rules.specs.Instances.{loose_delta, Sum, of_scalars, of_arrays, Picks, spread, summand, factor, Instance, equals, spreads, removes, absorbs, merges, collects, swaps}
use Rattle.rules.specs.Instances.{distributes}
use Rattle.rules.specs.Rewrite.{nameless, is_head, sort_of, wanted, fill, match, holes, satisfied, filled, Opened, behind, open_at, spread_at, remove_at, absorb_at, merge_at, swap_at}
use Rattle.rules.specs.Rewrite.{distribute_at, Multiple, no_multiple, multiple, multiple_of, collected, collect_before, collect_at, is_chain, is_loose, place, usable, rewrite}
use Rattle.rules.proofs.Marks.{marked_variable}
use Rattle.rules.proofs.Known.{either, is_head_lem, head_is}
use Rattle.rules.specs.Code.Conditions.{asked, of_words}
use Rattle.rules.proofs.Good.{below, flat, asks_none, Good, both, all_three, fine, good}
use Rattle.rules.proofs.Lines.{not_so, sort-is, fill_is, condition-is}
use Rattle.rules.proofs.Opening.{At, too_far, there, at, open-⧺}
use Rattle.rules.proofs.Matching.{Agrees, fill_agrees, meets, no_answer, cond-some, same-part, none-formed, AllTyped, matched}

-- ---- where the sum stands
picks_usable : (w : Which) (i n : ℕ) → Picks w i n → usable w i ≡ true
unfolding usable
picks_usable (child k) i n s = eq-eqb i 0 s.0
picks_usable child_i i n s = refl

picks_place : (w : Which) (i n : ℕ) → Picks w i n → place w i ≡ n
unfolding place
picks_place (child k) i n s = sym s.1
picks_place child_i i n s = s

-- ---- chains
or-second : (a b : Bool) → b ≡ true → (a || b) ≡ true
or-second true b e = refl
or-second false b e = e

is-chain : {l : Label} → ACSymbol l → (n : ℕ) → is_chain l n ≡ true
unfolding is_chain
is-chain scalar_sums n = rw (is_head_lem scalar_sum n)
is-chain scalar_products n = or-second (is_head scalar_sum scalar_product n) _ (rw (is_head_lem scalar_product n))
is-chain sums n = or-second (is_head scalar_sum add n) _ (or-second (is_head scalar_product add n) _ (is_head_lem add n))

is_loose_lem : {l : Label} → Loose l → (n : ℕ) → is_loose l n ≡ true
unfolding is_loose
is_loose_lem (loose_chain {l} c) n = or-second (is_head delta l n) _ (is-chain c n)
is_loose_lem loose_delta n = rw (is_head_lem delta n)

other_sum : (n : ℕ) → is_head scalar_sum add n ≡ false
unfolding is_head word
other_sum n = ne_eqb (7 * 256 + n) (20 * 256 + n) (λ e. omega (arith, e))

distributes-found : {l : Label} (s : Tree) (f : Forest) → Sum l → distribute_at (open_at (s ▹ node l f ▹ none) 1) ≡ some (node l (spread big_sum (s ▹ none) f none))
unfolding distribute_at open_at behind
distributes-found s f of_scalars = rw (is_head_lem scalar_sum (count f))
distributes-found s f of_arrays = rw (other_sum (count f), is_head_lem add (count f))

-- ---- summands
multiple_of_lem : (u : Summand) (a x : Tree) → multiple_of u (summand u a x) ≡ multiple (factor u a) x
unfolding multiple_of
multiple_of_lem plain a x = refl
multiple_of_lem scaled a x = rw (is_head_lem scale 2)

-- the condition looks at the holes that the left side has
condition_agrees : (Γ : Context) (θ : ℕ → Tree) (c : List Tree) → Agrees θ c → (k : Condition) → asked k (length c) ≡ true → satisfied Γ k (holes c) ≡ satisfied Γ k θ
unfolding asked satisfied
condition_agrees Γ θ c a any h = refl
condition_agrees Γ θ c a a_ket h = rw (a 0 (ltb-true 0 (length c) h))
condition_agrees Γ θ c a a_bra h = rw (a 0 (ltb-true 0 (length c) h))
condition_agrees Γ θ c a an_operator h = rw (a 0 (ltb-true 0 (length c) h))
condition_agrees Γ θ c a unused h = rw (a 1 (ltb-true 1 (length c) h))
condition_agrees Γ θ c a marked h = rw (a 0 (ltb-true 0 (length c) h))

equals-found : (Γ : Context) (k : Condition) (l r : Pattern) (θ : ℕ → Tree) → Good (k ⇒ l ▷ r) → satisfied Γ k θ ≡ true
    → filled Γ k r (match l (fill Γ θ l) []) ≡ some (fill Γ θ r)
unfolding filled
equals-found Γ k l r θ g h =
    let b = fine k l r g in
    let m = meets Γ θ l [] b.order (λ k s. absurd (omega (arith, s))) in
    let p = condition_agrees Γ θ m.held m.agrees k (rw m.many b.asks) in
    let q = fill_agrees Γ θ m.held m.agrees r (rw m.many b.below_holes) in
    rw (m.answers, p, h, q)

collects-found : (u v : Summand) (before between after : Forest) (a b x : Tree)
    → collect_at u v (count before) (open_at (before ⧺ summand u a x ▹ between ⧺ summand v b x ▹ after) (count before + 1 + count between))
    ≡ some (node add (before ⧺ between ⧺ after ⧺ node scale (node scalar_sum (factor u a ▹ factor v b ▹ none) ▹ x ▹ none) ▹ none))
unfolding collect_at collect_before collected ◌⧺◌ count
collects-found u v before between after a b x =
    let c : count before + 1 + count between ≡ count (before ⧺ summand u a x ▹ between) = omega (arith, count-⧺ before (summand u a x ▹ between)) in
    rw (c, ← ⧺-assoc before (summand u a x ▹ between) (summand v b x ▹ after), open-⧺, open-⧺, multiple_of_lem u a x, multiple_of_lem v b x, same-words)

pub complete : {Γ : Context} → WellFormed Γ → {r : Rule} {i j : ℕ} {p q : Tree} → Good r → Instance Γ r i j p q → rewrite Γ r i j p ≡ some q
unfolding rewrite spread_at remove_at absorb_at merge_at swap_at distribute_at
complete {Γ} W g (equals {k} {l} {r} θ a b w) = rw (fill_is W a, fill_is W b) (equals-found Γ k l r θ g (condition-is W k θ w))
complete W g (spreads {l} {s} {r} {w} {i} b f a h) = rw (picks_usable w i (count b) h, is_head_lem l _, picks_place w i (count b) h, open-⧺, is_head_lem s _)
complete W g (removes {l} {c} b f a h) = rw (is_head_lem l _, open-⧺, is_head_lem c _, lt-ltb 0 _ h)
complete W g (absorbs b a) = rw (is_head_lem scalar_product _, open-⧺, is_head_lem scalar_zero _)
complete W g (merges {l} b f a h) = rw (is-chain h _, open-⧺, is_head_lem l _)
complete W g (collects {u} {v} b m a c d x) = rw (is_head_lem add _) (collects-found u v b m a c d x)
complete W g (swaps {l} b a t u h) = rw (is_loose_lem h _, open-⧺)
complete W g (distributes {l} s f x) = rw (picks_usable (child 1) 0 1 (refl, refl), is_head_lem big_sum _, picks_place (child 1) 0 1 (refl, refl)) (distributes-found s f x)

pub unique : {Γ : Context} → WellFormed Γ → {r : Rule} {i j : ℕ} {p q q' : Tree} → Good r → Instance Γ r i j p q → Instance Γ r i j p q' → q ≡ q'
unique W g a b = cc (complete W g a, complete W g b)

-- ---- and what it answers is an instance
instance_at : {Γ : Context} {r : Rule} {i i' j j' : ℕ} {p p' q q' : Tree} → i ≡ i' → j ≡ j' → p ≡ p' → q' ≡ q → Instance Γ r i' j' p' q' → Instance Γ r i j p q
instance_at a b c d x = rw (a, b, c, ← d) x

-- patterns
filled-some : {q : Tree} (Γ : Context) (k : Condition) (r : Pattern) (o : Option (List Tree)) → filled Γ k r o ≡ some q
    → (c : List Tree) × (o ≡ some c) × (satisfied Γ k (holes c) ≡ true) × (fill Γ (holes c) r ≡ q)
unfolding filled
filled-some Γ k r refused e = no_answer e
filled-some Γ k r (some c) e = let b = cond-some (satisfied Γ k (holes c)) (some (fill Γ (holes c) r)) e in (c, refl, b.0, cc b.1)

-- a sort that passes the test is of the kind, and the others are refused
no : {A B : Type 0} → A → false ≡ true → B
no d w = absurd (not_so w)

module _ {Γ : Context} {t : Tree} where
  ket_of : (S : Sort) → Γ ⊢ t ∶ S → wanted a_ket S ≡ true → (σ : Tree) × (Γ ⊢ t ∶ ket σ)
  ket_of = by_sort (λ S. Γ ⊢ t ∶ S → wanted a_ket S ≡ true → (σ : Tree) × (Γ ⊢ t ∶ ket σ)) (λ σ. no) (λ σ. no) no (λ σ d w. (σ, d)) (λ σ. no) (λ σ τ. no)

  bra_of : (S : Sort) → Γ ⊢ t ∶ S → wanted a_bra S ≡ true → (σ : Tree) × (Γ ⊢ t ∶ bra σ)
  bra_of = by_sort (λ S. Γ ⊢ t ∶ S → wanted a_bra S ≡ true → (σ : Tree) × (Γ ⊢ t ∶ bra σ)) (λ σ. no) (λ σ. no) no (λ σ. no) (λ σ d w. (σ, d)) (λ σ τ. no)

  operator_of : (S : Sort) → Γ ⊢ t ∶ S → wanted an_operator S ≡ true → (σ : Tree) × (τ : Tree) × (Γ ⊢ t ∶ operator σ τ)
  operator_of = by_sort (λ S. Γ ⊢ t ∶ S → wanted an_operator S ≡ true → (σ : Tree) × (τ : Tree) × (Γ ⊢ t ∶ operator σ τ)) (λ σ. no) (λ σ. no) no (λ σ. no) (λ σ. no) (λ σ τ d w. (σ, τ, d))

-- Where a type is asked for, the holes are typed: so the right side is filled as the rule asks, and the condition holds
module _ {Γ : Context} (W : WellFormed Γ) (c : List Tree) where
  hole-typed : AllTyped Γ c → (k : ℕ) → ltb k (length c) ≡ true → Γ ⊢ holes c k ∶ sort_of Γ (holes c k)
  hole-typed all k b = let d = all k (ltb-true k (length c) b) in rw (sort-is W d.1) d.1

  right-filled : (p : Pattern) → (asks_none p ≡ true) ⊎ AllTyped Γ c → below p (length c) ≡ true → Filled Γ (holes c) p (fill Γ (holes c) p)
  unfolding below asks_none
  right-filled (# k) o b = hole
  right-filled (first k) (inl n) b = absurd (not_so n)
  right-filled (first k) (inr all) b = first_of (hole-typed all k b)
  right-filled (second k) (inl n) b = absurd (not_so n)
  right-filled (second k) (inr all) b = second_of (hole-typed all k b)
  right-filled (h ⟨⟩) o b = over_none
  right-filled (h ⟨ p ⟩) o b = over_one (right-filled p o b)
  right-filled (h ⟨ p ∣ q ⟩) (inl n) b =
      let e = both (below p (length c)) (below q (length c)) b in
      let m = both (asks_none p) (asks_none q) n in
      over_two (right-filled p (inl m.0) e.0) (right-filled q (inl m.1) e.1)
  right-filled (h ⟨ p ∣ q ⟩) (inr all) b =
      let e = both (below p (length c)) (below q (length c)) b in
      over_two (right-filled p (inr all) e.0) (right-filled q (inr all) e.1)

  condition-holds : (k : Condition) → (of_words k ≡ true) ⊎ AllTyped Γ c → asked k (length c) ≡ true → satisfied Γ k (holes c) ≡ true → Holds Γ k (holes c)
  unfolding asked satisfied of_words
  condition-holds any o b w = tt
  condition-holds a_ket (inl n) b w = absurd (not_so n)
  condition-holds a_ket (inr all) b w = ket_of _ (hole-typed all 0 b) w
  condition-holds a_bra (inl n) b w = absurd (not_so n)
  condition-holds a_bra (inr all) b w = bra_of _ (hole-typed all 0 b) w
  condition-holds an_operator (inl n) b w = absurd (not_so n)
  condition-holds an_operator (inr all) b w = operator_of _ (hole-typed all 0 b) w
  condition-holds unused o b w = w
  condition-holds marked o b w = marked_variable Γ (holes c 0) w

equals_sound : {Γ : Context} → WellFormed Γ → {i j : ℕ} {t q : Tree} {S : Sort} (k : Condition) (l r : Pattern) → Good (k ⇒ l ▷ r) → Formed t → Γ ⊢ t ∶ S → i ≡ 0 → j ≡ 0
    → filled Γ k r (match l t []) ≡ some q → Instance Γ (k ⇒ l ▷ r) i j t q
equals_sound {Γ} W {t} {S} k l r g h d a b e =
    let o = fine k l r g in
    let s = filled-some Γ k r (match l t []) e in
    let m = matched Γ l t [] s.0 o.order none-formed h s.1 in
    let all : flat l ≡ true → AllTyped Γ s.0 = λ f. m.typed f W S d (λ k s. absurd (omega (arith, s))) in
    let x : ((of_words k ≡ true) ⊎ AllTyped Γ s.0) × ((asks_none r ≡ true) ⊎ AllTyped Γ s.0) =
    either (flat l) (of_words k && asks_none r) (λ f. (inr (all f), inr (all f))) (λ n. let p = both (of_words k) (asks_none r) n in (inl p.0, inl p.1)) o.flat-or in
    instance_at a b refl s.3
    (equals (holes s.0) (m.fills (holes s.0) (λ k h. refl)) (right-filled W s.0 r x.1 (rw m.many o.below_holes))
    (condition-holds W s.0 k x.0 (rw m.many o.asks) s.2))

-- a child of a formed node is formed
child-formed : {f : Forest} (m : Label) (b : Forest) (t : Tree) (a : Forest) → Formed (node m f) → f ≡ b ⧺ t ▹ a → Formed t
unfolding Formed
child-formed m b t a h e = let x = Formed*-⧺ b (t ▹ a) (rw e at h.1) in x.1.0

-- spreading
usable_picks : (w : Which) (i n : ℕ) → usable w i ≡ true → place w i ≡ n → Picks w i n
unfolding usable place
usable_picks (child k) i n u e = (eqb-true i 0 u, sym e)
usable_picks child_i i n u e = e

spreads_sound : {Γ : Context} {l s r m : Label} {w : Which} {i j : ℕ} {f : Forest} {q : Tree} {o : Opened} → nameless s ≡ true → Formed (node m f)
    → j ≡ 0 → usable w i ≡ true → l ≡ m → At f (place w i) o → spread_at l s r o ≡ some q → Instance Γ (spreading l w s r) i j (node m f) q
unfolding spread_at
spreads_sound g h z u e (too_far l) x = no_answer x
spreads_sound {l} {s} {r} {w} {i} g h z u e (there b (node c f) a k n) x =
    let t = cond-some (is_head s c (count f)) (some (node r (spread l b f a))) x in
    let y = head_is s c f g (child-formed _ b (node c f) a h k) t.0 in
    instance_at refl z (rw (k, e, y)) (cc t.1) (spreads b f a (usable_picks w i (count b) u n))

-- removing
removes_sound : {Γ : Context} {l c m : Label} {i j : ℕ} {f : Forest} {q : Tree} {o : Opened} → nameless c ≡ true → Formed (node m f)
    → j ≡ 0 → l ≡ m → At f i o → remove_at l c o ≡ some q → Instance Γ (removing l c) i j (node m f) q
unfolding remove_at
removes_sound g h z e (too_far l) x = no_answer x
removes_sound {l} {c} g h z e (there b (node d f) a k n) x =
    let t = cond-some (is_head c d (count f) && ltb 0 (count (b ⧺ a))) (some (node l (b ⧺ a))) x in
    let s = both (is_head c d (count f)) (ltb 0 (count (b ⧺ a))) t.0 in
    let y = head_is c d f g (child-formed _ b (node d f) a h k) s.0 in
    instance_at n z (rw (k, e, y)) (cc t.1) (removes b f a (ltb-true 0 _ s.1))

-- absorbing
zero_leaf : (f : Forest) → Formed (node scalar_zero f) → f ≡ none
unfolding Formed word count heads reading
zero_leaf none h = refl
zero_leaf (t ▹ f) h = let z : ◌≡◌ {A = ℕ} 0 (suc (count f)) = cc (h.0, read_at 5 0 (omega arith)) in absurd (omega (arith, z))

absorbs_sound : {Γ : Context} {m : Label} {i j : ℕ} {f : Forest} {q : Tree} {o : Opened} → Formed (node m f)
    → j ≡ 0 → scalar_product ≡ m → At f i o → absorb_at o ≡ some q → Instance Γ absorbing i j (node m f) q
unfolding absorb_at
absorbs_sound h z e (too_far l) x = no_answer x
absorbs_sound h z e (there b (node c f) a k n) x =
    let t = cond-some (is_head scalar_zero c (count f)) (some (node scalar_zero none)) x in
    let v = child-formed _ b (node c f) a h k in
    let y = head_is scalar_zero c f refl v t.0 in
    let l = zero_leaf f (rw y v) in
    instance_at n z (rw (k, ← e, ← y, l)) (cc t.1) (absorbs b a)

-- merging and swapping
chain_of : (m : Label) (f : Forest) → Formed (node m f) → is_chain m (count f) ≡ true → ACSymbol m
unfolding is_chain
chain_of m f h =
    either (is_head scalar_sum m (count f)) _ (λ t. rw (← (head_is scalar_sum m f refl h t)) scalar_sums)
    (either (is_head scalar_product m (count f)) _ (λ t. rw (← (head_is scalar_product m f refl h t)) scalar_products)
    (λ t. rw (← (head_is add m f refl h t)) sums))

loose_of : (m : Label) (f : Forest) → Formed (node m f) → is_loose m (count f) ≡ true → Loose m
unfolding is_loose
loose_of m f h = either (is_head delta m (count f)) _ (λ t. rw (← (head_is delta m f refl h t)) loose_delta) (λ t. loose_chain (chain_of m f h t))

pub chain-nameless : {m : Label} → ACSymbol m → nameless m ≡ true
chain-nameless scalar_sums = refl
chain-nameless scalar_products = refl
chain-nameless sums = refl

merges_sound : {Γ : Context} {m : Label} {i j : ℕ} {f : Forest} {q : Tree} {o : Opened} → Formed (node m f)
    → j ≡ 0 → ACSymbol m → At f i o → merge_at m o ≡ some q → Instance Γ merging i j (node m f) q
unfolding merge_at
merges_sound h z c (too_far l) x = no_answer x
merges_sound {m} h z c (there b (node d f) a k n) x =
    let t = cond-some (is_head m d (count f)) (some (node m (b ⧺ f ⧺ a))) x in
    let y = head_is m d f (chain-nameless c) (child-formed _ b (node d f) a h k) t.0 in
    instance_at n z (rw (k, ← y)) (cc t.1) (merges b f a c)

swaps_sound : {Γ : Context} {m : Label} {i j : ℕ} {f : Forest} {q : Tree} {o : Opened}
    → j ≡ 0 → Loose m → At f i o → swap_at m o ≡ some q → Instance Γ swapping i j (node m f) q
unfolding swap_at
swaps_sound z c (too_far l) x = no_answer x
swaps_sound z c (there b t none k n) x = no_answer x
swaps_sound z c (there b t (u ▹ a) k n) x = instance_at n z (rw k) (cc x) (swaps b a t u c)

-- collecting: the two answers of `multiple_of`
data Summed (u : Summand) (t : Tree) : Multiple → Type 0 where
  unscaled : Summed u t no_multiple
  summed_as : (a x : Tree) → t ≡ summand u a x → Formed x → Summed u t (multiple (factor u a) x)

summed_if : {t : Tree} (b : Bool) (a x : Tree) → (b ≡ true → t ≡ summand scaled a x) → Formed x → Summed scaled t (cond b (multiple a x) no_multiple)
summed_if true a x e h = summed_as a x (e refl) h
summed_if false a x e h = unscaled

summed : (u : Summand) (t : Tree) → Formed t → Summed u t (multiple_of u t)
unfolding multiple_of Formed count
summed plain t h = summed_as t t refl h
summed scaled (node m none) h = unscaled
summed scaled (node m (a ▹ none)) h = unscaled
summed scaled (node m (a ▹ x ▹ none)) h = summed_if (is_head scale m 2) a x (λ t. rw (head_is scale m (a ▹ x ▹ none) refl h t)) h.1.1.0
summed scaled (node m (a ▹ x ▹ t ▹ f)) h = unscaled

-- s stands at child i and t at child j
collected_sound : {Γ : Context} {u v : Summand} {s t : Tree} {p r : Multiple} {q : Tree} (b c a : Forest) → Summed u s p → Summed v t r
    → collected b c a p r ≡ some q → Instance Γ (collecting u v) (count b) (count b + 1 + count c) (node add (b ⧺ s ▹ c ⧺ t ▹ a)) q
unfolding collected
collected_sound b c a unscaled y e = no_answer e
collected_sound b c a (summed_as d x k h) unscaled e = no_answer e
collected_sound b c a (summed_as d x k h) (summed_as d' x' k' h') e =
    let r = cond-some (same_words (words x) (words x')) _ e in
    let z = same-part x x' h h' r.0 in
    instance_at refl refl (rw (k, k', ← z)) (cc r.1) (collects b c a d d' x)

before_sound : {Γ : Context} {u v : Summand} {m : Label} {f b : Forest} {q : Tree} {i j : ℕ} {o : Opened} (t : Tree) (a : Forest) → Formed (node m f)
    → add ≡ m → f ≡ b ⧺ t ▹ a → j ≡ count b → At b i o → collect_before u v t a o ≡ some q → Instance Γ (collecting u v) i j (node m f) q
unfolding collect_before ◌⧺◌ count
before_sound t a h z k n (too_far l) e = no_answer e
before_sound {u} {v} {m} {f} {b} {j} t a h z k n (there d s c l w) e =
    let x : f ≡ d ⧺ s ▹ c ⧺ t ▹ a = k ∙ ap (λ (g : Forest). g ⧺ t ▹ a) l ∙ ⧺-assoc d (s ▹ c) (t ▹ a) in
    let y : j ≡ count d + 1 + count c = omega (arith, n, ap count l, count-⧺ d (s ▹ c)) in
    let hs = child-formed m d s (c ⧺ t ▹ a) h x in
    let ht = child-formed m b t a h k in
    instance_at w y (rw (x, ← z)) refl (collected_sound d c a (summed u s hs) (summed v t ht) e)

collects_sound : {Γ : Context} {u v : Summand} {m : Label} {i j : ℕ} {f : Forest} {q : Tree} {o : Opened} → Formed (node m f) → add ≡ m
    → At f j o → collect_at u v i o ≡ some q → Instance Γ (collecting u v) i j (node m f) q
unfolding collect_at
collects_sound h z (too_far l) e = no_answer e
collects_sound {i} h z (there b t a k n) e = before_sound t a h z k n (at b i) e

-- distributing: a spreading over the second of two children
two_children : (f : Forest) → Formed (node big_sum f) → count f ≡ 2
unfolding Formed word heads reading
two_children f h = let z = read_at 27 0 (omega arith) in let e : labelled big_sum 2 ≡ labelled big_sum (count f) = sym z ∙ h.0 in cc

distributes_by : {Γ : Context} {l : Label} {i j : ℕ} {p q : Tree} → Sum l → Formed p → Instance Γ (spreading big_sum (child 1) l l) i j p q → Instance Γ distributing i j p q
unfolding count ◌⧺◌
distributes_by x h (spreads none f a k) = absurd (omega (arith, k.1))
distributes_by {l} x h (spreads (s ▹ none) f none k) = instance_at k.0 refl refl refl (distributes s f x)
distributes_by {l} x h (spreads (s ▹ none) f (t ▹ a) k) = absurd (omega (arith, two_children (s ▹ node l f ▹ t ▹ a) h))
distributes_by x h (spreads (s ▹ t ▹ b) f a k) = absurd (omega (arith, k.1))

or_some : {A : Type 0} {q : Tree} (x y : Option Tree) → (x ≡ some q → A) → (y ≡ some q → A) → or_else x y ≡ some q → A
unfolding or_else
or_some refused y f g e = g e
or_some (some t) y f g e = f e

distributes_sound : {Γ : Context} {m : Label} {i j : ℕ} {f : Forest} {q : Tree} {o : Opened} → Formed (node m f) → j ≡ 0 → usable (child 1) i ≡ true → big_sum ≡ m → At f (place (child 1) i) o
    → distribute_at o ≡ some q → Instance Γ distributing i j (node m f) q
unfolding distribute_at
distributes_sound {o = o} h a u z x =
    or_some (spread_at big_sum scalar_sum scalar_sum o) (spread_at big_sum add add o)
    (λ e. distributes_by of_scalars h (spreads_sound {r = scalar_sum} refl h a u z x e)) (λ e. distributes_by of_arrays h (spreads_sound {r = add} refl h a u z x e))

pub sound : {Γ : Context} → WellFormed Γ → {i j : ℕ} {q : Tree} {S : Sort} (r : Rule) (p : Tree) → Good r → Formed p → Γ ⊢ p ∶ S → rewrite Γ r i j p ≡ some q → Instance Γ r i j p q
unfolding rewrite good
sound W {i} {j} (k ⇒ l ▷ r) p g h t e =
    let c = cond-some (eqb i 0 && eqb j 0) _ e in
    let b = both (eqb i 0) (eqb j 0) c.0 in
    equals_sound W k l r g h t (eqb-true i 0 b.0) (eqb-true j 0 b.1) c.1
sound W {i} {j} (spreading l w s r) (node m f) g h t e =
    let c = cond-some (eqb j 0 && (usable w i && is_head l m (count f))) _ e in
    let b = all_three (eqb j 0) (usable w i) (is_head l m (count f)) c.0 in
    let n = both (nameless l) (nameless s) g in
    spreads_sound n.1 h (eqb-true j 0 b.0) b.1.0 (head_is l m f n.0 h b.1.1) (at f (place w i)) c.1
sound W {i} {j} (removing l d) (node m f) g h t e =
    let c = cond-some (eqb j 0 && is_head l m (count f)) _ e in
    let b = both (eqb j 0) (is_head l m (count f)) c.0 in
    let n = both (nameless l) (nameless d) g in
    removes_sound n.1 h (eqb-true j 0 b.0) (head_is l m f n.0 h b.1) (at f i) c.1
sound W {i} {j} absorbing (node m f) g h t e =
    let c = cond-some (eqb j 0 && is_head scalar_product m (count f)) _ e in
    let b = both (eqb j 0) (is_head scalar_product m (count f)) c.0 in
    absorbs_sound h (eqb-true j 0 b.0) (head_is scalar_product m f refl h b.1) (at f i) c.1
sound W {i} {j} merging (node m f) g h t e =
    let c = cond-some (eqb j 0 && is_chain m (count f)) _ e in
    let b = both (eqb j 0) (is_chain m (count f)) c.0 in
    merges_sound h (eqb-true j 0 b.0) (chain_of m f h b.1) (at f i) c.1
sound W {i} {j} (collecting u v) (node m f) g h t e =
    let c = cond-some (is_head add m (count f)) _ e in
    collects_sound h (head_is add m f refl h c.0) (at f j) c.1
sound W {i} {j} swapping (node m f) g h t e =
    let c = cond-some (eqb j 0 && is_loose m (count f)) _ e in
    let b = both (eqb j 0) (is_loose m (count f)) c.0 in
    swaps_sound (eqb-true j 0 b.0) (loose_of m f h b.1) (at f i) c.1
sound W {i} {j} distributing (node m f) g h t e =
    let c = cond-some (eqb j 0 && (usable (child 1) i && is_head big_sum m (count f))) _ e in
    let b = all_three (eqb j 0) (usable (child 1) i) (is_head big_sum m (count f)) c.0 in
    distributes_sound h (eqb-true j 0 b.0) b.1.0 (head_is big_sum m f refl h b.1.1) (at f (place (child 1) i)) c.1

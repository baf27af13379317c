-- A step's code and term: which of document 01's cases it is, and that each keeps sort and meaning.
use mathlib.Core.Path.{◌≡◌, refl}
use mathlib.Core.Logic.{◌↔◌}
use mathlib.Core.Bool.{Bool, true, false, cond}
use mathlib.Core.Option.{Option, some, none}
use Prim.Native.Nat.{ℕ}
use native.Mathlib.Decide.{dec_lt}
use native.Mathlib.Omega.{arith}
use lib.ListN.{length}
use Rattle.term.specs.Trees.{Tree, words, Formed, Subtree, outside, found, subtree, replace}
use Rattle.term.proofs.Places.{place, subtree-formed}
use Rattle.types.specs.Sorts.{Sort, Context}
use Rattle.types.specs.Rules.{◌⊢◌∶◌, WellFormed}
use Rattle.types.proofs.Replace.{part-typed, inside_well}
use Rattle.types.specs.Inside.{inside}
use Rattle.rules.specs.Table.{Rule, rule_of}
use Rattle.rules.specs.Instances.{Instance}
use Rattle.rules.specs.Rewrite.{rewrite}
use Rattle.rules.specs.Steps.{Step, Stepped, within, limited, at_part, at_place, by_rule, step_of}
use Rattle.rules.specs.Outcomes.{Outcome, good, no_rule, no_place, no_instance, too_big}
use Rattle.rules.specs.Statements.{DecidesStep}

module _ (D : DecidesStep) (Γ : Context) (W : WellFormed Γ) (S : Sort) (t : Tree) (s : Step) (formed : Formed t) (typed : Γ ⊢ t ∶ S) where
  abbrev Is : Stepped → Type 0
  Is o = Outcome Γ t s o.code o.tree

  -- the context at the place
  abbrev Δ : Context
  Δ = inside Γ t s.place

  -- ---- the tests, from the last to the first
  by_limits : {r : Rule} {p q : Tree} (b : Bool) → within (replace t s.place q) ≡ b → rule_of s.rule ≡ some r → subtree t s.place ≡ found p
      → Instance Δ r s.i s.j p q → Is (cond b (record { code = 0; tree = replace t s.place q }) (record { code = 23; tree = t }))
  by_limits {r} {p} {q} true w e f x = good _ (record { r = r; rule = e; part = p; there = f; new = q; is = x; result = refl; limits = w })
  by_limits false w e f x = too_big e f x w

  decided : {r : Rule} {p : Tree} (q : Tree) → rule_of s.rule ≡ some r → subtree t s.place ≡ found p
      → (rewrite Δ r s.i s.j p ≡ some q) ↔ Instance Δ r s.i s.j p q
  decided {r} {p} q e f =
      let d = part-typed W t s.place p S typed f in
      D Δ (inside_well W t s.place) s.rule r e s.i s.j p q (subtree-formed t s.place p formed f) d.0 d.1

  by_part : {r : Rule} {p : Tree} (o : Option Tree) → rewrite Δ r s.i s.j p ≡ o → rule_of s.rule ≡ some r → subtree t s.place ≡ found p → Is (at_part Γ t s o)
  unfolding at_part limited
  by_part none g e f = no_instance e f λ q x. absurd (let h = (decided q e f).1 x in let z : ◌≡◌ {A = ℕ} 0 1 = cc in omega arith)
  by_part (some q) g e f = by_limits (within (replace t s.place q)) refl e f ((decided q e f).0 g)

  by_place : {r : Rule} (o : Subtree) → subtree t s.place ≡ o → rule_of s.rule ≡ some r → Is (at_place Γ t s r o)
  unfolding at_place
  by_place outside f e =
      elim (dec_lt s.place (length (words t))) [
        | yes h ↦ absurd (let w = (place t s.place h).is in let z : ◌≡◌ {A = ℕ} 0 1 = cc in omega arith)
        | no h ↦ no_place e (omega arith)
      ]
  by_place {r} (found p) f e = by_part (rewrite Δ r s.i s.j p) refl e f

  by_rule_lem : (o : Option Rule) → rule_of s.rule ≡ o → Is (by_rule Γ t s o)
  unfolding by_rule
  by_rule_lem none e = no_rule e
  by_rule_lem (some r) e = by_place (subtree t s.place) refl e

  pub outcome : Is (step_of Γ t s)
  unfolding step_of
  outcome = by_rule_lem (rule_of s.rule) refl

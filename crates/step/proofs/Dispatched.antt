-- The rule of a row at a site: an equation, or a family's.
use mathlib.Core.Path.{◌≡◌, refl, sym, ◌∙◌}
use mathlib.Core.Bool.{true}
use mathlib.Core.List.{List}
use Rattle.std.specs.Prelude.{Result, Err, IsErrAnd, IfOk}
use mathlib.Core.Option.{some}
use Prim.Native.Nat.{ℕ}
use Rattle.types.specs.Sorts.{Context}
use Rattle.declarations.specs.Declarations.{context_at}
use Rattle.rules.specs.Steps.{Step}
use Rattle.rules.specs.Table.{Rule, ◌⇒◌▷◌, rule_of}
use Rattle.rulebook.specs.declared.Row.{Row}
use Rattle.rulebook.specs.declared.Family.TheVariants.{Equation}
use Rattle.rulebook.specs.Code.Rows.{row_of}
use Rattle.families.specs.declared.writing.Refusal.{Refusal}
use Rattle.families.specs.Code.Families.{Lined, an_equation}
use Rattle.families.specs.Writing.{may_deepen, family_of, Measures, Writes}
use Rattle.step.specs.declared.rewriting.Rewritten.{Rewritten}
use Rattle.families.proofs.Written.{passed_up}
use Rattle.families.proofs.Lines.{lined, numbered, ruled, a_family}
use Rattle.families.proofs.Depths.{row-deepens}
use Rattle.families.proofs.Theorems.{at_part_lem}
use Rattle.step.specs.Code.Site.{words_from, ends, Site, Equation as Equated, equated_at, Promise}

-- the equation of a row
equation_by : (n : ℕ) {row : Row} {rule : Rule} → Lined row Equation rule → rule_of n ≡ some rule → row ≡ row_of n → (e : Equated n row) × (rule ≡ (e.condition ⇒ e.left ▷ e.right))
equation_by n (an_equation {k} {l} {r}) e h = (record { condition = k; left = l; right = r; rule = e; is = h }, refl)

pub equation_of : (n : ℕ) (row : Row) → row ≡ row_of n → row.family ≡ Equation → Equated n row
equation_of n row h z = let k = ruled n row h (λ y. cc) in (equation_by n (numbered z k.lines) k.is h).0

-- an equation may leave a part deeper
pub equation_deepens : (n : ℕ) (row : Row) → row ≡ row_of n → row.family ≡ Equation → may_deepen (rule_of n) ≡ true
equation_deepens n row h z = sym (row-deepens n row h) ∙ rw z

-- what a step promises, by either
module _ (s : Step) (row : Row) (h : row ≡ row_of s.rule) (ds term out out' : List ℕ) (r : Result ℕ Refusal) where
  pub equates : row.family ≡ Equation → ((x : Site ds term s.place (words_from term s.place)) (e : Equated s.rule row) → Writes (equated_at ds x e s.i s.j) out out' r)
      → Promise ds term s out out' r
  equates z p x k is = let q = equation_by s.rule (numbered z (lined s.rule k row is h)) is h in rw q.1 (p x q.0)

  pub at_site : (row.family ≡ Equation → ⊥) → ((Δ : Context) → Writes (family_of Δ s.rule s.i s.j (words_from term s.place)) out out' r) → Promise ds term s out out' r
  at_site z p x k is =
      let Γ = context_at ds x.bodies in
      rw (at_part_lem Γ s.rule s.i s.j is (a_family s.rule row h is z) x.tree x.formed _ x.after x.whole) at (p Γ)

-- a refusal that a `?` passes up
pub refused_up : (s : Step) (ds term out out' : List ℕ) (e : Refusal) (r : Result Rewritten Refusal) → IsErrAnd r (λ x. x ≡ e) → Promise ds term s out out' (Err e)
    → Promise ds term s out out' (ends r) × IfOk r (λ x. Measures s.rule (words_from term s.place) x.size x.depth)
refused_up s ds term out out' e r k p = rw (passed_up e r k) (p, tt)

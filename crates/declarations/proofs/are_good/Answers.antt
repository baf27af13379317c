-- Each answer is the first condition of the definition that fails, or the last one.
use mathlib.Core.Path.{sym, ◌∙◌}
use native.Mathlib.Omega.{arith}
use borrow.Author.Rules.{rules}
use borrow.Author.Tests.{ne_eqb}
use lib.ListN.{get_or}
use Rattle.std.proofs.lemmas.Iterator.{YieldsList-from_range, serves_from_Range}
use Rattle.std.proofs.lemmas.Iterator.Search.{all_from_yields_List}
use Rattle.declarations.specs.Declarations.{good_basis, good_variable, good_declarations}
use Rattle.declarations.proofs.Entries.{counts, too_many_names, a_basis_bad, bases_good}
use Rattle.declarations.proofs.UpTo.{in_range}
use Rattle.declarations.proofs.are_good.Goals as goal

pub returns-in_default : goal.returns-in_default
unfolding good_declarations
returns-in_default c = rw (ne_eqb _ _ c.in_default.ensures.cases)

pub all-requires-clause-callable : goal.all-requires-clause-callable
all-requires-clause-callable c =
    let few = counts _ _ _ (sym c.are_counts.ensures ∙ c.if-not-are_counts.false) in
    serves_from_Range (λ x q r. search rules) (λ x l u κs p q r s t. omega arith)

pub returns-then-not-are_counts : goal.returns-then-not-are_counts
returns-then-not-are_counts c =
    let whole = c.in-Some.ensures.cases in
    too_many_names whole.long whole.same (sym c.are_counts.ensures ∙ c.if-not-are_counts.true)

pub all-requires-then-all-clause-callable : goal.all-requires-then-all-clause-callable
all-requires-then-all-clause-callable c =
    let few = counts _ _ _ (sym c.are_counts.ensures ∙ c.if-not-are_counts.false) in
    serves_from_Range (λ x q r. search rules) (λ x l u κs p q r s t. omega arith)

pub returns-else-all : goal.returns-else-all
returns-else-all c =
    let whole = c.in-Some.ensures.cases in
    let few = sym c.are_counts.ensures ∙ c.if-not-are_counts.false in
    let n = get_or c.in-Some.ds.now 1 0 in
    let bases = all_from_yields_List (good_basis c.in-Some.ds.now) _ _ _ c.all.ensures.ran (YieldsList-from_range 0 n n (cc) (omega arith)) (λ x b q k. search rules) in
    a_basis_bad whole.long whole.same few (bases ∙ in_range n _) c.if-all.false

pub returns-then-all : goal.returns-then-all
returns-then-all c =
    let whole = c.in-Some.ensures.cases in
    let few = sym c.are_counts.ensures ∙ c.if-not-are_counts.false in
    let n = get_or c.in-Some.ds.now 1 0 in
    let m = get_or c.in-Some.ds.now 2 0 in
    let bases = all_from_yields_List (good_basis c.in-Some.ds.now) _ _ _ c.all.ensures.ran (YieldsList-from_range 0 n n (cc) (omega arith)) (λ x b q k. search rules) in
    let variables = all_from_yields_List (good_variable c.in-Some.ds.now) _ _ _ c.all-then-all.ensures.ran (YieldsList-from_range 0 m m (cc) (omega arith)) (λ x b q k. search rules) in
    bases_good whole.long whole.same few (bases ∙ in_range n _) c.if-all.true (variables ∙ in_range m _)

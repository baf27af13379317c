-- The witnesses of what `specs/Statements` says of declarations.
use mathlib.Core.Path.{◌≡◌, refl}
use mathlib.Core.Bool.{Bool, true, false, cond}
use borrow.Author.Tests.{eqb-true, leb-true}
use lib.Dec.{eqb, leb}
use lib.ListN.{length}
use Rattle.declarations.specs.declared.constructor.PutError.TheVariants.{WrongSize, Bad}
use Rattle.declarations.specs.Put.{done, refused, start_answer}
use Rattle.declarations.specs.Statements.{GoodContext, Starts, PutsBasis, PutsVariable}
use Rattle.declarations.proofs.Entries as E
use Rattle.declarations.proofs.Put.{answer-done}
use Rattle.declarations.proofs.Kept.{basis_put-good, variable_put-good, started-good}
use Rattle.declarations.proofs.Grown.{started-context, basis_context, variable_context}

pub good-context : GoodContext
good-context ds e = E.well_formed ds e

start_tests : (b c : Bool) → cond b (cond c done (refused Bad)) (refused WrongSize) ≡ done → (b ≡ true) × (c ≡ true)
start_tests true true h = (refl, refl)
start_tests true false h = cc
start_tests false c h = cc

pub starts : Starts
unfolding start_answer
starts ds types h =
    let t = start_tests (eqb (length ds) _) (leb types _) h in
    let l = eqb-true _ _ t.0 in
    record { good = started-good ds types l (leb-true _ _ t.1); context = started-context ds types l }

pub puts_basis : PutsBasis
puts_basis ds index Γ d h =
    let a = answer-done _ _ h in
    record {
      good = basis_put-good ds index d.good a.0 a.1;
      context = rw d.context at (basis_context ds index d.good a.0 a.1);
    }

pub puts_variable : PutsVariable
puts_variable ds kind first second Γ d h =
    let a = answer-done _ _ h in
    record {
      good = variable_put-good ds kind first second d.good a.0 a.1;
      context = rw d.context at (variable_context ds kind first second d.good a.0 a.1);
    }

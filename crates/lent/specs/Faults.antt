-- What is wrong with what is lent, before the first step, as a function for the code to equal: the relation to believe is `Judged` of `Refusals`, and `Judges` of `Statements` says that the
-- fault is so. Document 01, "What comes out, by whose doing", codes 1 to 12, and 02, CR 1, code 13.
use Rattle.std.specs.Prelude.{Bool, cond, ◌&&◌, ◌||◌, ℕ, eqb, Result, Ok, Err}
use Rattle.words.specs.Words.{same_words}
use Rattle.typing.specs.declared.terms.Sizes.{Sizes}
use Rattle.typing.specs.declared.terms.TermType.{TermType}
use Rattle.typing.specs.declared.terms.Typing.{Typing}
use Rattle.typing.specs.Answers.{sizes_of, typing_of}
use Rattle.lent.specs.declared.faults.Fault as F
use Rattle.lent.specs.Lent.{Derivation, steps_fault}

-- two types are the same: kind and lengths, and the words of both indices
unfoldable pub same_sizes : Sizes → Sizes → Bool
same_sizes a b = eqb a.number b.number && (eqb a.rows b.rows && eqb a.columns b.columns)

unfoldable pub same_type : TermType → TermType → Bool
unfolding same_sizes same_words
same_type a b = same_sizes (sizes_of a.kind) (sizes_of b.kind) && (same_words a.rows b.rows && same_words a.columns b.columns)

abbrev pub fault : ℕ → ℕ → ℕ → F.Fault
fault code side at = record { code = code; side = side; at = at }

-- what a test tells: its fault, where it has one, as code 0 is none
abbrev pub Told : Type 0
Told = Result (Unit {0}) F.Fault

abbrev pub no_fault : Told
no_fault = Ok tt

abbrev pub at_fault : F.Fault → Told
at_fault f = Err f

abbrev pub told : F.Fault → Told
told f = cond (eqb f.code 0) no_fault (at_fault f)

-- 12 "the two types differ", after "left 10, 11, right 10, 11", each side's 13 before its 10, the "side named"
unfoldable pub types_fault : Typing → Typing → F.Fault
unfolding same_type
types_fault l r =
    cond (eqb l.code 0)
    (cond (eqb r.code 0) (cond (same_type l.of r.of) (fault 0 0 0) (fault 12 0 0)) (fault r.code 2 r.at))
    (fault l.code 1 l.at)

-- what comes before them: 1 of either slice, 7, 8 of either term, and the steps' own, as in the file
unfoldable pub early_code : ℕ → ℕ → ℕ → ℕ
early_code l r steps = cond (eqb l 1 || eqb r 1) 1 (cond (eqb l 7) 7 (cond (eqb l 8 || eqb r 8) 8 steps))

-- the first fault by the order of document 01, or code 0
unfoldable pub fault_of : Typing → Typing → ℕ → F.Fault
unfolding types_fault early_code
fault_of l r steps = let early = early_code l.code r.code steps in cond (eqb early 0) (types_fault l r) (fault early 0 0)

unfoldable pub fault_in : Derivation → F.Fault
unfolding fault_of typing_of steps_fault
fault_in d = fault_of (typing_of d.ds d.left d.n) (typing_of d.ds d.right d.m) (steps_fault d.steps d.count)

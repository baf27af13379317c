-- Key by key, and stage by stage.
use mathlib.Core.Logic.{inl, inr}
use Rattle.format.specs.Reading.{fits}
use Rattle.reader.specs.declared.keys.Stage.TheVariants.{Start, Bases, Variables, LeftSide, Steps}
use Rattle.reader.proofs.Keyed.{other_stage}
use Rattle.reader.proofs.keys.Key.fits.Goals as goal

pub returns-in-Start : goal.returns-in-Start
unfolding fits
returns-in-Start c = rw (c.in-Types.is, c.in-Start.is)

pub returns-in_default : goal.returns-in_default
unfolding fits
returns-in_default c = rw (c.in-Types.is, other_stage c.args.stage Start c.in_default.not-Start)

pub returns-in-Bases : goal.returns-in-Bases
unfolding fits
returns-in-Bases c = rw (c.in-Basis.is, c.in-Bases.is)

pub returns-in_default-matches : goal.returns-in_default-matches
unfolding fits
returns-in_default-matches c = rw (c.in-Basis.is, other_stage c.args.stage Bases c.in_default-matches.not-Bases)

pub returns-in-Bases-matches : goal.returns-in-Bases-matches
unfolding fits
returns-in-Bases-matches c =
    elim c.in-Var.is [
      | inl k ↦ elim c.in-Bases-matches.is [ inl s ↦ rw (k, s) | inr s ↦ rw (k, s) ]
      | inr k ↦ elim c.in-Bases-matches.is [ inl s ↦ rw (k, s) | inr s ↦ rw (k, s) ]
    ]

pub returns-in_default-matches-2 : goal.returns-in_default-matches-2
unfolding fits
returns-in_default-matches-2 c =
    let no_bases = other_stage c.args.stage Bases c.in_default-matches-2.not-Bases in
    let no_variables = other_stage c.args.stage Variables c.in_default-matches-2.not-Variables in
    elim c.in-Var.is [ inl k ↦ rw (k, no_bases, no_variables) | inr k ↦ rw (k, no_bases, no_variables) ]

pub returns-in-LeftSide : goal.returns-in-LeftSide
unfolding fits
returns-in-LeftSide c = rw (c.in-RightTerm.is, c.in-LeftSide.is)

pub returns-in_default-matches-3 : goal.returns-in_default-matches-3
unfolding fits
returns-in_default-matches-3 c = rw (c.in-RightTerm.is, other_stage c.args.stage LeftSide c.in_default-matches-3.not-LeftSide)

pub returns-in-Steps : goal.returns-in-Steps
unfolding fits
returns-in-Steps c = elim c.in-Step.is [ inl k ↦ rw (k, c.in-Steps.is) | inr k ↦ rw (k, c.in-Steps.is) ]

pub returns-in_default-matches-4 : goal.returns-in_default-matches-4
unfolding fits
returns-in_default-matches-4 c =
    let no_steps = other_stage c.args.stage Steps c.in_default-matches-4.not-Steps in elim c.in-Step.is [ inl k ↦ rw (k, no_steps) | inr k ↦ rw (k, no_steps) ]

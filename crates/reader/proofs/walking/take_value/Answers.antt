-- The arms, each with what the function of its key promises.
use native.Mathlib.Omega.{arith}
use Rattle.format.specs.Files as F
use Rattle.reader.proofs.Named.{passed_on}
use Rattle.reader.proofs.Held.{refused_valued, types_put, basis_put, variable_put, left_placed, left_answers, right_placed, right_answers, step_put, end_answers}
use Rattle.reader.proofs.Held.{declared_valued, left_valued, right_valued, step_valued, end_valued}
use Rattle.reader.proofs.walking.take_value.Goals as goal

pub returns-in_err-take_types-in-Types : goal.returns-in_err-take_types-in-Types
returns-in_err-take_types-in-Types c =
    let key = c.in-Types.is in
    let told = c.in_err-take_types-in-Types.ensures in
    λ f h fit. rw key (refused_valued (types_put _ f _ h told (rw key at fit)).answer (passed_on c.from_residual.ensures))

pub returns-in_ok-take_types-in-Types : goal.returns-in_ok-take_types-in-Types
returns-in_ok-take_types-in-Types c =
    let key = c.in-Types.is in
    let told = c.in_ok-take_types-in-Types.ensures in
    λ f h fit. rw key (declared_valued _ f _ h F.Types (rw key at c.stage_after.ensures) (omega arith) (types_put _ f _ h told (rw key at fit)))

pub returns-in_err-take_basis-in-Basis : goal.returns-in_err-take_basis-in-Basis
returns-in_err-take_basis-in-Basis c =
    let key = c.in-Basis.is in
    let told = c.in_err-take_basis-in-Basis.ensures in
    λ f h fit. rw key (refused_valued (basis_put _ f _ h told (rw key at fit)).answer (passed_on c.from_residual-in_err-take_basis-in-Basis.ensures))

pub returns-in_ok-take_basis-in-Basis : goal.returns-in_ok-take_basis-in-Basis
returns-in_ok-take_basis-in-Basis c =
    let key = c.in-Basis.is in
    let told = c.in_ok-take_basis-in-Basis.ensures in
    λ f h fit. rw key (declared_valued _ f _ h F.Basis (rw key at c.stage_after.ensures) (omega arith) (basis_put _ f _ h told (rw key at fit)))

pub returns-in_err-take_variable-in-Var : goal.returns-in_err-take_variable-in-Var
returns-in_err-take_variable-in-Var c =
    let key = c.in-Var.is in
    let told = c.in_err-take_variable-in-Var.ensures in
    λ f h fit. rw key (refused_valued (variable_put _ f _ h told (rw key at fit)).answer (passed_on c.from_residual-in_err-take_variable-in-Var.ensures))

pub returns-in_ok-take_variable-in-Var : goal.returns-in_ok-take_variable-in-Var
returns-in_ok-take_variable-in-Var c =
    let key = c.in-Var.is in
    let told = c.in_ok-take_variable-in-Var.ensures in
    λ f h fit. rw key (declared_valued _ f _ h F.Var (rw key at c.stage_after.ensures) (omega arith) (variable_put _ f _ h told (rw key at fit)))

pub returns-in_err-next-in-LeftTerm : goal.returns-in_err-next-in-LeftTerm
returns-in_err-next-in-LeftTerm c =
    let key = c.in-LeftTerm.is in
    let told = c.in_err-next-in-LeftTerm.ensures in
    λ f h fit. rw key (refused_valued (left_answers _ f _ h (left_placed _ f _ h told (rw key at fit))) (passed_on c.from_residual-in_err-next-in-LeftTerm.ensures))

pub returns-in_ok-next-in-LeftTerm : goal.returns-in_ok-next-in-LeftTerm
returns-in_ok-next-in-LeftTerm c =
    let key = c.in-LeftTerm.is in
    let told = c.in_ok-next-in-LeftTerm.ensures in
    λ f h fit. rw key (left_valued _ f _ h (rw key at c.stage_after.ensures) (rw key at fit) (left_placed _ f _ h told (rw key at fit)))

pub returns-in_err-next-in-RightTerm : goal.returns-in_err-next-in-RightTerm
returns-in_err-next-in-RightTerm c =
    let key = c.in-RightTerm.is in
    let told = c.in_err-next-in-RightTerm.ensures in
    λ f h fit. rw key (refused_valued (right_answers _ f _ h (right_placed _ f _ h told (rw key at fit))) (passed_on c.from_residual-in_err-next-in-RightTerm.ensures))

pub returns-in_ok-next-in-RightTerm : goal.returns-in_ok-next-in-RightTerm
returns-in_ok-next-in-RightTerm c =
    let key = c.in-RightTerm.is in
    let told = c.in_ok-next-in-RightTerm.ensures in
    λ f h fit. rw key (right_valued _ f _ h (rw key at c.stage_after.ensures) (rw key at fit) (right_placed _ f _ h told (rw key at fit)))

pub returns-in_err-take_step-in-Step : goal.returns-in_err-take_step-in-Step
returns-in_err-take_step-in-Step c =
    let key = c.in-Step.is in
    let told = c.in_err-take_step-in-Step.ensures in
    λ f h fit. rw key (refused_valued (step_put _ f _ h told).answer (passed_on c.from_residual-in_err-take_step-in-Step.ensures))

pub returns-in_ok-take_step-in-Step : goal.returns-in_ok-take_step-in-Step
returns-in_ok-take_step-in-Step c =
    let key = c.in-Step.is in
    let told = c.in_ok-take_step-in-Step.ensures in
    λ f h fit. rw key (step_valued _ f _ h (rw key at c.stage_after.ensures) (rw key at fit) (step_put _ f _ h told))

pub returns-in_err-take_end-in-End : goal.returns-in_err-take_end-in-End
returns-in_err-take_end-in-End c =
    let key = c.in-End.is in
    let told = c.in_err-take_end-in-End.ensures in
    λ f h fit. rw key (refused_valued (end_answers _ f _ h told) (passed_on c.from_residual-in_err-take_end-in-End.ensures))

pub returns-in_ok-take_end-in-End : goal.returns-in_ok-take_end-in-End
returns-in_ok-take_end-in-End c =
    let key = c.in-End.is in
    let told = c.in_ok-take_end-in-End.ensures in
    λ f h fit. rw key (end_valued _ f _ h (rw key at c.stage_after.ensures) (rw key at fit) (end_answers _ f _ h told))

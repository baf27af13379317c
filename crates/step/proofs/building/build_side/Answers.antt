use mathlib.Core.Path.{refl, ◌∙◌, ap}
use native.Mathlib.Omega.{arith}
use lib.Seq.{take_all}
use Rattle.words.proofs.Runs.{added_both, none_added, added_as}
use Rattle.declarations.specs.Declarations.{context_at}
use Rattle.step.specs.Code.Building.{pieces}
use Rattle.step.proofs.Pieces.{side-asks, side-more, side-typed}
use Rattle.step.proofs.building.build_side.Goals as goal

pub loop-word-init : goal.loop-word-init
unfolding pieces
loop-word-init c = record { size = refl; written = λ x o t. none_added _ _ (omega arith) }

pub build_word-done-requires : goal.build_word-done-requires
build_word-done-requires c =
    let pre = c.requires in
    let more = c.loop-word-test.true in
    ((pre.0.0, pre.0.1, side-typed _ _ more pre.0.2), side-asks _ _ more _ pre.1)

pub loop-word-preserved : goal.loop-word-preserved
loop-word-preserved c =
    let loop = c.loop-word in
    let more = c.loop-word-test.true in
    let written = c.build_word-done.ensures in
    let first = c.requires.0 in record {
      size = (written first.0 first.1 (side-typed _ _ more first.2)).size ∙ loop.invariant.size;
      written = λ x o t. added_as (side-more _ _ more (context_at c.args.ds.now x.bodies) x.trees) (added_both (loop.invariant.written x o t) (written x o (side-typed _ _ more t)));
    }

pub returns : goal.returns
returns c =
    let args = c.args in
    let all = take_all c.loop-word.word-index args.side.now c.loop-word-test.false in
    λ x o t. added_as (ap (pieces (context_at args.ds.now x.bodies) x.trees) all) (c.loop-word.invariant.written x o t)

-- Each word is written for what it stands for.
use mathlib.Core.Path.{◌∙◌}
use Prim.Native.Nat.{◌%◌, ◌<◌}
use native.Mathlib.Omega.{arith}
use borrow.Author.Rules.{rules}
use Rattle.words.proofs.Runs.{added, appended, added_as}
use Rattle.step.proofs.Pieces.{piece-word, piece-hole, piece_index, asked-hole, index_asks, caught_bounds, caught_run, caught_tree, caught_sort}
use Rattle.step.proofs.building.build_word.Goals as goal

pub returns-then-word-lt-SECOND_INDEX : goal.returns-then-word-lt-SECOND_INDEX
returns-then-word-lt-SECOND_INDEX c = λ x o t. added_as (piece-word _ x.trees _ c.if-word-lt-SECOND_INDEX.true) (appended c.append_word.ensures)

pub returns-then-word-eq-HOLE : goal.returns-then-word-eq-HOLE
returns-then-word-eq-HOLE c =
    let hole : let args = c.args in args.word % 256 < args.found.held = asked-hole _ _ c.requires.1 (omega arith) in
    λ x o t.
    added_as (c.part.ensures ∙ caught_run x _ hole ∙ piece-hole _ x.trees _ (omega arith) c.if-word-eq-HOLE.true) (added _ _ _ _ _ c.append.ensures.0 c.append.ensures.1)

pub bounds-found-hole : goal.bounds-found-hole
bounds-found-hole c =
    let hole : let args = c.args in args.word % 256 < args.found.held = asked-hole _ _ c.requires.1 (omega arith) in
    let b = caught_bounds c.requires.0.0 _ hole in search rules

pub offset_bounds-view-start : goal.offset_bounds-view-start
offset_bounds-view-start c =
    let hole : let args = c.args in args.word % 256 < args.found.held = asked-hole _ _ c.requires.1 (omega arith) in
    let b = caught_bounds c.requires.0.0 _ hole in search rules

pub slice_bounds-part-count : goal.slice_bounds-part-count
slice_bounds-part-count c =
    let hole : let args = c.args in args.word % 256 < args.found.held = asked-hole _ _ c.requires.1 (omega arith) in
    let b = caught_bounds c.requires.0.0 _ hole in search rules

pub slice_bounds-part-start : goal.slice_bounds-part-start
slice_bounds-part-start c =
    let hole : let args = c.args in args.word % 256 < args.found.held = asked-hole _ _ c.requires.1 (omega arith) in
    let b = caught_bounds c.requires.0.0 _ hole in search rules

pub append_index-requires : goal.append_index-requires
append_index-requires c =
    let hole : let args = c.args in args.word % 256 < args.found.held = asked-hole _ _ c.requires.1 (omega arith) in
    let x = c.requires.0 in
    let h = caught_sort x.0 _ hole (index_asks _ (omega arith) c.if-word-eq-HOLE.false x.2) in
    (x.0.bodies, rw x.1 at h)

pub returns : goal.returns
returns c =
    let hole : let args = c.args in args.word % 256 < args.found.held = asked-hole _ _ c.requires.1 (omega arith) in
    λ x o t.
    let other = c.if-word-eq-HOLE.false in
    let met = hole in
    let h = caught_sort x _ met (index_asks _ (omega arith) other t) in
    added_as (rw (caught_tree x _ met) (piece_index _ x.trees _ (omega arith) other)) (c.append_index.ensures x.bodies (rw o at h))

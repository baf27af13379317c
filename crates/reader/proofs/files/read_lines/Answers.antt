use mathlib.Core.Path.{refl, ◌∙◌}
use native.Mathlib.Omega.{arith}
use Rattle.reader.proofs.Behind.{cleared-all}
use Rattle.reader.proofs.Entered.{lines-found}
use Rattle.reader.proofs.Named.{passed_on}
use Rattle.reader.proofs.Walked.{standing-start, goes, line_at, line_refused, line_taken_lem, ends, found-fault}
use borrow.Author.Rules.{rules}
use Rattle.reader.proofs.files.read_lines.Goals as goal

pub returns-in_err-test_bytes : goal.returns-in_err-test_bytes
returns-in_err-test_bytes c = found-fault (passed_on c.from_residual.ensures) c.in_err-test_bytes.ensures

pub loop-reader-init : goal.loop-reader-init
loop-reader-init c = standing-start _ refl c.in_ok-test_bytes.ensures.1 (c.clear_from.ensures ∙ cleared-all _ 8000 (search rules))

pub slice_bounds-take_line-count : goal.slice_bounds-take_line-count
slice_bounds-take_line-count c =
    let within = (line_at c.loop-reader.invariant (goes c.loop-reader.invariant c.is_at_end.ensures c.loop-reader-test.true) c.next-piece.ensures).within in omega arith

pub slice_bounds-take_line-start : goal.slice_bounds-take_line-start
slice_bounds-take_line-start c =
    let within = (line_at c.loop-reader.invariant (goes c.loop-reader.invariant c.is_at_end.ensures c.loop-reader-test.true) c.next-piece.ensures).within in omega arith

pub slice_bounds-take_line-end : goal.slice_bounds-take_line-end
slice_bounds-take_line-end c =
    let within = (line_at c.loop-reader.invariant (goes c.loop-reader.invariant c.is_at_end.ensures c.loop-reader-test.true) c.next-piece.ensures).within in omega arith

pub loop-reader-smaller : goal.loop-reader-smaller
loop-reader-smaller c =
    let within = (line_at c.loop-reader.invariant (goes c.loop-reader.invariant c.is_at_end.ensures c.loop-reader-test.true) c.next-piece.ensures).within in omega arith

pub returns-in_err-s : goal.returns-in_err-s
returns-in_err-s c =
    let told = c.in_ok-test_bytes.ensures in
    let standing = c.loop-reader.invariant in
    let going = goes standing c.is_at_end.ensures c.loop-reader-test.true in
    lines-found _ told.0 told.1 (line_refused standing going c.next-piece.ensures c.in_err-s.ensures (passed_on c.from_residual-in_err-s.ensures))

pub loop-reader-preserved : goal.loop-reader-preserved
loop-reader-preserved c =
    let standing = c.loop-reader.invariant in
    let going = goes standing c.is_at_end.ensures c.loop-reader-test.true in line_taken_lem standing going c.next-piece.ensures c.in_ok-s.ensures

pub returns : goal.returns
returns c =
    let told = c.in_ok-test_bytes.ensures in
    lines-found _ told.0 told.1 (ends c.loop-reader.invariant c.is_at_end.ensures c.loop-reader-test.false c.ended_in.ensures)

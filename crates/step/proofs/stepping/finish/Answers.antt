-- The limits are those of the whole result, found from the new part and its place.
use mathlib.Core.Path.{◌≡◌, sym, ◌∙◌}
use mathlib.Core.Bool.{true, false}
use Prim.Native.Nat.{◌+◌, ◌≤◌, ◌<◌}
use native.Mathlib.Omega.{arith}
use borrow.Author.Rules.{rules}
use borrow.Author.Tests.{ltb-true, ltb-false}
use lib.Dec.{ltb}
use lib.ListN.{length, drop, length-drop, length-take}
use Rattle.words.specs.Words.{Added}
use Rattle.words.proofs.Runs.{added, to_end, added_as}
use Rattle.term.specs.Trees.{words, depth, level}
use Rattle.step.specs.Code.Making.{Fresh}
use Rattle.step.proofs.Limits.{end-inside, result-depth, place-level, seated, made_long, made_behind, made_deep, made_good}
use Rattle.step.proofs.stepping.finish.Goals as goal

pub returns-then-new-gt-TERM_SIZE : goal.returns-then-new-gt-TERM_SIZE
returns-then-new-gt-TERM_SIZE c = λ f. made_long f _ c.if-new-gt-TERM_SIZE.true f.size

pub is_too_deep-requires : goal.is_too_deep-requires
is_too_deep-requires c =
    let f = c.requires in
    (seated f (omega (arith, f.new_end, c.if-new-gt-TERM_SIZE.false)), omega (arith, end-inside f, f.short), omega (arith, length-take c.args.made.end c.args.out.now, f.size))

pub returns-then-is_too_deep : goal.returns-then-is_too_deep
returns-then-is_too_deep c =
    let found : let args = c.args in (f : Fresh args.term.now args.place args.made args.out.now) → (length (words f.result) ≤ 4096) × (c.is_too_deep.result ≡ true → 64 < level f.tree args.place + depth f.result) × (c.is_too_deep.result ≡ false → level f.tree args.place + depth f.result ≤ 64) = λ f.
    let short : length (words f.result) ≤ 4096 = omega (arith, f.new_end) in
    let n = level f.tree c.args.place + depth f.result in
    let told : c.is_too_deep.result ≡ ltb 64 n = c.is_too_deep.ensures ∙ rw (place-level f, result-depth f short) in
    (short, λ e. omega (arith, ltb-true 64 n (sym told ∙ e)), λ e. omega (arith, ltb-false 64 n (sym told ∙ e))) in
    λ f. made_deep f _ ((found f).1 c.if-is_too_deep.true) f.size

pub overflow_add-end : goal.overflow_add-end
overflow_add-end c = let f = c.requires in omega (arith, end-inside f, f.short)

pub offset_bounds-term-end : goal.offset_bounds-term-end
offset_bounds-term-end c = let b = end-inside c.requires in search rules

pub slice_bounds-append-count : goal.slice_bounds-append-count
slice_bounds-append-count c = let b = end-inside c.requires in search rules

pub slice_bounds-append-start : goal.slice_bounds-append-start
slice_bounds-append-start c = let b = end-inside c.requires in search rules

pub overflow_sub-place : goal.overflow_sub-place
overflow_sub-place c = let f = c.requires in omega (arith, end-inside f, f.short)

pub returns-then-place-done : goal.returns-then-place-done
returns-then-place-done c =
    let behind : let args = c.args in Added args.out.now args.made.end (drop (args.place + args.made.size) args.term.now) c.append-done.new.out c.append-done.result = let args = c.args in
    added_as (to_end args.term.now (args.place + args.made.size)) (added _ _ _ _ _ c.append-done.ensures.0 c.append-done.ensures.1) in
    λ f.
    let a = behind in
    let args = c.args in
    made_behind f _ (omega (arith, f.short, end-inside f, c.if-place-done.true, a.end, f.size, f.new_end, length-drop (args.place + args.made.size) args.term.now)) (a.size ∙ f.size)

pub returns : goal.returns
returns c =
    let found : let args = c.args in (f : Fresh args.term.now args.place args.made args.out.now) → (length (words f.result) ≤ 4096) × (c.is_too_deep.result ≡ true → 64 < level f.tree args.place + depth f.result) × (c.is_too_deep.result ≡ false → level f.tree args.place + depth f.result ≤ 64) = λ f.
    let short : length (words f.result) ≤ 4096 = omega (arith, f.new_end) in
    let n = level f.tree c.args.place + depth f.result in
    let told : c.is_too_deep.result ≡ ltb 64 n = c.is_too_deep.ensures ∙ rw (place-level f, result-depth f short) in
    (short, λ e. omega (arith, ltb-true 64 n (sym told ∙ e)), λ e. omega (arith, ltb-false 64 n (sym told ∙ e))) in
    let behind : let args = c.args in Added args.out.now args.made.end (drop (args.place + args.made.size) args.term.now) c.append-done.new.out c.append-done.result = let args = c.args in
    added_as (to_end args.term.now (args.place + args.made.size)) (added _ _ _ _ _ c.append-done.ensures.0 c.append-done.ensures.1) in
    λ f.
    let a = behind in
    let args = c.args in
    let x = found f in
    made_good f x.0 (x.2 c.if-is_too_deep.false)
    (omega (arith, x.0, f.short, end-inside f, c.if-place-done.false, a.end, f.size, f.new_end, length-drop (args.place + args.made.size) args.term.now)) a

use mathlib.Core.Path.{refl, sym, ◌∙◌}
use native.Mathlib.Omega.{arith}
use Rattle.words.proofs.Listed.{all_more, all-fails, all_end}
use Rattle.text.specs.Numbers.{is_digit}
use Rattle.text.proofs.Decimals.{digit-is}
use Rattle.text.proofs.Scanned.{number_unbegun, number_undigited, number_value, value_more, value_end, cut_grown}
use Rattle.text.proofs.numbers.read_number.Goals as goal

pub returns-then-not-is_well_begun : goal.returns-then-not-is_well_begun
returns-then-not-is_well_begun c = number_unbegun _ (sym c.is_well_begun.ensures ∙ c.if-not-is_well_begun.true)

pub loop-digit-init : goal.loop-digit-init
loop-digit-init c = (refl, (0, refl, refl))

pub returns-then-not-is_ascii_digit : goal.returns-then-not-is_ascii_digit
unfolding is_digit
returns-then-not-is_ascii_digit c =
    let loop = c.loop-digit in
    number_undigited _ (sym (all-fails is_digit _ loop.digit-index loop.invariant.0 (omega arith) c.is_ascii_digit.ensures.value (rw c.if-not-is_ascii_digit.true)))

pub grown-value-requires : goal.grown-value-requires
unfolding is_digit
grown-value-requires c =
    let e = c.loop-digit.invariant.1.1 in
    let d = digit-is _ (sym c.is_ascii_digit.ensures.value ∙ c.if-not-is_ascii_digit.false) in
    (omega arith, d.0)

pub loop-digit-preserved : goal.loop-digit-preserved
unfolding is_digit
loop-digit-preserved c =
    let inv = c.loop-digit.invariant in
    let i = c.loop-digit.digit-index in (
      all_more is_digit _ i inv.0 (omega arith) c.is_ascii_digit.ensures.value (rw c.if-not-is_ascii_digit.false),
      (_, c.grown-value.ensures ∙ cut_grown _ _ _ inv.1.1, inv.1.2 ∙ value_more _ i _ (omega arith)),
    )

pub returns : goal.returns
returns c =
    let inv = c.loop-digit.invariant in
    let i = c.loop-digit.digit-index in
    let end = c.loop-digit-test.false in
    let begun = sym c.is_well_begun.ensures ∙ c.if-not-is_well_begun.false in
    rw inv.1.1 (number_value _ begun (sym (all_end is_digit _ i inv.0 end)) (inv.1.2 ∙ value_end _ i _ end))

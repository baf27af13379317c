-- The first key that the line begins with, and what stands behind it.
use mathlib.Core.Path.{refl}
use native.Mathlib.Omega.{arith}
use Rattle.std.specs.Prelude.{Some, None}
use Rattle.std.proofs.lemmas.Bool.Decides.{Decides-eqb}
use Rattle.std.proofs.lemmas.Slice.Eq.{strip_prefix_is}
use Rattle.format.specs.Reading.{key_of}
use Rattle.reader.proofs.Keyed.{key_found, key_passed, no_key}
use Rattle.reader.proofs.keys.key_of.Goals as goal

pub loop-key-init : goal.loop-key-init
unfolding key_of
loop-key-init c = refl

pub returns-in-Some : goal.returns-in-Some
returns-in-Some c =
    let begins = strip_prefix_is Decides-eqb c.args.line.now c.text.result.now (Some c.in-Some.value) c.in-Some.ensures.cases in
    (key_found _ c.loop-key.key-index _ c.loop-key.invariant c.loop-key-test.true _ (rw c.text.ensures at begins), rw c.text.ensures at c.in-Some.ensures.cases.1)

pub loop-key-preserved : goal.loop-key-preserved
loop-key-preserved c =
    let begins = strip_prefix_is Decides-eqb c.args.line.now c.text.result.now None c.in_default.ensures.cases in
    key_passed _ c.loop-key.key-index _ c.loop-key.invariant c.loop-key-test.true (rw c.text.ensures at begins)

pub returns : goal.returns
returns c = no_key _ c.loop-key.key-index c.loop-key.invariant (omega arith)

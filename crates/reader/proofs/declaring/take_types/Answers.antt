-- A number up to 32, and declarations that begin with it.
use mathlib.Core.Path.{sym, ◌∙◌}
use native.Mathlib.Omega.{arith}
use Rattle.text.proofs.Told.{none-limited, over_limit, in_limit}
use Rattle.reader.proofs.Named.{Told, wrong-line, no_types, types-line}
use borrow.Author.Rules.{rules}
use Rattle.reader.proofs.declaring.take_types.Goals as goal

pub returns-in_default : goal.returns-in_default
returns-in_default c = λ f b v. wrong-line c.refused.ensures (no_types f (none-limited 32 _ (sym c.read_number.ensures ∙ c.in_default.is)))

pub returns-then-n-gt32 : goal.returns-then-n-gt32
returns-then-n-gt32 c =
    let told = sym c.read_number.ensures ∙ c.in-Some.is in
    λ f b v. wrong-line c.refused-then-n-gt32.ensures (no_types f (over_limit 32 _ told (omega arith) c.if-n-gt32.true))

pub returns : goal.returns
returns c =
    let few = in_limit 32 _ (sym c.read_number.ensures ∙ c.in-Some.is) (omega arith) c.if-n-gt32.false in
    let put = c.start.ensures in
    let told : Told c.start.result c.args.line c.map_err.result = search rules in
    λ f b v. types-line f _ b v (search rules) few (omega arith) put.0 put.1 told

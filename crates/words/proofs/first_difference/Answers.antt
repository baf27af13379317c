-- What the count tells, by the library's own rules; and that this is how many words agree.
use mathlib.Core.Path.{◌≡◌, sym}
use Prim.Native.Nat.{ℕ, ◌<◌}
use lib.ListN.{length, get_or}
use borrow.Author.Rules.{rules}
use Rattle.words.proofs.Runs.{agreeing-is}
use Rattle.words.proofs.first_difference.Goals as goal

pub returns : goal.returns
returns c =
    let a = c.args.a.now in
    let b = c.args.b.now in
    let n = c.count.result in
    let there : n < length a → n < length b → get_or a n 0 ≡ get_or b n 0 → ⊥ = search rules in
    let below : (k : ℕ) → k < n → get_or a k 0 ≡ get_or b k 0 = search rules in
    sym (agreeing-is a b n (search rules) (search rules) below there)

-- Each call of the closure gives 0, so the words from the offset on are zeros; from the end on there is nothing to clear.
use mathlib.Core.Path.{◌≡◌, refl, sym}
use native.Mathlib.Omega.{arith}
use borrow.Author.Rules.{rules}
use lib.ListN.{length, replicate}
use Rattle.std.proofs.lemmas.Fn.{chained_keeps}
use Rattle.words.proofs.Runs.{zeros_more, cleared-end, cleared_filled}
use Rattle.words.proofs.clear_from.Goals as goal

pub returns-then-at-ws : goal.returns-then-at-ws
returns-then-at-ws c =
    let filled = c.fill_with.ensures in
    let zeros = chained_keeps _ (λ ws f. ws ≡ replicate (length ws) 0) (λ ws f w g told call. zeros_more ws w told (search rules)) _ _ _ refl filled.ran.1 in
    cleared_filled _ _ _ filled.len zeros (omega arith)

pub returns-else-at-ws : goal.returns-else-at-ws
returns-else-at-ws c = sym (cleared-end _ _ (omega arith))

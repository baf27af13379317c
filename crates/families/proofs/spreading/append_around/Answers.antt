-- The runs before, in the place of, and behind those from `start` up to `end`, one behind the other.
use mathlib.Core.Path.{◌≡◌}
use mathlib.Core.List.{List, ◌++◌}
use Prim.Native.Nat.{ℕ, ◌-◌}
use native.Mathlib.Nat.{sub-zero}
use lib.ListN.{length, take, drop}
use Rattle.words.specs.Words.{Added}
use Rattle.words.proofs.Runs.{added_both, to_end, appended, added_as}
use Rattle.families.proofs.spreading.append_around.Goals as goal

-- three runs, of which the first is from the very start and the last up to the very end
around : (ws : List ℕ) (start end from to : ℕ) {out one two out' : List ℕ} {at a b e : ℕ} → Added out at (take (start - 0) (drop 0 ws)) one a → Added one a (take (to - from) (drop from ws)) two b
    → Added two b (take (length ws - end) (drop end ws)) out' e → Added out at (take start ws ++ (take (to - from) (drop from ws) ++ drop end ws)) out' e
around ws start end from to p q r =
    let from_start : take (start - 0) (drop 0 ws) ≡ take start ws = rw sub-zero in
    added_both (added_as from_start p) (added_both q (added_as (to_end ws end) r))

pub returns : goal.returns
returns c =
    let args = c.args in
    around args.ws.now args.start args.end args.from args.to (appended (c.append_run-a.ensures.value, c.append_run-a.ensures.out_after)) (appended (c.append_run-b.ensures.value, c.append_run-b.ensures.out_after)) (appended (c.append_run.ensures.value, c.append_run.ensures.out_after))

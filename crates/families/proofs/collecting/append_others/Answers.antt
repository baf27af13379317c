-- Four runs, one behind the other.
use mathlib.Core.List.{List, [], ◌∷◌, ◌++◌}
use Prim.Native.Nat.{ℕ, ◌-◌}
use lib.ListN.{length, take, drop}
use Rattle.words.specs.Words.{Added}
use Rattle.words.proofs.Runs.{added_both, to_end, appended, added_as}
use Rattle.families.proofs.collecting.append_others.Goals as goal

others : (ws : List ℕ) (head a b c d : ℕ) {out one two three out' : List ℕ} {at w x y e : ℕ} → Added out at (head ∷ []) one w
    → Added one w (take (a - 1) (drop 1 ws)) two x → Added two x (take (c - b) (drop b ws)) three y → Added three y (take (length ws - d) (drop d ws)) out' e
    → Added out at (head ∷ (take (a - 1) (drop 1 ws) ++ (take (c - b) (drop b ws) ++ drop d ws))) out' e
others ws head a b c d p q r s = added_both p (added_both q (added_both r (added_as (to_end ws d) s)))

pub returns : goal.returns
returns c =
    let args = c.args in
    others args.ws.now args.head args.first.start args.first.end args.second.start args.second.end
    (appended c.append_word-a.ensures) (appended (c.append_run-b.ensures.value, c.append_run-b.ensures.out_after)) (appended (c.append_run-c.ensures.value, c.append_run-c.ensures.out_after)) (appended (c.append_run.ensures.value, c.append_run.ensures.out_after))

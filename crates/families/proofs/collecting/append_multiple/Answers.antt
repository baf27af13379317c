-- Five runs, one behind the other.
use mathlib.Core.Path.{◌≡◌}
use mathlib.Core.List.{List, [], ◌∷◌, ◌++◌}
use Prim.Native.Nat.{ℕ, ◌+◌, min}
use lib.ListN.{length}
use Rattle.words.specs.Words.{laid, Added}
use Rattle.words.proofs.Runs.{added, added_both, appended}
use Rattle.families.proofs.collecting.append_multiple.Goals as goal

-- what `append` answers
run : (src : List ℕ) {out out' : List ℕ} {at e : ℕ} → (e ≡ min (at + length src) (length out + 1)) × (out' ≡ laid out at src) → Added out at src out' e
run src h = added _ _ src _ _ h.0 h.1

multiple : (xs ys zs : List ℕ) {v w : ℕ} {out one two three four out' : List ℕ} {at a b c d e : ℕ} → Added out at (v ∷ []) one a → Added one a (w ∷ []) two b
    → Added two b xs three c → Added three c ys four d → Added four d zs out' e → Added out at (v ∷ (w ∷ (xs ++ (ys ++ zs)))) out' e
multiple xs ys zs p q r s t = added_both p (added_both q (added_both r (added_both s t)))

pub returns : goal.returns
returns c =
    let args = c.args in
    multiple args.c.now args.d.now args.x.now (appended c.append_word-scale.ensures) (appended c.append_word-sum.ensures)
    (run args.c.now c.append-one.ensures) (run args.d.now c.append-both.ensures) (run args.x.now c.append.ensures)

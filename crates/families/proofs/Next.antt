-- The child behind a child: where the words behind the one go on with those of the next.
use mathlib.Core.Path.{◌≡◌, refl, ◌∙◌, ap}
use mathlib.Core.Logic.{◌≢◌}
use mathlib.Core.List.{List, ◌++◌}
use Prim.Native.Nat.{ℕ, ◌+◌, ◌-◌, ◌≤◌}
use native.Mathlib.Omega.{arith}
use lib.ListN.{length, take, drop, length-append, length-drop}
use lib.Seq.{take_at, drop_at, drop-drop}
use Rattle.term.specs.Trees.{Tree, Forest, none, ◌▹◌, words, words*}
use Rattle.term.specs.Parts.{parse, first, part}
use Rattle.term.proofs.Parsing.{parse-all, some_words}
use Rattle.families.proofs.Split.{no_words, Split, behind-child, child-bounds, after-formed}

-- the next child, and the words up to its end at `next`
pub record Next {ws : List ℕ} {i start end : ℕ} (s : Split ws i start end) (next : ℕ) : Type 0 where
  pub sibling : Tree
  pub others : Forest
  pub after : s.after ≡ sibling ▹ others
  pub run : take (next - end) (drop end ws) ≡ words sibling
  pub rest : drop next ws ≡ words* others
  pub within : (end ≤ next) × (next ≤ length ws)

module _ {ws : List ℕ} {i start end : ℕ} (s : Split ws i start end) where
  -- the words end with the last child's
  pub last_child : end ≡ length ws → s.after ≡ none
  last_child e = no_words s.after (omega (arith, length-drop end ws, ap length (behind-child s)))

  next_by : (f : Forest) → s.after ≡ f → end ≢ length ws → (next : ℕ) → next ≡ end + length (first f) → Next s next
  unfolding first words
  next_by none k n next e = absurd (n (omega (arith, child-bounds s, length-drop end ws, ap length (behind-child s ∙ ap words* k))))
  next_by (t ▹ f) k n next e =
      let d : drop end ws ≡ words t ++ words* f = behind-child s ∙ ap words* k in
      let l = ap length d in
      record {
        sibling = t;
        others = f;
        after = k;
        run = rw d (take_at (words t) (words* f) (next - end) (omega arith));
        rest = rw (e, ← drop-drop, d) (drop_at (words t) (words* f) (length (words t)) refl);
        within = omega (arith, length-drop end ws, length-append (words t) (words* f), some_words t);
      }

  pub next_child : end ≢ length ws → {next : ℕ} → next ≡ end + length (part ws end) → Next s next
  unfolding part
  next_child n {next} e =
      let p : parse (drop end ws) ≡ s.after = ap parse (behind-child s) ∙ parse-all s.after (after-formed s) in
      next_by s.after refl n next (rw p at e)

-- The key of a line, and the line of a key.
use mathlib.Core.Path.{◌≡◌, refl, sym, ◌∙◌, ap}
use mathlib.Core.Logic.{◌≢◌}
use mathlib.Core.Bool.{Bool, true, false, cond, and-eq-true_iff}
use mathlib.Core.List.{List, [], ◌∷◌, ◌++◌, map}
use Prim.Native.Nat.{ℕ, ◌+◌, ◌<◌, ◌≤◌}
use native.Mathlib.Numerals.{add-one}
use native.Mathlib.Omega.{arith}
use borrow.Author.Tests.{eq-eqb, ne_eqb, eqb-true}
use lib.Dec.{eqb}
use lib.ListN.{length, drop, get_or, drop_of_length-le}
use lib.Seq.{drop-cons}
use Rattle.text.specs.Pieces.{Text, starts}
use Rattle.format.specs.Files as F
use Rattle.format.specs.Files.{File, key_text}
use Rattle.format.specs.Reading.{first_key, key_of, key_line, line_taken}
use Rattle.reader.specs.declared.keys.Key.{Key}
use Rattle.reader.specs.declared.keys.Key.TheVariants.{Types, Basis, Var, LeftTerm, RightTerm, Step, End}
use Rattle.reader.specs.declared.keys.Stage.{Stage}
use Rattle.reader.specs.declared.keys.Stage.TheVariants as S
use Rattle.reader.specs.Code.Keys.{named, number}

abbrev pub keys : List Key
keys = Types ∷ Basis ∷ Var ∷ LeftTerm ∷ RightTerm ∷ Step ∷ End ∷ []

starts-behind : (k rest : Text) → starts k (k ++ rest) ≡ true
unfolding starts
starts-behind [] rest = refl
starts-behind (b ∷ k) rest = rw (eq-eqb b b refl, starts-behind k rest)

starts-front : (k l : Text) → starts k l ≡ true → l ≡ k ++ drop (length k) l
unfolding starts
starts-front [] l e = refl
starts-front (b ∷ k) [] e = absurd (let z : ◌≡◌ {A = ℕ} 0 1 = cc in omega arith)
starts-front (b ∷ k) (c ∷ l) e = let p = (and-eq-true_iff (eqb c b) (starts k l)).0 e in let q = starts-front k l p.1 in let z = eqb-true c b p.0 in cc

not_begun : (k l : Text) → ((rest : Text) → l ≢ k ++ rest) → starts k l ≡ false
not_begun k l h = go (starts k l) refl
  where
    go : (t : Bool) → starts k l ≡ t → starts k l ≡ false
    go true e = absurd (h (drop (length k) l) (starts-front k l e))
    go false e = e

-- ---- the key, among those from the i-th on
module _ (l : Text) (i : ℕ) (d : Key) (e : key_of l ≡ first_key (map named (drop i keys)) l) (h : i < 7) where
  first-at : first_key (map named (drop i keys)) l ≡ cond (starts (key_text (named (get_or keys i d))) l) (named (get_or keys i d)) (first_key (map named (drop (i + 1) keys)) l)
  unfolding first_key
  first-at = rw (drop-cons keys i d h, add-one)

  pub key_found : (rest : Text) → l ≡ key_text (named (get_or keys i d)) ++ rest → key_of l ≡ named (get_or keys i d)
  key_found rest s =
      let t : starts (key_text (named (get_or keys i d))) l ≡ true = rw s (starts-behind (key_text (named (get_or keys i d))) rest) in e ∙ first-at ∙ rw t

  pub key_passed : ((rest : Text) → l ≢ key_text (named (get_or keys i d)) ++ rest) → key_of l ≡ first_key (map named (drop (i + 1) keys)) l
  key_passed n = e ∙ first-at ∙ rw (not_begun (key_text (named (get_or keys i d))) l n)

pub no_key : (l : Text) (i : ℕ) → key_of l ≡ first_key (map named (drop i keys)) l → 7 ≤ i → key_of l ≡ F.Other
unfolding first_key
no_key l i e h = e ∙ rw (drop_of_length-le keys h)

-- ---- the stages have numbers of their own
stage_of : ℕ → Stage
stage_of n = cond (eqb n 0) S.Start (cond (eqb n 1) S.Bases (cond (eqb n 2) S.Variables (cond (eqb n 3) S.LeftSide (cond (eqb n 4) S.Steps S.End))))

again : (s : Stage) → stage_of (number s) ≡ s
unfolding stage_of
again S.Start = refl
again S.Bases = refl
again S.Variables = refl
again S.LeftSide = refl
again S.Steps = refl
again S.End = refl

pub other_stage : (s t : Stage) → (s ≡ t → ⊥) → eqb (number s) (number t) ≡ false
other_stage s t n = ne_eqb (number s) (number t) λ e. n (sym (again s) ∙ ap stage_of e ∙ again t)

-- ---- the line of a key
pub line_by : (s : ℕ) (f : File) (l : Text) {k : F.Key} {v : Text} → key_of l ≡ k → v ≡ drop (length (key_text k)) l → line_taken s f l ≡ key_line k s f v
unfolding line_taken
line_by s f l e g = rw (e, g)

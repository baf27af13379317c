-- A line: what is taken is exactly a key that fits the stage, with a value that is taken.
use mathlib.Core.Path.{◌≡◌, refl, sym, subst, ap}
use mathlib.Core.Bool.{Bool, true, false, cond, ◌||◌, and-eq-true_iff}
use mathlib.Core.List.{List, [], ◌∷◌, ◌++◌}
use Prim.Native.Nat.{ℕ}
use native.Mathlib.Omega.{arith}
use borrow.Author.Tests.{eqb-true}
use lib.Dec.{eqb}
use lib.ListN.{length, drop}
use lib.Seq.{drop-append_seam}
use Rattle.text.specs.Pieces.{Text, starts}
use Rattle.format.specs.Files.{Key, Types, Basis, Var, LeftTerm, RightTerm, Step, End, Other, File, key_text}
use Rattle.format.specs.Reading.{first_key, key_of, fits, stage_after, full, wrong, good, take_value, key_line, line_taken}
use Rattle.format.proofs.Values.{Value, types, basis, variable, left, right, step, end, value_taken, taken_value}

-- ---- a line is its key with what is behind
data Keyed : Text → Key → Type 0 where
  keyed : (k : Key) (v : Text) → Keyed (key_text k ++ v) k

starts_split : (p l : Text) → starts p l ≡ true → l ≡ p ++ drop (length p) l
unfolding starts
starts_split [] l e = refl
starts_split (k ∷ p) [] e = cc
starts_split (k ∷ p) (b ∷ l) e = let r = (and-eq-true_iff (eqb b k) (starts p l)).0 e in cc (eqb-true b k r.0, starts_split p l r.1)

keyed_first : (ks : List Key) (l : Text) → Keyed l (first_key ks l)
unfolding first_key
keyed_first [] l = keyed Other l
keyed_first (k ∷ ks) l = go (starts (key_text k) l) refl (keyed_first ks l)
  where
    go : (t : Bool) → starts (key_text k) l ≡ t → Keyed l (first_key ks l) → Keyed l (cond t k (first_key ks l))
    go true e r = subst (λ (x : Text). Keyed x k) (sym (starts_split (key_text k) l e)) (keyed k (drop (length (key_text k)) l))
    go false e r = r

keyed_line : (l : Text) → Keyed l (key_of l)
unfolding key_of
keyed_line l = keyed_first (Types ∷ Basis ∷ Var ∷ LeftTerm ∷ RightTerm ∷ Step ∷ End ∷ []) l

-- the key of a line with a value
value_key : {k : Key} {f g : File} {v : Text} → Value k f v g → key_of (key_text k ++ v) ≡ k
unfolding key_of
value_key (types n h) = refl
value_key (basis b h) = refl
value_key (variable v h) = refl
value_key (left ws h) = refl
value_key (right ws h) = refl
value_key (step m h) = refl
value_key end = refl

-- ---- the stages that a key fits
pub data Fit : Key → ℕ → Type 0 where
  types-first : Fit Types 0
  in_bases : Fit Basis 1
  first_variable : Fit Var 1
  more-variables : Fit Var 2
  behind-bases : Fit LeftTerm 1
  behind-variables : Fit LeftTerm 2
  behind-left : Fit RightTerm 3
  in_steps : Fit Step 4
  behind-steps : Fit End 4

fit_fits : {k : Key} {s : ℕ} → Fit k s → fits k s ≡ true
unfolding fits
fit_fits types-first = refl
fit_fits in_bases = refl
fit_fits first_variable = refl
fit_fits more-variables = refl
fit_fits behind-bases = refl
fit_fits behind-variables = refl
fit_fits behind-left = refl
fit_fits in_steps = refl
fit_fits behind-steps = refl

either : (k : Key) (s : ℕ) (t u : Bool) → eqb s 1 ≡ t → eqb s 2 ≡ u → (t || u) ≡ true → Fit k 1 → Fit k 2 → Fit k s
either k s true u p q e x y = rw (eqb-true s 1 p) x
either k s false true p q e x y = rw (eqb-true s 2 q) y
either k s false false p q e x y = absurd (let z : ◌≡◌ {A = ℕ} 0 1 = cc in omega arith)

fits_fit : (k : Key) (s : ℕ) → fits k s ≡ true → Fit k s
unfolding fits
fits_fit Types s e = rw (eqb-true s 0 e) types-first
fits_fit Basis s e = rw (eqb-true s 1 e) in_bases
fits_fit Var s e = either Var s (eqb s 1) (eqb s 2) refl refl e first_variable more-variables
fits_fit LeftTerm s e = either LeftTerm s (eqb s 1) (eqb s 2) refl refl e behind-bases behind-variables
fits_fit RightTerm s e = rw (eqb-true s 3 e) behind-left
fits_fit Step s e = rw (eqb-true s 4 e) in_steps
fits_fit End s e = rw (eqb-true s 4 e) behind-steps
fits_fit Other s e = absurd (let z : ◌≡◌ {A = ℕ} 0 1 = cc in omega arith)

-- ---- a stage and a file, a line, and the stage and the file behind it
pub data Taken : ℕ → File → Text → ℕ → File → Type 0 where
  taken : {s : ℕ} {k : Key} {f g : File} {v : Text} → Fit k s → full k f ≡ false → Value k f v g → Taken s f (key_text k ++ v) (stage_after k) g

pub taken-line : {s t : ℕ} {f g : File} {l : Text} → Taken s f l t g → (line_taken s f l ≡ good g) × (stage_after (key_of l) ≡ t)
unfolding line_taken key_line
taken-line (taken {k} {v} h n x) = (rw (value_key x, fit_fits h, n, drop-append_seam) (value_taken x), ap stage_after (value_key x))

pub key_taken : (k : Key) (s : ℕ) (f : File) (v : Text) (g : File) → key_line k s f v ≡ good g → Taken s f (key_text k ++ v) (stage_after k) g
unfolding key_line
key_taken k s f v g e = by (fits k s) (full k f) refl refl e
  where
    by : (t u : Bool) → fits k s ≡ t → full k f ≡ u → cond t (cond u (wrong 6) (take_value k f v)) (wrong 4) ≡ good g → Taken s f (key_text k ++ v) (stage_after k) g
    by true false p q e = taken (fits_fit k s p) q (taken_value k f v g e)
    by true true p q e = absurd (let z : ◌≡◌ {A = ℕ} 0 1 = cc in omega arith)
    by false u p q e = absurd (let z : ◌≡◌ {A = ℕ} 0 1 = cc in omega arith)

pub line_taken_lem : (s : ℕ) (f : File) (l : Text) (g : File) → line_taken s f l ≡ good g → Taken s f l (stage_after (key_of l)) g
unfolding line_taken
line_taken_lem s f l g e = go (keyed_line l) e
  where
    go : {l : Text} {k : Key} → Keyed l k → key_line k s f (drop (length (key_text k)) l) ≡ good g → Taken s f l (stage_after k) g
    go (keyed k v) e = key_taken k s f v g (rw drop-append_seam at e)

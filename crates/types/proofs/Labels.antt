-- What a word says of its label: whether it binds, and whether its part is a stray one.
use mathlib.Core.Path.{◌≡◌, refl}
use mathlib.Core.Bool.{Bool, true, false, cond, ◌&&◌}
use Prim.Native.Nat.{ℕ, ◌/◌, ◌%◌}
use borrow.Author.Tests.{eqb-true}
use lib.Dec.{eqb, leb}
use Rattle.term.specs.Heads.{Label, bound_basis, heads, labelled, reading, read, head_of}
use Rattle.term.specs.Terms.{max_bodies}
use Rattle.term.proofs.Readings.{head_read}
use Rattle.types.specs.Inside.{binds}
use Rattle.types.specs.Strays.{is_stray}

pub binds-word : (w : ℕ) (l : Label) (m : ℕ) → read w ≡ labelled l m → binds l ≡ eqb (w / 256) 27
unfolding binds
binds-word w l m e = rw (head_read w l m e).2

-- the word of a bound basis has its name; any other is told by its head
pub stray-word : (w : ℕ) (l : Label) (m n : ℕ) → read w ≡ labelled l m → is_stray l n ≡ cond (eqb (w / 256) 28) (leb n (w % 256)) (eqb (w / 256) 27 && leb max_bodies n)
unfolding is_stray read heads reading head_of
stray-word w l m n e = go (eqb (w / 256) 28) refl
  where
    go : (b : Bool) → eqb (w / 256) 28 ≡ b → is_stray l n ≡ cond b (leb n (w % 256)) (eqb (w / 256) 27 && leb max_bodies n)
    go true x =
        let v : labelled (bound_basis (w % 256)) 0 ≡ labelled l m = rw (eqb-true (w / 256) 28 x) at e in
        let z : l ≡ bound_basis (w % 256) = cc in
        rw z
    go false x = rw ((head_read w l m e).2, x)

-- The table of heads against the words of labels: what a word reads as is what that word is written for.
use mathlib.Core.Path.{◌≡◌, refl}
use mathlib.Core.Bool.{Bool, true, false, ◌&&◌}
use mathlib.Core.List.{List, [], ◌∷◌}
use Prim.Native.Nat.{ℕ, zero, suc, ◌+◌, ◌*◌, ◌/◌, ◌%◌, ◌≤◌, ◌<◌}
use native.Mathlib.Nat.{div-add-mod', zero-add}
use native.Mathlib.Omega.{arith}
use lib.Dec.{T, leb, leb→le, eqb-suc-zero}
use lib.ListN.{length, get_or}
use Rattle.term.specs.declared.heads.Class.{Class}
use Rattle.term.specs.Heads.{Label, type_name, basis_name, variable, index_product, pair, scalar_zero, scalar_one, scalar_sum, scalar_product, conjugate, delta, dot, zero_ket}
use Rattle.term.specs.Heads.{zero_bra, zero_operator, identity, basis_ket, basis_bra, adjoint, scale, add, tensor, mulk, mulb, outer, mulo, bound_basis, big_sum, Head, unknown, named}
use Rattle.term.specs.Heads.{fixed, counted, heads, head_of, word, unread, labelled, reading, read}

-- the labels of line k are written with head k
abbrev Numbered : ℕ → Head → Type 0
Numbered k unknown = Unit {0}
Numbered k (named l c) = (a n : ℕ) → head_of (l a) n ≡ (k, a)
Numbered k (fixed l c cs) = (n : ℕ) → head_of l n ≡ (k, 0)
Numbered k (counted l c c') = (n : ℕ) → head_of l n ≡ (k, n)

abbrev pub Every : (ℕ → Head → Type 0) → ℕ → List Head → Type 0
Every P k [] = Unit {0}
Every P k (h ∷ hs) = P k h × Every P (suc k) hs

infixr 5 ◌⨾◌
abbrev pub ◌⨾◌ : {A B : Type 0} → A → B → A × B
a ⨾ b = (a, b)

pub every_at : (P : ℕ → Head → Type 0) → ((k : ℕ) → P k unknown) → (hs : List Head) (k : ℕ) → Every P k hs → (i : ℕ) → P (k + i) (get_or hs i unknown)
every_at P d [] k e i = d (k + i)
every_at P d (h ∷ hs) k e zero = rw add_zero' e.0
  where
    add_zero' : k + 0 ≡ k
    add_zero' = omega arith
every_at P d (h ∷ hs) k e (suc i) = rw shift (every_at P d hs (suc k) e.1 i)
  where
    shift : k + suc i ≡ suc k + i
    shift = omega arith

numbered : Every Numbered 0 heads
unfolding heads head_of
numbered =
    tt ⨾ (λ a n. refl) ⨾ (λ n. refl) ⨾ (λ a n. refl) ⨾ (λ n. refl) ⨾ (λ n. refl) ⨾ (λ n. refl) ⨾ (λ n. refl) ⨾ (λ n. refl) ⨾ (λ n. refl)
    ⨾ (λ n. refl) ⨾ (λ n. refl) ⨾ (λ n. refl) ⨾ (λ n. refl) ⨾ (λ n. refl) ⨾ (λ n. refl) ⨾ (λ n. refl) ⨾ (λ n. refl) ⨾ (λ n. refl) ⨾ (λ n. refl)
    ⨾ (λ n. refl) ⨾ (λ n. refl) ⨾ (λ n. refl) ⨾ (λ n. refl) ⨾ (λ n. refl) ⨾ (λ n. refl) ⨾ (λ a n. refl) ⨾ (λ n. refl) ⨾ (λ a n. refl) ⨾ tt

-- the labels of a line are written with its number
numbered_at : (k : ℕ) → Numbered k (get_or heads k unknown)
numbered_at k = rw zero-add at (every_at Numbered (λ k. tt) heads 0 numbered k)

head_of_lem : (k : ℕ) (h : Head) → Numbered k h → (a : ℕ) (l : Label) (n : ℕ) → reading h a ≡ labelled l n → (head_of l n ≡ (k, a)) × (b : ℕ) × (head_of l 0 ≡ (k, b))
unfolding reading
head_of_lem k unknown x a l n e = (cc, 0, cc)
head_of_lem k (named f c) x a l n e = (cc (x a n), a, cc (x a 0))
head_of_lem k (fixed f c cs) x zero l n e = (cc (x n), 0, cc (x 0))
head_of_lem k (fixed f c cs) x (suc a) l n e = let e' : unread ≡ labelled l n = rw eqb-suc-zero at e in (cc, 0, cc)
head_of_lem k (counted f c c') x zero l n e = (cc, 0, cc)
head_of_lem k (counted f c c') x (suc a) l n e = let e' : labelled f (suc a) ≡ labelled l n = rw eqb-suc-zero at e in (cc (x (suc a)), 0, cc (x 0))

-- what a word reads as is what it is written for; its head does not hang on the number of children
pub head_read : (w : ℕ) (l : Label) (n : ℕ) → read w ≡ labelled l n → (head_of l n ≡ (w / 256, w % 256)) × (b : ℕ) × (head_of l 0 ≡ (w / 256, b))
unfolding read
head_read w l n e = head_of_lem (w / 256) (get_or heads (w / 256) unknown) (numbered_at (w / 256)) (w % 256) l n e

pub word_read : (w : ℕ) (l : Label) (n : ℕ) → read w ≡ labelled l n → word l n ≡ w
unfolding word
word_read w l n e = rw (head_read w l n e).0 (div-add-mod' w 256)

-- a head's line tells what its words read as
pub read_at : (k a : ℕ) → a < 256 → read (k * 256 + a) ≡ reading (get_or heads k unknown) a
unfolding read
read_at k a h =
    let q : (k * 256 + a) / 256 ≡ k = omega arith in
    let r : (k * 256 + a) % 256 ≡ a = omega arith in
    rw (q, r)

-- ---- and back: the line of a label's head is the label's own
abbrev pub Written : Label → ℕ → Head → Type 0
Written l a unknown = ⊥
Written l a (named f c) = f a ≡ l
Written l a (fixed k c cs) = k ≡ l
Written l a (counted k c c') = k ≡ l

pub label_line : (l : Label) (n : ℕ) → Written l (head_of l n).1 (get_or heads (head_of l n).0 unknown)
unfolding heads head_of
label_line (type_name a) n = refl
label_line index_product n = refl
label_line (basis_name a) n = refl
label_line pair n = refl
label_line scalar_zero n = refl
label_line scalar_one n = refl
label_line scalar_sum n = refl
label_line scalar_product n = refl
label_line conjugate n = refl
label_line delta n = refl
label_line dot n = refl
label_line zero_ket n = refl
label_line zero_bra n = refl
label_line zero_operator n = refl
label_line identity n = refl
label_line basis_ket n = refl
label_line basis_bra n = refl
label_line adjoint n = refl
label_line scale n = refl
label_line add n = refl
label_line tensor n = refl
label_line mulk n = refl
label_line mulb n = refl
label_line outer n = refl
label_line mulo n = refl
label_line (variable a) n = refl
label_line big_sum n = refl
label_line (bound_basis a) n = refl

-- what is written for a label of a line is read as it
module _ (k : ℕ) where
  line_word : (h : Head) → get_or heads k unknown ≡ h → Numbered k h
  line_word h e = rw e at (numbered_at k)

  pub named-read : (a : ℕ) (l : ℕ → Label) (c : Class) → get_or heads k unknown ≡ named l c → a < 256 → read (word (l a) 0) ≡ labelled (l a) 0
  unfolding word reading
  named-read a l c e h = rw (line_word (named l c) e a 0, read_at k a h, e)

  pub fixed-read : (l : Label) (c : Class) (cs : List Class) → get_or heads k unknown ≡ fixed l c cs → read (word l (length cs)) ≡ labelled l (length cs)
  unfolding word reading
  fixed-read l c cs e = rw (line_word (fixed l c cs) e (length cs), read_at k 0 (omega arith), e)

  pub counted-read : (n : ℕ) (l : Label) (c c' : Class) → get_or heads k unknown ≡ counted l c c' → 1 ≤ n → n ≤ 255 → read (word l n) ≡ labelled l n
  unfolding word reading
  counted-read zero l c c' e some few = elim some [ ]
  counted-read (suc n) l c c' e some few = rw (line_word (counted l c c') e (suc n), read_at k (suc n) (omega arith), e, eqb-suc-zero)

-- ---- a test that every line of the table passes
both : (a b : Bool) → T (a && b) → T a × T b
both true b t = (tt, t)
both false b t = absurd t

abbrev all : (Head → Bool) → List Head → Bool
all f [] = true
all f (h ∷ hs) = f h && all f hs

tested : (f : Head → Bool) (hs : List Head) (i : ℕ) → T (f unknown) → T (all f hs) → T (f (get_or hs i unknown))
tested f [] i d t = d
tested f (h ∷ hs) zero d t = (both (f h) (all f hs) t).0
tested f (h ∷ hs) (suc i) d t = tested f hs i d (both (f h) (all f hs) t).1

-- no head of a fixed number of children has more than two
abbrev pub few : Head → Bool
few unknown = true
few (named l c) = true
few (fixed l c cs) = leb (length cs) 2
few (counted l c c') = true

pub few-at : (h : ℕ) → T (few (get_or heads h unknown))
unfolding heads
few-at h = tested few heads h tt tt

few_of : (h : Head) → T (few h) → (a : ℕ) → a < 256 → (l : Label) (n : ℕ) → reading h a ≡ labelled l n → n ≤ 255
unfolding reading
few_of unknown x a b l n e = let z : ◌≡◌ {A = ℕ} 0 1 = cc in omega arith
few_of (named f c) x a b l n e = let z : n ≡ 0 = cc in omega arith
few_of (fixed f c cs) x zero b l n e = let z : length cs ≡ n = cc in omega (arith, leb→le (length cs) 2 x)
few_of (fixed f c cs) x (suc a) b l n e =
    let e' : unread ≡ labelled l n = rw eqb-suc-zero at e in
    let z : ◌≡◌ {A = ℕ} 0 1 = cc in omega arith
few_of (counted f c c') x zero b l n e = let z : ◌≡◌ {A = ℕ} 0 1 = cc in omega arith
few_of (counted f c c') x (suc a) b l n e =
    let e' : labelled f (suc a) ≡ labelled l n = rw eqb-suc-zero at e in
    let z : suc a ≡ n = cc in omega arith

pub read-few : (w : ℕ) (l : Label) (n : ℕ) → read w ≡ labelled l n → n ≤ 255
unfolding read
read-few w l n e =
    few_of (get_or heads (w / 256) unknown) (few-at (w / 256)) (w % 256) (omega arith) l n e

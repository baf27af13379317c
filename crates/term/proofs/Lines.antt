-- The code's table of heads is the definition's, and what its digits say.
use mathlib.Core.Path.{◌≡◌, refl, sym, ◌∙◌, ap}
use mathlib.Core.Bool.{true, cond}
use mathlib.Core.Logic.{◌≢◌}
use Prim.Native.Nat.{ℕ, zero, suc, ◌+◌, ◌-◌, ◌*◌, ◌/◌, ◌%◌, ◌^◌, ◌≤◌, ◌<◌}
use native.Mathlib.Omega.{arith}
use borrow.Author.Tests.{eqb-true}
use lib.Dec.{T, eqb, leb→le, eqb-suc-zero}
use lib.ListN.{length, get_or, get_or-eq_default}
use Rattle.words.specs.Listed.{all_up_to}
use Rattle.words.proofs.Listed.{all_up_to-at}
use Rattle.std.specs.Prelude.{Option, Some, None}
use Rattle.term.specs.declared.heads.Class.{Class}
use Rattle.term.specs.declared.heads.Class.TheVariants.{Nothing, Index, Basis, Scalar, Ket, Bra, Operator, Array, Term}
use Rattle.term.specs.Heads.{Head, unknown, named, fixed, counted, heads, reading, read, arity_in, arity_of, result_in, result_of, child_in, child_of}
use Rattle.term.specs.Code.Lines.{number_of, line_of, line_at, classes, class_of}
use Rattle.term.proofs.Readings.{few, few-at}

-- a line at a number past the table is the unknown head's, which is 0
pub line-past : (h : ℕ) → 29 ≤ h → line_at h ≡ 0
unfolding line_at heads
line-past h k = ap line_of (get_or-eq_default heads unknown k)

-- a class's number is at most 8, and stands for it
digit_of : (c : Class) → (number_of c ≤ 8) × (class_of (number_of c) ≡ c)
digit_of Nothing = (omega arith, refl)
digit_of Index = (omega arith, refl)
digit_of Basis = (omega arith, refl)
digit_of Scalar = (omega arith, refl)
digit_of Ket = (omega arith, refl)
digit_of Bra = (omega arith, refl)
digit_of Operator = (omega arith, refl)
digit_of Array = (omega arith, refl)
digit_of Term = (omega arith, refl)

-- only the digits 1 to 8 stand for a class
pub class-past : (d : ℕ) → 9 ≤ d → class_of d ≡ Nothing
class-past d h = get_or-eq_default classes Nothing h

-- the first digit, by the form of the head
form_of : Head → ℕ
form_of unknown = 0
form_of (named l c) = 1
form_of (counted l c c') = 2
form_of (fixed l c cs) = suc (suc (suc (length cs)))

-- the four digits of a line; the last is the second child's, where the children are not counted
record Digits (h : Head) : Type 0 where
  form : line_of h / 4096 ≡ form_of h
  result : line_of h / 256 % 16 ≡ number_of (result_in h)
  child : line_of h / 16 % 16 ≡ number_of (child_in h 0)
  last : form_of h ≢ 2 → line_of h % 16 ≡ number_of (child_in h 1)

digits : (h : Head) → Digits h
unfolding line_of form_of result_in child_in
digits unknown = record { form = refl; result = refl; child = refl; last = λ f. refl }
digits (named l c) =
    let s = (digit_of c).0 in record { form = omega arith; result = omega arith; child = omega arith; last = λ f. omega arith }
digits (counted l c c') =
    let s = (digit_of c).0 in let t = (digit_of c').0 in record { form = omega arith; result = omega arith; child = omega arith; last = λ f. absurd (f refl) }
digits (fixed l c cs) =
    let s = (digit_of c).0 in let t = (digit_of (get_or cs 0 Nothing)).0 in let u = (digit_of (get_or cs 1 Nothing)).0 in
    record { form = omega arith; result = omega arith; child = omega arith; last = λ f. omega arith }

-- a digit of a number, where the first n digits are the forms of the heads from `from` on
pub form-at : (x from n : ℕ) → all_up_to n (λ k. eqb (x / 2 ^ (k * 4) % 16) (line_at (from + k) / 4096)) ≡ true → (k h : ℕ) → k < n → from + k ≡ h
    → x / 2 ^ (k * 4) % 16 ≡ line_at h / 4096
form-at x from n e k h l z = rw (← z) (eqb-true _ _ (all_up_to-at n _ e k l))

-- ---- what the functions answer
abbrev pub arity_by : ℕ → ℕ → Option ℕ
arity_by zero a = None
arity_by (suc zero) a = Some 0
arity_by (suc (suc zero)) a = cond (eqb a 0) None (Some a)
arity_by (suc (suc (suc n))) a = cond (eqb a 0) (Some n) None

arity_by_lem : (h : Head) (a : ℕ) → arity_in (reading h a) ≡ arity_by (form_of h) a
unfolding arity_in reading form_of
arity_by_lem unknown a = refl
arity_by_lem (named l c) a = refl
arity_by_lem (counted l c c') zero = refl
arity_by_lem (counted l c c') (suc a) = rw eqb-suc-zero
arity_by_lem (fixed l c cs) zero = refl
arity_by_lem (fixed l c cs) (suc a) = rw eqb-suc-zero

pub arity_form : (w r f : ℕ) → r ≡ line_at (w / 256) / 4096 → r ≡ f → arity_of w ≡ arity_by f (w % 256)
unfolding arity_of read line_at
arity_form w r f e k =
    let h = get_or heads (w / 256) unknown in
    arity_by_lem h (w % 256) ∙ ap (λ x. arity_by x (w % 256)) (sym (digits h).form ∙ sym e ∙ k)

pub arity_fixed : (f a : ℕ) → 3 ≤ f → arity_by f a ≡ cond (eqb a 0) (Some (f - 3)) None
arity_fixed zero a h = absurd (omega arith)
arity_fixed (suc zero) a h = absurd (omega arith)
arity_fixed (suc (suc zero)) a h = absurd (omega arith)
arity_fixed (suc (suc (suc n))) a h = let e : suc (suc (suc n)) - 3 ≡ n = omega arith in rw e

pub result-line : (h r : ℕ) → r ≡ line_at h → class_of (r / 256 % 16) ≡ result_of h
unfolding result_of line_at
result-line h r e = rw e (ap class_of (digits (get_or heads h unknown)).result ∙ (digit_of _).1)

pub child-line : (h r : ℕ) → r ≡ line_at h → class_of (r / 16 % 16) ≡ child_of h 0
unfolding child_of line_at
child-line h r e = rw e (ap class_of (digits (get_or heads h unknown)).child ∙ (digit_of _).1)

pub second-line : (h r : ℕ) → r ≡ line_at h → r / 4096 ≢ 2 → class_of (r % 16) ≡ child_of h 1
unfolding child_of line_at
second-line h r e k =
    let k' : form_of (get_or heads h unknown) ≢ 2 = λ f. k (ap (λ x. x / 4096) e ∙ (digits (get_or heads h unknown)).form ∙ f) in
    rw e (ap class_of ((digits (get_or heads h unknown)).last k') ∙ (digit_of _).1)

-- the children of a counted head are all of one class
counted-child : (h : Head) (k : ℕ) → form_of h ≡ 2 → child_in h k ≡ child_in h 0
unfolding form_of child_in
counted-child unknown k e = refl
counted-child (named l c) k e = refl
counted-child (counted l c c') k e = refl
counted-child (fixed l c cs) k e = absurd (omega arith)

pub counted-line : (h r k : ℕ) → r ≡ line_at h → r / 4096 ≡ 2 → child_of h k ≡ child_of h 0
unfolding child_of line_at
counted-line h r k e f = counted-child (get_or heads h unknown) k (sym (digits (get_or heads h unknown)).form ∙ ap (λ x. x / 4096) (sym e) ∙ f)

-- and no other head has more than two
few_children : (h : Head) (k : ℕ) → T (few h) → 2 ≤ k → form_of h ≢ 2 → child_in h k ≡ Nothing
unfolding form_of child_in
few_children unknown k x h f = refl
few_children (named l c) k x h f = refl
few_children (counted l c c') k x h f = absurd (f refl)
few_children (fixed l c cs) k x h f = get_or-eq_default cs Nothing (omega (arith, leb→le (length cs) 2 x))

pub others_line : (h r k : ℕ) → r ≡ line_at h → r / 4096 ≢ 2 → 2 ≤ k → child_of h k ≡ Nothing
unfolding child_of line_at
others_line h r k e f g =
    few_children (get_or heads h unknown) k (few-at h) g (λ x. f (ap (λ y. y / 4096) e ∙ (digits (get_or heads h unknown)).form ∙ x))

-- Decimal texts and numbers: each undoes the other.
use mathlib.Core.Path.{◌≡◌, refl}
use mathlib.Core.Bool.{Bool, true, false, cond, not, and-eq-true_iff}
use mathlib.Core.List.{List, [], ◌∷◌, ◌++◌, append-nil}
use mathlib.Core.Option.{some, none}
use Prim.Native.Nat.{ℕ, zero, suc, ◌+◌, ◌-◌, ◌*◌, ◌/◌, ◌%◌, ◌≤◌, ◌<◌}
use native.Mathlib.Omega.{arith}
use lib.Dec.{eqb, leb, ltb}
use lib.Seq.{append_snoc}
use borrow.Author.Tests.{ltb-true, ltb-false, leb-true, eqb-false, not-true, lt-ltb, le-ltb, le-leb, ne_eqb}
use Rattle.words.specs.Listed.{all}
use Rattle.text.specs.Numbers.{is_digit, all_digits, value_from, well_begun, is_number, number_in, digits_by, decimal}

-- ---- the texts of numbers: one digit, or one more behind the text of a number that is not 0
data Text : List ℕ → ℕ → Type 0 where
  one : {n : ℕ} (b : ℕ) → is_digit b ≡ true → n ≡ 0 * 10 + (b - 48) → Text (b ∷ []) n
  more : {bs : List ℕ} {m n : ℕ} (b : ℕ) → Text bs m → 0 < m → is_digit b ≡ true → n ≡ m * 10 + (b - 48) → Text (bs ++ b ∷ []) n

is_digit_lem : (d : ℕ) → d < 10 → is_digit (48 + d) ≡ true
unfolding is_digit
is_digit_lem d h = rw (le-leb 48 (48 + d) (omega arith), le-leb (48 + d) 57 (omega arith))

pub digit-is : (b : ℕ) → is_digit b ≡ true → (48 ≤ b) × (b ≤ 57)
unfolding is_digit
digit-is b e = let r = (and-eq-true_iff (leb 48 b) (leb b 57)).0 e in (leb-true 48 b r.0, leb-true b 57 r.1)

-- ---- `digits_by` writes them
written_by : (k n : ℕ) (t : Bool) → ltb n 10 ≡ t → (10 ≤ n → Text (digits_by k (n / 10)) (n / 10)) → Text (cond t ((48 + n) ∷ []) (digits_by k (n / 10) ++ (48 + n % 10) ∷ [])) n
written_by k n true e r = one {n = n} (48 + n) (is_digit_lem n (ltb-true n 10 e)) (omega arith)
written_by k n false e r = let h = ltb-false n 10 e in more {n = n} (48 + n % 10) (r h) (omega arith) (is_digit_lem (n % 10) (omega arith)) (omega arith)

written : (k n : ℕ) → n < k → Text (digits_by k n) n
unfolding digits_by
written zero n h = absurd (omega arith)
written (suc k) n h = written_by k n (ltb n 10) refl (λ l. written k (n / 10) (omega arith))

only_written : {bs : List ℕ} {n : ℕ} → Text bs n → (k : ℕ) → n < k → bs ≡ digits_by k n
unfolding digits_by
only_written r zero h = absurd (omega arith)
only_written (one {n} b e v) (suc k) h = let s : (n < 10) × (48 + n ≡ b) = omega (arith, digit-is b e) in rw (lt-ltb n 10 s.0, s.1)
only_written (more {m} {n} b r p e v) (suc k) h =
    let s : (n / 10 ≡ m) × (48 + n % 10 ≡ b) = omega (arith, digit-is b e) in
    rw (le-ltb n 10 (omega arith), s.0, s.1, ← only_written r k (omega arith))

-- ---- each is read as its number, whatever is behind it
text_value : {bs : List ℕ} {n : ℕ} → Text bs n → (cs : List ℕ) → value_from 0 (bs ++ cs) ≡ value_from n cs
unfolding value_from
text_value (one b e v) cs = rw v
text_value (more b r p e v) cs = rw (append_snoc, text_value r (b ∷ cs), v)

text_digits : {bs : List ℕ} {n : ℕ} → Text bs n → (cs : List ℕ) → all_digits (bs ++ cs) ≡ all_digits cs
unfolding all
text_digits (one b e v) cs = rw e
text_digits (more b r p e v) cs = rw (append_snoc, text_digits r (b ∷ cs), e)

-- only the text of 0 begins with a 0, so that more bytes may follow any other
text_begun : {bs : List ℕ} {n : ℕ} → Text bs n → 0 < n → (c : ℕ) (cs : List ℕ) → well_begun (bs ++ c ∷ cs) ≡ true
unfolding well_begun
text_begun (one b e v) z c cs = rw (ne_eqb b 48 (λ h. omega arith))
text_begun (more b r p e v) z c cs = rw append_snoc (text_begun r p b (c ∷ cs))

text_whole : {bs : List ℕ} {n : ℕ} → Text bs n → well_begun bs ≡ true
unfolding well_begun
text_whole (one b e v) = refl
text_whole (more b r p e v) = text_begun r p b []

text_in : {bs : List ℕ} {n : ℕ} → Text bs n → number_in bs ≡ some n
unfolding number_in
text_in {bs} {n} r =
    let d : all_digits bs ≡ true = rw append-nil at (text_digits r []) in
    let v : value_from 0 bs ≡ n = rw append-nil at (text_value r []) in
    rw (text_whole r, d, v)

-- ---- and nothing else is read
grown : (bs : List ℕ) {cs : List ℕ} {n : ℕ} → Text cs n → 0 < n → all_digits bs ≡ true → Text (cs ++ bs) (value_from n bs)
unfolding all value_from
grown [] r p e = rw append-nil r
grown (b ∷ bs) r p e = let t = (and-eq-true_iff (is_digit b) (all_digits bs)).0 e in rw append_snoc at (grown bs (more b r p t.0 refl) (omega arith) t.1)

number_text : (bs : List ℕ) → is_number bs ≡ true → Text bs (value_from 0 bs)
unfolding is_number value_from
number_text [] e = let z : ◌≡◌ {A = ℕ} 0 1 = cc in absurd (omega arith)
number_text (b ∷ []) e = one b ((and-eq-true_iff (is_digit b) true).0 e).0 refl
number_text (b ∷ c ∷ bs) e =
    let w = (and-eq-true_iff (not (eqb b 48)) (all_digits (b ∷ c ∷ bs))).0 e in
    let t = (and-eq-true_iff (is_digit b) (all_digits (c ∷ bs))).0 w.1 in
    grown (c ∷ bs) (one b t.0 refl) (omega (arith, digit-is b t.0, eqb-false b 48 (not-true (eqb b 48) w.0))) t.1

read_by : (bs : List ℕ) (n : ℕ) (t : Bool) → is_number bs ≡ t → cond t (some (value_from 0 bs)) none ≡ some n → Text bs n
read_by bs n true e q = let v : value_from 0 bs ≡ n = cc in rw v at (number_text bs e)
read_by bs n false e q = let z : ◌≡◌ {A = ℕ} 0 1 = cc in absurd (omega arith)

number_in_lem : (bs : List ℕ) (n : ℕ) → number_in bs ≡ some n → Text bs n
unfolding number_in
number_in_lem bs n e = read_by bs n (is_number bs) refl e

-- ---- the laws
pub number-decimal : (n : ℕ) → number_in (decimal n) ≡ some n
unfolding decimal
number-decimal n = text_in (written (suc n) n (omega arith))

pub decimal-number : (bs : List ℕ) (n : ℕ) → number_in bs ≡ some n → bs ≡ decimal n
unfolding decimal
decimal-number bs n e = only_written (number_in_lem bs n e) (suc n) (omega arith)

pub number_digits : (bs : List ℕ) (n : ℕ) → number_in bs ≡ some n → all_digits bs ≡ true
unfolding all
number_digits bs n e = rw append-nil at (text_digits (number_in_lem bs n e) [])

pub decimal_digits : (n : ℕ) → all_digits (decimal n) ≡ true
decimal_digits n = number_digits (decimal n) n (number-decimal n)

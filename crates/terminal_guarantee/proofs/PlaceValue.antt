-- What the rules read is the number that its digits are by place value.
use mathlib.Core.Path.{◌≡◌, ap, subst, ◌∙◌}
use mathlib.Core.List.{List, [], ◌∷◌}
use mathlib.Core.Option.{some}
use Prim.Native.Nat.{ℕ, ◌+◌, ◌-◌, ◌*◌, ◌^◌, ◌≤◌, ◌<◌}
use native.Mathlib.Nat.{pow-zero, pow-suc}
use native.Mathlib.Omega.{arith}
use lib.Dec.{leb, ltb}
use lib.ListN.{length}
use borrow.Author.Tests.{ltb-true, leb-true, lt-ltb}
use Rattle.integers.specs.Choice.{by_cases, both}
use Rattle.numerals.specs.DigitLaws.{inside, above}
use Rattle.numerals.specs.Numerals.{within, digit_value, read_on}
use Rattle.numerals.specs.Reading.{some_of}
use Rattle.terminal_guarantee.specs.PlaceValue.{Digit, numeral, capital, Number, no_digit, digit}

-- ---- digits

-- a byte with a value is a digit
pub digit_of : (c : ℕ) → digit_value c < 16 → Digit c (digit_value c)
unfolding digit_value
digit_of c =
    by_cases (λ v. v < 16 → Digit c v) (within 48 57 c) (c - 48) _
    (λ e h.
    let m = both (leb 48 c) (leb c 57) e in
    let low = leb-true 48 c m.0 in
    let high = leb-true c 57 m.1 in
    let is : 48 + (c - 48) ≡ c = omega arith in
    subst (λ (b : ℕ). Digit b (c - 48)) is (numeral (omega arith)))
    (λ e. by_cases (λ v. v < 16 → Digit c v) (within 65 70 c) (c - 65 + 10) 16
    (λ f h.
    let m = both (leb 65 c) (leb c 70) f in
    let low = leb-true 65 c m.0 in
    let high = leb-true c 70 m.1 in
    let byte_is : 65 + (c - 65) ≡ c = omega arith in
    let value_is : 10 + (c - 65) ≡ c - 65 + 10 = omega arith in
    subst (λ (b : ℕ). Digit b (c - 65 + 10)) byte_is (subst (λ (v : ℕ). Digit (65 + (c - 65)) v) value_is (capital (omega arith))))
    (λ f h. absurd (omega arith)))

-- and its value is the digit's
pub digit_is : {c d : ℕ} → Digit c d → digit_value c ≡ d
unfolding digit_value
digit_is (numeral {d} h) = simp (inside 48 57 (48 + d) (omega arith) (omega arith)) (omega arith)
digit_is (capital {d} h) =
    simp (above 48 57 (65 + d) (omega arith) (omega arith), inside 65 70 (65 + d) (omega arith) (omega arith)) (omega arith)

-- ---- numbers

-- the number that digits are, where those in front are a
pub record Read (b a : ℕ) (cs : List ℕ) (n : ℕ) : Type 0 where
  pub value : ℕ
  pub number : Number b cs value
  pub is : n ≡ a * b ^ length cs + value

module _ (b : ℕ) (top : b ≤ 16) where
  pub number_of : (a n : ℕ) (cs : List ℕ) → read_on b a cs ≡ some n → Read b a cs n
  unfolding read_on
  number_of a n [] e = let same : a ≡ n = cc in record { value = 0; number = no_digit; is = rw pow-zero (omega arith) }
  number_of a n (c ∷ cs) e =
      let t = some_of (ltb (digit_value c) b) _ n e in
      let small = ltb-true (digit_value c) b t.0 in
      let r = number_of (a * b + digit_value c) n cs t.1 in
      record {
        value = digit_value c * b ^ length cs + r.value;
        number = digit (digit_of c (omega arith)) small r.number;
        is = r.is ∙ rw pow-suc (omega arith);
      }

  pub number_read : (a v : ℕ) (cs : List ℕ) → Number b cs v → read_on b a cs ≡ some (a * b ^ length cs + v)
  unfolding read_on
  number_read a v [] no_digit = ap some (rw pow-zero (omega arith))
  number_read a v (c ∷ cs) (digit {d} {v = w} k small n) =
      let is = digit_is k in
      simp (lt-ltb (digit_value c) b (omega arith))
      (number_read (a * b + digit_value c) w cs n ∙ ap some (rw (pow-suc, is) (omega arith)))

  -- digits that are read from the first on are the number that is read
  pub read_number : (n : ℕ) (cs : List ℕ) → read_on b 0 cs ≡ some n → Number b cs n
  read_number n cs e =
      let r = number_of 0 n cs e in
      let is : r.value ≡ n = omega (arith, r.is) in
      subst (Number b cs) is r.number

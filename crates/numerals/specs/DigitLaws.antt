-- Laws of digits: their bytes and values, and how many a number has.
use Rattle.std.specs.Prelude.{◌≡◌, Bool, true, false, cond, List, [], ◌∷◌, leb, ltb, length, get_or}
use Rattle.std.proofs.Math.Path.{refl}
use Rattle.std.proofs.Common.{mul_comm, div-lt_iff_lt-mul, length-append}
use Prim.Native.Nat.{ℕ, zero, suc, ◌+◌, ◌-◌, ◌*◌, ◌/◌, ◌%◌, ◌^◌, ◌≤◌, ◌<◌}
use Rattle.std.proofs.Math.Nat.{pow-zero, pow-suc, pow-le-pow_right, div-lt_self}
use native.Mathlib.Omega.{arith}
use borrow.Author.Tests.{ltb-true, ltb-false, leb-true, lt-ltb, le-ltb, le-leb, lt-leb}
use Rattle.integers.specs.Choice.{by_cases, both}
use Rattle.numerals.specs.Numerals.{digit_byte, last_digits, places_within, places, hexadecimal, within, digit_value}

-- ---- where a number lies

module _ (low high b : ℕ) where
  pub inside : low ≤ b → b ≤ high → within low high b ≡ true
  inside l h = simp (le-leb low b l, le-leb b high h)

  pub below : b < low → within low high b ≡ false
  below l = simp (lt-leb low b l)

  pub above : low ≤ b → high < b → within low high b ≡ false
  above l h = simp (le-leb low b l, lt-leb b high h)

-- ---- a digit's byte and its value

pub byte_value : (d : ℕ) → d < 16 → digit_value (digit_byte d) ≡ d
unfolding digit_byte digit_value
byte_value d h = go (ltb d 10) refl
  where
    go : (t : Bool) → ltb d 10 ≡ t → digit_value (cond t (48 + d) (55 + d)) ≡ d
    go true e = let l = ltb-true d 10 e in simp (inside 48 57 (48 + d) (omega arith) (omega arith)) (omega arith)
    go false e =
        let l = ltb-false d 10 e in
        simp (above 48 57 (55 + d) (omega arith) (omega arith), inside 65 70 (55 + d) (omega arith) (omega arith)) (omega arith)

pub byte_most : (d : ℕ) → d < 16 → digit_byte d ≤ 70
unfolding digit_byte
byte_most d h = by_cases (λ c. c ≤ 70) (ltb d 10) (48 + d) (55 + d) (λ e. omega (arith, ltb-true d 10 e)) (λ e. omega arith)

pub value_byte : (c : ℕ) → digit_value c < 16 → digit_byte (digit_value c) ≡ c
unfolding digit_byte digit_value
value_byte c =
    by_cases (λ v. v < 16 → digit_byte v ≡ c) (within 48 57 c) (c - 48) _
    (λ f h. let m = both (leb 48 c) (leb c 57) f in
    let low = leb-true 48 c m.0 in let high = leb-true c 57 m.1 in
    simp (lt-ltb (c - 48) 10 (omega arith)) (omega arith))
    (λ f. by_cases (λ v. v < 16 → digit_byte v ≡ c) (within 65 70 c) (c - 65 + 10) 16
    (λ k h. let m = both (leb 65 c) (leb c 70) k in
    let low = leb-true 65 c m.0 in let high = leb-true c 70 m.1 in
    simp (le-ltb (c - 65 + 10) 10 (omega arith)) (omega arith))
    (λ k h. absurd (omega arith)))

pub digits_length : (b k n : ℕ) → length (last_digits b k n) ≡ k
unfolding last_digits
digits_length b zero n = refl
digits_length b (suc k) n =
    omega (arith, length-append (last_digits b k (n / b)) (digit_byte (n % b) ∷ []), digits_length b k (n / b))

-- ---- how many digits

module _ (b : ℕ) (base : 1 < b) where
  one_digit : b ^ 1 ≡ b
  one_digit = rw (pow-suc, pow-zero) (omega arith)

  pub enough : (more n : ℕ) → n ≤ more → n < b ^ places_within b more n
  unfolding places_within
  enough zero n h = omega (arith, one_digit)
  enough (suc more) n h =
      by_cases (λ k. n < b ^ k) (ltb n b) 1 _ (λ e. omega (arith, one_digit, ltb-true n b e))
      (λ e.
      let l = ltb-false n b e in
      let s = div-lt_self {n = n} {k = b} (omega arith) base in
      let k = places_within b more (n / b) in
      rw pow-suc ((div-lt_iff_lt-mul {k = b} {x = n} {y = b ^ k} (omega arith)).0 (enough more (n / b) (omega arith))))

  pub fewest : (more n k : ℕ) → n < b ^ k → 0 < k → places_within b more n ≤ k
  unfolding places_within
  fewest zero n k h p = p
  fewest (suc more) n zero h p = absurd (omega arith)
  fewest (suc more) n (suc zero) h p =
      by_cases (λ k. k ≤ 1) (ltb n b) 1 _ (λ e. omega arith) (λ e. absurd (omega (arith, one_digit, ltb-false n b e)))
  fewest (suc more) n (suc (suc j)) h p =
      by_cases (λ k. k ≤ suc (suc j)) (ltb n b) 1 _ (λ e. omega arith)
      (λ e.
      let q = (div-lt_iff_lt-mul {k = b} {x = n} {y = b ^ suc j} (omega arith)).1 (rw pow-suc at h) in
      omega (arith, fewest more (n / b) (suc j) q (omega arith)))

  at_least_one : (more n : ℕ) → 0 < places_within b more n
  unfolding places_within
  at_least_one zero n = omega arith
  at_least_one (suc more) n = by_cases (λ k. 0 < k) (ltb n b) 1 _ (λ e. omega arith) (λ e. omega arith)

  pub places_last : (n : ℕ) → n < b → places b n ≡ 1
  unfolding places places_within
  places_last zero h = refl
  places_last (suc n) h = simp (lt-ltb (suc n) b h)

  pub places_hold : (n : ℕ) → n < b ^ places b n
  unfolding places
  places_hold n = enough n n (omega arith)

  pub places_some : (n : ℕ) → 0 < places b n
  unfolding places
  places_some n = at_least_one n n

  pub places_least : (n k : ℕ) → n < b ^ k → 0 < k → places b n ≤ k
  unfolding places
  places_least n k = fewest n n k

  -- between two powers of the base
  pub places_between : (n k : ℕ) → b ^ k ≤ n → n < b * b ^ k → places b n ≡ suc k
  places_between n k low high =
      let most = places_least n (suc k) (rw pow-suc (omega (arith, mul_comm b (b ^ k)))) (omega arith) in
      let least : (places b n ≤ k) → ⊥ =
      λ h. omega (arith, places_hold n, pow-le-pow_right {n = b} (omega arith) {i = places b n} {j = k} h) in
      omega (arith, least)

-- ---- bytes, two digits to each

pub hexadecimal_length : (bs : List ℕ) → length (hexadecimal bs) ≡ 2 * length bs
unfolding hexadecimal last_digits
hexadecimal_length [] = refl
hexadecimal_length (b ∷ bs) = omega (arith, hexadecimal_length bs)

-- the two digits of the byte at i
pub hexadecimal_at : (bs : List ℕ) (i : ℕ) → i < length bs
    → (get_or (hexadecimal bs) (2 * i) 0 ≡ digit_byte (get_or bs i 0 / 16 % 16))
    × (get_or (hexadecimal bs) (2 * i + 1) 0 ≡ digit_byte (get_or bs i 0 % 16))
unfolding hexadecimal last_digits
hexadecimal_at [] i h = absurd (omega arith)
hexadecimal_at (b ∷ bs) zero h = (refl, refl)
hexadecimal_at (b ∷ bs) (suc i) h =
    let r = hexadecimal_at bs i (omega arith) in
    let high : 2 * suc i ≡ suc (suc (2 * i)) = omega arith in
    let low : 2 * suc i + 1 ≡ suc (suc (2 * i + 1)) = omega arith in
    (rw high r.0, rw low r.1)

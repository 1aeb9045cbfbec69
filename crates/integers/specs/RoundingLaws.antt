-- Laws of the roundings, for proofs: sizes, the tests as code makes them, and signs kept.
use Rattle.std.specs.Prelude.{◌≡◌, refl, Bool, true, false, ℕ, zero, suc, ◌+◌, ◌-◌, ◌*◌, ◌/◌, ◌%◌, ◌≤◌, ◌<◌, ℤ, pos, negsuc, neg_ℤ, nat_abs}
use Rattle.std.specs.Prelude.{◌-ℤ◌, ◌*ℤ◌}
use Rattle.std.proofs.Common.{sym, ap, ◌∙◌, zero-le, mul-le-mul_left, mul-le-mul_right, div-le_self, mul-div_cancel}
use Rattle.std.proofs.Math.Nat.{zero-div, zero-mod, div-eq_of_lt-le, mul-mod_left}
use native.Mathlib.Omega.{arith, by_contra}
use borrow.Author.Tests.{lt-ltb, le-ltb}
use Rattle.integers.specs.Operations.{difference, negation}
use Rattle.integers.specs.Parts.{apart}
use Rattle.integers.specs.Rounding.{half_up, half_even, nearest_by, nearest_even, Nearest, division}
use Rattle.integers.specs.Rounding.{left_over, half_up-nearest, half_up-up, half_even-by, half_even-nearest, half_even-even}
use Rattle.integers.specs.Sign.{from_sign, is_negative, from_sign-times, nat_abs-from_sign}

module _ (n d : ℕ) (some : 0 < d) where
  -- half_up by one quotient
  pub half_up-quotient : (2 * n + d) / (2 * d) ≡ half_up n d
  half_up-quotient =
      div-eq_of_lt-le (2 * d) {m = 2 * n + d} (omega (arith, half_up-nearest n d some)) (omega (arith, half_up-up n d some))

  pub half_even-most : half_even n d ≤ n + 1
  half_even-most =
      half_even-by n d some (λ r. r ≤ n + 1) (λ l. omega (arith, div-le_self n d)) (λ h. omega (arith, div-le_self n d))
      (λ e. omega (arith, div-le_self n d))

  pub half_even-within : (most : ℕ) → n ≤ most * d → half_even n d ≤ most
  half_even-within most h =
      by_contra (half_even n d) most (λ l. absurd (omega (arith, some, half_even-nearest n d some, mul-le-mul_right d l)))

  -- ---- the tests as the code makes them: the remainder against what it lacks of d

  pub remainder_fits : n % d ≤ d
  remainder_fits = omega (arith, left_over n d some)

  -- past a half d is at least 2, so the quotient leaves room for one more
  pub room : d - n % d ≤ n % d → n / d + 1 ≤ n
  room h = omega (arith, division n d some, left_over n d some, mul-le-mul_left {m = 2} {n = d} (n / d) (omega (arith, left_over n d some)))

  pub even_below_half : n % d < d - n % d → n / d ≡ half_even n d
  unfolding half_even
  even_below_half h = simp (lt-ltb (2 * (n % d)) d (omega arith))

  pub even_above_half : d - n % d < n % d → n / d + 1 ≡ half_even n d
  unfolding half_even
  even_above_half h =
      simp (le-ltb (2 * (n % d)) d (omega (arith, left_over n d some)), lt-ltb d (2 * (n % d)) (omega (arith, left_over n d some)))

  pub even_at_half : d - n % d ≤ n % d → n % d ≤ d - n % d → n / d + n / d % 2 ≡ half_even n d
  unfolding half_even
  even_at_half h k =
      simp (le-ltb (2 * (n % d)) d (omega (arith, left_over n d some)), le-ltb d (2 * (n % d)) (omega (arith, left_over n d some)))

-- a whole quotient is itself
pub half_even-whole : (k d : ℕ) → 0 < d → half_even (k * d) d ≡ k
unfolding half_even
half_even-whole k d h = simp (mul-mod_left, mul-div_cancel k h, lt-ltb 0 d h)

-- ---- the rounding of a magnitude keeps its sign

half_even-zero : (d : ℕ) → 0 < d → half_even 0 d ≡ 0
unfolding half_even
half_even-zero d h = simp (zero-mod, zero-div, lt-ltb 0 d h)

pub nearest_even-from_sign : (minus : Bool) (n d : ℕ) → 0 < d → nearest_even (from_sign minus n) d ≡ from_sign minus (half_even n d)
unfolding nearest_even
nearest_even-from_sign true zero d h = ap pos (half_even-zero d h) ∙ sym (ap (λ (m : ℕ). neg_ℤ (pos m)) (half_even-zero d h))
nearest_even-from_sign true (suc n) d h = refl
nearest_even-from_sign false n d h = ap (λ (t : Bool). from_sign t (half_even n d)) (le-ltb n 0 zero-le)

pub nearest_even-size : (z : ℤ) (d : ℕ) → nat_abs (nearest_even z d) ≡ half_even (nat_abs z) d
unfolding nearest_even
nearest_even-size z d = nat_abs-from_sign (is_negative z) (half_even (nat_abs z) d)

-- ---- the signed roundings are off by at most one half

-- how far off, by the magnitudes alone
distance : (rounding : ℕ → ℕ → ℕ) (z : ℤ) (d : ℕ) → let n = nat_abs z in let r = rounding n d in
    nat_abs (nearest_by rounding z d *ℤ pos d -ℤ z) ≡ (r * d - n) + (n - r * d)
distance rounding (pos n) d =
    let r = rounding n d in
    rw (le-ltb n 0 zero-le) (omega (arith, difference (pos (r * d)) (pos n), apart (pos (r * d) -ℤ pos n)))
distance rounding (negsuc n) d =
    let r = rounding (suc n) d in
    rw (from_sign-times true r d)
    (omega (arith, negation (pos (r * d)), difference (neg_ℤ (pos (r * d))) (negsuc n), apart (neg_ℤ (pos (r * d)) -ℤ negsuc n)))

pub nearest_by-off : (rounding : ℕ → ℕ → ℕ) (z : ℤ) (d : ℕ) → Nearest (nat_abs z) d (rounding (nat_abs z) d) →
    2 * nat_abs (nearest_by rounding z d *ℤ pos d -ℤ z) ≤ d
nearest_by-off rounding z d h = omega (arith, distance rounding z d)

pub nearest_even-off : (z : ℤ) (d : ℕ) → 0 < d → 2 * nat_abs (nearest_even z d *ℤ pos d -ℤ z) ≤ d
unfolding nearest_even
nearest_even-off z d h = nearest_by-off half_even z d (half_even-nearest (nat_abs z) d h)

-- ---- and where nearest_even is off by one half, it is even

-- off by one half, so beside an exact half
exact_half : (n d : ℕ) → 0 < d → let r = half_even n d in 2 * ((r * d - n) + (n - r * d)) ≡ d → 2 * (n % d) ≡ d
exact_half n d some =
    half_even-by n d some (λ r. 2 * ((r * d - n) + (n - r * d)) ≡ d → 2 * (n % d) ≡ d) (λ l e. omega (arith, division n d some))
    (λ h e. omega (arith, division n d some, left_over n d some))
    (λ half e. half)

pub nearest_even-even : (z : ℤ) (d : ℕ) → 0 < d → 2 * nat_abs (nearest_even z d *ℤ pos d -ℤ z) ≡ d → nat_abs (nearest_even z d) % 2 ≡ 0
unfolding nearest_even
nearest_even-even z d some h =
    rw (nearest_even-size z d)
    (half_even-even (nat_abs z) d some (exact_half (nat_abs z) d some (omega (arith, distance half_even z d))))

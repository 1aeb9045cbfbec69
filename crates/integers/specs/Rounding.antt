-- A quotient taken to the nearest whole number, by what the division leaves over.
use Rattle.std.specs.Prelude.{◌≡◌, cond, ℕ, ◌+◌, ◌*◌, ◌/◌, ◌%◌, ◌≤◌, ◌<◌, ltb, ℤ, nat_abs}
use Rattle.std.proofs.Common.{div-add-mod', le_antisymm, mod-lt, mul-le-mul_right}
use native.Mathlib.Omega.{arith, by_contra}
use borrow.Author.Tests.{ltb-true, ltb-false}
use Rattle.integers.specs.Choice.{by_cases}
use Rattle.integers.specs.Sign.{from_sign, is_negative}

-- n / d nearest, an exact half going up
unfoldable pub half_up : ℕ → ℕ → ℕ
half_up n d = cond (ltb (2 * (n % d)) d) (n / d) (n / d + 1)

-- n / d nearest, an exact half going to the even neighbour
unfoldable pub half_even : ℕ → ℕ → ℕ
half_even n d = cond (ltb (2 * (n % d)) d) (n / d) (cond (ltb d (2 * (n % d))) (n / d + 1) (n / d + (n / d) % 2))

-- z / d by its magnitude, the sign apart: what lies below zero mirrors what lies above
abbrev pub nearest_by : (ℕ → ℕ → ℕ) → ℤ → ℕ → ℤ
nearest_by rounding z d = from_sign (is_negative z) (rounding (nat_abs z) d)

-- z / d nearest, an exact half going to the even neighbour
unfoldable pub nearest_even : ℤ → ℕ → ℤ
nearest_even z d = nearest_by half_even z d

-- ---- what half_up and half_even mean

-- r is off from n / d by at most one half
pub record Nearest (n d r : ℕ) : Type 0 where
  pub not_above : 2 * (r * d) ≤ 2 * n + d
  pub not_below : 2 * n ≤ 2 * (r * d) + d

module _ (n d : ℕ) (some : 0 < d) where
  pub division : n / d * d + n % d ≡ n
  division = div-add-mod' n d

  pub left_over : n % d < d
  left_over = mod-lt n some

  odd_part : n / d % 2 * d ≤ 1 * d
  odd_part = mul-le-mul_right d (omega arith)

  pub half_up-nearest : Nearest n d (half_up n d)
  unfolding half_up
  half_up-nearest =
      by_cases (Nearest n d) (ltb (2 * (n % d)) d) (n / d) (n / d + 1) (λ e. omega (arith, ltb-true, division))
      (λ e. omega (arith, ltb-false, division, left_over))

  -- and at a half it is the greater neighbour
  pub half_up-up : 2 * n < 2 * (half_up n d * d) + d
  unfolding half_up
  half_up-up =
      by_cases (λ r. 2 * n < 2 * (r * d) + d) (ltb (2 * (n % d)) d) (n / d) (n / d + 1) (λ e. omega (arith, ltb-true, division))
      (λ e. omega (arith, ltb-false, division, left_over))

  -- what holds below a half, above it and at it
  pub half_even-by : (P : ℕ → Type 0) → (2 * (n % d) < d → P (n / d)) → (d < 2 * (n % d) → P (n / d + 1)) →
      (2 * (n % d) ≡ d → P (n / d + n / d % 2)) → P (half_even n d)
  unfolding half_even
  half_even-by P low high half =
      by_cases P (ltb (2 * (n % d)) d) (n / d) (cond (ltb d (2 * (n % d))) (n / d + 1) (n / d + n / d % 2))
      (λ e. low (ltb-true (2 * (n % d)) d e))
      (λ e. by_cases P (ltb d (2 * (n % d))) (n / d + 1) (n / d + n / d % 2) (λ f. high (ltb-true d (2 * (n % d)) f))
      (λ f. half (omega (arith, ltb-false (2 * (n % d)) d e, ltb-false d (2 * (n % d)) f))))

  pub half_even-nearest : Nearest n d (half_even n d)
  half_even-nearest =
      half_even-by (Nearest n d) (λ l. omega (arith, division)) (λ h. omega (arith, division, left_over))
      (λ e. omega (arith, division, odd_part))

  -- and at a half it is the even neighbour
  pub half_even-even : 2 * (n % d) ≡ d → half_even n d % 2 ≡ 0
  half_even-even e =
      half_even-by (λ r. r % 2 ≡ 0) (λ l. absurd (omega arith)) (λ h. absurd (omega arith)) (λ _. omega arith)

  -- an exact half has two neighbours, n / d and n / d + 1; both are off by one half, and no other number is nearest
  pub half_lower : 2 * (n % d) ≡ d → Nearest n d (n / d)
  half_lower h = omega (arith, division)

  pub half_upper : 2 * (n % d) ≡ d → Nearest n d (n / d + 1)
  half_upper h = omega (arith, division)

  pub nearest_least : (r : ℕ) → Nearest n d r → n / d ≤ r
  nearest_least r h = by_contra (n / d) r (λ l. absurd (omega (arith, division, left_over, h, some, mul-le-mul_right d l)))

  pub nearest_most : (r : ℕ) → Nearest n d r → r ≤ n / d + 1
  nearest_most r h = by_contra r (n / d + 1) (λ l. absurd (omega (arith, division, left_over, h, some, mul-le-mul_right d l)))

  not_greater : (r s : ℕ) → Nearest n d r → Nearest n d s → (2 * (n % d) ≡ d → ⊥) → r ≤ s
  not_greater r s h k never =
      by_contra r s (λ l. absurd
      (never (omega (
        arith,
        division,
        left_over,
        nearest_least s k,
        nearest_most r h,
        h,
        k,
        mul-le-mul_right d l,
        mul-le-mul_right d (nearest_least s k),
        mul-le-mul_right d (nearest_most r h),
      ))))

  -- away from an exact half one number alone is nearest
  pub nearest_one : (r s : ℕ) → Nearest n d r → Nearest n d s → (2 * (n % d) ≡ d → ⊥) → r ≡ s
  nearest_one r s h k never = le_antisymm (not_greater r s h k never) (not_greater s r k h never)

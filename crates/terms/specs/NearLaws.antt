-- Rounding a fraction, adding and limiting keep a stored output near its fraction, for any fraction
-- with a positive denominator.
use Rattle.std.specs.Prelude.{◌≡◌, Bool, cond, ℕ, ◌+◌, ◌*◌, ◌/◌, ◌%◌, ◌≤◌, ◌<◌, ℤ, nat_abs, ◌+ℤ◌, ◌-ℤ◌, ◌*ℤ◌}
use Rattle.std.proofs.Math.Path.{refl}
use Rattle.std.proofs.Math.Bool.{true, false}
use Rattle.std.proofs.Common.{mul-le-mul_right, le_of_mul-le-mul_right, mul-pos, arith}
use Rattle.std.proofs.Math.IntN.{pos}
use Rattle.std.specs.Int.Signed.{lt_z}
use Rattle.integers.specs.Choice.{by_cases}
use Rattle.integers.specs.Limit as Limit
use Rattle.integers.specs.Parts.{above, below}
use Rattle.integers.specs.Rounding.{half_lower, half_upper}
use Rattle.integers.specs.RoundingLaws.{nearest_by-off, nearest_even-off}
use Rattle.integers.specs.Sign.{from_sign, is_negative}
use Rattle.integers.specs.Split.{Split, split_self, split_sum, split_difference, split_times, size_in, size_out, split_less, split_not_less}
use Rattle.terms.specs.Fraction.{Fraction, Positive, whole, plus, at_least, at_most, limited, stored, stored_units, limited_stored}
use Rattle.terms.specs.Near.{Near}

-- ---- a distance over natural numbers: the stored output is p - q, the fraction's numerator a - b, its denominator d

record Gap (p q a b d halves : ℕ) : Type 0 where
  not_above : 2 * (p * d + b * 65536) ≤ 2 * (q * d + a * 65536) + halves * d
  not_below : 2 * (q * d + a * 65536) ≤ 2 * (p * d + b * 65536) + halves * d

module _ (x : ℤ) (f : Fraction) (halves : ℕ) {p q a b : ℕ} (xs : Split x p q) (fs : Split f.numerator a b) where
  gap_split : Split (x *ℤ pos f.denominator -ℤ stored_units f.numerator) (p * f.denominator + b * 65536)
      (q * f.denominator + a * 65536)
  unfolding stored_units
  gap_split =
      split_difference (x *ℤ pos f.denominator) (stored_units f.numerator) (split_times x f.denominator xs)
      (split_times f.numerator 65536 fs)

  out_of : Near x f halves → Gap p q a b f.denominator halves
  out_of h = omega (arith, size_out (x *ℤ pos f.denominator -ℤ stored_units f.numerator) gap_split, h.near)

  into : Positive f → Gap p q a b f.denominator halves → Near x f halves
  into some h =
      record {
        positive = some;
        near =
            size_in (x *ℤ pos f.denominator -ℤ stored_units f.numerator) (halves * f.denominator) gap_split h.not_above
            h.not_below;
      }

-- ---- a rounded fraction is off by at most one half of 1/65,536

pub stored_near : (f : Fraction) → Positive f → Near (stored f) f 1
unfolding stored
stored_near f h = record { positive = h; near = omega (arith, nearest_even-off (stored_units f.numerator) f.denominator h) }

-- document 01: "At an exact half either neighbour may stand". The two, by sign and magnitude, are each off by one half
pub neighbours_near : (f : Fraction) → Positive f → let z = stored_units f.numerator in let d = f.denominator in
    2 * (nat_abs z % d) ≡ d → Near (from_sign (is_negative z) (nat_abs z / d)) f 1 ×
    Near (from_sign (is_negative z) (nat_abs z / d + 1)) f 1
neighbours_near f some half =
    let z = stored_units f.numerator in
    let d = f.denominator in
    let lower = nearest_by-off (λ n d. n / d) z d (half_lower (nat_abs z) d some half) in
    let upper = nearest_by-off (λ n d. n / d + 1) z d (half_upper (nat_abs z) d some half) in
    (record { positive = some; near = omega (arith, lower) }, record { positive = some; near = omega (arith, upper) })

-- whole units are stored exactly
pub whole_near : (units : ℤ) (halves : ℕ) → Near (stored_units units) (whole units) halves
unfolding stored_units whole
whole_near units halves =
    into (stored_units units) (whole units) halves (split_times units 65536 (split_self units)) (split_self units) (omega arith)
    (omega arith)

-- what is near is near by any greater number
pub near_more : (x : ℤ) (f : Fraction) (j k : ℕ) → j ≤ k → Near x f j → Near x f k
near_more x f j k h n = record { positive = n.positive; near = omega (arith, mul-le-mul_right f.denominator h, n.near) }

-- ---- distances add

gap_add : (p q a b d j p₁ q₁ a₁ b₁ d₁ k : ℕ) → Gap p q a b d j → Gap p₁ q₁ a₁ b₁ d₁ k →
    Gap (p + p₁) (q + q₁) (a * d₁ + a₁ * d) (b * d₁ + b₁ * d) (d * d₁) (j + k)
gap_add p q a b d j p₁ q₁ a₁ b₁ d₁ k h l =
    omega (
      arith,
      mul-le-mul_right d₁ h.not_above,
      mul-le-mul_right d₁ h.not_below,
      mul-le-mul_right d l.not_above,
      mul-le-mul_right d l.not_below,
    )

pub plus_near : (x y : ℤ) (f g : Fraction) (j k : ℕ) → Near x f j → Near y g k → Near (x +ℤ y) (plus f g) (j + k)
unfolding plus
plus_near x y f g j k h l =
    into (x +ℤ y) (plus f g) (j + k) (split_sum x y (split_self x) (split_self y))
    (split_sum (f.numerator *ℤ pos g.denominator) (g.numerator *ℤ pos f.denominator)
    (split_times f.numerator g.denominator (split_self f.numerator))
    (split_times g.numerator f.denominator (split_self g.numerator)))
    (mul-pos h.positive l.positive)
    (gap_add _ _ _ _ _ _ _ _ _ _ _ _ (out_of x f j (split_self x) (split_self f.numerator) h)
    (out_of y g k (split_self y) (split_self g.numerator) l))

-- ---- limiting to the same bounds does not increase a distance. A bound is u - v; turned about, the
-- lower bound's cases are the upper bound's

mirror : {p q a b d halves : ℕ} → Gap p q a b d halves → Gap q p b a d halves
mirror h = record { not_above = h.not_below; not_below = h.not_above }

-- the stored output comes to the bound, the fraction is past it already
stored_moves : (p q a b d halves u v : ℕ) → Gap p q a b d halves → p + v * 65536 < u * 65536 + q → u * d + b ≤ a + v * d →
    Gap (u * 65536) (v * 65536) a b d halves
stored_moves p q a b d halves u v n h l = omega (arith, mul-le-mul_right d h, n.not_below)

-- the fraction comes to the bound, the stored output is past it already
fraction_moves : (p q a b d halves u v : ℕ) → 0 < d → Gap p q a b d halves → u * 65536 + q ≤ p + v * 65536 → a + v * d < u * d + b →
    Gap p q u v 1 halves
fraction_moves p q a b d halves u v some n h l =
    let m : (2 * (p + v * 65536)) * d ≤ (2 * (q + u * 65536) + halves) * d = omega (arith, n.not_above) in
    omega (arith, le_of_mul-le-mul_right m some)

module _ (bound x : ℤ) (f : Fraction) (halves : ℕ) (near : Near x f halves) where
  some : Positive f
  some = near.positive

  xs : Split x (above x) (below x)
  xs = split_self x

  fs : Split f.numerator (above f.numerator) (below f.numerator)
  fs = split_self f.numerator

  bounds : (d : ℕ) → Split (bound *ℤ pos d) (above bound * d) (below bound * d)
  bounds d = split_times bound d (split_self bound)

  gap_now : Gap (above x) (below x) (above f.numerator) (below f.numerator) f.denominator halves
  gap_now = out_of x f halves xs fs near

  pub at_least-near : Near (Limit.at_least (stored_units bound) x) (at_least bound f) halves
  unfolding Limit.at_least at_least whole stored_units
  at_least-near = go (lt_z x (bound *ℤ pos 65536)) refl (lt_z f.numerator (bound *ℤ pos f.denominator)) refl
    where
      go : (s : Bool) → lt_z x (bound *ℤ pos 65536) ≡ s → (t : Bool) → lt_z f.numerator (bound *ℤ pos f.denominator) ≡ t →
          Near (cond s (bound *ℤ pos 65536) x) (cond t (whole bound) f) halves
      go true e true g = whole_near bound halves
      go true e false g =
          into (bound *ℤ pos 65536) f halves (bounds 65536) fs some
          (stored_moves _ _ _ _ _ _ (above bound) (below bound) gap_now (split_less _ _ xs (bounds 65536) e)
          (split_not_less _ _ fs (bounds f.denominator) g))
      go false e true g =
          into x (whole bound) halves xs (split_self bound) (omega arith)
          (fraction_moves _ _ _ _ _ _ (above bound) (below bound) some gap_now (split_not_less _ _ xs (bounds 65536) e)
          (split_less _ _ fs (bounds f.denominator) g))
      go false e false g = near

  pub at_most-near : Near (Limit.at_most (stored_units bound) x) (at_most bound f) halves
  unfolding Limit.at_most at_most whole stored_units
  at_most-near = go (lt_z (bound *ℤ pos 65536) x) refl (lt_z (bound *ℤ pos f.denominator) f.numerator) refl
    where
      go : (s : Bool) → lt_z (bound *ℤ pos 65536) x ≡ s → (t : Bool) → lt_z (bound *ℤ pos f.denominator) f.numerator ≡ t →
          Near (cond s (bound *ℤ pos 65536) x) (cond t (whole bound) f) halves
      go true e true g = whole_near bound halves
      go true e false g =
          into (bound *ℤ pos 65536) f halves (bounds 65536) fs some
          (mirror (stored_moves _ _ _ _ _ _ (below bound) (above bound) (mirror gap_now) (omega (arith, split_less _ _ (bounds 65536) xs e))
          (omega (arith, split_not_less _ _ (bounds f.denominator) fs g))))
      go false e true g =
          into x (whole bound) halves xs (split_self bound) (omega arith)
          (mirror (fraction_moves _ _ _ _ _ _ (below bound) (above bound) some (mirror gap_now)
          (omega (arith, split_not_less _ _ (bounds 65536) xs e)) (omega (arith, split_less _ _ (bounds f.denominator) fs g))))
      go false e false g = near

-- ---- denominators stay positive

pub at_least-positive : (low : ℤ) (f : Fraction) → Positive f → Positive (at_least low f)
unfolding at_least whole
at_least-positive low f h =
    by_cases Positive (lt_z f.numerator (low *ℤ pos f.denominator)) (whole low) f (λ e. omega arith) (λ e. h)

pub limited_positive : (low high : ℤ) (f : Fraction) → Positive f → Positive (limited low high f)
unfolding limited at_most whole
limited_positive low high f h =
    let g = at_least low f in
    by_cases Positive (lt_z (high *ℤ pos g.denominator) g.numerator) (whole high) g (λ e. omega arith) (λ e. at_least-positive low f h)

pub limited_near : (low high x : ℤ) (f : Fraction) (halves : ℕ) → Near x f halves →
    Near (limited_stored low high x) (limited low high f) halves
unfolding limited limited_stored Limit.limited
limited_near low high x f halves n =
    at_most-near high _ _ halves (at_least-near low x f halves n)

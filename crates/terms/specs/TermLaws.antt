-- The stored term by sign and magnitude, as 64 bits can compute it; what its arguments' ranges come to;
-- and that it is near its exact term.
use Rattle.std.specs.Prelude.{◌≡◌, Bool, not, cond, ℕ, ◌+◌, ◌*◌, ◌≤◌, ◌<◌, min, ℤ, neg_ℤ, nat_abs, ◌*ℤ◌, eqb, leb}
use Rattle.std.proofs.Math.Path.{refl, ap}
use Rattle.std.proofs.Common.{sym, ◌∙◌, subst, eq-or-lt_of_le, le_of_mul-le-mul_right}
use Rattle.std.proofs.Math.Bool.{true, false}
use Rattle.std.proofs.Math.Logic.{⊎_elim}
use Rattle.std.proofs.Math.Nat.{one-le-mul}
use native.Mathlib.Omega.{arith}
use Rattle.std.proofs.Math.IntN.{pos}
use Rattle.std.specs.Int.Signed.{lt_z}
use borrow.Author.Tests.{ne_eqb, eqb-false, leb-true, leb-false}
use Rattle.integers.specs.Choice.{by_cases}
use Rattle.integers.specs.Operations.{negation, bounded}
use Rattle.integers.specs.Parts.{integers}
use Rattle.integers.specs.Rounding.{half_even, half_even-nearest, nearest_even}
use Rattle.integers.specs.RoundingLaws.{half_even-whole, nearest_even-from_sign}
use Rattle.integers.specs.Sign.{from_sign, is_negative, from_sign-times, nat_abs-from_sign, sign_and_size, negate-from_sign, times_is}
use Rattle.terms.specs.Fraction.{Fraction, Positive, whole, at_least, at_most, limited, stored, stored_units}
use Rattle.terms.specs.Near.{Near}
use Rattle.terms.specs.NearLaws.{stored_near, limited_positive}
use Rattle.terms.specs.Terms.{limited_term, stored_term, proportional_term, integral_term}
use Rattle.terms.specs.Terms.{derivative_term, scan_numerator, scan_denominator, TuningRange}
use Rattle.terms.specs.declared.Tuning.{Tuning}

abbrev pub over : ℤ → ℕ → Fraction
over n d = record { numerator = n; denominator = d }

-- what 64 bits ask of a fraction: once limited, its numerator is small enough to be taken 65,536 times
pub record Storable (n d : ℕ) : Type 0 where
  pub some : 1 ≤ d
  pub small : min n (10000 * d) ≤ 100000000000000

-- ---- a fraction within the limits is kept, one beyond them comes to the limit

module _ (n d : ℕ) where
  above_lower : (minus : Bool) → n ≤ 10000 * d → lt_z (from_sign minus n) (neg_ℤ (pos 10000) *ℤ pos d) ≡ false
  above_lower true h = omega (arith, integers, negation (pos n), negation (pos (10000 * d)))
  above_lower false h = omega (arith, integers, negation (pos (10000 * d)))

  below_upper : (minus : Bool) → n ≤ 10000 * d → lt_z (pos 10000 *ℤ pos d) (from_sign minus n) ≡ false
  below_upper true h = omega (arith, integers, negation (pos n))
  below_upper false h = omega (arith, integers)

  within : (minus : Bool) → n ≤ 10000 * d → limited_term (over (from_sign minus n) d) ≡ over (from_sign minus n) d
  unfolding limited_term limited at_most at_least
  within minus h = simp (above_lower minus h, below_upper minus h)

  beyond : (minus : Bool) → 10000 * d < n → limited_term (over (from_sign minus n) d) ≡ whole (from_sign minus 10000)
  unfolding limited_term limited at_most at_least whole
  beyond true h =
      let low : lt_z (neg_ℤ (pos n)) (neg_ℤ (pos 10000) *ℤ pos d) ≡ true =
      omega (arith, integers, negation (pos n), negation (pos (10000 * d))) in
      simp low
  beyond false h =
      let kept : lt_z (pos n) (neg_ℤ (pos 10000) *ℤ pos d) ≡ false = omega (arith, integers, negation (pos (10000 * d))) in
      let high : lt_z (pos 10000 *ℤ pos d) (pos n) ≡ true = omega (arith, integers) in
      simp (kept, high)

  stored_parts : (minus : Bool) → 0 < d → from_sign minus (half_even (n * 65536) d) ≡ stored (over (from_sign minus n) d)
  unfolding stored stored_units
  stored_parts minus some = rw from_sign-times (sym (nearest_even-from_sign minus (n * 65536) d some))

  pub term_within : (minus : Bool) → 0 < d → n ≤ 10000 * d →
      from_sign minus (half_even (n * 65536) d) ≡ stored_term (over (from_sign minus n) d)
  unfolding stored_term
  term_within minus some h = stored_parts minus some ∙ ap stored (sym (within minus h))

  stored_limit : (minus : Bool) → from_sign minus 655360000 ≡ stored (whole (from_sign minus 10000))
  unfolding stored stored_units nearest_even whole half_even
  stored_limit true = refl
  stored_limit false = refl

  pub term_limited : (minus : Bool) → 0 < d → 10000 * d ≤ n → from_sign minus 655360000 ≡ stored_term (over (from_sign minus n) d)
  unfolding stored_term
  term_limited minus some h =
      ⊎_elim
      (λ (e : 10000 * d ≡ n).
      let size : half_even (n * 65536) d ≡ 655360000 =
      (let k : n * 65536 ≡ 655360000 * d = omega arith in rw k (half_even-whole 655360000 d some)) in
      ap (from_sign minus) (sym size) ∙ term_within minus some (omega arith))
      (λ (l : 10000 * d < n). stored_limit minus ∙ ap stored (sym (beyond minus l)))
      (eq-or-lt_of_le h)

-- ---- a stored term is off by at most one half of 1/65,536 from its limited exact term

pub term_near : (f : Fraction) → Positive f → Near (stored_term f) (limited_term f) 1
unfolding stored_term limited_term
term_near f h = stored_near (limited (neg_ℤ (pos 10000)) (pos 10000) f) (limited_positive (neg_ℤ (pos 10000)) (pos 10000) f h)

-- ---- a stored term is at most 10,000 units either way, so three of them may be added to an output in 64 bits

size_by_parts : (minus : Bool) (n d : ℕ) → 0 < d → nat_abs (stored_term (over (from_sign minus n) d)) ≤ 655360000
size_by_parts minus n d some = go (leb n (10000 * d)) refl
  where
    most : n ≤ 10000 * d → half_even (n * 65536) d ≤ 655360000
    most h =
        let twice : 2 * half_even (n * 65536) d * d ≤ (2 * 655360000 + 1) * d = omega (arith, half_even-nearest (n * 65536) d some) in
        omega (arith, le_of_mul-le-mul_right twice some)

    go : (t : Bool) → leb n (10000 * d) ≡ t → nat_abs (stored_term (over (from_sign minus n) d)) ≤ 655360000
    go true e =
        let h = leb-true n (10000 * d) e in
        rw (← (term_within n d minus some h), nat_abs-from_sign) (most h)
    go false e =
        let h = leb-false n (10000 * d) e in
        rw (← (term_limited n d minus some (omega arith)), nat_abs-from_sign) (omega arith)

pub term_size : (f : Fraction) → Positive f → nat_abs (stored_term f) ≤ 655360000
term_size f some =
    subst (λ (z : ℤ). nat_abs (stored_term (over z f.denominator)) ≤ 655360000) (sign_and_size f.numerator)
    (size_by_parts (is_negative f.numerator) (nat_abs f.numerator) f.denominator some)

-- ---- what the arguments' ranges come to

module _ (t : Tuning) (tuned : TuningRange t) where
  pub band_some : 1 ≤ t.xp * t.span
  band_some = one-le-mul tuned.xp_some tuned.span_some

  pub band_most : t.xp * t.span ≤ 9999 * 19998
  band_most = bounded 9999 19998 tuned.xp_most tuned.span_most

  pub scan_numerator_range : (1 ≤ scan_numerator t) × (scan_numerator t ≤ 9)
  scan_numerator_range = by_cases (λ k. (1 ≤ k) × (k ≤ 9)) t.minutes 3 9 (λ e. omega arith) (λ e. omega arith)

  pub scan_denominator_range : (1 ≤ scan_denominator t) × (scan_denominator t ≤ 500)
  scan_denominator_range = by_cases (λ k. (1 ≤ k) × (k ≤ 500)) t.minutes 500 25 (λ e. omega arith) (λ e. omega arith)

-- ---- the exact terms by sign and magnitude

pub proportional_parts : (t : Tuning) (change : ℤ) →
    over (from_sign (is_negative change) (10000000 * nat_abs change)) (t.xp * t.span) ≡ proportional_term t change
unfolding proportional_term
proportional_parts t change = rw times_is

pub integral_none : (t : Tuning) (c : ℤ) → t.ti ≡ 0 → pos 0 ≡ stored_term (integral_term t c)
unfolding integral_term stored_term limited_term limited at_most at_least whole stored stored_units nearest_even half_even
integral_none t c none = simp none

pub integral_parts : (t : Tuning) (c : ℤ) → (t.ti ≡ 0 → ⊥) →
    over (from_sign (is_negative c) (10000000 * nat_abs c * scan_numerator t)) (t.xp * t.span * scan_denominator t * t.ti) ≡
    integral_term t c
unfolding integral_term
integral_parts t c some = simp (ne_eqb t.ti 0 some) (rw (times_is, from_sign-times))

-- whether a term is below zero whose sign is turned unless it is kept
abbrev pub turned : Bool → Bool → Bool
turned keep minus = cond keep minus (not minus)

turned_sign : (keep minus : Bool) (m : ℕ) → from_sign (turned keep minus) m ≡ cond keep (from_sign minus m) (neg_ℤ (from_sign minus m))
turned_sign true minus m = refl
turned_sign false minus m = sym (negate-from_sign minus m)

pub derivative_parts : (t : Tuning) (d : ℤ) →
    over (from_sign (turned t.inverted (is_negative d)) (10000000 * nat_abs d * scan_denominator t * t.td))
    (scan_numerator t * (t.xp * t.span)) ≡ derivative_term t d
unfolding derivative_term
derivative_parts t d = rw (turned_sign, times_is, from_sign-times, from_sign-times)

-- ---- every exact term has a positive denominator, so `term_near` speaks of it

module _ (t : Tuning) (tuned : TuningRange t) where
  pub proportional_positive : (change : ℤ) → Positive (proportional_term t change)
  unfolding proportional_term
  proportional_positive change = band_some t tuned

  pub integral_positive : (c : ℤ) → Positive (integral_term t c)
  unfolding integral_term whole
  integral_positive c =
      by_cases Positive (eqb t.ti 0) (whole (pos 0))
      (over (pos 10000000 *ℤ c *ℤ pos (scan_numerator t)) (t.xp * t.span * scan_denominator t * t.ti)) (λ e. omega arith)
      (λ e. one-le-mul (one-le-mul (band_some t tuned) (scan_denominator_range t tuned).0) (omega (arith, eqb-false t.ti 0 e)))

  pub derivative_positive : (d : ℤ) → Positive (derivative_term t d)
  unfolding derivative_term
  derivative_positive d = one-le-mul (scan_numerator_range t tuned).0 (band_some t tuned)

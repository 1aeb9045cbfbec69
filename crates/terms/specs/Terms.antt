-- Document 01, section Terms: the three exact terms, in units, and what is stored of each. `Tuning` is
-- the struct of src/lib.rt.
use Rattle.std.specs.Prelude.{cond, ℕ, ◌*◌, ◌≤◌, eqb, ℤ, pos, neg_ℤ, ◌*ℤ◌}
use Rattle.terms.specs.Fraction.{Fraction, whole, limited, stored}
use Rattle.terms.specs.declared.Tuning.{Tuning}

-- "Proportional: 10,000,000 × (c - c1) / (XP × W)."
unfoldable pub proportional_term : Tuning → ℤ → Fraction
proportional_term t change = record { numerator = pos 10000000 *ℤ change; denominator = t.xp * t.span }

-- one scan of 36 ms in the unit of TI and TD: 9 / 25 of 0.1 s, "with S2.8 ON 3 and 500 for 9 and 25", 3
-- / 500 of 0.1 min
abbrev pub scan_numerator : Tuning → ℕ
scan_numerator t = cond t.minutes 3 9

abbrev pub scan_denominator : Tuning → ℕ
scan_denominator t = cond t.minutes 500 25

-- "Integral: 10,000,000 × c × 9 / (XP × W × 25 × TI), with S2.8 ON 3 and 500 for 9 and 25; 0 if TI is 0."
unfoldable pub integral_term : Tuning → ℤ → Fraction
integral_term t c =
    cond (eqb t.ti 0) (whole (pos 0))
    record {
      numerator = pos 10000000 *ℤ c *ℤ pos (scan_numerator t);
      denominator = t.xp * t.span * scan_denominator t * t.ti;
    }

-- "Derivative: -10,000,000 × D × 25 × TD / (9 × XP × W), with S2.8 ON 500 and 3 for 25 and 9; plus sign with S2.4 ON."
unfoldable pub derivative_term : Tuning → ℤ → Fraction
derivative_term t d =
    let product = pos 10000000 *ℤ d *ℤ pos (scan_denominator t) *ℤ pos t.td in
    record { numerator = cond t.inverted product (neg_ℤ product); denominator = scan_numerator t * (t.xp * t.span) }

-- "Each exact term is limited to ±10,000"
unfoldable pub limited_term : Fraction → Fraction
limited_term term = limited (neg_ℤ (pos 10000)) (pos 10000) term

-- "and then taken to a whole number of 1/65,536 units that is off by at most one half": the nearest,
-- and at an exact half, which document 01 leaves free between its two neighbours, the even one
unfoldable pub stored_term : Fraction → ℤ
stored_term term = stored (limited_term term)

-- the ranges of the parameter table for XP, TI and TD, and of W = 1H - 1L
pub record TuningRange (t : Tuning) : Type 0 where
  pub xp_some : 1 ≤ t.xp
  pub xp_most : t.xp ≤ 9999
  pub span_some : 1 ≤ t.span
  pub span_most : t.span ≤ 19998
  pub ti_most : t.ti ≤ 9999
  pub td_most : t.td ≤ 9999

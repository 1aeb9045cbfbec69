-- Fractions of two whole numbers, in units of the output, and the stored whole number of 1/65,536 units beside them.
use Rattle.std.specs.Prelude.{cond, ℕ, ◌*◌, ◌<◌, ℤ, pos, ◌+ℤ◌, ◌*ℤ◌}
use Rattle.std.specs.Int.Signed.{lt_z}
use Rattle.integers.specs.Limit as Limit
use Rattle.integers.specs.Rounding.{nearest_even}

pub record Fraction : Type 0 where
  pub numerator : ℤ
  pub denominator : ℕ

-- what every fraction of the rules is
abbrev pub Positive : Fraction → Type 0
Positive f = 0 < f.denominator

-- so many whole units
unfoldable pub whole : ℤ → Fraction
whole units = record { numerator = units; denominator = 1 }

unfoldable pub plus : Fraction → Fraction → Fraction
plus f g = record {
  numerator = f.numerator *ℤ pos g.denominator +ℤ g.numerator *ℤ pos f.denominator;
  denominator = f.denominator * g.denominator;
}

-- f, but low units where f is below low: f < low is f's numerator below low × its denominator
unfoldable pub at_least : ℤ → Fraction → Fraction
at_least low f = cond (lt_z f.numerator (low *ℤ pos f.denominator)) (whole low) f

unfoldable pub at_most : ℤ → Fraction → Fraction
at_most high f = cond (lt_z (high *ℤ pos f.denominator) f.numerator) (whole high) f

-- f limited to low..high units
unfoldable pub limited : ℤ → ℤ → Fraction → Fraction
limited low high f = at_most high (at_least low f)

-- ---- stored: in whole 1/65,536 units

-- so many whole units, stored
unfoldable pub stored_units : ℤ → ℤ
stored_units units = units *ℤ pos 65536

-- the whole number of 1/65,536 units nearest to f, an exact half going to the even neighbour
unfoldable pub stored : Fraction → ℤ
stored f = nearest_even (stored_units f.numerator) f.denominator

-- a stored output limited to low..high units
unfoldable pub limited_stored : ℤ → ℤ → ℤ → ℤ
limited_stored low high x = Limit.limited (stored_units low) (stored_units high) x

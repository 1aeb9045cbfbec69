-- How far a stored output may lie from a fraction.
use Rattle.std.specs.Prelude.{ℕ, ◌*◌, ◌≤◌, ℤ, pos, nat_abs, ◌-ℤ◌, ◌*ℤ◌}
use Rattle.terms.specs.Fraction.{Fraction, Positive, stored_units}

-- x, in 1/65,536 units, differs from f, in units, by at most so many halves of 1/65,536 unit: |x -
-- 65,536 × f| ≤ halves / 2, both sides times twice f's denominator
pub record Near (x : ℤ) (f : Fraction) (halves : ℕ) : Type 0 where
  pub positive : Positive f
  pub near : 2 * nat_abs (x *ℤ pos f.denominator -ℤ stored_units f.numerator) ≤ halves * f.denominator

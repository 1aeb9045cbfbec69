-- What the output becomes, step by step, and the laws that `grind` is told where outputs are computed.
use Rattle.std.specs.Prelude.{◌≡◌, refl, ℤ, ◌+ℤ◌}
use Rattle.integers.specs.Machine.{read_back}
use Rattle.setpoints.specs.ComputationLaws.{reading_back}
use Rattle.terms.specs.Fraction.{stored_units, limited_stored}
use Rattle.outputs.specs.Instruction.{keep, set_to, move_by, unlimited, between, stored_arithmetic, changed, limited_to}
use Rattle.outputs.specs.OutputLaws.{stored_back, stored_small, control_difference_most, earlier_reading}
use Rattle.outputs.specs.OutputLaws.{low_limit_most, high_limit_most, minimum_most, restarted_most}

pub kept : (x : ℤ) → changed stored_arithmetic keep x ≡ x
unfolding changed
kept x = refl

pub set : (units x : ℤ) → changed stored_arithmetic (set_to units) x ≡ stored_units units
unfolding changed stored_arithmetic
set units x = refl

pub moved : (units x : ℤ) → changed stored_arithmetic (move_by units) x ≡ x +ℤ stored_units units
unfolding changed stored_arithmetic
moved units x = refl

pub not_limited : (x : ℤ) → limited_to stored_arithmetic unlimited x ≡ x
unfolding limited_to
not_limited x = refl

pub limited : (low high x : ℤ) → limited_to stored_arithmetic (between low high) x ≡ limited_stored low high x
unfolding limited_to stored_arithmetic
limited low high x = refl

pub ruleset steps = (
  kept,
  set,
  moved,
  not_limited,
  limited,
  read_back,
  reading_back,
  stored_back,
  stored_small,
  control_difference_most,
  earlier_reading,
  low_limit_most,
  high_limit_most,
  minimum_most,
  restarted_most,
)

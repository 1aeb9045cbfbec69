-- Document 01, "The image": what an accepted restart makes of parameters 1 to 23 under a wrong sumcheck.
use Rattle.std.specs.Prelude.{◌||◌, ℕ, eqb, ℤ, pos, if◌then◌else◌}
use Rattle.integers.specs.Listed.{listed}
use Rattle.parameters.specs.Legal.{in_range, pair_in_order}
use Rattle.parameters.specs.Table.{value, with_value, rule_of, defaults}
use Rattle.parameters.specs.Written.{limited_anew}
use Rattle.parameters.specs.declared.Parameters.{Parameters}

abbrev pub default : ℕ → ℤ
default n = value (record { values = defaults }) n

-- "A wrong sumcheck also sets .. HO 9999, LO 0"
unfoldable pub widest_output : Parameters → Parameters
widest_output p = with_value (with_value p 15 (pos 9999)) 16 (pos 0)

-- "of parameters 1 to 23 save SL and RS a value out of its range takes its default": SL is 20 and RS 21
unfoldable pub ranged_value : Parameters → ℕ → ℤ
ranged_value p n = if eqb n 20 || eqb n 21 || in_range (rule_of n) (value p) (value p n) then value p n else default n

unfoldable pub by_range : Parameters → Parameters
by_range p = record { values = listed (ranged_value p) 0 24 }

-- "then a pair out of order both"
unfoldable pub paired_value : Parameters → ℕ → ℤ
paired_value p n = if pair_in_order (rule_of n) (value p) n (value p n) then value p n else default n

unfoldable pub by_pairs : Parameters → Parameters
by_pairs p = record { values = listed (paired_value p) 0 24 }

-- "then SL and RS as carried are limited"
unfoldable pub setpoint_and_ratio_limited : Parameters → Parameters
setpoint_and_ratio_limited p = limited_anew (limited_anew p 20 10 9) 21 8 7

unfoldable pub repaired : Parameters → Parameters
repaired p = setpoint_and_ratio_limited (by_pairs (by_range (widest_output p)))

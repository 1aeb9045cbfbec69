-- Document 01, "Parameters": what an accepted write does to parameters 1 to 23.
use Rattle.std.specs.Prelude.{ℕ, ℤ, if◌then◌else◌}
use Rattle.integers.specs.Limit.{limited}
use Rattle.parameters.specs.Table.{value, with_value, is_from}
use Rattle.parameters.specs.declared.Parameters.{Parameters}

-- the parameter n limited anew to the values of two others
unfoldable pub limited_anew : Parameters → ℕ → ℕ → ℕ → Parameters
limited_anew p n low high = with_value p n (limited (value p low) (value p high) (value p n))

-- "An accepted write of HS or LS limits SL anew, HR or LR limits RS": numbers 9 and 10 limit 20,
-- numbers 7 and 8 limit 21
unfoldable pub written : Parameters → ℕ → ℤ → Parameters
written p n v =
    let next = with_value p n v in
    if is_from n 9 10 then limited_anew next 20 10 9 else
    if is_from n 7 8 then limited_anew next 21 8 7 else next

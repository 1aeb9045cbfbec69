-- `controller_calls::filled::is_unchanged` meets its contract. The bytes passed are filled, so what holds of those
-- behind holds of all.
use mathlib.Core.Path.{◌≡◌}
use lib.ListN.{drop}
use Rattle.controller_calls.specs.Calls.{is_filled}
use Rattle.controller_calls.proofs.filled.is_unchanged.Given as goal

abbrev pub invariant-loop-i : goal.invariant-loop-i
invariant-loop-i l = is_filled (drop l.i l.buffer) ≡ is_filled (drop l.from l.buffer)

-- `numerals::value_of` meets its contract. What is left, read on from the value of the digits passed, is what the whole
-- reads.
use mathlib.Core.Path.{◌≡◌}
use Prim.Native.Nat.{◌^◌, ◌<◌}
use lib.ListN.{drop}
use Rattle.numerals.specs.Numerals.{read_on}
use Rattle.numerals.proofs.value_of.Given as goal

abbrev pub invariant-loop-b : goal.invariant-loop-b
invariant-loop-b l = (l.value < 2 ^ 64) × (read_on l.base 0 l.s ≡ read_on l.base l.value (drop l.b-index l.s))

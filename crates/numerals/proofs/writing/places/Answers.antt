-- `numerals::writing::places` meets its contract.
use mathlib.Core.Path.{sym}
use native.Mathlib.Omega.{arith}
use Rattle.numerals.specs.DigitLaws.{places_last, places_between}
use Rattle.numerals.proofs.writing.places.Goals as goal

pub returns-in-Some : goal.returns-in-Some
returns-in-Some c =
    let power = c.in-Some.ensures in
    let whole = places_between 10 (omega arith) c.args.n c.in-Some.power power.power_le power.next_power_gt in
    (omega arith, omega (arith, power.bound))

pub returns-in-None : goal.returns-in-None
returns-in-None c =
    let zero = c.in-None.ensures in
    (sym (places_last 10 (omega arith) c.args.n (omega (arith, zero.none))), omega arith)

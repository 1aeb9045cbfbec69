-- Document 01, "By whose hand a call is declined", and document 02: the numbers, and the tests of a scan.
use Rattle.std.specs.Prelude.{Bool, ◌||◌, List, [], ◌∷◌, ℕ, ltb, Result, Ok, Err, ⊤, if◌then◌else◌}
use Rattle.std.proofs.Math.Option.{Option, some, none}
use Rattle.signals.specs.Bits.{bit}
use Rattle.signals.specs.Clock.{ClockReading, is_too_early}
use Rattle.signals.specs.declared.Input.{Input}
use Rattle.signals.specs.declared.Refusal.{Refusal}
use Rattle.signals.specs.declared.Refusal.TheVariants.{Sample, ButtonBits, SensorBits, Number, ReadOnly, Range, Pair}
use Rattle.signals.specs.declared.Refusal.TheVariants.{Setpoint, RequestBits, RemotePin, Cause}
use Rattle.signals.specs.declared.Refusal.TheVariants.{ImageLength, ImageField, ImageValue, ShortBuffer, Clock, Mnemonic, ValueForm}
use Rattle.signals.specs.declared.Refusal.TheVariants.{ComputerPin, WriterRight}

-- the paper's number of each refusal
abbrev pub number_of : Refusal → ℕ
number_of Sample = 1
number_of ButtonBits = 2
number_of SensorBits = 3
number_of Number = 4
number_of ReadOnly = 5
number_of Range = 6
number_of Pair = 7
number_of Setpoint = 8
number_of RequestBits = 9
number_of RemotePin = 10
number_of Cause = 11
number_of ImageLength = 12
number_of ImageField = 13
number_of ImageValue = 14
number_of ShortBuffer = 15
number_of Clock = 16
number_of Mnemonic = 17
number_of ValueForm = 18
number_of ComputerPin = 19
number_of WriterRight = 20

-- what a call that answers no value comes to: accepted, or why not
abbrev pub Verdict : Type 0
Verdict = Result ⊤ Refusal

-- the number in a verdict: none where the call is accepted
abbrev pub number_in : Verdict → Option ℕ
number_in (Ok accepted) = none
number_in (Err refusal) = some (number_of refusal)

-- of two refusals that may apply, the first that does
abbrev pub first_of : Option ℕ → Option ℕ → Option ℕ
first_of none later = later
first_of (some n) later = some n

-- of tests listed in their order, the number of the first that holds. "Within a group the lowest number wins.": where
-- the papers name no other order it is that of the numbers
unfoldable pub refused_by : List (Bool × ℕ) → Option ℕ
refused_by [] = none
refused_by (t ∷ ts) = if t.0 then some t.1 else refused_by ts

-- "Plant: 1 a sample above 10000; 2 button bits 5 or 4 set; 3 sensor bits above 1 set."; document 02, request 2: "16
-- when the reading is less than 30 ms after the last accepted one or lies before it, tested after 3."
unfoldable pub scan_tests : ClockReading → Input → List (Bool × ℕ)
scan_tests last i =
    (ltb 10000 i.sample1 || ltb 10000 i.sample2 || ltb 10000 i.sample3, 1)
    ∷ (bit i.buttons 5 || bit i.buttons 4, 2)
    ∷ (ltb 3 i.sensors, 3)
    ∷ (is_too_early last i.milliseconds, 16)
    ∷ []

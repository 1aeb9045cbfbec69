-- Document 01, "The calls" and "One scan", Input: what the bits of the switch word, the pin byte, the button byte and
-- the sensor byte mean.
use Rattle.std.specs.Prelude.{Bool, ℕ, if◌then◌else◌}
use Rattle.signals.specs.Bits.{bit}
use Rattle.signals.specs.declared.Buttons.{Buttons}
use Rattle.signals.specs.declared.Input.{Input}
use Rattle.signals.specs.declared.Pins.{Pins}
use Rattle.signals.specs.declared.Adjustment.{Adjustment}
use Rattle.signals.specs.declared.Adjustment.TheVariants.{Raise, Lower, Neither}
use Rattle.signals.specs.declared.Switches.{Switches}

-- "SW bits 15 to 8 are switches S2.1 to S2.8 and bit 7 is S1.1, 1 = ON (004, 4.3.4). Used: S2.1 ratio, S2.2 display
-- inversion, S2.3 inverse ratio, S2.4 inverse output, S2.5 power fail, S2.6 setpoint tracks PV, S2.8 minutes, S1.1
-- balance off."
unfoldable pub switches_of : ℕ → Switches
switches_of sw =
    record {
      ratio = bit sw 15;
      displayinversion = bit sw 14;
      inverseratio = bit sw 13;
      inverseoutput = bit sw 12;
      powerfail = bit sw 11;
      setpointtracks = bit sw 10;
      minutes = bit sw 8;
      balanceoff = bit sw 7;
    }

-- "a pin byte (7 Hold, 6 Track, 5 Remote, 4 Computer, 3..0 unit address; 1 is 15 V)": the levels of the pins that
-- decide the mode
unfoldable pub pins_of : ℕ → Pins
pins_of pins = record { hold = bit pins 7; track = bit pins 6; remote = bit pins 5 }

-- "4 Computer", which decides whether the computer may write (document 02, request 6)
abbrev pub computer_pin : ℕ → Bool
computer_pin pins = bit pins 4

-- "a button byte laid out as MD bits 7..0 with 5 and 4 zero"; MD: "7 Lower, 6 Raise, .. 3 SP, 2 R, 1 A, 0 M"
unfoldable pub buttons_of : ℕ → Buttons
buttons_of buttons =
    record { lower = bit buttons 7; raise = bit buttons 6; sp = bit buttons 3; r = bit buttons 2; a = bit buttons 1; m = bit buttons 0 }

-- step 4: "Raise and Lower together do nothing."
unfoldable pub adjustment_of : Buttons → Adjustment
adjustment_of b =
    if b.raise then (if b.lower then Neither else Raise) else
    if b.lower then Lower else Neither

-- "a sensor byte (0 channel 1 open, 1 battery low)"
abbrev pub is_open : Input → Bool
is_open i = bit i.sensors 0

-- its other bit
abbrev pub battery_low : Input → Bool
battery_low i = bit i.sensors 1

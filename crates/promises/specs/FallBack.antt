-- Document 02, request 7: "If SP less trim lies within the limits, no call comes between, channel 3 is the same and
-- neither Raise nor Lower is pressed, then a Fall-back scan straight after a Remote one has its SP." Told over the
-- contracts of the two scans and of a read, by the modes that the answers carry, the numbers of parameters and the bits
-- of the input; SP is the stored one, which a read gives, and MD bit 4 (in `Trim`) too. Shared with the rules are the
-- types of the state and of answers, the bits of a word and the value of a parameter.
use Rattle.std.specs.Prelude.{◌≡◌, false, List, ℕ, ℤ, ◌-ℤ◌, ◌≤ℤ◌, Ok}
use Rattle.signals.specs.Bits.{bit}
use Rattle.signals.specs.declared.Input.{Input}
use Rattle.modes.specs.declared.Mode.{Mode}
use Rattle.modes.specs.declared.Mode.TheVariants.{Remote, Fallback}
use Rattle.answers.specs.declared.ScanValues.{ScanValues}
use Rattle.parameters.specs.Table.{value}
use Rattle.controller.specs.Answers.{Response, ReadAnswer}
use Rattle.controller.specs.declared.Controller.{Controller}
use Rattle.controller.specs.declared.ScanResult.{ScanResult}
use Rattle.guarantee.specs.Exact.{Calls, ◌then◌, scan, exact}
use Rattle.guarantee.specs.Linked.{ScanEnsures, ReadEnsures, Linked, ChainTo}
use Rattle.promises.specs.Scans.{Scaled, Trim}

-- an accepted scan of the controller d, whose answer carries this mode
pub record ScannedIn (mode : Mode) (d : Controller) (i : Input) (r : ScanResult) : Type 0 where
  pub made : ScanEnsures d i r
  pub values : ScanValues
  pub accepted : r.answer ≡ Ok values
  pub in_mode_lem : values.mode ≡ mode

-- what the sentence asks of the two scans; whatever else the inputs bring, the sensors, the other buttons, the other
-- channels and the clock among it, is free
pub record FallsBack (d : Controller) (i j : Input) (r q : ScanResult) (trim : ℤ) : Type 0 where
  -- "a Fall-back scan straight after a Remote one", "no call comes between": the second scan is made of the controller
  -- that the first has returned
  pub remote : ScannedIn Remote d i r
  pub fall_back : ScannedIn Fallback r.controller j q
  -- "SP less trim lies within the limits": LS is parameter 10, HS 9
  pub channel3 : ℤ
  pub trim_of : Trim d.core r.controller.core i channel3 trim
  pub not_below : value d.core.parameters 10 ≤ℤ (r.controller.core.readings.sp -ℤ trim)
  pub not_above : (r.controller.core.readings.sp -ℤ trim) ≤ℤ value d.core.parameters 9
  -- "channel 3 is the same": scaled to the same, as the same sample is
  pub same_channel3 : Scaled (value d.core.parameters 6) (value d.core.parameters 5) j.sample3 channel3
  -- "neither Raise nor Lower is pressed": button bits 6 and 7
  pub no_raise : bit j.buttons 6 ≡ false
  pub no_lower : bit j.buttons 7 ≡ false

-- "has its SP": the second scan leaves the SP of the first, and every read of SP, number 29, after each answers it.
-- "The exact controller follows the same amended step 5.": it has that SP after each, too
pub record SameSetpoint (word : ℕ) (calls : Calls) (i j : Input) (r q : ScanResult) : Type 0 where
  pub same : q.controller.core.readings.sp ≡ r.controller.core.readings.sp
  pub read_first : (a : ReadAnswer) → ReadEnsures r.controller 29 a → a ≡ Ok r.controller.core.readings.sp
  pub read_second : (a : ReadAnswer) → ReadEnsures q.controller 29 a → a ≡ Ok r.controller.core.readings.sp
  pub exact_first : (exact word (calls then scan i)).core.readings.sp ≡ r.controller.core.readings.sp
  pub exact_second : (exact word (calls then scan i then scan j)).core.readings.sp ≡ r.controller.core.readings.sp

-- of every controller that calls lead to
abbrev pub SetpointStays : Type 0
SetpointStays =
    (word : ℕ) (calls : Calls) (rs : List Response) (d : Controller) (i j : Input) (r q : ScanResult) (trim : ℤ) →
    Linked word calls rs d → FallsBack d i j r q trim → SameSetpoint word calls i j r q

-- there are such scans, with this trim and this SP: `worked` has some (specs/FallBackFigures.antt)
pub record FallBackExample (trim sp : ℤ) : Type 0 where
  pub word : ℕ
  pub calls : Calls
  pub d : Controller
  pub before : ChainTo word calls d
  pub i : Input
  pub j : Input
  pub r : ScanResult
  pub q : ScanResult
  pub falls_back : FallsBack d i j r q trim
  pub setpoint : r.controller.core.readings.sp ≡ sp

-- What the list of calls tells, by which of them were accepted: the consecutive open scans, the last reading of the
-- clock, the stored pin byte, what is remembered of earlier scans, and demand 3's n, the automatic scans since the
-- output was last set outright. "In demand 3 the conditions of step 3, the accepted automatic scans and the outright
-- settings are read from the exact controller."
use Rattle.std.specs.Prelude.{◌≡◌, Bool, true, false, not, ◌&&◌, ◌||◌, ℕ, ◌+◌, ℤ, if◌then◌else◌, None, Some}
use Rattle.signals.specs.Clock.{ClockReading}
use Rattle.signals.specs.Bits.{bit}
use Rattle.signals.specs.declared.Input.{Input}
use Rattle.rights.specs.declared.Writer.{Writer}
use Rattle.outputs.specs.declared.History.{History}
use Rattle.outputs.specs.declared.History.TheVariants.{Nothing, One, Two}
use Rattle.controller.specs.Scan.{Status}
use Rattle.controller.specs.declared.Core.{Core}
use Rattle.guarantee.specs.Clock.{recalled_at}
use Rattle.guarantee.specs.Exact.{Call, scan, write, restart, Calls, none, ◌then◌, is_accepted, exact, exact_answer}
use Rattle.guarantee.specs.ExactOutput.{to_minimum}
use Rattle.guarantee.specs.Modes.{mode_in, automatic_mode, track_mode, manual_or_forced}

-- ---- the open scans

-- consecutive open scans, told by the calls and by which of them were accepted: an accepted open scan
-- is one more, an accepted scan that isn't open starts anew, and so does an accepted restart; a refused
-- call and a write leave the count
unfoldable pub open_after : Call → Status → ℕ → ℕ
open_after (scan i) answer n = if not (is_accepted answer) then n else if bit i.sensors 0 then n + 1 else 0
open_after (write writer number value) answer n = n
open_after (restart image) answer n = if is_accepted answer then 0 else n

unfoldable pub open_scans : ℕ → Calls → ℕ
open_scans word none = 0
open_scans word (xs then x) = open_after x (exact_answer word xs x) (open_scans word xs)

-- ---- the clock: "the controller remembers the last accepted one"

-- an accepted scan's reading is the last; an accepted restart leaves none; a refused call and a write leave it
unfoldable pub reading_after : Call → Status → ClockReading → ClockReading
reading_after (scan i) answer last = if is_accepted answer then Some i.milliseconds else last
reading_after (write writer number value) answer last = last
reading_after (restart image) answer last = if is_accepted answer then None else last

-- "Until a scan is accepted after a fresh start": none
unfoldable pub last_reading : ℕ → Calls → ClockReading
last_reading word none = None
last_reading word (xs then x) = reading_after x (exact_answer word xs x) (last_reading word xs)

-- the last accepted scan of these calls has this input, and no restart was accepted after it
pub data LastScan (word : ℕ) (i : Input) : Calls → Type 0 where
  made : {xs : Calls} → is_accepted (exact_answer word xs (scan i)) ≡ true → LastScan word i (xs then scan i)
  refused_after : {xs : Calls} {x : Call} → LastScan word i xs → is_accepted (exact_answer word xs x) ≡ false → LastScan word i (xs then x)
  written_after : {xs : Calls} {w : Writer} {n : ℕ} {v : ℤ} → LastScan word i xs → LastScan word i (xs then write w n v)

-- such a scan is found wherever a reading is remembered: so what is said of the last scan is said of something
pub record LastScanAt (word milliseconds : ℕ) (calls : Calls) : Type 0 where
  pub input : Input
  pub last : LastScan word input calls
  pub reading : input.milliseconds ≡ milliseconds

abbrev pub LastScanFound : Type 0
LastScanFound =
    (word milliseconds : ℕ) (calls : Calls) → last_reading word calls ≡ Some milliseconds → LastScanAt word milliseconds calls

-- ---- the pins: "the stored pin byte, 80h after a start or restart"

-- an accepted scan's pin byte is stored; an accepted restart leaves 80h; a refused call and a write leave it
unfoldable pub pins_after : Call → Status → ℕ → ℕ
pins_after (scan i) answer pins = if is_accepted answer then i.pins else pins
pins_after (write writer number value) answer pins = pins
pins_after (restart image) answer pins = if is_accepted answer then 0x80 else pins

unfoldable pub last_pins : ℕ → Calls → ℕ
last_pins word none = 0x80
last_pins word (xs then x) = pins_after x (exact_answer word xs x) (last_pins word xs)

-- ---- what is remembered of earlier scans: the PV and SP of the last one, and the PV of the one before

abbrev pub remember : ℤ → ℤ → History → History
remember pv sp Nothing = One pv sp
remember pv sp (One pv1 sp1) = Two pv sp pv1
remember pv sp (Two pv1 sp1 pv2) = Two pv sp pv1

-- step 7: "An open scan forgets earlier PV and SP and isn't remembered; others are."; document 02, request 2: "After
-- more than 42 ms .. earlier PV and SP are forgotten first", by the last reading; a refused call and a write leave it;
-- "All earlier PV and SP are forgotten." by an accepted restart
unfoldable pub earlier_after : Core → ClockReading → Call → Status → History → History
earlier_after now last (scan i) answer h =
    if not (is_accepted answer) then h else
    if bit i.sensors 0 then Nothing else
    remember now.readings.pv now.readings.sp (recalled_at last i.milliseconds h)
earlier_after now last (write writer number value) answer h = h
earlier_after now last (restart image) answer h = if is_accepted answer then Nothing else h

-- "no earlier PV or SP remembered" by a fresh controller
unfoldable pub earlier : ℕ → Calls → History
earlier word none = Nothing
earlier word (xs then x) =
    earlier_after (exact word (xs then x)).core (last_reading word xs) x (exact_answer word xs x) (earlier word xs)

-- ---- n

-- "Track, minimum, start fresh and accepted restart set the output outright": an accepted scan in
-- Track, or one in Manual or Forced that goes to minimum, or an accepted restart
unfoldable pub sets_outright : Core → Core → Call → Bool
sets_outright before now (scan i) = track_mode (mode_in now) || manual_or_forced (mode_in now) && to_minimum before now
sets_outright before now (write writer number value) = false
sets_outright before now (restart image) = true

-- step 6: "Automatic and open: kept. Automatic otherwise, an automatic scan"
unfoldable pub is_automatic_scan : Core → Call → Bool
is_automatic_scan now (scan i) = automatic_mode (mode_in now) && not (bit i.sensors 0)
is_automatic_scan now (write writer number value) = false
is_automatic_scan now (restart image) = false

-- n after one call more
unfoldable pub count_after : Core → Core → Call → Status → ℕ → ℕ
count_after before now x answer n =
    if not (is_accepted answer) then n else
    if sets_outright before now x then 0 else
    if is_automatic_scan now x then n + 1 else n

unfoldable pub automatic_scans : ℕ → Calls → ℕ
automatic_scans word none = 0
automatic_scans word (xs then x) =
    count_after (exact word xs).core (exact word (xs then x)).core x (exact_answer word xs x) (automatic_scans word xs)

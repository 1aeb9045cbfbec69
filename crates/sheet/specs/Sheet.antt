-- Document 02, request 1: an empty sheet, and what a sheet holds after one more answer. What it comes to over a list of
-- answers is said apart (sheet_guarantee/specs/Meaning.antt).
use Rattle.std.specs.Prelude.{Option, None, Some, Ok, Err}
use Rattle.std.specs.Prelude.{Bool, not, ◌||◌, List, [], ◌∷◌, ℕ, ◌+◌, leb, ℤ, pos, ◌+ℤ◌, get_or, set, if◌then◌else◌}
use Rattle.std.specs.Int.Signed.{lt_z}
use Rattle.signals.specs.Bits.{bit}
use Rattle.modes.specs.declared.Mode.{Mode}
use Rattle.modes.specs.declared.Mode.TheVariants as mode
use Rattle.answers.specs.declared.ScanValues.{ScanValues}
use Rattle.sheet.specs.declared.Bound.{Bound}
use Rattle.sheet.specs.declared.Bound.TheVariants.{Greatest, Least}
use Rattle.sheet.specs.declared.EnterResult.{EnterResult}
use Rattle.sheet.specs.declared.Occurrence.{Occurrence}
use Rattle.sheet.specs.declared.Sheet.{Sheet}
use Rattle.sheet.specs.declared.SheetValues.{SheetValues}

-- ---- "how many scans in each of the eight modes": the counts stand in the priority order

abbrev pub place_of : Mode → ℕ
place_of mode.Hold = 0
place_of mode.Track = 1
place_of mode.Forced = 2
place_of mode.Manual = 3
place_of mode.Auto = 4
place_of mode.Remote = 5
place_of mode.Ratio = 6
place_of mode.Fallback = 7

unfoldable pub scans_in : SheetValues → Mode → ℕ
scans_in v m = get_or v.modes (place_of m) 0

-- one more of a mode
unfoldable pub counted : List ℕ → Mode → List ℕ
counted counts m = set counts (place_of m) (get_or counts (place_of m) 0 + 1)

-- ---- "the greatest and least PV with the number of the scan where each came first (none on an empty sheet)"

abbrev pub is_beyond : Bound → ℤ → ℤ → Bool
is_beyond Greatest pv other = lt_z other pv
is_beyond Least pv other = lt_z pv other

-- after a scan with this PV and number: an equal PV leaves the number, since the earlier one came first
abbrev pub extreme_after : Bound → Option Occurrence → ℤ → ℕ → Option Occurrence
extreme_after bound None pv number = Some (record { pv = pv; number = number })
extreme_after bound (Some first) pv number =
    Some (if is_beyond bound pv first.pv then record { pv = pv; number = number } else first)

-- ---- "scans with either alarm or both": DS bit 1 is 0 for the low alarm, bit 0 for the high one

abbrev pub has_alarm : ℕ → Bool
has_alarm ds = not (bit ds 0) || not (bit ds 1)

unfoldable pub alarms_after : ℕ → ℕ → ℕ
alarms_after alarms ds = if has_alarm ds then alarms + 1 else alarms

-- ---- the sheet

unfoldable pub empty_sheet : Sheet
empty_sheet =
    record {
      values = record {
        scans = 0;
        modes = 0 ∷ 0 ∷ 0 ∷ 0 ∷ 0 ∷ 0 ∷ 0 ∷ 0 ∷ [];
        greatest = None;
        least = None;
        alarms = 0;
        sumpv = pos 0;
        sumop = pos 0;
      };
    }

-- "fed by one accepted scan's answer after another, numbered from 1"
unfoldable pub taken : SheetValues → ScanValues → SheetValues
taken v a =
    let number = v.scans + 1 in
    record {
      scans = number;
      modes = counted v.modes a.mode;
      greatest = extreme_after Greatest v.greatest a.pv number;
      least = extreme_after Least v.least a.pv number;
      alarms = alarms_after v.alarms a.ds;
      sumpv = v.sumpv +ℤ a.pv;
      sumop = v.sumop +ℤ pos a.op;
    }

-- "A sheet holds up to 4,294,967,295 scans; the next one leaves it as it was and says full."
unfoldable pub entered : Sheet → ScanValues → EnterResult
entered s a =
    if leb 4294967295 s.values.scans then record { sheet = s; entry = Err (record {}) } else
    record { sheet = record { values = taken s.values a }; entry = Ok tt }

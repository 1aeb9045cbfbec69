-- Document 02, request 2, "The clock comes with the scan.": a reading beside the last accepted one.
use Rattle.std.specs.Prelude.{Bool, false, ◌||◌, ℕ, ◌-◌, ltb, Option, Some, None}

-- the reading of the last accepted scan, or none since a fresh start or a restart
abbrev pub ClockReading : Type 0
ClockReading = Option ℕ

-- "16 when the reading is less than 30 ms after the last accepted one or lies before it"; "Until a scan is accepted
-- after a fresh start or a restart, any reading is taken."
abbrev pub is_too_early : ClockReading → ℕ → Bool
is_too_early None now = false
is_too_early (Some last) now = ltb now last || ltb (now - last) 30

-- "From 30 to 42 ms is an ordinary scan. After more than 42 ms the scan is taken, but earlier PV and SP are forgotten
-- first.": whether it comes after such a gap. The first one doesn't
abbrev pub is_after_gap : ClockReading → ℕ → Bool
is_after_gap None now = false
is_after_gap (Some last) now = ltb 42 (now - last)

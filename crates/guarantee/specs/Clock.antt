-- Document 02, request 2, over again: what a reading is beside the last accepted one. Sums here have any size, so
-- nothing turns over at the end of 64 bits.
use Rattle.std.specs.Prelude.{Bool, false, ℕ, ◌+◌, ltb, if◌then◌else◌, None, Some}
use Rattle.signals.specs.Clock.{ClockReading}
use Rattle.signals.specs.declared.Input.{Input}
use Rattle.outputs.specs.declared.History.{History}
use Rattle.outputs.specs.declared.History.TheVariants.{Nothing}
use Rattle.controller.specs.declared.Core.{Core}

-- "16 when the reading is less than 30 ms after the last accepted one or lies before it"; "Until a scan is accepted
-- after a fresh start or a restart, any reading is taken."
abbrev pub too_soon : ClockReading → ℕ → Bool
too_soon None milliseconds = false
too_soon (Some last) milliseconds = ltb milliseconds (last + 30)

-- "After more than 42 ms"
abbrev pub after_gap : ClockReading → ℕ → Bool
after_gap None milliseconds = false
after_gap (Some last) milliseconds = ltb (last + 42) milliseconds

-- "the scan is taken, but earlier PV and SP are forgotten first": what a scan at this reading recalls
unfoldable pub recalled_at : ClockReading → ℕ → History → History
recalled_at last milliseconds h = if after_gap last milliseconds then Nothing else h

-- of a scan that was made in the state `before`
abbrev pub recalled_in : Core → Input → History
recalled_in before i = recalled_at before.clock i.milliseconds before.history

-- What comes of a line that is the terminal's, or brings the plant's pins, `pins N`.
use Rattle.std.specs.Prelude.{List, ◌++◌, ℕ, ◌+◌, ◌-◌, ◌^◌, leb, ltb, length, take, drop, if◌then◌else◌, ℤ, Option, None, Some}
use Rattle.numerals.specs.Parsed.{number_of}
use Rattle.signals.specs.Clock.{ClockReading}
use Rattle.text.specs.Arguments.{given, natural_in}
use Rattle.text.specs.Words.{same_bytes}
use Rattle.formatting.specs.Ascii.{ascii}
use Rattle.rights.specs.declared.Writer.{Writer}
use Rattle.signals.specs.declared.Input.{Input}
use Rattle.controller.specs.Answers as answers
use Rattle.controller.specs.Scan.{scan}
use Rattle.controller.specs.declared.Controller.{Controller}
use Rattle.terminal.specs.Terminal.{LineOutcome, reply, number, answered}

-- ---- `pins`, one blank and a number from 0 to 255

abbrev pub pins_from : Option ℤ → Option ℕ
pins_from read = given read (λ v. natural_in v 0 255)

-- any other line is the terminal's
unfoldable pub pins_in : List ℕ → Option ℕ
pins_in line =
    if ltb (length line) 5 then None else
    if same_bytes (take 5 line) (ascii "pins ") then pins_from (number_of 18 (drop 5 line)) else None

-- ---- the scan

-- 36 ms after the last one; the first at 36; at the end of 64 bits the clock stands still
abbrev pub reading_after : ClockReading → ℕ
reading_after None = 36
reading_after (Some milliseconds) = if leb milliseconds (2 ^ 64 - 37) then milliseconds + 36 else milliseconds

abbrev pub scan_input : ClockReading → ℕ → Input
scan_input last pins =
    record { pins = pins; sample1 = 5000; sample2 = 0; sample3 = 0; buttons = 0; sensors = 0; milliseconds = reading_after last }

-- a line of the program's own that is taken is answered `ok`
abbrev pub accepted : Controller → List ℕ → LineOutcome
accepted next bytes = record { next = next; answer = reply 2; buffer = ascii "ok" ++ drop 2 bytes }

-- so is a scan that is taken, any other with its refusal; a scan answers nothing else
unfoldable pub outcome_by : Controller → answers.Reply → List ℕ → LineOutcome
outcome_by next (answers.words md ds op electrical mode pv) bytes = accepted next bytes
outcome_by next (answers.number n) bytes = record { next = next; answer = number n; buffer = bytes }
outcome_by next (answers.reading v) bytes = record { next = next; answer = reply 0; buffer = bytes }
outcome_by next answers.acceptance bytes = record { next = next; answer = reply 0; buffer = bytes }

unfoldable pub scan_outcome : Controller → ℕ → List ℕ → LineOutcome
scan_outcome c pins bytes = let r = scan c (scan_input c.core.clock pins) in outcome_by r.next r.answer bytes

-- ---- the whole

-- a line of the terminal's carries the writer; the plant's pins need none
abbrev pub outcome_of_line : Option ℕ → Controller → Writer → List ℕ → List ℕ → LineOutcome
outcome_of_line (Some pins) c w line bytes = scan_outcome c pins bytes
outcome_of_line None c w line bytes = answered c w line bytes

unfoldable pub outcome_for : Controller → Writer → List ℕ → List ℕ → LineOutcome
outcome_for c w line bytes = outcome_of_line (pins_in line) c w line bytes

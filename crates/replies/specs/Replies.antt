-- The lines that answer commands, as bytes.
use Rattle.std.specs.Prelude.{◌≡◌, refl, List, ◌++◌, ℕ, ℤ, pos, take, None, Some}
use Rattle.signals.specs.Clock.{ClockReading}
use Rattle.modes.specs.declared.Mode.TheVariants.{Auto}
use Rattle.answers.specs.declared.ScanValues.{ScanValues}
use Rattle.sheet.specs.declared.Sheet.{Sheet}
use Rattle.numerals.specs.Numerals.{digit_byte, last_digits, places_within, places, digits, decimal, hexadecimal}
use Rattle.formatting.specs.Ascii.{ascii}
use Rattle.sheet_lines.specs.ModeWords.{mode_word}
use Rattle.sheet_lines.specs.SheetText.{sheet_text}
use Rattle.replies.specs.declared.Reply.{Reply}
use Rattle.replies.specs.declared.Reply.TheVariants.{Accepted, Value, Answer, Clock, Image, Line}
use Rattle.replies.specs.declared.Reply.TheVariants.{WholeSheet, Full, InvalidSheet, Number, Refused, Error}

-- a blank and a number
unfoldable pub spaced : ℕ → List ℕ
spaced n = ascii " " ++ digits n

-- the words of a scan's answer
unfoldable pub words_text : ScanValues → List ℕ
words_text v = ascii "scan" ++ spaced v.md ++ spaced v.ds ++ spaced v.op ++ spaced v.electrical

-- all of it
unfoldable pub answer_text : ScanValues → List ℕ
answer_text v = words_text v ++ ascii " " ++ mode_word v.mode ++ ascii " " ++ decimal v.pv

-- a parameter's value
unfoldable pub value_text : ℤ → List ℕ
value_text v = ascii "value " ++ decimal v

-- a reading of the clock, if there is one
unfoldable pub clock_text : ClockReading → List ℕ
clock_text None = ascii "clock none"
clock_text (Some milliseconds) = ascii "clock" ++ spaced milliseconds

-- an image: the first 137 bytes of the buffer that was saved into
unfoldable pub image_text : List ℕ → List ℕ
image_text saved = ascii "image " ++ hexadecimal (take 137 saved)

-- the terminal's reply: its length, and so many bytes of the buffer that it was written into
unfoldable pub line_text : ℕ → List ℕ → List ℕ
line_text count saved = ascii "reply" ++ spaced count ++ ascii " " ++ hexadecimal (take count saved)

unfoldable pub refused_text : ℕ → List ℕ
refused_text number = ascii "refused" ++ spaced number

-- a line without its end, with the buffer that was written into, and the sheet
unfoldable pub reply_text : Reply → List ℕ → Sheet → List ℕ
reply_text Accepted saved sheet = ascii "ok"
reply_text (Value v) saved sheet = value_text v
reply_text (Answer v) saved sheet = answer_text v
reply_text (Clock reading) saved sheet = clock_text reading
reply_text Image saved sheet = image_text saved
reply_text (Line count) saved sheet = line_text count saved
reply_text WholeSheet saved sheet = sheet_text sheet.values
reply_text Full saved sheet = ascii "full"
reply_text InvalidSheet saved sheet = ascii "refused"
reply_text (Number v) saved sheet = decimal v
reply_text (Refused number) saved sheet = refused_text number
reply_text Error saved sheet = ascii "error"

-- the line of a reply
unfoldable pub reply_line : Reply → List ℕ → Sheet → List ℕ
reply_line reply saved sheet = reply_text reply saved sheet ++ ascii "\n"

-- a scan that fresh pins give: MD first, then DS, OP, electrical output, the mode and PV
answer_example :
    answer_text (record { md = 0x1002; ds = 0x913F; op = 0; electrical = 0; mode = Auto; pv = pos 500 })
    ≡ ascii "scan 4098 37183 0 0 auto 500"
unfolding answer_text words_text spaced digit_byte last_digits places_within places digits decimal mode_word
answer_example = refl

-- What a run of the console holds for the drying sheet, and what each command of the sheet does to it.
use Rattle.std.specs.Prelude.{ℕ, ℤ, Option, None, Some, option_map, Result, Ok, Err, ⊤}
use Rattle.answers.specs.declared.ScanValues.{ScanValues}
use Rattle.sheet.specs.Sheet.{empty_sheet, entered}
use Rattle.sheet.specs.Valid.{kept_sheet}
use Rattle.sheet.specs.declared.EnterResult.{EnterResult}
use Rattle.sheet.specs.declared.Full as sheet
use Rattle.sheet.specs.declared.Invalid.{Invalid}
use Rattle.sheet.specs.declared.KeptResult.{KeptResult}
use Rattle.sheet.specs.declared.Sheet.{Sheet}
use Rattle.sheet_numbers.specs.Numbers.{no_numbers, values_in, with_number}
use Rattle.commands.specs.declared.SheetCall.{SheetCall}
use Rattle.commands.specs.declared.SheetCall.TheVariants.{New, Last, Feed, Read, Number, Kept}
use Rattle.replies.specs.declared.Reply.{Reply}
use Rattle.replies.specs.declared.Reply.TheVariants as reply
use Rattle.replies.specs.declared.Reply.TheVariants.{Accepted, Value, Answer, Clock, Image, Line}
use Rattle.replies.specs.declared.Reply.TheVariants.{WholeSheet, Full, InvalidSheet, Refused, Error}
use Rattle.sheet_session.specs.declared.SheetSession.{SheetSession}
use Rattle.sheet_session.specs.declared.SheetStep.{SheetStep}

-- before the first line
unfoldable pub first_session : SheetSession
first_session = record { sheet = empty_sheet; numbers = no_numbers; last = None }

-- a command that leaves everything as it was
abbrev pub staying : SheetSession → Reply → SheetStep
staying s reply = record { session = s; reply = reply }

-- ---- after a call of the controller: the sheet and its numbers stay

-- an accepted scan's answer is the last one from then on; what isn't one leaves it
abbrev pub last_after : Option ScanValues → Reply → Option ScanValues
last_after last (Answer v) = Some v
last_after last Accepted = last
last_after last (Value v) = last
last_after last (Clock reading) = last
last_after last Image = last
last_after last (Line count) = last
last_after last WholeSheet = last
last_after last Full = last
last_after last InvalidSheet = last
last_after last (reply.Number v) = last
last_after last (Refused n) = last
last_after last Error = last

unfoldable pub after_reply : SheetSession → Reply → SheetSession
after_reply s reply = record { sheet = s.sheet; numbers = s.numbers; last = last_after s.last reply }

-- ---- an answer is entered: numbers and last answer stay

abbrev pub with_sheet : SheetSession → Sheet → SheetSession
with_sheet s sheet = record { sheet = sheet; numbers = s.numbers; last = s.last }

abbrev pub reply_to_entry : Result ⊤ sheet.Full → Reply
reply_to_entry (Ok taken) = Accepted
reply_to_entry (Err full) = Full

abbrev pub after_entry : SheetSession → EnterResult → SheetStep
after_entry s r = record { session = with_sheet s r.sheet; reply = reply_to_entry r.entry }

unfoldable pub entered_step : SheetSession → ScanValues → SheetStep
entered_step s v = after_entry s (entered s.sheet v)

-- the last one, if there is one
abbrev pub last_step : SheetSession → Option ScanValues → SheetStep
last_step s (Some v) = entered_step s v
last_step s None = staying s Error

-- ---- a kept sheet

-- one of its numbers is set
unfoldable pub number_step : SheetSession → ℕ → ℤ → SheetStep
number_step s place value =
    record {
      session = record { sheet = s.sheet; numbers = with_number s.numbers place value; last = s.last };
      reply = Accepted;
    }

-- the sheet that was kept, if it is a valid one
abbrev pub kept_by : SheetSession → Sheet → Result ⊤ Invalid → SheetStep
kept_by s sheet (Ok valid) = record { session = with_sheet s sheet; reply = Accepted }
kept_by s sheet (Err invalid) = staying s InvalidSheet

abbrev pub kept_as : SheetSession → Option KeptResult → SheetStep
kept_as s (Some kept) = kept_by s kept.sheet kept.verdict
kept_as s None = staying s InvalidSheet

-- the numbers, each in the range of its type, are a sheet's if answers give them
unfoldable pub kept_step : SheetSession → SheetStep
kept_step s = kept_as s (option_map kept_sheet (values_in s.numbers))

-- ---- every command of the sheet

unfoldable pub sheet_step : SheetSession → SheetCall → SheetStep
sheet_step s New = record { session = with_sheet s empty_sheet; reply = Accepted }
sheet_step s Last = last_step s s.last
sheet_step s (Feed v) = entered_step s v
sheet_step s Read = staying s WholeSheet
sheet_step s (Number place value) = number_step s place value
sheet_step s Kept = kept_step s

-- What a run holds from line to line, the controller and who types; and what comes of a line that is typed.
use Rattle.std.specs.Prelude.{◌≡◌, refl, List, ℕ, ltb, length, take, drop, Option, Some, None, if◌then◌else◌}
use Rattle.rights.specs.declared.Writer.{Writer}
use Rattle.rights.specs.declared.Writer.TheVariants.{Operator}
use Rattle.text.specs.Words.{same_bytes}
use Rattle.formatting.specs.Ascii.{ascii}
use Rattle.writer_lines.specs.Writers.{writer_of}
use Rattle.controller.specs.State.{fresh_controller}
use Rattle.terminal.specs.Terminal.{LineReply, LineOutcome, reply_of_line}
use Rattle.handheld.specs.Plant.{accepted, outcome_for}
use Rattle.handheld.specs.declared.session.Session.{Session}
use Rattle.handheld.specs.declared.session.SessionResult.{SessionResult}

-- the operator is there before the first line
unfoldable pub first_session : Session
first_session = record { controller = fresh_controller 0; writer = Operator }

-- ---- who types

-- `who`, one blank and a writer's word, and nothing behind it; any other line names none
unfoldable pub who_in : List ℕ → Option Writer
who_in line =
    if ltb (length line) 4 then None else
    if same_bytes (take 4 line) (ascii "who ") then writer_of (drop 4 line) else None

-- ---- a line that is typed

-- the next session, the answer, and every byte of the reply buffer
pub record SessionOutcome : Type 0 where
  pub session : Session
  pub answer : LineReply
  pub buffer : List ℕ

-- what comes of a line, with the writer who types from then on
abbrev pub with_writer : Writer → LineOutcome → SessionOutcome
with_writer w o = record { session = record { controller = o.next; writer = w }; answer = o.answer; buffer = o.buffer }

-- a line that says who types makes no scan; any other leaves who is there, and is typed by that writer
abbrev pub outcome_of_who : Option Writer → Session → List ℕ → List ℕ → SessionOutcome
outcome_of_who (Some w) s line bytes = with_writer w (accepted s.controller bytes)
outcome_of_who None s line bytes = with_writer s.writer (outcome_for s.controller s.writer line bytes)

unfoldable pub typed_outcome : Session → List ℕ → List ℕ → SessionOutcome
typed_outcome s line bytes = outcome_of_who (who_in line) s line bytes

-- the code's result and the buffer afterwards, in the paper's numbers
abbrev pub session_outcome_of : SessionResult → List ℕ → SessionOutcome
session_outcome_of r after = record { session = r.session; answer = reply_of_line r.answer; buffer = after }

-- a blank too many makes it a line of the terminal
blank_example : who_in (ascii "who  engineer") ≡ None
unfolding who_in writer_of same_bytes
blank_example = refl

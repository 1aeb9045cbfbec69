-- What a run of the console holds from line to line, and what each command does to it.
use Rattle.std.specs.Prelude.{List, ℕ, Option, Some, None}
use Rattle.controller.specs.State.{fresh_controller}
use Rattle.commands.specs.declared.Command.{Command}
use Rattle.commands.specs.declared.Command.TheVariants as command
use Rattle.replies.specs.declared.Reply.{Reply}
use Rattle.replies.specs.declared.Reply.TheVariants.{Number, Error}
use Rattle.sheet_session.specs.SheetSessions as sheetsession
use Rattle.sheet_session.specs.SheetSessions.{after_reply, sheet_step}
use Rattle.sheet_session.specs.declared.SheetStep.{SheetStep}
use Rattle.controller_calls.specs.Calls.{performed, buffer_after}
use Rattle.controller_calls.specs.declared.Step.{Step}
use Rattle.console.specs.declared.session.Session.{Session}
use Rattle.console.specs.declared.session.SessionStep.{SessionStep}

-- before the first line
unfoldable pub first_session : Session
first_session = record { controller = fresh_controller 0; sheet = sheetsession.first_session }

-- a command that leaves everything as it was
abbrev pub staying : Session → Reply → SessionStep
staying s reply = record { session = s; reply = reply }

-- after a call of the controller: the sheet stays
abbrev pub after_call : Session → Step → SessionStep
after_call s step =
    record {
      session = record { controller = step.controller; sheet = after_reply s.sheet step.reply };
      reply = step.reply;
    }

-- after a command of the sheet: the controller stays
abbrev pub after_sheet_call : Session → SheetStep → SessionStep
after_sheet_call s step = record { session = record { controller = s.controller; sheet = step.session }; reply = step.reply }

-- ---- every command

-- the next session and the reply, with the buffer that holds a restart's bytes or a terminal's line
unfoldable pub session_step : Session → Option Command → List ℕ → SessionStep
session_step s (Some (command.Call call)) bytes = after_call s (performed s.controller call bytes)
session_step s (Some (command.Sheet call)) bytes = after_sheet_call s (sheet_step s.sheet call)
session_step s (Some (command.Calculated number)) bytes = staying s (Number number)
session_step s None bytes = staying s Error

-- the buffer afterwards
abbrev pub session_buffer : Session → Option Command → List ℕ → List ℕ
session_buffer s (Some (command.Call call)) bytes = buffer_after s.controller call bytes
session_buffer s (Some (command.Sheet call)) bytes = bytes
session_buffer s (Some (command.Calculated number)) bytes = bytes
session_buffer s None bytes = bytes

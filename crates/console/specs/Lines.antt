-- What one line of input comes to.
use Rattle.std.specs.Prelude.{List, ◌≡◌, ℕ, ◌≤◌, Option, replicate}
use Rattle.formatting.specs.Buffer.{Buffer, append_all, capacity}
use Rattle.formatting.specs.Laws.{with_bytes}
use Rattle.lines.specs.Lines.{with_room}
use Rattle.commands.specs.Commands.{command_in, bytes_after}
use Rattle.replies.specs.Replies.{reply_line}
use Rattle.console.specs.Sessions.{session_step, session_buffer}
use Rattle.commands.specs.declared.Command.{Command}
use Rattle.console.specs.declared.session.Session.{Session}
use Rattle.console.specs.declared.session.SessionStep.{SessionStep}

-- the command of a line, if it is one, and the buffer after it was parsed, of 346 bytes that were 0
abbrev pub line_command : Buffer → Option Command
line_command line = command_in line 346

abbrev pub line_bytes : Buffer → List ℕ
line_bytes line = bytes_after line (replicate 346 0)

-- the next session and the reply
abbrev pub line_step : Session → Buffer → SessionStep
line_step s line = session_step s (line_command line) (line_bytes line)

-- the buffer afterwards
abbrev pub line_saved : Session → Buffer → List ℕ
line_saved s line = session_buffer s (line_command line) (line_bytes line)

-- the line of the reply
abbrev pub answer_line : Session → Buffer → List ℕ
answer_line s line =
    let step = line_step s line in
    reply_line step.reply (line_saved s line) step.session.sheet.sheet

-- A line's command is performed, and the line of the reply is appended to the output.
pub record Performed (s next : Session) (line before after : Buffer) : Type 0 where
  pub session : next ≡ (line_step s line).session
  pub output : after ≡ append_all (with_room before) (answer_line s line)
  -- the line is not cut, and no other byte of the output changes
  pub whole : 65536 ≤ capacity before → after ≡ with_bytes (with_room before) (answer_line s line)

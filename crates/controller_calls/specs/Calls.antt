-- What the console does with each call of the controller, by the controller's own definitions: the next controller, the
-- reply, and the buffer.
use Rattle.std.specs.List.{list_all}
use Rattle.std.specs.Prelude.{Bool, ◌&&◌, List, ◌++◌, ℕ, eqb, leb, length, take, drop, replicate, if◌then◌else◌, Err, Ok}
use Rattle.std.proofs.Math.Option.{Option, some, none}
use Rattle.signals.specs.Refusals.{number_of, refused_by, Verdict}
use Rattle.fields.specs.Fields.{save_tests, saved_in}
use Rattle.rights.specs.declared.Writer.{Writer}
use Rattle.controller.specs.Answers as answers
use Rattle.controller.specs.Answers.{Response, words, reading, acceptance, number, reply_by}
use Rattle.controller.specs.Read.{read}
use Rattle.controller.specs.Restart.{restart}
use Rattle.controller.specs.Save.{saved_image}
use Rattle.controller.specs.Scan.{scan}
use Rattle.controller.specs.State.{fresh_controller}
use Rattle.controller.specs.Write.{access_now, write}
use Rattle.controller.specs.declared.Controller.{Controller}
use Rattle.terminal.specs.Terminal as terminal
use Rattle.terminal.specs.Terminal.{LineReply, LineOutcome, answered}
use Rattle.replies.specs.declared.Reply.{Reply}
use Rattle.replies.specs.declared.Reply.TheVariants as reply
use Rattle.replies.specs.declared.Reply.TheVariants.{Accepted, Value, Answer, Image, Refused, Error}
use Rattle.controller_calls.specs.declared.Step.{Step}
use Rattle.commands.specs.declared.Call.{Call}
use Rattle.commands.specs.declared.Call.TheVariants.{Fresh, Scan, Write, Access, Read, Restart, Save, Line, Clock}

-- the console's reply for each answer of the controller
abbrev pub reply_to : answers.Reply → Reply
reply_to (words md ds op electrical mode pv) =
    Answer (record { md = md; ds = ds; op = op; electrical = electrical; mode = mode; pv = pv })
reply_to (reading v) = Value v
reply_to acceptance = Accepted
reply_to (number n) = Refused n

-- the next controller and the reply, of a call that returns both
abbrev pub step_of : Response → Step
step_of r = record { controller = r.next; reply = reply_to r.answer }

-- a call that leaves the controller as it was
abbrev pub unchanged_with : Controller → Reply → Step
unchanged_with c reply = record { controller = c; reply = reply }

-- whether a writer may write a parameter: accepted, or with the refusal that any value would get
unfoldable pub access_reply : Controller → Writer → ℕ → answers.Reply
access_reply c w n = reply_by (refused_by (access_now c.core w n))

-- ---- filled buffers

-- whether every byte is 0xA5, to which the buffer is filled before a call writes into it
unfoldable pub is_filled : List ℕ → Bool
is_filled bytes = list_all (λ b. eqb b 0xA5) bytes

-- a buffer of this length, filled
abbrev pub filled : List ℕ → List ℕ
filled bytes = replicate (length bytes) 0xA5

-- ---- saving

-- the reply to a verdict, with the buffer as the save left it: `error` where a byte changed that isn't the image's
unfoldable pub checked_reply : Verdict → List ℕ → Reply
checked_reply (Ok accepted) bytes = if is_filled (drop 137 bytes) then Image else Error
checked_reply (Err refusal) bytes = if is_filled bytes then Refused (number_of refusal) else Error

-- the reply to a save that is refused with a number, or accepted
abbrev pub save_reply : Option ℕ → Reply
save_reply none = Image
save_reply (some n) = Refused n

-- the reply to a save into so many bytes of a buffer
unfoldable pub reply_to_save : ℕ → List ℕ → Reply
reply_to_save count bytes = if leb count (length bytes) then save_reply (refused_by (save_tests (take count (filled bytes)))) else Error

-- the buffer after it: filled, and the image in front where the call is accepted
unfoldable pub saved_buffer : Controller → ℕ → List ℕ → List ℕ
saved_buffer c count bytes =
    let f = filled bytes in if leb count (length bytes) then saved_in (saved_image c) (take count f) ++ drop count f else f

-- ---- a line of the terminal

-- whether a buffer of that length has the line's bytes, at most 300, and those for the reply
abbrev pub terminal_fits : ℕ → ℕ → ℕ → Bool
terminal_fits count size room = leb count 300 && leb count room && leb size room

-- what comes of a writer's line that so many bytes of the buffer are, with so many filled bytes for the reply
abbrev pub terminal_outcome : Controller → Writer → ℕ → ℕ → List ℕ → LineOutcome
terminal_outcome c w count size bytes = answered c w (take count bytes) (take size (filled bytes))

-- the reply to the terminal's answer, with the buffer as it left it: `error` where a byte changed that isn't of the
-- reply
unfoldable pub checked_terminal : LineReply → List ℕ → Reply
checked_terminal (terminal.reply count) bytes = if is_filled (drop count bytes) then reply.Line count else Error
checked_terminal (terminal.number n) bytes = if is_filled bytes then Refused n else Error

-- the reply by the answer alone
abbrev pub terminal_reply : LineReply → Reply
terminal_reply (terminal.reply count) = reply.Line count
terminal_reply (terminal.number n) = Refused n

-- the next controller and the reply
unfoldable pub terminal_step : Controller → Writer → ℕ → ℕ → List ℕ → Step
terminal_step c w count size bytes =
    let outcome = terminal_outcome c w count size bytes in
    if terminal_fits count size (length bytes) then record { controller = outcome.next; reply = terminal_reply outcome.answer } else
    unchanged_with c Error

-- the buffer after it: filled, and the reply in front where there is one
unfoldable pub terminal_buffer : Controller → Writer → ℕ → ℕ → List ℕ → List ℕ
terminal_buffer c w count size bytes =
    if terminal_fits count size (length bytes) then (terminal_outcome c w count size bytes).buffer ++ drop size (filled bytes) else bytes

-- ---- every call

-- the next controller and the reply, with the buffer that holds a restart's bytes or a terminal's line
unfoldable pub performed : Controller → Call → List ℕ → Step
performed c (Fresh sw) bytes = unchanged_with (fresh_controller sw) Accepted
performed c (Scan input) bytes = step_of (scan c input)
performed c (Write w n v) bytes = step_of (write c w n v)
performed c (Access w n) bytes = unchanged_with c (reply_to (access_reply c w n))
performed c (Read n) bytes = unchanged_with c (reply_to (read c n))
performed c (Restart count) bytes = if leb count (length bytes) then step_of (restart c (take count bytes)) else unchanged_with c Error
performed c (Save count) bytes = unchanged_with c (reply_to_save count bytes)
performed c (Line w count size) bytes = terminal_step c w count size bytes
performed c Clock bytes = unchanged_with c (reply.Clock c.core.clock)

-- the buffer afterwards: only a save and a terminal's line change it
unfoldable pub buffer_after : Controller → Call → List ℕ → List ℕ
buffer_after c (Save count) bytes = saved_buffer c count bytes
buffer_after c (Line w count size) bytes = terminal_buffer c w count size bytes
buffer_after c (Fresh sw) bytes = bytes
buffer_after c (Scan input) bytes = bytes
buffer_after c (Write w n v) bytes = bytes
buffer_after c (Access w n) bytes = bytes
buffer_after c (Read n) bytes = bytes
buffer_after c (Restart count) bytes = bytes
buffer_after c Clock bytes = bytes

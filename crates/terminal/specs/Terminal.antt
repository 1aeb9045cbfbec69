-- Document 02, request 4: what comes of a line, whole; request 6: "Terminal lines carry a writer as well. Reading stays
-- free."
use Rattle.std.specs.Prelude.{List, ◌∷◌, ◌++◌, ℕ, ltb, ℤ, nat_abs, Result, Ok, Err, length, drop, if◌then◌else◌}
use Rattle.std.proofs.Math.Option.{Option, some, none}
use Rattle.numerals.specs.Numerals.{decimal, hexadecimal_word}
use Rattle.signals.specs.Refusals.{number_of, refused_by}
use Rattle.signals.specs.declared.Refusal.{Refusal}
use Rattle.rights.specs.declared.Writer.{Writer}
use Rattle.controller.specs.Answers.{op_of}
use Rattle.controller.specs.Read.{value_in}
use Rattle.controller.specs.Write.{write_tests, write}
use Rattle.controller.specs.declared.Controller.{Controller}
use Rattle.terminal.specs.Commands.{is_word, command_in}
use Rattle.terminal.specs.Mnemonics.{mnemonic}
use Rattle.terminal.specs.declared.LineResult.{LineResult}
use Rattle.terminal.specs.Commands.{Command, Read, Write, NoMnemonic, NoValue}

-- ---- "The reply is the mnemonic, > and the present value, four hexadecimal capitals or the shortest decimal"

-- a value as the terminal shows it
unfoldable pub value_text : ℕ → ℤ → List ℕ
value_text n v = if is_word n then hexadecimal_word (nat_abs v) else decimal v

-- the reply for the number n with a value
unfoldable pub reply_text : ℕ → ℤ → List ℕ
reply_text n v = mnemonic n ++ (62 ∷ value_text n v)

-- "the present value": what a read of the controller answers
abbrev pub present_value : Controller → ℕ → ℤ
present_value c n = value_in c.core (op_of c.output) n

-- ---- the whole

pub data LineReply : Type 0 where
  -- "its length is the answer"
  reply : ℕ → LineReply
  -- refused: "the number alone"
  number : ℕ → LineReply

-- the next controller, the answer, and every byte of the reply buffer
pub record LineOutcome : Type 0 where
  pub next : Controller
  pub answer : LineReply
  pub buffer : List ℕ

-- a line that isn't taken leaves the controller and the buffer
abbrev pub refused_line : Controller → List ℕ → ℕ → LineOutcome
refused_line c buffer k = record { next = c; answer = number k; buffer = buffer }

-- the reply "goes to the front of a lent buffer; its length is the answer and the bytes behind it stay"
unfoldable pub replied : Controller → ℕ → List ℕ → LineOutcome
replied c n buffer =
    let text = reply_text n (present_value c n) in
    record { next = c; answer = reply (length text); buffer = text ++ drop (length text) buffer }

-- a write, and its own refusal: the reply shows what is present after it
abbrev pub wrote_or : Option ℕ → Controller → Writer → ℕ → ℤ → List ℕ → LineOutcome
wrote_or none c w n v buffer = replied (write c w n v).next n buffer
wrote_or (some k) c w n v buffer = refused_line c buffer k

-- "15 is also given for a reply buffer under nine bytes, right after 18 and before any refusal of the read or write
-- itself." A read's own refusal is 4, of a number that no mnemonic names; it goes by no writer
unfoldable pub read_to : Controller → ℕ → List ℕ → LineOutcome
read_to c n buffer = if ltb (length buffer) 9 then refused_line c buffer 15 else replied c n buffer

-- a write's own are those of the writer's write
unfoldable pub written_to : Controller → Writer → ℕ → ℤ → List ℕ → LineOutcome
written_to c w n v buffer =
    if ltb (length buffer) 9 then refused_line c buffer 15 else wrote_or (refused_by (write_tests c.core w n v)) c w n v buffer

-- "17 when the first two bytes are no mnemonic, before all others. 18 when what follows isn't nothing or > with such a
-- value, next after 17."
unfoldable pub answered_to : Controller → Writer → List ℕ → Command → LineOutcome
answered_to c w buffer NoMnemonic = refused_line c buffer 17
answered_to c w buffer NoValue = refused_line c buffer 18
answered_to c w buffer (Read n) = read_to c n buffer
answered_to c w buffer (Write n v) = written_to c w n v buffer

-- what `terminal::answer` returns and leaves in the buffer
unfoldable pub answered : Controller → Writer → List ℕ → List ℕ → LineOutcome
answered c w line buffer = answered_to c w buffer (command_in line)

-- ---- the code's answer, in the paper's numbers

-- how many bytes the reply has, or why the line isn't taken
abbrev pub LineAnswer : Type 0
LineAnswer = Result ℕ Refusal

abbrev pub reply_of_line : LineAnswer → LineReply
reply_of_line (Ok length) = reply length
reply_of_line (Err refusal) = number (number_of refusal)

-- of the result and the buffer afterwards
abbrev pub outcome_of : LineResult → List ℕ → LineOutcome
outcome_of r after = record { next = r.controller; answer = reply_of_line r.answer; buffer = after }

-- Laws of the answers: how long they are, and that a reply is written as the terminal gave it.
use Rattle.std.specs.Prelude.{◌≡◌, List, ℕ, ◌≤◌, length, drop, Err, Ok}
use Rattle.std.proofs.Common.{arith, length-append, length-take}
use Rattle.std.proofs.Math.Seq.{take-append_seam}
use Rattle.numerals.specs.Numerals.{digit_byte, last_digits, places_within, places, digits}
use Rattle.formatting.specs.Buffer.{Buffer, append_all, filled, capacity}
use Rattle.formatting.specs.Laws.{with_bytes, append_fits}
use Rattle.signals.specs.Refusals.{number_of}
use Rattle.signals.specs.declared.Refusal.{Refusal}
use Rattle.signals.specs.declared.Refusal.TheVariants.{Sample, ButtonBits, SensorBits, Number, ReadOnly, Range, Pair}
use Rattle.signals.specs.declared.Refusal.TheVariants.{Setpoint, RequestBits, RemotePin, Cause}
use Rattle.signals.specs.declared.Refusal.TheVariants.{ImageLength, ImageField, ImageValue, ShortBuffer, Clock, Mnemonic, ValueForm}
use Rattle.signals.specs.declared.Refusal.TheVariants.{ComputerPin, WriterRight}
use Rattle.controller.specs.declared.Controller.{Controller}
use Rattle.terminal.specs.Terminal.{reply_text, present_value, replied, reply_of_line, LineAnswer}
use Rattle.handheld.specs.Answers.{refusal_text, answer_text, answer_line}

-- a reply is written whole, and nothing of the buffer behind it
pub reply_written : (c : Controller) (n : ℕ) (bytes : List ℕ) →
    let o = replied c n bytes in answer_text o.answer o.buffer ≡ reply_text n (present_value c n)
unfolding answer_text replied
reply_written c n bytes = let text = reply_text n (present_value c n) in take-append_seam text (drop (length text) bytes)

-- ---- how long an answer is

refusal_length : (r : Refusal) → length (refusal_text (number_of r)) ≤ 22
unfolding refusal_text digit_byte last_digits places_within places digits
refusal_length Sample = omega arith
refusal_length ButtonBits = omega arith
refusal_length SensorBits = omega arith
refusal_length Number = omega arith
refusal_length ReadOnly = omega arith
refusal_length Range = omega arith
refusal_length Pair = omega arith
refusal_length Setpoint = omega arith
refusal_length RequestBits = omega arith
refusal_length RemotePin = omega arith
refusal_length Cause = omega arith
refusal_length ImageLength = omega arith
refusal_length ImageField = omega arith
refusal_length ImageValue = omega arith
refusal_length ShortBuffer = omega arith
refusal_length Clock = omega arith
refusal_length Mnemonic = omega arith
refusal_length ValueForm = omega arith
refusal_length ComputerPin = omega arith
refusal_length WriterRight = omega arith

text_length : (a : LineAnswer) (bytes : List ℕ) → length bytes ≤ 9 → length (answer_text (reply_of_line a) bytes) ≤ 22
unfolding answer_text
text_length (Ok count) bytes h = omega (arith, length-take count bytes)
text_length (Err refusal) bytes h = refusal_length refusal

-- the line stands whole behind the bytes used, and no other byte has changed
pub answer_fits : (a : LineAnswer) (bytes : List ℕ) (o : Buffer) → length bytes ≤ 9 → filled o ≤ 64000 → 65536 ≤ capacity o →
    let line = answer_line (reply_of_line a) bytes in append_all o line ≡ with_bytes o line
unfolding answer_line
answer_fits a bytes o short few size =
    let t = text_length a bytes short in
    append_fits _ o (simp length-append (omega arith))

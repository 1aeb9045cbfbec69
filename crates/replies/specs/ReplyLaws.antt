-- How long the line of a reply is: it stands whole in the output, where no more than 64,000 of 65,536 bytes are used.
use Rattle.std.specs.Prelude.{List, ◌≡◌, ℕ, ◌≤◌, ◌<◌, ℤ, pos, negsuc, nat_abs, length, take, None, Some}
use Rattle.std.proofs.Common.{arith, length-append, length-take}
use Rattle.std.specs.Int.Signed.{mag}
use Rattle.signals.specs.Clock.{ClockReading}
use Rattle.answers.specs.declared.ScanValues.{ScanValues}
use Rattle.sheet.specs.declared.Sheet.{Sheet}
use Rattle.numerals.specs.DigitLaws.{hexadecimal_length}
use Rattle.numerals.specs.Shortest.{digits_few, decimal_few}
use Rattle.formatting.specs.Buffer.{Buffer, append_all, filled, capacity}
use Rattle.formatting.specs.Laws.{with_bytes, append_fits}
use Rattle.sheet_lines.specs.Appended.{sum_length}
use Rattle.sheet_lines.specs.ModeLaws.{word_length}
use Rattle.sheet_lines.specs.SheetText.{sheet_text}
use Rattle.replies.specs.Replies.{spaced, words_text, answer_text, value_text, clock_text, image_text, line_text, refused_text}
use Rattle.replies.specs.Replies.{reply_text, reply_line}
use Rattle.replies.specs.declared.Reply.{Reply}
use Rattle.replies.specs.declared.Reply.TheVariants.{Accepted, Value, Answer, Clock, Image, Line}
use Rattle.replies.specs.declared.Reply.TheVariants.{WholeSheet, Full, InvalidSheet, Number, Refused, Error}

spaced_length : (n : ℕ) → n < 65536 → length (spaced n) ≤ 6
unfolding spaced
spaced_length n h = let d = digits_few n 5 (omega arith) (omega arith) in omega arith

-- ---- a reply's line

-- the words of an answer that its types hold
pub record WordsRange (v : ScanValues) : Type 0 where
  pub md : v.md < 65536
  pub ds : v.ds < 65536
  pub op : v.op < 65536
  pub electrical : v.electrical < 65536

-- and its PV
pub record AnswerRange (v : ScanValues) : Type 0 where
  pub words : WordsRange v
  pub pv : nat_abs v.pv ≤ 2147483648

-- a reading that its type holds
abbrev pub ReadingRange : ClockReading → Type 0
ReadingRange None = Unit {0}
ReadingRange (Some milliseconds) = milliseconds < 18446744073709551616

-- the numbers of a reply; of a sheet it is known how long its text is
abbrev pub InRange : Reply → Sheet → Type 0
InRange (Answer v) sheet = AnswerRange v
InRange (Value v) sheet = nat_abs v ≤ 2147483648
InRange (Clock reading) sheet = ReadingRange reading
InRange (Refused n) sheet = n < 256
InRange (Line count) sheet = count < 18446744073709551616
InRange WholeSheet sheet = length (sheet_text sheet.values) ≤ 308
InRange Accepted sheet = Unit {0}
InRange Image sheet = Unit {0}
InRange Full sheet = Unit {0}
InRange InvalidSheet sheet = Unit {0}
InRange (Number v) sheet = mag v < 9223372036854775808
InRange Error sheet = Unit {0}

words_length : (v : ScanValues) → WordsRange v → length (words_text v) ≤ 28
unfolding words_text
words_length v h =
    let a = spaced_length v.md h.md in
    let b = spaced_length v.ds h.ds in
    let c = spaced_length v.op h.op in
    let d = spaced_length v.electrical h.electrical in
    simp length-append (omega arith)

clock_length : (reading : ClockReading) → ReadingRange reading → length (clock_text reading) ≤ 26
unfolding clock_text spaced
clock_length None h = omega arith
clock_length (Some milliseconds) h =
    let d = digits_few milliseconds 20 (omega arith) (omega arith) in simp length-append (omega arith)

line_length_lem : (count : ℕ) (saved : List ℕ) → count < 18446744073709551616 → length saved ≤ 346 → length (line_text count saved) ≤ 719
unfolding line_text spaced
line_length_lem count saved h size =
    let d = digits_few count 20 (omega arith) (omega arith) in
    simp length-append (omega (arith, hexadecimal_length (take count saved), length-take count saved))

text_length : (reply : Reply) (saved : List ℕ) (sheet : Sheet) → InRange reply sheet → length saved ≤ 346 →
    length (reply_text reply saved sheet) ≤ 719
unfolding reply_text answer_text value_text image_text refused_text
text_length (Answer v) saved sheet h size =
    let w = words_length v h.words in
    let m = word_length v.mode in
    let p = decimal_few 10 v.pv (omega arith) (omega arith) in
    simp length-append (omega arith)
text_length (Value v) saved sheet h size = let d = decimal_few 10 v (omega arith) (omega arith) in simp length-append (omega arith)
text_length (Clock reading) saved sheet h size = let d = clock_length reading h in omega arith
text_length (Refused n) saved sheet h size = let d = spaced_length n (omega arith) in simp length-append (omega arith)
text_length WholeSheet saved sheet h size = omega arith
text_length (Line count) saved sheet h size = line_length_lem count saved h size
text_length Accepted saved sheet h size = omega arith
text_length Image saved sheet h size =
    simp length-append (omega (arith, hexadecimal_length (take 137 saved), length-take 137 saved))
text_length Full saved sheet h size = omega arith
text_length InvalidSheet saved sheet h size = omega arith
text_length (Number v) saved sheet h size = omega (arith, sum_length v h)
text_length Error saved sheet h size = omega arith

pub reply_length : (reply : Reply) (saved : List ℕ) (sheet : Sheet) → InRange reply sheet → length saved ≤ 346 →
    length (reply_line reply saved sheet) ≤ 720
unfolding reply_line
reply_length reply saved sheet h size = let t = text_length reply saved sheet h size in simp length-append (omega arith)

-- the line stands whole behind the bytes used, and no other byte has changed
pub reply_fits : (reply : Reply) (saved : List ℕ) (sheet : Sheet) (o : Buffer) → InRange reply sheet → length saved ≤ 346 →
    filled o ≤ 64000 → 65536 ≤ capacity o → append_all o (reply_line reply saved sheet) ≡ with_bytes o (reply_line reply saved sheet)
reply_fits reply saved sheet o r short few size =
    append_fits (reply_line reply saved sheet) o (omega (arith, reply_length reply saved sheet r short))

-- ---- for the proofs of functions

-- a value of 32 bits
pub value_most : (v : ℤ) → mag v < 2147483648 → nat_abs v ≤ 2147483648
value_most (pos n) h = omega arith
value_most (negsuc n) h = omega arith

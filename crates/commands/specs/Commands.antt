-- The command that a line asks for, and the bytes of a restart or of a terminal's line in the buffer.
use Rattle.std.specs.Prelude.{List, ℕ, eqb, leb, ℤ, nat_abs, length, take, if◌then◌else◌}
use Rattle.std.specs.Prelude as answer
use Rattle.std.specs.Prelude.{Some, None}
use Rattle.std.proofs.Math.Option.{Option}
use Rattle.integers.specs.Sign.{is_negative}
use Rattle.numerals.specs.Parsed.{natural_of}
use Rattle.rights.specs.declared.Writer.{Writer}
use Rattle.text.specs.Arguments.{part, argument, arguments_from, given, natural_in, integer_in}
use Rattle.text.specs.Hexadecimal.{bytes_of, count_in, bytes_in}
use Rattle.text.specs.Words.{word_at, only_word, after_words, same_bytes}
use Rattle.text.specs.declared.Span.{Span}
use Rattle.formatting.specs.Ascii.{ascii}
use Rattle.formatting.specs.Buffer.{Buffer, capacity, filled, written}
use Rattle.arithmetic_lines.specs.Calculations.{calculation_of}
use Rattle.sheet_lines.specs.Answers.{answer_from}
use Rattle.commands.specs.Writers.{writer_at}
use Rattle.commands.specs.declared.Call.TheVariants.{Fresh, Scan, Write, Access, Read, Restart, Save, Line, Clock}
use Rattle.commands.specs.declared.Command.{Command}
use Rattle.commands.specs.declared.Command.TheVariants as command
use Rattle.commands.specs.declared.SheetCall.TheVariants as sheetcall
use Rattle.commands.specs.declared.SheetCall.TheVariants.{New, Last, Feed, Kept}

-- ---- the arithmetic

-- a line of the arithmetic, which is answered with a number; another one is no command
abbrev pub calculation_command : List ℕ → List ℤ → answer.Option Command
calculation_command word numbers = given (calculation_of word numbers) (λ n. Some (command.Calculated n))

-- ---- the sheet

-- a command without arguments
unfoldable pub alone : Command → List ℤ → answer.Option Command
alone asked numbers = if eqb (length numbers) 0 then Some asked else None

-- sheet-number PLACE VALUE: one of sixteen places
unfoldable pub sheet_number_command : List ℤ → answer.Option Command
sheet_number_command numbers =
    if eqb (length numbers) 2 then
    given (natural_in (argument numbers 0) 0 15) (λ place. Some (command.Sheet (sheetcall.Number place (argument numbers 1))))
    else None

-- sheet-new, sheet-last, sheet, sheet-kept, sheet-number; else it may be a line of the arithmetic
unfoldable pub sheet_command : List ℕ → List ℤ → answer.Option Command
sheet_command word numbers =
    if same_bytes word (ascii "sheet-new") then alone (command.Sheet New) numbers else
    if same_bytes word (ascii "sheet-last") then alone (command.Sheet Last) numbers else
    if same_bytes word (ascii "sheet") then alone (command.Sheet sheetcall.Read) numbers else
    if same_bytes word (ascii "sheet-kept") then alone (command.Sheet Kept) numbers else
    if same_bytes word (ascii "sheet-number") then sheet_number_command numbers else calculation_command word numbers

-- sheet-feed MODE PV DS OP: with the answer of the line
unfoldable pub feed_command : List ℕ → ℕ → answer.Option Command
feed_command line start = given (answer_from line start) (λ v. Some (command.Sheet (Feed v)))

-- ---- numbers

-- the number of a parameter; one below zero is no parameter's, and 0 stands for it
abbrev pub parameter_number : ℤ → ℕ
parameter_number v = if is_negative v then 0 else nat_abs v

-- read NUMBER
unfoldable pub read_command : List ℤ → answer.Option Command
read_command numbers =
    if eqb (length numbers) 1 then Some (command.Call (Read (parameter_number (argument numbers 0)))) else None

-- fresh SW
unfoldable pub fresh_command : List ℤ → answer.Option Command
fresh_command numbers =
    if eqb (length numbers) 1 then
    given (natural_in (argument numbers 0) 0 65535) (λ sw. Some (command.Call (Fresh sw)))
    else None

-- save LENGTH
unfoldable pub save_command : List ℤ → answer.Option Command
save_command numbers =
    if eqb (length numbers) 1 then
    given (natural_in (argument numbers 0) 0 300) (λ size. Some (command.Call (Save size)))
    else None

-- a command whose arguments are numbers
unfoldable pub numbers_command : List ℕ → List ℤ → answer.Option Command
numbers_command word numbers =
    if same_bytes word (ascii "read") then read_command numbers else
    if same_bytes word (ascii "fresh") then fresh_command numbers else
    if same_bytes word (ascii "save") then save_command numbers else
    if same_bytes word (ascii "clock") then alone (command.Call Clock) numbers else sheet_command word numbers

-- ---- a write, and whether one may be made

-- by a writer with the numbers NUMBER and VALUE: a value that 32 bits don't hold is no call
unfoldable pub write_of : Writer → List ℤ → answer.Option Command
write_of w numbers =
    if eqb (length numbers) 2 then
    given (integer_in (argument numbers 1)) (λ v. Some (command.Call (Write w (parameter_number (argument numbers 0)) v)))
    else None

-- write WRITER NUMBER VALUE: a writer's word, and the numbers behind it
unfoldable pub write_command : List ℕ → ℕ → answer.Option Command
write_command line start =
    given (writer_at line start) (λ w. given (arguments_from line (after_words 1 line start)) (write_of w))

-- of a writer's right, with the number NUMBER
unfoldable pub access_of : Writer → List ℤ → answer.Option Command
access_of w numbers =
    if eqb (length numbers) 1 then Some (command.Call (Access w (parameter_number (argument numbers 0)))) else None

-- access WRITER NUMBER: a writer's word, and the number behind it
unfoldable pub access_command : List ℕ → ℕ → answer.Option Command
access_command line start =
    given (writer_at line start) (λ w. given (arguments_from line (after_words 1 line start)) (access_of w))

-- ---- a scan

-- six numbers, each within its range, and a reading of the clock
unfoldable pub scan_of : List ℤ → ℕ → answer.Option Command
scan_of numbers milliseconds =
    if eqb (length numbers) 6 then
    given (natural_in (argument numbers 0) 0 255) (λ pins.
    given (natural_in (argument numbers 1) 0 65535) (λ sample1.
    given (natural_in (argument numbers 2) 0 65535) (λ sample2.
    given (natural_in (argument numbers 3) 0 65535) (λ sample3.
    given (natural_in (argument numbers 4) 0 255) (λ buttons.
    given (natural_in (argument numbers 5) 0 255) (λ sensors.
    Some (command.Call (Scan (record {
      pins = pins;
      sample1 = sample1;
      sample2 = sample2;
      sample3 = sample3;
      buttons = buttons;
      sensors = sensors;
      milliseconds = milliseconds;
    })))))))))
    else None

-- scan PINS S1 S2 S3 BUTTONS SENSORS MS: six words that are numbers, and one behind them that is a number of 64 bits
unfoldable pub scan_command : List ℕ → ℕ → answer.Option Command
scan_command line start =
    let sixth = after_words 6 line start in
    let last = only_word line sixth in
    given (arguments_from (take sixth line) start) (λ numbers.
    given (natural_of (part line last.from last.to)) (scan_of numbers))

-- ---- a restart

-- restart HEX: the bytes of the one word behind a place
unfoldable pub restart_image : List ℕ → ℕ → Option (List ℕ)
restart_image line start = let word = only_word line start in bytes_of (part line word.from word.to)

-- with that many bytes; a malformed word asks nothing
abbrev pub restart_of : answer.Option ℕ → answer.Option Command
restart_of count = given count (λ n. Some (command.Call (Restart n)))

-- ---- a line of the terminal

-- line WRITER HEX LENGTH: the second word behind a place
abbrev pub terminal_word : List ℕ → ℕ → Span
terminal_word line start = word_at line (after_words 1 line start)

-- its bytes
unfoldable pub terminal_bytes : List ℕ → ℕ → Option (List ℕ)
terminal_bytes line start = let word = terminal_word line start in bytes_of (part line word.from word.to)

-- typed by a writer, with that many bytes, at most 300, and the one number behind them
unfoldable pub terminal_of : Writer → ℕ → List ℤ → answer.Option Command
terminal_of w n numbers =
    if eqb (length numbers) 1 then
    given (natural_in (argument numbers 0) 0 300) (λ size. if leb n 300 then Some (command.Call (Line w n size)) else None)
    else None

-- with a buffer of that length for the bytes; typed by nobody, or of a malformed word, it is no line
unfoldable pub terminal_command : List ℕ → ℕ → ℕ → answer.Option Command
terminal_command line start size =
    given (count_in (terminal_bytes line start) size) (λ n.
    given (writer_at line start) (λ w.
    given (arguments_from line (terminal_word line start).to) (terminal_of w n)))

-- ---- a line

-- a command that brings no bytes, by its name and what stands behind a place
unfoldable pub named_command : List ℕ → List ℕ → ℕ → answer.Option Command
named_command word call start =
    if same_bytes word (ascii "scan") then scan_command call start else
    if same_bytes word (ascii "sheet-feed") then feed_command call start else
    if same_bytes word (ascii "write") then write_command call start else
    if same_bytes word (ascii "access") then access_command call start else
    given (arguments_from call start) (numbers_command word)

-- what a line asks, with a buffer of that length for a restart's bytes or a terminal's line
unfoldable pub command_of : List ℕ → ℕ → answer.Option Command
command_of call size =
    let w = word_at call 0 in
    let word = part call w.from w.to in
    if same_bytes word (ascii "restart") then restart_of (count_in (restart_image call w.to) size) else
    if same_bytes word (ascii "line") then terminal_command call w.to size else
    named_command word call w.to

-- and the buffer afterwards
abbrev pub command_bytes : List ℕ → List ℕ → List ℕ
command_bytes call bytes =
    let w = word_at call 0 in
    let word = part call w.from w.to in
    if same_bytes word (ascii "restart") then bytes_in (restart_image call w.to) bytes else
    if same_bytes word (ascii "line") then bytes_in (terminal_bytes call w.to) bytes else bytes

-- a line that fills its whole buffer is too long
abbrev pub command_in : Buffer → ℕ → answer.Option Command
command_in line size = if leb (capacity line) (filled line) then None else command_of (written line) size

-- and the buffer of its bytes afterwards
abbrev pub bytes_after : Buffer → List ℕ → List ℕ
bytes_after line bytes = if leb (capacity line) (filled line) then bytes else command_bytes (written line) bytes

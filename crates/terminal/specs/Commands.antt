-- Document 02, request 4: "A line is a mnemonic from document 01's table .. and perhaps, after the sign >, a value".
use Rattle.std.specs.Prelude as answer
use Rattle.std.specs.Prelude.{Result, Ok, Err, Bool, ◌&&◌, List, [], ◌∷◌, ℕ, eqb, leb, ℤ, pos, drop, if◌then◌else◌}
use Rattle.std.proofs.Math.Option.{Option, some, none}
use Rattle.numerals.specs.Numerals.{integer_of, word_of}
use Rattle.signals.specs.declared.Refusal.{Refusal}
use Rattle.signals.specs.declared.Refusal.TheVariants.{Mnemonic, ValueForm}
use Rattle.terminal.specs.Mnemonics.{named}
use Rattle.terminal.specs.declared.command.Command as code
use Rattle.terminal.specs.declared.command.Command.TheVariants as code_command

-- what a line asks
pub data Command : Type 0 where
  -- the first two bytes are no mnemonic
  NoMnemonic : Command
  -- what follows isn't nothing, or > with a value of the parameter's form
  NoValue : Command
  -- of a parameter's number
  Read : ℕ → Command
  -- of a parameter's number and a value
  Write : ℕ → ℤ → Command

-- the same for the code
abbrev pub asked : Command → Result code.Command Refusal
asked NoMnemonic = Err Mnemonic
asked NoValue = Err ValueForm
asked (Read n) = Ok (code_command.Read n)
asked (Write n v) = Ok (code_command.Write n v)

-- the parameters whose values have the form of a word, "MD, DS, SW and II": numbers 24 to 27
unfoldable pub is_word : ℕ → Bool
is_word n = leb 24 n && leb n 27

abbrev pub unsigned : Option ℕ → Option ℤ
unsigned none = none
unsigned (some n) = some (pos n)

-- "four hexadecimal digits for MD, DS, SW and II, capitals for A to F, otherwise a decimal of one to five digits with
-- an optional leading minus"
unfoldable pub value_of : ℕ → List ℕ → Option ℤ
value_of n bytes = if is_word n then unsigned (word_of bytes) else integer_of 5 bytes

-- the same for the code
abbrev pub value_in : Option ℤ → answer.Option ℤ
value_in none = answer.None
value_in (some v) = answer.Some v

-- a line that names the parameter n and has such a value, or what has no such form
abbrev pub writing : ℕ → Option ℤ → Command
writing n (some v) = Write n v
writing n none = NoValue

-- "With no value it reads, with one it writes.": by what follows the mnemonic of the number n, nothing, or > (62) and a
-- value. "Lines end at their last byte, with no blanks."
unfoldable pub command_of : ℕ → List ℕ → Command
command_of n [] = Read n
command_of n (b ∷ bytes) = if eqb b 62 then writing n (value_of n bytes) else NoValue

-- of the number that the first two bytes name
abbrev pub command_by : Option ℕ → List ℕ → Command
command_by none behind = NoMnemonic
command_by (some n) behind = command_of n behind

-- what a line asks
unfoldable pub command_in : List ℕ → Command
command_in line = command_by (named line) (drop 2 line)

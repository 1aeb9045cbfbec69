-- The answer that a line has: MODE PV DS OP.
use Rattle.std.specs.Prelude.{List, ℕ, ℤ, eqb, length, Option, Some, None, if◌then◌else◌}
use Rattle.answers.specs.declared.ScanValues.{ScanValues}
use Rattle.modes.specs.declared.Mode.{Mode}
use Rattle.text.specs.Arguments.{part, argument, arguments_from, given, natural_in, integer_in}
use Rattle.text.specs.Words.{word_at}
use Rattle.sheet_lines.specs.ModeWords.{mode_of}

-- of PV DS OP, with a PV of 32 bits; MD and electrical output, which no sheet holds, are 0
unfoldable pub answer_of_numbers : Mode → List ℤ → Option ScanValues
answer_of_numbers mode numbers =
    if eqb (length numbers) 3 then
    given (integer_in (argument numbers 0)) (λ pv.
    given (natural_in (argument numbers 1) 0 65535) (λ ds.
    given (natural_in (argument numbers 2) 0 65535) (λ op.
    Some (record {
      md = 0;
      ds = ds;
      op = op;
      electrical = 0;
      mode = mode;
      pv = pv;
    }))))
    else None

-- of a line from a position on: a mode's word and three numbers
unfoldable pub answer_from : List ℕ → ℕ → Option ScanValues
answer_from line start =
    let w = word_at line start in
    given (mode_of (part line w.from w.to)) (λ mode. given (arguments_from line w.to) (answer_of_numbers mode))

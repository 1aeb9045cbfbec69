-- `sheet_lines::print::append_number` meets its contract.
use native.Mathlib.Omega.{arith}
use Rattle.sheet_lines.specs.Appended.{number_length, text_of, text_then, text_most}
use Rattle.sheet_lines.specs.SheetText.{number_text}
use Rattle.sheet_lines.proofs.print.append_number.Goals as goal

pub returns : goal.returns
unfolding number_text
returns g c =
    let number_of_lem = text_of 10 c.push_decimal.ensures (number_length c.args.number (omega arith)) in
    text_most (text_then c.append_name.ensures number_of_lem) (omega arith)

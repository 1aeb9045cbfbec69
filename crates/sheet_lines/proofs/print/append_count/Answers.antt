-- `sheet_lines::print::append_count` meets its contract.
use mathlib.Core.Path.{ap}
use native.Mathlib.Omega.{arith}
use Rattle.numerals.specs.Numerals.{digits}
use Rattle.sheet_lines.specs.Appended.{text_of, text_then, text_most, number_length, text_is}
use Rattle.sheet_lines.specs.SheetText.{count_text, number_text}
use Rattle.sheet_lines.specs.ModeLaws.{word_length}
use Rattle.sheet_lines.proofs.print.append_count.Goals as goal

pub returns : goal.returns
unfolding count_text number_text
returns g c =
    let name_of = rw c.word_of.ensures at c.append_name.ensures in
    let count_of = text_of 10 c.push_decimal.ensures (number_length c.scans_in.result c.scans_in.type_inv) in
    text_most (text_then name_of (text_is count_of (ap digits c.scans_in.ensures))) (omega (arith, word_length c.args.mode))

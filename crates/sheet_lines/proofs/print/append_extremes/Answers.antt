-- `sheet_lines::print::append_extremes` meets its contract.
use mathlib.Core.Path.{ap}
use Rattle.formatting.specs.Ascii.{ascii}
use Rattle.sheet_lines.specs.Appended.{text_then, text_is}
use Rattle.sheet_lines.specs.SheetText.{extremes_text, extreme_text}
use Rattle.sheet_lines.proofs.print.append_extremes.Goals as goal

pub returns : goal.returns
unfolding extremes_text
returns g c =
    let most = ap (extreme_text (ascii "max")) c.greatest.ensures in
    let fewest = ap (extreme_text (ascii "min")) c.least.ensures in
    text_then (text_is c.append_extreme.ensures most) (text_is c.append_extreme-2.ensures fewest)
